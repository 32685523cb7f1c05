-- What laws promise of generated names.
use Rattle.std.specs.Prelude.{◌≡◌, ◌<◌, ℕ, List}
use Rattle.system_metadata.specs.GeneratedNames.{generated_name}

-- in one round, one name of a prefix is one number's
abbrev pub DifferByNumber : Type 0
DifferByNumber =
    (prefix : List ℕ) (a b : ℕ) → a < 14_348_907 → b < 14_348_907 → generated_name prefix a ≡ generated_name prefix b → a ≡ b
