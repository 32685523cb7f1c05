-- Laws of operations that fail, and of tests.
use Rattle.std.proofs.Common.{◌≡◌, ℕ, ◌+◌, List, [], ◌∷◌, ◌++◌, Bool, true, false, Option, Some, None, option_map, Result, Err, if◌then◌else◌}
use Rattle.serde_json.specs.Data.{Data}
use Rattle.json_patch.specs.Operations.{Operation, State, and_after, applied, applied_from, is_equal_at, test}
use Rattle.json_patch.specs.Pointers.{Pointer}

by_test : (b : Bool) (before after : State) → option_map (λ whole. (whole, before.1)) (if b then Some before.0 else None) ≡ Some after → after ≡ before
by_test true before after is = cc
by_test false before after is = cc

pub changes_nothing : (path : Pointer) (d : Data) (before after : State) → applied (test path d) before ≡ Some after → after ≡ before
changes_nothing path d before after is = by_test (is_equal_at path d before.0) before after is

then_fails : (n k : ℕ) (f g : State → Result Data ℕ) → ((s : State) → f s ≡ Err k → g s ≡ Err k) → (o : Option State) → and_after n f o ≡ Err k → and_after n g o ≡ Err k
then_fails n k f g later None fails = fails
then_fails n k f g later (Some s) fails = later s fails

pub fails_from : (n : ℕ) (os more : List Operation) (s : State) (k : ℕ) → applied_from n os s ≡ Err k → applied_from n (os ++ more) s ≡ Err k
fails_from n [] more s k fails = cc
fails_from n (o ∷ os) more s k fails =
    then_fails n k (applied_from (n + 1) os) (applied_from (n + 1) (os ++ more)) (λ t. fails_from (n + 1) os more t k) (applied o s) fails
