-- The names of a type, as `--type` takes them.
use Rattle.std.specs.Prelude.{◌==◌, ℕ, Bool, List, Option, Some, None, if◌then◌else◌, is_some}
use Rattle.std.specs.List.{list_any, before_first, after_first}

-- a type by its names
pub record Resource : Type 0 where
  pub group : List ℕ
  pub version : List ℕ
  pub plural : List ℕ

abbrev pub is_slash : ℕ → Bool
is_slash b = b == 47

-- the two texts that the first slash parts
abbrev pub cut_at_slash : List ℕ → Option (List ℕ × List ℕ)
cut_at_slash text = if list_any is_slash text then Some (before_first is_slash text, after_first is_slash text) else None

-- behind the group: a version and a plural with one slash between them
abbrev pub resource_with : List ℕ → Option (List ℕ × List ℕ) → Option Resource
resource_with group None = None
resource_with group (Some (version, plural)) = if list_any is_slash plural then None else Some (record { group = group; version = version; plural = plural })

abbrev pub resource_cut : Option (List ℕ × List ℕ) → Option Resource
resource_cut None = None
resource_cut (Some (group, rest)) = resource_with group (cut_at_slash rest)

-- `<group>/<version>/<plural>`, a text with exactly two slashes
abbrev pub resource_in : List ℕ → Option Resource
resource_in text = resource_cut (cut_at_slash text)
