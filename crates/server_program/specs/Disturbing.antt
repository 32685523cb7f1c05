-- The disturbances that `--disturb SEED` and `--disturb SEED:KIND,KIND` ask for.
use Rattle.std.specs.Prelude.{◌≡◌, ◌==◌, ℕ, Bool, true, false, List, [], ◌∷◌, if◌then◌else◌, Option, Some, None, ⊤, codes, option_and_then}
use Rattle.std.specs.List.{list_any, before_first, after_first, slice_split}
use Rattle.std.specs.Str.{bytes_eq}
use Rattle.polling.specs.declared.disturbances.Disturbances.{Disturbances}
use Rattle.programs.specs.Numbers.{IsNumber}

abbrev pub is_colon : ℕ → Bool
is_colon b = b == 58

-- the texts before and behind the first colon; where there is none, all kinds are behind it
abbrev pub seed_text : List ℕ → List ℕ
seed_text text = before_first is_colon text

abbrev pub kinds_text : List ℕ → List ℕ
kinds_text text = if list_any is_colon text then after_first is_colon text else codes "cuts,holds,expiries"

-- the names between commas
abbrev pub names_in : List ℕ → List (List ℕ)
names_in text = slice_split (λ b. b == 44) text

-- the kind of a name beside those before it
abbrev pub with_kind : Disturbances → List ℕ → Option Disturbances
with_kind asked name =
    if bytes_eq name (codes "cuts") then Some (record asked { cuts = true })
    else if bytes_eq name (codes "holds") then Some (record asked { holds = true })
    else if bytes_eq name (codes "expiries") then Some (record asked { expiries = true })
    else None

abbrev pub with_kinds : Disturbances → List (List ℕ) → Option Disturbances
with_kinds asked [] = Some asked
with_kinds asked (name ∷ names) = option_and_then (λ more. with_kinds more names) (with_kind asked name)

-- a seed, and no kind yet
abbrev pub of_seed : ℕ → Disturbances
of_seed seed = record { seed = seed; cuts = false; holds = false; expiries = false }

-- the text has this seed, and names these kinds and no others
abbrev pub AsksFor : List ℕ → Disturbances → Type 0
AsksFor text asked = (seed : ℕ) × IsNumber (seed_text text) seed × (with_kinds (of_seed seed) (names_in (kinds_text text)) ≡ Some asked)

-- none without a text
abbrev pub AsksBy : Option (List ℕ) → Option Disturbances → Type 0
AsksBy None None = ⊤
AsksBy None (Some asked) = ⊥
AsksBy (Some text) None = ⊥
AsksBy (Some text) (Some asked) = AsksFor text asked
