-- When managers share a path, and when an apply conflicts with one (Server-Side Apply, "Conflicts": who applies the value
-- that stands becomes one of those who manage it).
use Rattle.std.specs.Prelude.{◌≡◌, ◌↔◌, ◌⊎◌, List, [], ◌∷◌}
use Rattle.std.specs.FinMap as fin
use Rattle.fieldpath.specs.Paths.{PathTexts}
use Rattle.pathmap.specs.Contents.{Content}
use Rattle.objects.specs.Owners.{Manager}
use Rattle.objects.specs.WellTyped.{Owns, IsPresent}
use Rattle.objects.specs.State.{State}
use Rattle.ownership.specs.Apply.{Conflict, applied, conflicts}

-- a conflict is one of these
abbrev pub IsOneOf : Conflict → List Conflict → Type 0
IsOneOf c [] = ⊥
IsOneOf c (d ∷ ds) = (c ≡ d) ⊎ IsOneOf c ds

-- the path has another owner, and a value in the body
abbrev pub Meets : State → Content → Manager → Manager → PathTexts → Type 0
Meets state body m k p = ¬ (k ≡ m) × Owns state k p × IsPresent body p

-- where that is the value that stands, the apply has no conflict at the path, and both own it afterwards
abbrev pub SameValuesAreShared : Type 0
SameValuesAreShared =
    (state : State) (body : Content) (m k : Manager) (p : PathTexts) → Meets state body m k p → fin.get body p ≡ fin.get state.content p
    → ((j : Manager) → ¬ (IsOneOf (p, j) (conflicts state body m))) × (fin.get (applied state body m).content p ≡ fin.get state.content p)
    × Owns (applied state body m) k p × Owns (applied state body m) m p

-- the conflicts are those paths with those owners, where the body has another value than the one that stands
abbrev pub OtherValuesConflict : Type 0
OtherValuesConflict =
    (state : State) (body : Content) (m k : Manager) (p : PathTexts)
    → IsOneOf (p, k) (conflicts state body m) ↔ (Meets state body m k p × ¬ (fin.get body p ≡ fin.get state.content p))
