-- Conflicts, one after the other.
use Rattle.std.proofs.Common.{◌≡◌, ℕ, false, List, [], ◌∷◌, ◌++◌, map, take, length, get_or, ◌+◌, ◌<◌, refl, sym, ap, ap₂, ◌∙◌}
use Rattle.std.specs.Prelude.{codes}
use Rattle.std.proofs.lemmas.List.{take_more, map-append}
use Rattle.serde_json.specs.Data.{Members, item, string, no_members, put}
use Rattle.serde_json.specs.Written.{has_float, items_have_float}
use Rattle.serde_json.specs.View.{view, items_of}
use Rattle.serde_json.specs.declared.value.Value.{Value}
use Rattle.fieldpath.specs.Elements.{shown}
use Rattle.typed.proofs.Floats.{both, put_clean}
use Rattle.ownership.specs.Apply.{Conflict}
use Rattle.ownership.specs.Results.{conflict_of}
use Rattle.ownership.specs.declared.conflict.Conflict.{Conflict as TheConflict}
use Rattle.verbs.specs.Step.{cause_of, causes_of, conflict_message}

pub causes_map : (a : List ℕ) (cs : List Conflict) → items_of (map (cause_of a) cs) ≡ causes_of a cs
causes_map a [] = refl
causes_map a (c ∷ cs) = ap (item (cause_of a c)) (causes_map a cs)

pub one_cause : (a : List ℕ) (cs : List TheConflict) (i : ℕ) (c : TheConflict) (vs : List Value) (v : Value) → i < length cs → c ≡ get_or cs i c
    → map view vs ≡ map (cause_of a) (map conflict_of (take i cs)) → view v ≡ cause_of a (conflict_of c)
    → map view (vs ++ v ∷ []) ≡ map (cause_of a) (map conflict_of (take (i + 1) cs))
one_cause a cs i c vs v lt is before same =
    map-append view vs (v ∷ []) ∙ ap₂ (λ l x. l ++ x ∷ []) before same
    ∙ sym (ap (λ l. map (cause_of a) (map conflict_of l)) (take_more cs i c lt ∙ ap (λ x. take i cs ++ x ∷ []) (sym is)) ∙ ap (map (cause_of a)) (map-append conflict_of (take i cs) (c ∷ [])) ∙ map-append (cause_of a) (map conflict_of (take i cs)) (conflict_of c ∷ []))

-- no cause has a float
cause_clean : (a : List ℕ) (c : Conflict) → has_float (cause_of a c) ≡ false
cause_clean a c =
    let reason : Members = put (codes "reason") (string (codes "FieldManagerConflict")) no_members in
    let message : Members = put (codes "message") (string (conflict_message a c.1)) reason in
    put_clean (codes "field") (string (shown c.0)) message refl
    (put_clean (codes "message") (string (conflict_message a c.1)) reason refl (put_clean (codes "reason") (string (codes "FieldManagerConflict")) no_members refl refl))

pub causes_clean : (a : List ℕ) (cs : List Conflict) → items_have_float (causes_of a cs) ≡ false
causes_clean a [] = refl
causes_clean a (c ∷ cs) = both (has_float (cause_of a c)) (items_have_float (causes_of a cs)) (cause_clean a c) (causes_clean a cs)
