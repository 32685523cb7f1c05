-- The objects of a selection: each stands, is of the selection, and is read by a client that asks for it.
use Rattle.std.proofs.Common.{◌≡◌, ◌==◌, Bool, true, false, cond, List, Option, Some, None, refl, sym, ap, ◌∙◌, eqb-true}
use Rattle.std.proofs.lemmas.Bool.{and_parts}
use Rattle.std.specs.FinMap as fin
use Rattle.history.specs.History.{Key, Object, Objects}
use Rattle.history.specs.Page.{is_in_namespace, is_within}
use Rattle.history.specs.Seen.{Selection, selected}
use Rattle.history.proofs.Selecting.{get-selected, kept_object}
use Rattle.selector.specs.Requirement.{Requirement, selects}
use Rattle.lists.specs.Body.{Collection}
use Rattle.lists.specs.Labels.{attributes_of, selection_of}
use Rattle.decoder.specs.Wanted.{Wanted}
use Rattle.line_laws.specs.Listed.{AreKept, IsWanted}
use Rattle.line_laws.proofs.Kept.{one_fits}
use Rattle.line_laws.proofs.Pages.{one_read, taken_as}
use Rattle.world_laws.proofs.Mirrored.{AreRead}

pub selected_from : (wanted : Selection) (s : Objects) (k : Key) (o : Object) → fin.get (selected wanted s) k ≡ Some o → (fin.get s k ≡ Some o) × (wanted k o.body ≡ true)
selected_from wanted s k o there = by_object (fin.get s k) refl (sym (get-selected wanted s k) ∙ there)
  where
    by_object : (represents : Option Object) → fin.get s k ≡ represents → kept_object wanted k represents ≡ Some o → (fin.get s k ≡ Some o) × (wanted k o.body ≡ true)
    by_object None at is = absurd cc
    by_object (Some p) at is = by_test (wanted k p.body) refl is
      where
        by_test : (b : Bool) → wanted k p.body ≡ b → cond b (Some p) None ≡ Some o → (fin.get s k ≡ Some o) × (wanted k o.body ≡ true)
        by_test true holds same = let one : p ≡ o = cc in (at ∙ ap Some one, ap (λ (x : Object). wanted k x.body) (sym one) ∙ holds)
        by_test false holds same = absurd cc

pub selection_read : (wanted : Wanted) (of : Collection) (requirements : List Requirement) (s : Objects) → IsWanted wanted of → AreKept of s
    → AreRead wanted of.kind (selected (selection_of of.kind of.namespace requirements) s)
selection_read wanted of requirements s is kept k o there =
    let represents = selected_from (selection_of of.kind of.namespace requirements) s k o there in
    let within : is_within of.kind of.namespace k ≡ true = (and_parts (is_within of.kind of.namespace k) (selects requirements (attributes_of k o.body)) represents.1).0 in
    let own : k.kind ≡ of.kind = eqb-true k.kind of.kind (and_parts (k.kind == of.kind) (is_in_namespace of.namespace k) within).0 in
    let fits = one_fits wanted of is (k, o) (λ same. kept k o same represents.0) within in
    (own, (taken_as wanted of is k o fits.0 fits.1).0, one_read wanted of is k o fits.0 fits.1)
