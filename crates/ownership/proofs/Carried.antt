-- What a carry promises of an object.
use Rattle.std.proofs.Common.{◌≡◌, Bool, true, false, not, ◌&&◌, ◌||◌, ◌++◌, [], ◌∷◌, is_some, None, refl, sym, ap, ap₂, ◌∙◌, subst, true≢false}
use Rattle.std.specs.FinMap as fin
use Rattle.std.specs.FinSet as set
use Rattle.std.specs.Str.{bytes_eq}
use Rattle.std.proofs.lemmas.Bool.{and_parts}
use Rattle.std.proofs.lemmas.Slice.Eq.{bytes_eq-Decides}
use Rattle.fieldpath.specs.Paths.{PathTexts}
use Rattle.pathmap.specs.Beside.{has_at_or_below, is_prefix}
use Rattle.pathmap.specs.Contents.{Content, PathSet, dom}
use Rattle.pathmap.proofs.Contents.{path_cmp_total}
use Rattle.pathmap.proofs.Sets.{contains-dom}
use Rattle.schema.specs.Lawful.{is_granular_struct, is_well_formed}
use Rattle.schema.specs.ObjectShape.{IsObjectShape}
use Rattle.schema.specs.Place.{place_of}
use Rattle.schema.specs.Shape.{Shape, text, whole, truth, struct_of, map_of, list_of}
use Rattle.typed.specs.Carried.{IsCarried, IsNewLeaf, LeavesStand, carried}
use Rattle.typed.specs.Fitting.{IsContent}
use Rattle.typed.proofs.Fitting.{contents_well_typed}
use Rattle.typed.proofs.Places.{places}
use Rattle.objects.specs.Carried.{carried_owners}
use Rattle.objects.specs.declared.manager.Subresource.{Subresource}
use Rattle.objects.specs.Owners.{Manager, Owners, owned_by}
use Rattle.objects.specs.WellTyped.{IsWellTypedState, OwnedArePresent}
use Rattle.objects.specs.State.{State}
use Rattle.objects.proofs.Moving.{carried_have_paths, contains-carried, owned-carried}
use Rattle.ownership.specs.Carry.{Carries, LeavesPass, OthersStay, carried_state, made, with_content}
use Rattle.ownership.specs.Sides.{OwnSides, writes}
use Rattle.ownership.proofs.CarriedLeaves.{prefix_of, leaves_owned}
use Rattle.ownership.proofs.Keeping.{one_below, some_below}
use Rattle.ownership.proofs.Sides.{first_decides}

-- the empty path has no place in an object
no_root : (t : Shape) → is_granular_struct t ≡ true → place_of t [] ≡ None
no_root text h = absurd (true≢false (sym h))
no_root whole h = absurd (true≢false (sym h))
no_root truth h = absurd (true≢false (sym h))
no_root (struct_of all true) h = absurd (true≢false (sym h))
no_root (struct_of all false) h = refl
no_root (map_of u is_atomic) h = absurd (true≢false (sym h))
no_root (list_of u kind) h = absurd (true≢false (sym h))

-- who writes a path writes each prefix of it but the empty one
prefix_side : (is_apart : Bool) (x : Subresource) (p q : PathTexts) → (p ≡ [] → ⊥) → is_prefix p q ≡ true → writes is_apart x q ≡ true → writes is_apart x p ≡ true
prefix_side is_apart x [] q some prefix is = absurd (some refl)
prefix_side is_apart x (f ∷ p) [] some prefix is = absurd (true≢false (sym prefix))
prefix_side is_apart x (f ∷ p) (g ∷ q) some prefix is =
    let alike = (bytes_eq-Decides f g).0 (and_parts (bytes_eq f g) (is_prefix p q) prefix).0 in
    ap (λ h. writes is_apart x (h ∷ p)) alike ∙ first_decides is_apart x g p q ∙ is

module _ (s t : Shape) (old : State) (c : Content) (formed : is_well_formed s ≡ true) (object : IsObjectShape t) (well_typed : IsWellTypedState s old) (is_one : c ≡ carried s t old.content) (parts : IsCarried s t old.content c) (content : IsContent t c) (stand : LeavesStand s t old.content c) where
  contains-owned : (k : Manager) (p : PathTexts) → set.contains (owned_by (carried_owners (dom c) (made old.content c) old.owners) k) p
      ≡ ((set.contains (owned_by old.owners k) p && is_some (fin.get c p)) || ((is_some (fin.get c p) && not (is_some (fin.get old.content p))) && has_at_or_below (owned_by old.owners k) p))
  contains-owned k p =
      ap (λ x. set.contains x p) (owned-carried (dom c) (made old.content c) old.owners k) ∙ contains-carried (dom c) (made old.content c) (owned_by old.owners k) p
      ∙ ap₂ (λ a b. (set.contains (owned_by old.owners k) p && a) || (b && has_at_or_below (owned_by old.owners k) p)) (contains-dom c p)
      (set.contains-difference path_cmp_total (dom c) (dom old.content) p ∙ ap₂ (λ a b. a && not b) (contains-dom c p) (contains-dom old.content p))

  owned_stand : OwnedArePresent (with_content old c)
  owned_stand k p owns = by_tests (set.contains (owned_by old.owners k) p) (is_some (fin.get c p)) (is_some (fin.get old.content p)) (has_at_or_below (owned_by old.owners k) p) (sym (contains-owned k p) ∙ owns)
    where
      by_tests : (a b x h : Bool) → ((a && b) || ((b && not x) && h)) ≡ true → b ≡ true
      by_tests a true x h is = refl
      by_tests true false x h is = absurd (true≢false (sym is))
      by_tests false false x h is = absurd (true≢false (sym is))

  -- a new leaf had no place before
  new_then : (p : PathTexts) → IsNewLeaf s t p → is_some (fin.get old.content p) ≡ false
  new_then p is = by_test (is_some (fin.get old.content p)) refl
    where
      by_test : (b : Bool) → is_some (fin.get old.content p) ≡ b → b ≡ false
      by_test false there = refl
      by_test true there = absurd (true≢false (sym (places s old.content ((contents_well_typed s old.content formed).0 well_typed.0) p there) ∙ ap is_some is.0))

  leaves_pass : LeavesPass s t old (with_content old c)
  leaves_pass k p q is owns =
      contains-owned k p
      ∙ ap₂ (λ a b. (set.contains (owned_by old.owners k) p && a) || ((a && not b) && has_at_or_below (owned_by old.owners k) p)) (stand p q is (well_typed.1.1 k (p ++ q) owns)) (new_then p is)
      ∙ or_true (set.contains (owned_by old.owners k) p && true) (has_at_or_below (owned_by old.owners k) p) (one_below (owned_by old.owners k) p (p ++ q) owns (prefix_of p q))
    where
      or_true : (a b : Bool) → b ≡ true → (a || b) ≡ true
      or_true true b h = refl
      or_true false b h = h

  others_stay : OthersStay s t old (with_content old c)
  others_stay k p owns free =
      contains-owned k p
      ∙ ap₂ (λ a b. (a && b) || ((b && not (is_some (fin.get old.content p))) && has_at_or_below (owned_by old.owners k) p)) owns (ap is_some (parts.kept p free) ∙ well_typed.1.1 k p owns)

  -- nothing stands at the empty path of an object
  none_at_top : is_some (fin.get c []) ≡ true → ⊥
  none_at_top there =
      true≢false (sym (places t c ((contents_well_typed t c (and_parts (is_well_formed t) _ object.1).0).0 content) [] there) ∙ ap is_some (no_root t object.0))

  own_sides : (is_apart : Bool) → OwnSides is_apart old → OwnSides is_apart (with_content old c)
  own_sides is_apart sides k p owns =
      by_tests (set.contains (owned_by old.owners k) p) refl (is_some (fin.get c p)) refl (is_some (fin.get old.content p)) (has_at_or_below (owned_by old.owners k) p) refl (sym (contains-owned k p) ∙ owns)
    where
      by_tests : (a : Bool) → set.contains (owned_by old.owners k) p ≡ a → (b : Bool) → is_some (fin.get c p) ≡ b → (x h : Bool) → has_at_or_below (owned_by old.owners k) p ≡ h → ((a && b) || ((b && not x) && h)) ≡ true → writes is_apart k.subresource p ≡ true
      by_tests true own b there x h found is = sides k p own
      by_tests false own false there x h found is = absurd (true≢false (sym is))
      by_tests false own true there true h found is = absurd (true≢false (sym is))
      by_tests false own true there false false found is = absurd (true≢false (sym is))
      by_tests false own true there false true found is =
          let inner = some_below (owned_by old.owners k) p found in
          prefix_side is_apart k.subresource p inner.0 (λ top. none_at_top (sym (ap (λ q. is_some (fin.get c q)) top) ∙ there)) inner.2 (sides k inner.0 inner.1)

  state_is : with_content old c ≡ carried_state s t old
  unfolding carried_state
  state_is = ap (with_content old) is_one

  pub carries : Carries s t old (with_content old c)
  carries = record {
    is = state_is;
    content = parts;
    well_typed = (content, (carried_have_paths (dom c) (made old.content c) old.owners, owned_stand));
    leaves = leaves_pass;
    others = others_stay;
    sides = own_sides;
    owned = leaves_owned s t old (with_content old c) parts leaves_pass others_stay;
  }

-- what a carry gave, from its steps
pub gave : (s t : Shape) (old : State) (c : Content) (w : Owners) (present new : PathSet) → is_well_formed s ≡ true → IsObjectShape t → IsWellTypedState s old → c ≡ carried s t old.content → IsCarried s t old.content c → IsContent t c → LeavesStand s t old.content c
    → present ≡ dom c → new ≡ set.difference present (dom old.content) → w ≡ carried_owners present new old.owners → Carries s t old (record { content = c; owners = w })
gave s t old c w present new formed object well_typed is_one parts content stand stands_are new_are owners_are =
    let all : w ≡ carried_owners (dom c) (made old.content c) old.owners = owners_are ∙ ap₂ (λ x y. carried_owners x y old.owners) stands_are (new_are ∙ ap (λ x. set.difference x (dom old.content)) stands_are) in
    subst (λ x. Carries s t old (record { content = c; owners = x })) (sym all) (carries s t old c formed object well_typed is_one parts content stand)
