-- What an apply of counts makes of a machine.
use Rattle.std.proofs.Common.{◌≡◌, ℕ, suc, Bool, true, false, cond, List, [], ◌∷◌, Option, Some, None, Ok, is_some, refl, sym, ap, subst, ◌∙◌, lt-ltb, true≢false}
use Rattle.std.specs.Prelude.{codes, nat_lt, slice_get}
use Rattle.std.specs.Cmp.{tied_itself}
use Rattle.std.specs.FinMap as fin
use Rattle.std.specs.Ordering.{is_eq}
use Rattle.api_types.specs.TypesFile.{ServedShape}
use Rattle.history.specs.History.{Change, History, Key, Object, Objects, current_objects, is_same_key, last_revision, object_by, written}
use Rattle.history.proofs.Keys.{get-put_or_remove, key_cmp_total, tied}
use Rattle.schema.specs.ObjectShape.{IsObjectShape}
use Rattle.objects.specs.State.{State}
use Rattle.objects.specs.WellTyped.{IsWellTypedState}
use Rattle.ownership.specs.Sameness.{same_state}
use Rattle.ownership.proofs.Sameness.{same_state-is, same_state-itself}
use Rattle.ownership.proofs.WellTyped.{applied_well_typed}
use Rattle.api_request.specs.declared.reason.Reason.TheVariants.{ServiceUnavailable}
use Rattle.api_request.specs.Calls.{Call, Plan, at_tick}
use Rattle.api_request.specs.Validated.{Validated}
use Rattle.api_validation.specs.Size.{size_validated}
use Rattle.verbs.specs.Machine.{AreNext, IsMachine, IsNamed, IsNext, after, decoded_state, state_by, state_of_existing}
use Rattle.verbs.specs.Step.{object_value_at, plan_for, plan_put, plan_put_unless_same, plan_without_change, planned, revisions_left, step, text_at}
use Rattle.verbs.proofs.Changes.{current_objects_next, machine_next}
use Rattle.verbs.proofs.Promise.{plans_come_next}
use Rattle.verbs.proofs.Said.{printed_says, shapes_of}
use Rattle.verbs.proofs.Sides.{existing_stored}
use Rattle.indexer.specs.Objects.{Place}
use Rattle.summary.specs.Counts.{Summed}
use Rattle.settling_laws.specs.Applying.{AppliesStay, CanBeStored, HasCounts, ReconcilesApply, apply_call, key_of, state_at}
use Rattle.settling_laws.specs.Said.{CountsAreOwn, IsSayable, Says, SaysExactly, applied_fields, label_summary, with_counts}
use Rattle.settling_laws.specs.SummaryType.{summary_shape, summary_type}
use Rattle.settling_laws.proofs.Bodies.{body_json}
use Rattle.settling_laws.proofs.Calls.{apply_planned, require_ok, then_ok}
use Rattle.settling_laws.proofs.Saying.{fields_content, own_exact, says}

pub same_key : (k : Key) → is_same_key k k ≡ true
same_key k = ap is_eq (tied_itself key_cmp_total k)

pub other_key : (j k : Key) → ¬ (j ≡ k) → is_same_key j k ≡ false
other_key j k apart = go (is_same_key j k) refl
  where
    go : (b : Bool) → is_same_key j k ≡ b → b ≡ false
    go true same = absurd (apart (tied j k same))
    go false same = refl

module _ (types : List ServedShape) (m : History) (ms kind : ℕ) (s : Summed) (place : Place) (machine : IsMachine types m) (serves : slice_get types kind ≡ Some summary_type)
    (named : IsNamed (key_of kind place)) (is : IsSayable s) where
  abbrev k : Key
  k = key_of kind place

  abbrev objects : Objects
  objects = current_objects m

  abbrev call : Call
  call = at_tick ms (apply_call kind s place)

  abbrev found : Option Object
  found = fin.get objects k

  -- under the key stands what its text says
  under : (found : Option Object) → state_by (slice_get types kind) found ≡ state_of_existing summary_type found
  under found = ap (λ (t : Option ServedShape). state_by t found) serves

  shape_is : IsObjectShape summary_shape
  shape_is = shapes_of types machine.shapes kind summary_type serves

  old_well_typed : IsWellTypedState summary_shape (state_at types m k)
  old_well_typed = subst (IsWellTypedState summary_shape) (sym (under found)) (existing_stored types objects (shapes_of types machine.shapes) machine.stand summary_type k serves found refl).0

  abbrev new : State
  new = with_counts s (state_at types m k)

  new_well_typed : IsWellTypedState summary_shape new
  new_well_typed = applied_well_typed (state_at types m k) (applied_fields s) label_summary summary_shape (fields_content s is) old_well_typed

  planned_so : (o : Option Object) → found ≡ o → planned types m call ≡ plan_for (plan_put_unless_same summary_type m.current k o new)
  planned_so o at =
      apply_planned s kind place types m ms serves named is
      ∙ ap (λ (x : Option Object). plan_for (plan_put_unless_same summary_type m.current k x (with_counts s (state_of_existing summary_type x)))) at
      ∙ ap (λ (x : State). plan_for (plan_put_unless_same summary_type m.current k o (with_counts s x))) (sym (under o) ∙ ap (state_by (slice_get types kind)) (sym at))

  says_so : (after : History) → state_at types after k ≡ new → Says s (state_at types m k) (state_at types after k)
  says_so after state = subst (Says s (state_at types m k)) (sym state) (says s (state_at types m k) is old_well_typed)

  exact_so : (after : History) → state_at types after k ≡ new → CountsAreOwn (state_at types m k) → SaysExactly s (state_at types after k) × CountsAreOwn (state_at types after k)
  exact_so after state own = subst (λ (x : State). SaysExactly s x × CountsAreOwn x) (sym state) (own_exact s (state_at types m k) is old_well_typed own)

  -- ---- where it is written

  module _ (room : CanBeStored types m k s) where
    abbrev text : List ℕ
    text = text_at summary_type k (suc m.current) new

    abbrev change : Change
    change = record { revision = suc m.current; key = k; body = Some text }

    abbrev stored : ℕ → Plan
    stored status = record { answer = record { status = status; body = text; watch = None }; changes = change ∷ [] }

    left : revisions_left m.current ≡ Ok tt
    left = require_ok (nat_lt m.current last_revision) ServiceUnavailable (codes "revisions are used up") (lt-ltb m.current last_revision room.revision)

    put_is : (status : ℕ) → plan_put summary_type m.current k status new ≡ Ok (stored status)
    put_is status = then_ok (size_validated (object_value_at summary_type k (suc m.current) new)) tt _ room.size ∙ then_ok (revisions_left m.current) tt _ left

    put_ok : (status : ℕ) → (plan_for (plan_put summary_type m.current k status new)).changes ≡ change ∷ []
    put_ok status = ap (λ (j : Validated Plan). (plan_for j).changes) (put_is status)

    module _ (makes : (planned types m call).changes ≡ change ∷ []) where
      next : IsNext types m change
      next = (subst (AreNext types m) makes (plans_come_next types m call machine (body_json s place.0 place.1 is))).0

      abbrev later : History
      later = written m k (Some text)

      after_is : (step types m call).1 ≡ later
      after_is = ap (after m) makes

      there : (j : Key) → fin.get (current_objects later) j ≡ cond (is_same_key j k) (Some (record { revision = suc m.current; body = text })) (fin.get objects j)
      there j = ap (λ (x : Objects). fin.get x j) (current_objects_next types m change machine next) ∙ get-put_or_remove objects k (object_by (suc m.current) (Some text)) j

      at_key : fin.get (current_objects later) k ≡ Some (record { revision = suc m.current; body = text })
      at_key = there k ∙ ap (λ (b : Bool). cond b (Some (record { revision = suc m.current; body = text })) (fin.get objects k)) (same_key k)

      state_is : state_at types later k ≡ new
      state_is =
          ap (state_by (slice_get types kind)) at_key ∙ under (Some (record { revision = suc m.current; body = text }))
          ∙ (printed_says summary_type k (suc m.current) new shape_is new_well_typed next.high).0

      written_has : HasCounts types m later k s
      written_has = record {
        is_machine = machine_next types m change machine next;
        stands = ap is_some at_key;
        state = state_is;
        says = says_so later state_is;
        exact = exact_so later state_is;
        others = λ j apart. there j ∙ ap (λ (b : Bool). cond b (Some (record { revision = suc m.current; body = text })) (fin.get objects j)) (other_key j k apart);
      }

      pub made : HasCounts types m (step types m call).1 k s
      made = subst (λ (h : History). HasCounts types m h k s) (sym after_is) written_has

  -- ---- where nothing changes

  unchanged : (o : Object) → found ≡ Some o → same_state new (decoded_state summary_shape o.body) ≡ true → (step types m call).1 ≡ m
  unchanged o at same =
      ap (λ (p : Plan). after m p.changes) (planned_so (Some o) at)
      ∙ ap (λ (b : Bool). after m (plan_for (cond b (Ok (plan_without_change o)) (plan_put summary_type m.current k 200 new))).changes) same

  stood : (o : Object) → found ≡ Some o → decoded_state summary_shape o.body ≡ state_at types m k
  stood o at = sym (ap (state_by (slice_get types kind)) at ∙ under (Some o))

  kept : (o : Object) → found ≡ Some o → same_state new (decoded_state summary_shape o.body) ≡ true → HasCounts types m m k s
  kept o at same =
      let state : state_at types m k ≡ new = sym (same_state-is new (decoded_state summary_shape o.body) same ∙ stood o at) in
      record {
        is_machine = machine;
        stands = ap is_some at;
        state = state;
        says = says_so m state;
        exact = exact_so m state;
        others = λ j apart. refl;
      }

  -- ---- either way

  by_found : CanBeStored types m k s → (o : Option Object) → found ≡ o → HasCounts types m (step types m call).1 k s
  by_found room None at = made room (ap (λ (p : Plan). p.changes) (planned_so None at) ∙ put_ok room 201)
  by_found room (Some o) at = go (same_state new (decoded_state summary_shape o.body)) refl
    where
      go : (b : Bool) → same_state new (decoded_state summary_shape o.body) ≡ b → HasCounts types m (step types m call).1 k s
      go true same = subst (λ (h : History). HasCounts types m h k s) (sym (unchanged o at same)) (kept o at same)
      go false same =
          made room
          (ap (λ (p : Plan). p.changes) (planned_so (Some o) at)
          ∙ ap (λ (b : Bool). (plan_for (cond b (Ok (plan_without_change o)) (plan_put summary_type m.current k 200 new))).changes) same ∙ put_ok room 200)

  pub has_counts : CanBeStored types m k s → HasCounts types m (step types m call).1 k s
  has_counts room = by_found room found refl

  stays_by : (o : Option Object) → found ≡ o → fin.contains_key objects k ≡ true → new ≡ state_at types m k → (step types m call).1 ≡ m
  stays_by None at there same = absurd (true≢false (sym there ∙ ap is_some at))
  stays_by (Some o) at there same =
      unchanged o at (ap (same_state new) (stood o at ∙ sym same) ∙ same_state-itself new)

  pub stays : fin.contains_key objects k ≡ true → new ≡ state_at types m k → (step types m call).1 ≡ m
  stays = stays_by found refl

pub reconciles_apply : ReconcilesApply
reconciles_apply types m ms kind s place machine serves named is room = has_counts types m ms kind s place machine serves named is room

pub applies_stay : AppliesStay
applies_stay types m ms kind s place machine serves named is there same = stays types m ms kind s place machine serves named is there same
