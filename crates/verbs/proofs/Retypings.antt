-- Where other types take the place of these: a machine stays one, each object is carried, and what stays so stays.
use Rattle.std.proofs.Common.{◌≡◌, ℕ, suc, ◌+◌, ◌<◌, ◌≤◌, Bool, true, false, true≢false, cond, List, [], ◌∷◌, ◌++◌, length, Option, Some, None, is_some, Ok, Err, inl, inr, refl, sym, ap, ap₂, ◌∙◌, subst, arith, leb-true, le-leb}
use Rattle.std.specs.Prelude.{IfSome, filter, nat_le, slice_get}
use Rattle.std.specs.declared.result.Result.{Result}
use Rattle.std.specs.FinMap as fin
use Rattle.std.specs.List.{AllByRecursion, list_all}
use Rattle.std.specs.Cmp.Derive.{both_true}
use Rattle.std.proofs.lemmas.Bool.{and_parts}
use Rattle.std.proofs.lemmas.List.Elements.{All-nil, All-cons, All-head, All-tail}
use Rattle.serde_json.specs.Data.{Data}
use Rattle.api_types.specs.Retyping.{types_may_become}
use Rattle.schema.specs.ObjectShape.{IsObjectShape}
use Rattle.schema.specs.ObjectTest.{is_object_shape}
use Rattle.api_types.specs.Refusals as schemas
use Rattle.api_types.specs.Discovered.{declared_after}
use Rattle.api_types.specs.TypesFile.{ServedShape}
use Rattle.api_types.proofs.Keeping.{itself}
use Rattle.schema.proofs.ObjectTests.{test, tested}
use Rattle.history.specs.History.{Change, History, Key, Object, last_revision, object_by, current_objects}
use Rattle.history.specs.Whole.{IsWhole}
use Rattle.history.specs.Writes.{changes_by, written_all}
use Rattle.history.proofs.Lists.{all_weaker}
use Rattle.history.proofs.Writes.{changes_all, whole_all}
use Rattle.objects.proofs.Taken.{same_some}
use Rattle.ownership.specs.Carry.{carried_state}
use Rattle.verbs.specs.Machine.{AreObjectTypes, AreTexts, IsMachine, IsOfTypes, IsSomeTextAt, IsTextAt, IsTextOf, state_by, state_of_existing, decoded_state, state_under}
use Rattle.verbs.specs.PromiseLaws.{RetypingsCarryObjects, RetypingsKeepMachines, RetypingsLeaveTexts, SameTypesChangeNothing}
use Rattle.verbs.specs.Retyping.{RetypeRefusal, carried_text, changed_objects, if_declared, if_compatible, if_revisions_left, is_changed, not_lawful, not_types, retyped, retyping, retyping_writes, carried_text_at, too_few_revisions, writes_from}
use Rattle.verbs.proofs.CarriedTexts.{new_text, new_type, same_text, says_carried, still_some_text, text_stays, under}
use Rattle.verbs.proofs.Changes.{is_history, standing_within}
use Rattle.verbs.proofs.Rewritten.{Entries, HasText, IsWritten, StaysOrWritten, all_picked, all_stand, as_many, has_key, none_goes, not_picked, current_objects_all, stays_or_written}
use Rattle.verbs.proofs.Said.{Shapes, shapes_of}

-- ---- what is served then

all_shapes : (types : List ServedShape) → list_all (λ t. is_object_shape t.shape) types ≡ true → AreObjectTypes types
all_shapes [] h = All-nil _
all_shapes (t ∷ types) h =
    let parts = and_parts (is_object_shape t.shape) (list_all (λ u. is_object_shape u.shape) types) h in All-cons (λ u. IsObjectShape u.shape) t types (tested t.shape parts.0) (all_shapes types parts.1)

shapes_tested : (types : List ServedShape) → AreObjectTypes types → list_all (λ t. is_object_shape t.shape) types ≡ true
shapes_tested [] all = refl
shapes_tested (t ∷ types) all =
    let is_one : ServedShape → Type 0 = λ u. IsObjectShape u.shape in both_true (test t.shape (All-head is_one t types all)) (shapes_tested types (All-tail is_one t types all))

abbrev served_by : Result (List ServedShape) RetypeRefusal → List ServedShape
served_by (Ok types) = types
served_by (Err e) = []

abbrev is_served : Result (List ServedShape) RetypeRefusal → Bool
is_served (Ok types) = true
is_served (Err e) = false

refused : {P : Type 0} (e : RetypeRefusal) (next_types : List ServedShape) → ◌≡◌ {A = Result (List ServedShape) RetypeRefusal} (Err e) (Ok next_types) → P
refused e next_types h = absurd (true≢false (sym (ap is_served h)))

-- types that may take the place of these, and a revision for each object that changes
record MayServe (types : List ServedShape) (m : History) (next_types : List ServedShape) : Type 0 where
  shapes : list_all (λ t. is_object_shape t.shape) next_types ≡ true
  may : types_may_become types next_types ≡ true
  left : m.current + length (changed_objects types next_types (current_objects m)) ≤ last_revision

module _ (types : List ServedShape) (m : History) (next_types : List ServedShape) where
  by_left : (us : List ServedShape) → list_all (λ t. is_object_shape t.shape) us ≡ true → types_may_become types us ≡ true → (b : Bool)
      → nat_le (m.current + length (changed_objects types us (current_objects m))) last_revision ≡ b → cond b (Ok us) (Err too_few_revisions) ≡ Ok next_types → MayServe types m next_types
  by_left us shapes may false is h = refused too_few_revisions next_types h
  by_left us shapes may true is h = subst (MayServe types m) (ap served_by h) (record { shapes = shapes; may = may; left = leb-true _ _ is })

  by_lawful : (us : List ServedShape) → list_all (λ t. is_object_shape t.shape) us ≡ true → (b : Bool) → types_may_become types us ≡ b
      → cond b (if_revisions_left (m.current + length (changed_objects types us (current_objects m))) us) (Err not_lawful) ≡ Ok next_types → MayServe types m next_types
  by_lawful us shapes false may h = refused not_lawful next_types h
  by_lawful us shapes true may h = by_left us shapes may (nat_le (m.current + length (changed_objects types us (current_objects m))) last_revision) refl h

  by_shapes : (us : List ServedShape) (b : Bool) → list_all (λ t. is_object_shape t.shape) us ≡ b → cond b (if_compatible types m us) (Err not_types) ≡ Ok next_types → MayServe types m next_types
  by_shapes us false shapes h = refused not_types next_types h
  by_shapes us true shapes h = by_lawful us shapes (types_may_become types us) refl h

  by_file : (r : Result (List ServedShape) schemas.Refusal) → if_declared types m r ≡ Ok next_types → MayServe types m next_types
  by_file (Err e) h = refused not_types next_types h
  by_file (Ok us) h = by_shapes us (list_all (λ t. is_object_shape t.shape) us) refl h

may_serve : (types : List ServedShape) (m : History) (file : Data) (next_types : List ServedShape) → retyping types m file ≡ Ok next_types → MayServe types m next_types
unfolding retyping
may_serve types m file next_types h = by_file types m next_types (declared_after types file) h

all_append : {X : Type 0} (P : X → Type 0) (xs ys : List X) → AllByRecursion P xs → AllByRecursion P ys → AllByRecursion P (xs ++ ys)
all_append P [] ys all more = more
all_append P (x ∷ xs) ys all more = (all.0, all_append P xs ys all.1 more)

-- ---- what becomes of a machine

module _ (types next_types : List ServedShape) (m : History) (is : IsMachine types m) (served : MayServe types m next_types) where
  then_shaped : Shapes next_types
  then_shaped = shapes_of next_types (all_shapes next_types served.shapes)

  -- an object that stands, under the type that takes the place of its own
  record Under (k : Key) (o : Object) : Type 0 where
    t : ServedShape
    u : ServedShape
    was : slice_get types k.kind ≡ Some t
    now : slice_get next_types k.kind ≡ Some u
    text : (r : ℕ) → carried_text_at types next_types r k o ≡ Some (carried_text t u r k o)
    is_text : (r : ℕ) → o.revision ≤ r → r ≤ last_revision → IsTextOf u k r (carried_text t u r k o)
    says : (r : ℕ) → r ≤ last_revision → decoded_state u.shape (carried_text t u r k o) ≡ carried_state t.shape u.shape (decoded_state t.shape o.body)
    stays : is_changed types next_types (k, o) ≡ false → carried_text t u o.revision k o ≡ o.body
    numbered : o.revision ≤ last_revision
    within : o.revision ≤ m.current

  represents_under : (k : Key) (o : Object) → fin.get (current_objects m) k ≡ Some o → Under k o
  represents_under k o there =
      let x = is.stand k o there in
      let new = new_type types next_types served.may k.kind x.t x.served in
      let old = shapes_of types is.shapes k.kind x.t x.served in
      let shaped = then_shaped k.kind new.u new.serves in
      record {
        t = x.t;
        u = new.u;
        was = x.served;
        now = new.serves;
        text = under types next_types k o x.t new.u x.served new.serves old shaped new.may x.is_text;
        is_text = new_text types next_types k o x.t new.u x.served new.serves old shaped new.may x.is_text;
        says = says_carried types next_types k o x.t new.u x.served new.serves old shaped new.may x.is_text;
        stays = text_stays types next_types k o x.t new.u x.served new.serves old shaped new.may x.is_text;
        numbered = x.is_text.says.numbered;
        within = standing_within types m k o is there;
      }

  abbrev changing : Entries
  changing = changed_objects types next_types (current_objects m)

  abbrev Changes : Key × Object → Type 0
  Changes e = (fin.get (current_objects m) e.0 ≡ Some e.1) × (is_changed types next_types e ≡ true)

  all_change : AllByRecursion Changes changing
  all_change = all_picked (λ e. fin.get (current_objects m) e.0 ≡ Some e.1) (is_changed types next_types) (fin.entries (current_objects m)) (all_stand (current_objects m))

  have_texts : AllByRecursion (HasText types next_types) changing
  have_texts = all_weaker Changes (HasText types next_types) (λ e change r. ap is_some ((represents_under e.0 e.1 change.0).text r)) changing all_change

  then_whole : IsWhole is.first (retyped types next_types m)
  unfolding retyped
  then_whole =
      whole_all is.first m (retyping_writes types next_types m) is.whole (subst (λ n. m.current + n ≤ last_revision) (sym (as_many types next_types m.current changing)) served.left)
      (none_goes types next_types m.current changing (current_objects m) have_texts)

  -- ---- bodies of changes

  still_body : (c : Change) (body : Option (List ℕ)) → IfSome body (IsSomeTextAt types c.key c.revision) → IfSome body (IsSomeTextAt next_types c.key c.revision)
  still_body c None old = tt
  still_body c (Some text) old = still_some_text types next_types served.may c.key c.revision text old

  new_changes : (n : ℕ) (es : Entries) → m.current ≤ n → n + length es ≤ last_revision → AllByRecursion Changes es → AllByRecursion (IsOfTypes next_types) (changes_by n (writes_from types next_types n es))
  new_changes n [] since fits all = tt
  new_changes n (e ∷ es) since fits all =
      let x = represents_under e.0 e.1 all.0.0 in
      let low : suc n ≤ last_revision = omega (arith, fits) in
      let within : e.1.revision ≤ m.current = x.within in (
        subst (λ body. IfSome body (IsSomeTextAt next_types e.0 (suc n))) (sym (x.text (suc n)))
            (record { t = x.u; served = x.now; shape = x.u.shape; shaped = then_shaped e.0.kind x.u x.now; is_text = x.is_text (suc n) (omega (arith, within, since)) low }),
        new_changes (suc n) es (omega (arith, since)) (omega (arith, fits)) all.1,
      )

  then_texts : AllByRecursion (IsOfTypes next_types) (retyped types next_types m).changes
  unfolding retyped
  then_texts =
      subst (AllByRecursion (IsOfTypes next_types)) (sym (changes_all m (retyping_writes types next_types m)))
      (all_append (IsOfTypes next_types) m.changes (changes_by m.current (retyping_writes types next_types m))
      (all_weaker (IsOfTypes types) (IsOfTypes next_types) (λ c. still_body c c.body) m.changes is.texts) (new_changes m.current changing (omega arith) served.left all_change))

  -- ---- what stands then

  abbrev now_at : Key → Option Object
  now_at k = fin.get (current_objects (retyped types next_types m)) k

  by_writes : (k : Key) → StaysOrWritten types next_types Changes m.current changing (current_objects m) k (now_at k)
  unfolding retyped
  by_writes k =
      subst (λ s. StaysOrWritten types next_types Changes m.current changing (current_objects m) k (fin.get s k)) (sym (current_objects_all m (retyping_writes types next_types m) (is_history types m is)))
      (stays_or_written types next_types Changes m.current changing (current_objects m) k all_change)

  unchanged : (k : Key) (o : Object) → fin.get (current_objects m) k ≡ Some o → has_key k changing ≡ false → is_changed types next_types (k, o) ≡ false
  unchanged k o there none = not_picked (is_changed types next_types) (current_objects m) k o there none

  module _ (k : Key) (x : IsWritten types next_types Changes m.current changing k (now_at k)) where
    fits : x.revision ≤ last_revision
    fits = let high : x.revision ≤ m.current + length changing = x.high in omega (arith, high, served.left)

    -- of what stood under the key
    object_is : (o : Object) → fin.get (current_objects m) k ≡ Some o → x.e.1 ≡ o
    object_is o there = same_some x.e.1 o (sym x.is.0 ∙ ap (fin.get (current_objects m)) (sym x.of) ∙ there)

    changed_one : (o : Object) → fin.get (current_objects m) k ≡ Some o → is_changed types next_types (k, o) ≡ true
    changed_one o there = ap₂ (λ q z. is_changed types next_types (q, z)) x.of (sym (object_is o there)) ∙ x.is.1

    written_text : (o : Object) (there : fin.get (current_objects m) k ≡ Some o) (y : Under k o) → now_at k ≡ Some (record { revision = x.revision; body = carried_text y.t y.u x.revision k o })
    written_text o there y =
        x.at ∙ ap₂ (λ q z. object_by x.revision (carried_text_at types next_types x.revision q z)) (sym x.of) (object_is o there) ∙ ap (object_by x.revision) (y.text x.revision)

  then_stand : AreTexts next_types (current_objects (retyped types next_types m))
  then_stand k o there = by_case (by_writes k)
    where
      of_written : (x : IsWritten types next_types Changes m.current changing k (now_at k)) → fin.get (current_objects m) k ≡ Some x.e.1 → IsTextAt next_types k o.revision o.body
      of_written x before =
          let y = represents_under k x.e.1 before in
          let within : x.e.1.revision ≤ m.current = y.within in
          let after : m.current < x.revision = x.low in
          subst (λ z. IsTextAt next_types k z.revision z.body) (same_some (record { revision = x.revision; body = carried_text y.t y.u x.revision k x.e.1 }) o (sym (written_text k x x.e.1 before y) ∙ there))
          (record { t = y.u; served = y.now; is_text = y.is_text x.revision (omega (arith, within, after)) (fits k x) })

      by_case : StaysOrWritten types next_types Changes m.current changing (current_objects m) k (now_at k) → IsTextAt next_types k o.revision o.body
      by_case (inl stays) =
          let before : fin.get (current_objects m) k ≡ Some o = sym stays.1 ∙ there in
          let y = represents_under k o before in
          record { t = y.u; served = y.now; is_text = subst (IsTextOf y.u k o.revision) (y.stays (unchanged k o before stays.0)) (y.is_text o.revision (omega arith) y.numbered) }
      by_case (inr x) = of_written x (ap (fin.get (current_objects m)) x.of ∙ x.is.0)

  then_machine : IsMachine next_types (retyped types next_types m)
  then_machine = record { first = is.first; whole = then_whole; shapes = all_shapes next_types served.shapes; texts = then_texts; stand = then_stand }

  -- the state that is read then
  then_says : (k : Key) (o : Object) → fin.get (current_objects m) k ≡ Some o → (y : Under k o) → state_of_existing y.u (now_at k) ≡ carried_state y.t.shape y.u.shape (decoded_state y.t.shape o.body)
  then_says k o there y = by_case (by_writes k)
    where
      by_case : StaysOrWritten types next_types Changes m.current changing (current_objects m) k (now_at k) → state_of_existing y.u (now_at k) ≡ carried_state y.t.shape y.u.shape (decoded_state y.t.shape o.body)
      by_case (inl stays) = ap (state_of_existing y.u) (stays.1 ∙ there) ∙ ap (decoded_state y.u.shape) (sym (y.stays (unchanged k o there stays.0))) ∙ y.says o.revision y.numbered
      by_case (inr x) = ap (state_of_existing y.u) (written_text k x o there y) ∙ y.says x.revision (fits k x)

  then_carried : (k : Key) (o : Object) (t u : ServedShape) → fin.get (current_objects m) k ≡ Some o → slice_get types k.kind ≡ Some t → slice_get next_types k.kind ≡ Some u
      → state_under next_types (current_objects (retyped types next_types m)) k ≡ carried_state t.shape u.shape (state_under types (current_objects m) k)
  then_carried k o t u there was now =
      let y = represents_under k o there in
      let says = subst (λ w. state_of_existing w (now_at k) ≡ carried_state t.shape w.shape (decoded_state t.shape o.body)) (same_some y.u u (sym y.now ∙ now))
      (subst (λ w. state_of_existing y.u (now_at k) ≡ carried_state w.shape y.u.shape (decoded_state w.shape o.body)) (same_some y.t t (sym y.was ∙ was)) (then_says k o there y)) in
      ap (λ a. state_by a (now_at k)) now ∙ says
      ∙ ap (carried_state t.shape u.shape) (sym (ap (λ a. state_by a (fin.get (current_objects m) k)) was ∙ ap (state_of_existing t) there))

  then_left : (k : Key) (o : Object) → fin.get (current_objects m) k ≡ Some o → is_changed types next_types (k, o) ≡ false → now_at k ≡ Some o
  then_left k o there none = by_case (by_writes k)
    where
      by_case : StaysOrWritten types next_types Changes m.current changing (current_objects m) k (now_at k) → now_at k ≡ Some o
      by_case (inl stays) = stays.1 ∙ there
      by_case (inr x) = absurd (true≢false (sym (changed_one k x o there) ∙ none))

-- ---- the laws

pub retypings_keep_machines : RetypingsKeepMachines
retypings_keep_machines types next_types m file is served = then_machine types next_types m is (may_serve types m file next_types served)

pub retypings_carry_objects : RetypingsCarryObjects
retypings_carry_objects types next_types m file is served k o t u there was now = then_carried types next_types m is (may_serve types m file next_types served) k o t u there was now

pub retypings_leave_texts : RetypingsLeaveTexts
retypings_leave_texts types next_types m file is served k o there none = then_left types next_types m is (may_serve types m file next_types served) k o there none

-- ---- the same types

none_picked : (test : Key × Object → Bool) (es : Entries) → AllByRecursion (λ e. test e ≡ false) es → filter test es ≡ []
none_picked test [] all = refl
none_picked test (e ∷ es) all = ap (λ b. cond b (e ∷ filter test es) (filter test es)) all.0 ∙ none_picked test es all.1

module _ (types : List ServedShape) (m : History) (is : IsMachine types m) where
  none_changes : changed_objects types types (current_objects m) ≡ []
  none_changes =
      none_picked (is_changed types types) (fin.entries (current_objects m))
      (all_weaker (λ (e : Key × Object). fin.get (current_objects m) e.0 ≡ Some e.1) (λ e. is_changed types types e ≡ false) (λ e there. same e.0 e.1 there) (fin.entries (current_objects m)) (all_stand (current_objects m)))
    where
      same : (k : Key) (o : Object) → fin.get (current_objects m) k ≡ Some o → is_changed types types (k, o) ≡ false
      same k o there = let x = is.stand k o there in same_text types k o x.t x.served (shapes_of types is.shapes k.kind x.t x.served) x.is_text

  enough : m.current + length (changed_objects types types (current_objects m)) ≤ last_revision
  enough = subst (λ (es : Entries). m.current + length es ≤ last_revision) (sym none_changes) (let high : m.current ≤ last_revision = is.whole.high in omega (arith, high))

  same_types : (file : Data) → declared_after types file ≡ Ok types → retyping types m file ≡ Ok types
  unfolding retyping
  same_types file declared =
      ap (if_declared types m) declared ∙ ap (λ b. cond b (if_compatible types m types) (Err not_types)) (shapes_tested types is.shapes)
      ∙ ap (λ b. cond b (if_revisions_left (m.current + length (changed_objects types types (current_objects m))) types) (Err not_lawful)) (itself types) ∙ ap (λ b. cond b (Ok types) (Err too_few_revisions)) (le-leb _ _ enough)

  same_machine : retyped types types m ≡ m
  unfolding retyped
  same_machine = ap (λ es. written_all m (writes_from types types m.current es)) none_changes

pub same_types_change_nothing : SameTypesChangeNothing
same_types_change_nothing types m file is declared = (same_types types m is file declared, same_machine types m is)
