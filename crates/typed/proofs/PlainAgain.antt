-- What is read at a leaf is spelled, nests no deeper, and reads as itself.
use Rattle.std.proofs.Common.{◌≡◌, ℕ, suc, ◌≤◌, Bool, true, false, true≢false, cond, not, List, [], ◌∷◌, Option, Some, Ok, Err, Ordering, Less, Equal, Greater, nat_cmp, refl, sym, ap, subst, ◌∙◌, arith}
use Rattle.std.proofs.lemmas.Bool.{and_parts}
use Rattle.std.proofs.lemmas.Cmp.{nat_list_cmp_total}
use Rattle.std.specs.Cmp.Derive.{both_true}
use Rattle.std.specs.Cmp.Lexicographic.{slice_cmp}
use Rattle.std.specs.Ordering.{is_lt, match_ordering}
use Rattle.std.specs.Str.{bytes_eq}
use Rattle.serde_json.specs.Data.{Data, null, boolean, number, string, array, object, Items, no_items, item, Members, no_members, member, depth, items_depth, members_depth}
use Rattle.serde_json.specs.Find.{get_member, as_array, as_object}
use Rattle.fieldpath.specs.Scalars.{ascend, ascend_from}
use Rattle.fieldpath.specs.Encodable.{IsEncodable, AreEncodable, MembersAreEncodable, member_names}
use Rattle.schema.specs.Shape.{Kind, atomic, set, keyed, Shape, text, whole, truth, struct_of, map_of, list_of, Fields, no_fields, field}
use Rattle.typed.specs.declared.fault.Cause.TheVariants.{NotAnObject, WrongType, KeyFieldMissing}
use Rattle.typed.specs.Faults.{Fault, Read, below, and_then, some_or, shown_name, shown_place}
use Rattle.typed.specs.Reading.{is_null, is_there, text_in, whole_in, truth_in, have_keys, plain_members, plain_items, plain_item, plain_of, plain_of_field}
use Rattle.typed.proofs.Floats.{ok_is, err_not_ok, below_ok, and_then_ok, either_ok}

-- ---- names in order

lt_is : (o : Ordering) → is_lt o ≡ true → o ≡ Less
lt_is Less h = refl
lt_is Equal h = absurd (true≢false (sym h))
lt_is Greater h = absurd (true≢false (sym h))

pub ascend_skip : (n k : List ℕ) (ks : List (List ℕ)) → ascend_from n (k ∷ ks) ≡ true → ascend_from n ks ≡ true
ascend_skip n k [] up = refl
ascend_skip n k (m ∷ ks) up =
    let p = and_parts (is_lt (slice_cmp nat_cmp n k)) _ up in
    let q = and_parts (is_lt (slice_cmp nat_cmp k m)) _ p.1 in
    both_true (ap is_lt (nat_list_cmp_total.trans n k m (lt_is _ p.0) (lt_is _ q.0))) q.1

pub ascend_rest : (k : List ℕ) (ks : List (List ℕ)) → ascend_from k ks ≡ true → ascend ks ≡ true
ascend_rest k [] up = refl
ascend_rest k (m ∷ ks) up = (and_parts (is_lt (slice_cmp nat_cmp k m)) _ up).1

-- ---- what is read is no null

not_null : {X : Type 0} (r : Data → Read X) (e : Fault) → r null ≡ Err e → (d : Data) (x : X) → r d ≡ Ok x → is_null d ≡ false
not_null r e is null x h = absurd (err_not_ok e x (sym is ∙ h))
not_null r e is (boolean b) x h = refl
not_null r e is (number n) x h = refl
not_null r e is (string s) x h = refl
not_null r e is (array ds) x h = refl
not_null r e is (object ms) x h = refl

plain_full : (s : Shape) (d x : Data) → plain_of s d ≡ Ok x → is_null x ≡ false
plain_full text d x h = let k = below_ok [] (λ s. d) (text_in d) x h in ap is_null k.2 ∙ not_null text_in (WrongType, []) refl d k.0 k.1
plain_full whole d x h = let k = below_ok [] (λ s. d) (whole_in d) x h in ap is_null k.2 ∙ not_null whole_in (WrongType, []) refl d k.0 k.1
plain_full truth d x h = let k = below_ok [] (λ s. d) (truth_in d) x h in ap is_null k.2 ∙ not_null truth_in (WrongType, []) refl d k.0 k.1
plain_full (struct_of all b) d x h =
    let found = and_then_ok (some_or NotAnObject (as_object d)) (λ ms. below [] object (plain_members (λ k e. plain_of_field all k e) ms)) x h in
    ap is_null (below_ok [] object (plain_members (λ k e. plain_of_field all k e) found.0) x found.2).2
plain_full (map_of s b) d x h =
    let found = and_then_ok (some_or NotAnObject (as_object d)) (λ ms. below [] object (plain_members (λ k e. plain_of s e) ms)) x h in
    ap is_null (below_ok [] object (plain_members (λ k e. plain_of s e) found.0) x found.2).2
plain_full (list_of s kind) d x h =
    let inner = plain_item kind (λ e. plain_of s e) (λ ms. plain_of s (object ms)) in
    let found = and_then_ok (some_or WrongType (as_array d)) (λ ds. below [] array (plain_items inner 0 ds)) x h in
    ap is_null (below_ok [] array (plain_items inner 0 found.0) x found.2).2

field_full : (all : Fields) (k : List ℕ) (d x : Data) → plain_of_field all k d ≡ Ok x → is_null x ≡ false
field_full no_fields k d x h = absurd (err_not_ok _ x h)
field_full (field known s more) k d x h = either_ok (is_null x ≡ false) (bytes_eq known k) (plain_of s d) (plain_of_field more k d) x h (plain_full s d x) (field_full more k d x)

-- ---- members

abbrev Leaf : (Data → Read Data) → Data → Data → Type 0
Leaf inner d x = (inner x ≡ Ok x) × (IsEncodable x) × (depth x ≤ depth d)

-- members that were read of others
record MembersLeaf (inner : List ℕ → Data → Read Data) (ms ns : Members) : Type 0 where
  pub again : plain_members inner ns ≡ Ok ns
  pub from : (n : List ℕ) → ascend_from n (member_names ms) ≡ true → ascend_from n (member_names ns) ≡ true
  pub order : ascend (member_names ms) ≡ true → ascend (member_names ns) ≡ true
  pub encodable : MembersAreEncodable ns
  pub shallow : members_depth ns ≤ members_depth ms

abbrev AreThere : Members → Members → Type 0
AreThere ms ns = (n : List ℕ) → is_there (get_member n ms) ≡ true → is_there (get_member n ns) ≡ true

there_null : (o : Ordering) (d : Data) (r s : Option Data) → is_null d ≡ true → (is_there r ≡ true → is_there s ≡ true) → is_there (match_ordering o r (Some d) r) ≡ true → is_there s ≡ true
there_null Less d r s is later h = later h
there_null Equal d r s is later h = absurd (true≢false (sym h ∙ ap not is))
there_null Greater d r s is later h = later h

there_one : (o : Ordering) (d x : Data) (r s : Option Data) → is_null x ≡ false → (is_there r ≡ true → is_there s ≡ true) → is_there (match_ordering o r (Some d) r) ≡ true → is_there (match_ordering o s (Some x) s) ≡ true
there_one Less d x r s is later h = later h
there_one Equal d x r s is later h = ap not is
there_one Greater d x r s is later h = later h

module _ (inner : List ℕ → Data → Read Data) where
  -- a member that is read, and the others
  abbrev Taken : List ℕ → Data → Members → Members → Type 0
  Taken k d ms ns = (x : Data) × (more : Members) × (inner k d ≡ Ok x) × (plain_members inner ms ≡ Ok more) × (ns ≡ member k x more)

  taken : (k : List ℕ) (d : Data) (ms ns : Members) → and_then (below (shown_name k) (λ x. x) (inner k d)) (λ x. below [] (member k x) (plain_members inner ms)) ≡ Ok ns → Taken k d ms ns
  taken k d ms ns h =
      let one = and_then_ok (below (shown_name k) (λ x. x) (inner k d)) (λ x. below [] (member k x) (plain_members inner ms)) ns h in
      let found = below_ok (shown_name k) (λ x. x) (inner k d) one.0 one.1 in
      let more = below_ok [] (member k one.0) (plain_members inner ms) ns one.2 in (found.0, more.0, found.1, more.1, more.2 ∙ ap (λ x. member k x more.0) found.2)

  module _ (full : (k : List ℕ) (d x : Data) → inner k d ≡ Ok x → is_null x ≡ false) where
    members_there : (ms ns : Members) → plain_members inner ms ≡ Ok ns → AreThere ms ns
    members_there no_members ns h n there = absurd (true≢false (sym there))
    members_there (member k d ms) ns h n there = by_null (is_null d) refl h (λ more read. members_there ms more read n)
      where
        by_null : (b : Bool) → is_null d ≡ b → cond b (plain_members inner ms) (and_then (below (shown_name k) (λ x. x) (inner k d)) (λ x. below [] (member k x) (plain_members inner ms))) ≡ Ok ns
            → ((more : Members) → plain_members inner ms ≡ Ok more → is_there (get_member n ms) ≡ true → is_there (get_member n more) ≡ true) → is_there (get_member n ns) ≡ true
        by_null true is h later = there_null (slice_cmp nat_cmp n k) d (get_member n ms) (get_member n ns) is (later ns h) there
        by_null false is h later =
            let t = taken k d ms ns h in
            ap (λ m. is_there (get_member n m)) t.4 ∙ there_one (slice_cmp nat_cmp n k) d t.0 (get_member n ms) (get_member n t.1) (full k d t.0 t.2) (later t.1 t.3) there

    module _ (leaf : (k : List ℕ) (d x : Data) → inner k d ≡ Ok x → IsEncodable d → Leaf (inner k) d x) where
      one_leaf : (k : List ℕ) (d x : Data) (ms more : Members) → inner k d ≡ Ok x → IsEncodable d → MembersLeaf inner ms more → MembersLeaf inner (member k d ms) (member k x more)
      one_leaf k d x ms more read encodable rest =
          let one = leaf k d x read encodable in
          let shallow : depth x ≤ depth d = one.2 in
          let others = rest.shallow in
          record {
            again =
                ap (λ b. cond b (plain_members inner more) (and_then (below (shown_name k) (λ y. y) (inner k x)) (λ y. below [] (member k y) (plain_members inner more)))) (full k d x read)
                ∙ ap (λ r. and_then (below (shown_name k) (λ y. y) r) (λ y. below [] (member k y) (plain_members inner more))) one.0 ∙ ap (below [] (member k x)) rest.again;
            from = λ n up. let p = and_parts (is_lt (slice_cmp nat_cmp n k)) _ up in both_true p.0 (rest.from k p.1);
            order = λ up. rest.from k up;
            encodable = (one.1, rest.encodable);
            shallow = omega (arith, shallow, others);
          }

      members_leaf : (ms ns : Members) → plain_members inner ms ≡ Ok ns → MembersAreEncodable ms → MembersLeaf inner ms ns
      members_leaf no_members ns h encodable =
          subst (MembersLeaf inner no_members) (ok_is no_members ns h) (record { again = refl; from = λ n up. up; order = λ up. up; encodable = tt; shallow = omega arith })
      members_leaf (member k d ms) ns h encodable = by_null (is_null d) h (λ more read. members_leaf ms more read encodable.1)
        where
          by_null : (b : Bool) → cond b (plain_members inner ms) (and_then (below (shown_name k) (λ x. x) (inner k d)) (λ x. below [] (member k x) (plain_members inner ms))) ≡ Ok ns
              → ((more : Members) → plain_members inner ms ≡ Ok more → MembersLeaf inner ms more) → MembersLeaf inner (member k d ms) ns
          by_null true h later =
              let rest = later ns h in
              let others = rest.shallow in
              record {
                again = rest.again;
                from = λ n up. rest.from n (ascend_skip n k (member_names ms) up);
                order = λ up. rest.order (ascend_rest k (member_names ms) up);
                encodable = rest.encodable;
                shallow = omega (arith, others);
              }
          by_null false h later = let t = taken k d ms ns h in subst (MembersLeaf inner (member k d ms)) (sym t.4) (one_leaf k d t.0 ms t.1 t.2 encodable.0 (later t.1 t.3))

      object_leaf : (d x : Data) → and_then (some_or NotAnObject (as_object d)) (λ ms. below [] object (plain_members inner ms)) ≡ Ok x → IsEncodable d
          → Leaf (λ e. and_then (some_or NotAnObject (as_object e)) (λ ms. below [] object (plain_members inner ms))) d x
      object_leaf null x h encodable = absurd (err_not_ok _ x h)
      object_leaf (boolean b) x h encodable = absurd (err_not_ok _ x h)
      object_leaf (number n) x h encodable = absurd (err_not_ok _ x h)
      object_leaf (string s) x h encodable = absurd (err_not_ok _ x h)
      object_leaf (array ds) x h encodable = absurd (err_not_ok _ x h)
      object_leaf (object ms) x h encodable =
          let made = below_ok [] object (plain_members inner ms) x h in
          let kept = members_leaf ms made.0 made.1 encodable.1 in
          let others = kept.shallow in
          subst (Leaf (λ e. and_then (some_or NotAnObject (as_object e)) (λ ms. below [] object (plain_members inner ms))) (object ms)) (sym made.2)
          (ap (below [] object) kept.again, (kept.order encodable.0, kept.encodable), omega (arith, others))

-- ---- items

module _ (inner : Data → Read Data) (leaf : (d x : Data) → inner d ≡ Ok x → IsEncodable d → Leaf inner d x) where
  abbrev ItemsLeaf : ℕ → Items → Items → Type 0
  ItemsLeaf i ds es = (plain_items inner i es ≡ Ok es) × (AreEncodable es) × (items_depth es ≤ items_depth ds)

  items_leaf : (i : ℕ) (ds es : Items) → plain_items inner i ds ≡ Ok es → AreEncodable ds → ItemsLeaf i ds es
  items_leaf i no_items es h encodable = subst (ItemsLeaf i no_items) (ok_is no_items es h) (refl, tt, omega arith)
  items_leaf i (item d ds) es h encodable =
      let one = and_then_ok (below (shown_place i) (λ x. x) (inner d)) (λ x. below [] (item x) (plain_items inner (suc i) ds)) es h in
      let found = below_ok (shown_place i) (λ x. x) (inner d) one.0 one.1 in
      let more = below_ok [] (item one.0) (plain_items inner (suc i) ds) es one.2 in
      let x = found.0 in
      let kept = leaf d x found.1 encodable.0 in
      let rest = items_leaf (suc i) ds more.0 more.1 encodable.1 in
      let first : depth x ≤ depth d = kept.2 in
      let others : items_depth more.0 ≤ items_depth ds = rest.2 in
      subst (ItemsLeaf i (item d ds)) (sym (more.2 ∙ ap (λ y. item y more.0) found.2))
      (ap (λ r. and_then (below (shown_place i) (λ y. y) r) (λ y. below [] (item y) (plain_items inner (suc i) more.0))) kept.0 ∙ ap (below [] (item x)) rest.0, (kept.1, rest.1), omega (arith, first, others))

  array_leaf : (d x : Data) → and_then (some_or WrongType (as_array d)) (λ ds. below [] array (plain_items inner 0 ds)) ≡ Ok x → IsEncodable d
      → Leaf (λ e. and_then (some_or WrongType (as_array e)) (λ ds. below [] array (plain_items inner 0 ds))) d x
  array_leaf null x h encodable = absurd (err_not_ok _ x h)
  array_leaf (boolean b) x h encodable = absurd (err_not_ok _ x h)
  array_leaf (number n) x h encodable = absurd (err_not_ok _ x h)
  array_leaf (string s) x h encodable = absurd (err_not_ok _ x h)
  array_leaf (object ms) x h encodable = absurd (err_not_ok _ x h)
  array_leaf (array ds) x h encodable =
      let made = below_ok [] array (plain_items inner 0 ds) x h in
      let kept = items_leaf 0 ds made.0 made.1 encodable in
      let others : items_depth made.0 ≤ items_depth ds = kept.2 in
      subst (Leaf (λ e. and_then (some_or WrongType (as_array e)) (λ ds. below [] array (plain_items inner 0 ds))) (array ds)) (sym made.2)
      (ap (below [] array) kept.0, kept.1, omega (arith, others))

-- an object that is read stays one, with what was there
abbrev StaysObject : Shape → Type 0
StaysObject s = (ms : Members) (x : Data) → plain_of s (object ms) ≡ Ok x → (ns : Members) × (x ≡ object ns) × AreThere ms ns

stays_object : (s : Shape) → StaysObject s
stays_object text ms x h = absurd (err_not_ok _ x h)
stays_object whole ms x h = absurd (err_not_ok _ x h)
stays_object truth ms x h = absurd (err_not_ok _ x h)
stays_object (struct_of all b) ms x h =
    let made = below_ok [] object (plain_members (λ k e. plain_of_field all k e) ms) x h in
    (made.0, made.2, members_there (λ k e. plain_of_field all k e) (λ k d y. field_full all k d y) ms made.0 made.1)
stays_object (map_of s b) ms x h =
    let made = below_ok [] object (plain_members (λ k e. plain_of s e) ms) x h in
    (made.0, made.2, members_there (λ k e. plain_of s e) (λ k d y. plain_full s d y) ms made.0 made.1)
stays_object (list_of s kind) ms x h = absurd (err_not_ok _ x h)

keys_stay : (names : List (List ℕ)) (ms ns : Members) → AreThere ms ns → have_keys names ms ≡ true → have_keys names ns ≡ true
keys_stay [] ms ns there h = refl
keys_stay (k ∷ ks) ms ns there h = let p = and_parts (is_there (get_member k ms)) _ h in both_true (there k p.0) (keys_stay ks ms ns there p.1)

module _ (s : Shape) (leaf : (d x : Data) → plain_of s d ≡ Ok x → IsEncodable d → Leaf (plain_of s) d x) where
  abbrev of_kind : Kind → Data → Read Data
  of_kind kind = plain_item kind (λ e. plain_of s e) (λ ms. plain_of s (object ms))

  keyed_leaf : (names : List (List ℕ)) (ms : Members) (x : Data) → have_keys names ms ≡ true → plain_of s (object ms) ≡ Ok x → IsEncodable (object ms) → Leaf (of_kind (keyed names)) (object ms) x
  keyed_leaf names ms x keys h encodable =
      let kept = leaf (object ms) x h encodable in
      let stays = stays_object s ms x h in
      let there = keys_stay names ms stays.0 stays.2 keys in
      (ap (of_kind (keyed names)) stays.1 ∙ ap (λ b. cond b (plain_of s (object stays.0)) (Err (KeyFieldMissing, []))) there ∙ ap (plain_of s) (sym stays.1) ∙ kept.0, kept.1, kept.2)

  item_leaf : (kind : Kind) (d x : Data) → of_kind kind d ≡ Ok x → IsEncodable d → Leaf (of_kind kind) d x
  item_leaf set d x h encodable = leaf d x h encodable
  item_leaf atomic d x h encodable =
      either_ok (Leaf (of_kind atomic) d x) (is_null d) (Err (WrongType, [])) (plain_of s d) x h (λ wrong. absurd (err_not_ok _ x wrong)) (λ read.
      let kept = leaf d x read encodable in (ap (λ b. cond b (Err (WrongType, [])) (plain_of s x)) (plain_full s d x read) ∙ kept.0, kept.1, kept.2))
  item_leaf (keyed names) null x h encodable = absurd (err_not_ok _ x h)
  item_leaf (keyed names) (boolean b) x h encodable = absurd (err_not_ok _ x h)
  item_leaf (keyed names) (number n) x h encodable = absurd (err_not_ok _ x h)
  item_leaf (keyed names) (string t) x h encodable = absurd (err_not_ok _ x h)
  item_leaf (keyed names) (array ds) x h encodable = absurd (err_not_ok _ x h)
  item_leaf (keyed names) (object ms) x h encodable = by_keys (have_keys names ms) refl h
    where
      by_keys : (b : Bool) → have_keys names ms ≡ b → cond b (plain_of s (object ms)) (Err (KeyFieldMissing, [])) ≡ Ok x → Leaf (of_kind (keyed names)) (object ms) x
      by_keys true is h = keyed_leaf names ms x is h encodable
      by_keys false is h = absurd (err_not_ok _ x h)

-- ---- the value at a leaf

scalar_leaf : (inner : Data → Read Data) (d x : Data) → x ≡ d → inner d ≡ Ok x → IsEncodable d → Leaf inner d x
scalar_leaf inner d x same h encodable = subst (Leaf inner d) (sym same) (h ∙ ap Ok same, encodable, omega arith)

by_field : (s : Shape) (more : Fields) (known k : List ℕ) (d x : Data) (b : Bool) → bytes_eq known k ≡ b → cond b (plain_of s d) (plain_of_field more k d) ≡ Ok x → (plain_of s d ≡ Ok x → Leaf (plain_of s) d x)
    → (plain_of_field more k d ≡ Ok x → Leaf (plain_of_field more k) d x) → Leaf (plain_of_field (field known s more) k) d x
by_field s more known k d x true is h here later = let kept = here h in (ap (λ b. cond b (plain_of s x) (plain_of_field more k x)) is ∙ kept.0, kept.1, kept.2)
by_field s more known k d x false is h here later = let kept = later h in (ap (λ b. cond b (plain_of s x) (plain_of_field more k x)) is ∙ kept.0, kept.1, kept.2)

mutual
  pub plain_leaf : (s : Shape) (d x : Data) → plain_of s d ≡ Ok x → IsEncodable d → Leaf (plain_of s) d x
  plain_leaf text d x h encodable = scalar_leaf (plain_of text) d x (below_ok [] (λ s. d) (text_in d) x h).2 h encodable
  plain_leaf whole d x h encodable = scalar_leaf (plain_of whole) d x (below_ok [] (λ s. d) (whole_in d) x h).2 h encodable
  plain_leaf truth d x h encodable = scalar_leaf (plain_of truth) d x (below_ok [] (λ s. d) (truth_in d) x h).2 h encodable
  plain_leaf (struct_of all b) d x h encodable = object_leaf (λ k e. plain_of_field all k e) (λ k e y. field_full all k e y) (λ k e y. field_leaf all k e y) d x h encodable
  plain_leaf (map_of s b) d x h encodable = object_leaf (λ k e. plain_of s e) (λ k e y. plain_full s e y) (λ k e y. plain_leaf s e y) d x h encodable
  plain_leaf (list_of s kind) d x h encodable = array_leaf (plain_item kind (λ e. plain_of s e) (λ ms. plain_of s (object ms))) (item_leaf s (λ e y. plain_leaf s e y) kind) d x h encodable

  field_leaf : (all : Fields) (k : List ℕ) (d x : Data) → plain_of_field all k d ≡ Ok x → IsEncodable d → Leaf (plain_of_field all k) d x
  field_leaf no_fields k d x h encodable = absurd (err_not_ok _ x h)
  field_leaf (field known s more) k d x h encodable = by_field s more known k d x (bytes_eq known k) refl h (λ read. plain_leaf s d x read encodable) (λ read. field_leaf more k d x read encodable)
