-- What reads under a shape is no deeper than the shape.
use Rattle.std.proofs.Common.{◌≡◌, ◌≤◌, max, ℕ, suc, ℤ, Bool, true, false, cond, true≢false, List, [], ◌∷◌, Ok, Err, refl, sym, arith}
use Rattle.std.specs.List.{list_any}
use Rattle.std.specs.Str.{bytes_eq}
use Rattle.serde_json.specs.Data.{Data, null, boolean, number, string, array, object, Items, no_items, item, Members, no_members, member, depth, items_depth, members_depth}
use Rattle.serde_json.specs.Find.{as_array, as_object}
use Rattle.fieldpath.specs.Elements.{name_text, set_item_text, list_item_text}
use Rattle.pathmap.specs.Contents.{Content, nothing, under}
use Rattle.schema.specs.Lawful.{depth_of, fields_depth}
use Rattle.schema.specs.Shape.{Kind, atomic, set, keyed, Shape, text, whole, truth, struct_of, map_of, list_of, Fields, no_fields, field}
use Rattle.typed.specs.declared.fault.Cause.TheVariants.{NotAnObject, WrongType, DuplicateItem, KeyFieldMissing}
use Rattle.typed.specs.Faults.{Read, below, and_then, some_or, shown_name, shown_place}
use Rattle.typed.specs.Reading.{is_null, text_in, whole_in, truth_in, have_keys, keys_in, plain_members, plain_items, plain_item, plain_of, plain_of_field, leaf, joined, one_member, members_at, marked, one_item, items_at, named_item, set_item, keyed_item, beside_keys, content_of, content_of_item, content_of_field}
use Rattle.typed.proofs.Floats.{err_not_ok, below_ok, and_then_ok, joined_ok, either_ok}

at_most : (a b n : ℕ) → a ≤ n → b ≤ n → max a b ≤ n
at_most a b n h k = omega (arith, h, k)

left_most : (a b n : ℕ) → n ≤ a → n ≤ max a b
left_most a b n h = omega (arith, h)

right_most : (a b n : ℕ) → n ≤ b → n ≤ max a b
right_most a b n h = omega (arith, h)

deeper : (a n : ℕ) → a ≤ n → suc a ≤ suc n
deeper a n h = omega (arith, h)

any_least : (n : ℕ) → 0 ≤ n
any_least n = omega arith

-- ---- scalars

text_flat : (n : ℕ) (d : Data) (s : List ℕ) → text_in d ≡ Ok s → depth d ≤ n
text_flat n null s h = any_least n
text_flat n (boolean b) s h = any_least n
text_flat n (number x) s h = any_least n
text_flat n (string t) s h = any_least n
text_flat n (array ds) s h = absurd (err_not_ok _ s h)
text_flat n (object ms) s h = absurd (err_not_ok _ s h)

whole_flat : (n : ℕ) (d : Data) (z : ℤ) → whole_in d ≡ Ok z → depth d ≤ n
whole_flat n null z h = any_least n
whole_flat n (boolean b) z h = any_least n
whole_flat n (number x) z h = any_least n
whole_flat n (string t) z h = any_least n
whole_flat n (array ds) z h = absurd (err_not_ok _ z h)
whole_flat n (object ms) z h = absurd (err_not_ok _ z h)

truth_flat : (n : ℕ) (d : Data) (b : Bool) → truth_in d ≡ Ok b → depth d ≤ n
truth_flat n null b h = any_least n
truth_flat n (boolean t) b h = any_least n
truth_flat n (number x) b h = any_least n
truth_flat n (string t) b h = any_least n
truth_flat n (array ds) b h = absurd (err_not_ok _ b h)
truth_flat n (object ms) b h = absurd (err_not_ok _ b h)

null_flat : (n : ℕ) (d : Data) → is_null d ≡ true → depth d ≤ n
null_flat n null h = any_least n
null_flat n (boolean b) h = any_least n
null_flat n (number x) h = any_least n
null_flat n (string s) h = any_least n
null_flat n (array ds) h = absurd (true≢false (sym h))
null_flat n (object ms) h = absurd (true≢false (sym h))

-- ---- objects and arrays

module _ (n : ℕ) where
  object_deep : {X : Type 0} (inner : Members → Read X) → ((ms : Members) (x : X) → inner ms ≡ Ok x → members_depth ms ≤ n) → (d : Data) (x : X) → and_then (some_or NotAnObject (as_object d)) inner ≡ Ok x → depth d ≤ suc n
  object_deep inner deep null x h = any_least (suc n)
  object_deep inner deep (boolean b) x h = any_least (suc n)
  object_deep inner deep (number y) x h = any_least (suc n)
  object_deep inner deep (string s) x h = any_least (suc n)
  object_deep inner deep (array ds) x h = absurd (err_not_ok _ x h)
  object_deep inner deep (object ms) x h = deeper (members_depth ms) n (deep ms x h)

  array_deep : {X : Type 0} (inner : Items → Read X) → ((ds : Items) (x : X) → inner ds ≡ Ok x → items_depth ds ≤ n) → (d : Data) (x : X) → and_then (some_or WrongType (as_array d)) inner ≡ Ok x → depth d ≤ suc n
  array_deep inner deep null x h = any_least (suc n)
  array_deep inner deep (boolean b) x h = any_least (suc n)
  array_deep inner deep (number y) x h = any_least (suc n)
  array_deep inner deep (string s) x h = any_least (suc n)
  array_deep inner deep (object ms) x h = absurd (err_not_ok _ x h)
  array_deep inner deep (array ds) x h = deeper (items_depth ds) n (deep ds x h)

-- ---- atomic values

module _ (n : ℕ) (inner : List ℕ → Data → Read Data) (deep : (k : List ℕ) (d x : Data) → inner k d ≡ Ok x → depth d ≤ n) where
  members_deep : (ms ns : Members) → plain_members inner ms ≡ Ok ns → members_depth ms ≤ n
  members_deep no_members ns h = any_least n
  members_deep (member k d ms) ns h = by_null (λ rest. members_deep ms rest) (is_null d) refl h
    where
      by_null : ((rest : Members) → plain_members inner ms ≡ Ok rest → members_depth ms ≤ n) → (b : Bool) → is_null d ≡ b
          → cond b (plain_members inner ms) (and_then (below (shown_name k) (λ x. x) (inner k d)) (λ x. below [] (member k x) (plain_members inner ms))) ≡ Ok ns → max (depth d) (members_depth ms) ≤ n
      by_null later true is h = at_most (depth d) (members_depth ms) n (null_flat n d is) (later ns h)
      by_null later false is h =
          let one = and_then_ok (below (shown_name k) (λ x. x) (inner k d)) (λ x. below [] (member k x) (plain_members inner ms)) ns h in
          let found = below_ok (shown_name k) (λ x. x) (inner k d) one.0 one.1 in
          let more = below_ok [] (member k one.0) (plain_members inner ms) ns one.2 in
          at_most (depth d) (members_depth ms) n (deep k d found.0 found.1) (later more.0 more.1)

  plain_object_deep : (d x : Data) → and_then (some_or NotAnObject (as_object d)) (λ ms. below [] object (plain_members inner ms)) ≡ Ok x → depth d ≤ suc n
  plain_object_deep = object_deep n (λ ms. below [] object (plain_members inner ms)) (λ ms x h. let made = below_ok [] object (plain_members inner ms) x h in members_deep ms made.0 made.1)

module _ (n : ℕ) (inner : Data → Read Data) (deep : (d x : Data) → inner d ≡ Ok x → depth d ≤ n) where
  items_deep : (i : ℕ) (ds es : Items) → plain_items inner i ds ≡ Ok es → items_depth ds ≤ n
  items_deep i no_items es h = any_least n
  items_deep i (item d ds) es h =
      let one = and_then_ok (below (shown_place i) (λ x. x) (inner d)) (λ x. below [] (item x) (plain_items inner (suc i) ds)) es h in
      let found = below_ok (shown_place i) (λ x. x) (inner d) one.0 one.1 in
      let more = below_ok [] (item one.0) (plain_items inner (suc i) ds) es one.2 in
      at_most (depth d) (items_depth ds) n (deep d found.0 found.1) (items_deep (suc i) ds more.0 more.1)

  plain_array_deep : (d x : Data) → and_then (some_or WrongType (as_array d)) (λ ds. below [] array (plain_items inner 0 ds)) ≡ Ok x → depth d ≤ suc n
  plain_array_deep = array_deep n (λ ds. below [] array (plain_items inner 0 ds)) (λ ds x h. let made = below_ok [] array (plain_items inner 0 ds) x h in items_deep 0 ds made.0 made.1)

  item_deep : (kind : Kind) (d x : Data) → plain_item kind inner (λ ms. inner (object ms)) d ≡ Ok x → depth d ≤ n
  item_deep set d x h = deep d x h
  item_deep atomic d x h = either_ok (depth d ≤ n) (is_null d) (Err (WrongType, [])) (inner d) x h (λ wrong. absurd (err_not_ok _ x wrong)) (deep d x)
  item_deep (keyed names) null x h = any_least n
  item_deep (keyed names) (boolean b) x h = any_least n
  item_deep (keyed names) (number y) x h = any_least n
  item_deep (keyed names) (string s) x h = any_least n
  item_deep (keyed names) (array ds) x h = absurd (err_not_ok _ x h)
  item_deep (keyed names) (object ms) x h = either_ok (depth (object ms) ≤ n) (have_keys names ms) (inner (object ms)) (Err (KeyFieldMissing, [])) x h (deep (object ms) x) (λ wrong. absurd (err_not_ok _ x wrong))

mutual
  plain_deep : (s : Shape) (d x : Data) → plain_of s d ≡ Ok x → depth d ≤ depth_of s
  plain_deep text d x h = let k = below_ok [] (λ s. d) (text_in d) x h in text_flat 1 d k.0 k.1
  plain_deep whole d x h = let k = below_ok [] (λ s. d) (whole_in d) x h in whole_flat 1 d k.0 k.1
  plain_deep truth d x h = let k = below_ok [] (λ s. d) (truth_in d) x h in truth_flat 1 d k.0 k.1
  plain_deep (struct_of all is_atomic) d x h = plain_object_deep (fields_depth all) (λ k e. plain_of_field all k e) (λ k e y. plain_field_deep all k e y) d x h
  plain_deep (map_of s is_atomic) d x h = plain_object_deep (depth_of s) (λ k e. plain_of s e) (λ k e y. plain_deep s e y) d x h
  plain_deep (list_of s kind) d x h =
      plain_array_deep (depth_of s) (plain_item kind (λ e. plain_of s e) (λ ms. plain_of s (object ms))) (item_deep (depth_of s) (λ e. plain_of s e) (λ e y. plain_deep s e y) kind) d x h

  plain_field_deep : (all : Fields) (k : List ℕ) (d x : Data) → plain_of_field all k d ≡ Ok x → depth d ≤ fields_depth all
  plain_field_deep no_fields k d x h = absurd (err_not_ok _ x h)
  plain_field_deep (field known s more) k d x h =
      either_ok (depth d ≤ max (depth_of s) (fields_depth more)) (bytes_eq known k) (plain_of s d) (plain_of_field more k d) x h
      (λ t. left_most (depth_of s) (fields_depth more) (depth d) (plain_deep s d x t)) (λ t. right_most (depth_of s) (fields_depth more) (depth d) (plain_field_deep more k d x t))

-- ---- contents

module _ (n : ℕ) (inner : List ℕ → Data → Read Content) (deep : (k : List ℕ) (d : Data) (c : Content) → inner k d ≡ Ok c → depth d ≤ n) where
  content_members_deep : (ms : Members) (c : Content) → members_at inner ms ≡ Ok c → members_depth ms ≤ n
  content_members_deep no_members c h = any_least n
  content_members_deep (member k d ms) c h =
      let parts = joined_ok (one_member inner k d) (members_at inner ms) c h in
      at_most (depth d) (members_depth ms) n (by_null (is_null d) refl parts.0.0 parts.0.1) (content_members_deep ms parts.1.0 parts.1.1)
    where
      by_null : (b : Bool) → is_null d ≡ b → (x : Content) → cond b (Ok nothing) (below (shown_name k) (under (name_text k)) (inner k d)) ≡ Ok x → depth d ≤ n
      by_null true is x h = null_flat n d is
      by_null false is x h = let found = below_ok (shown_name k) (under (name_text k)) (inner k d) x h in deep k d found.0 found.1

module _ (n : ℕ) (inner : Data → Read (List ℕ × Content)) (deep : (d : Data) (e : List ℕ × Content) → inner d ≡ Ok e → depth d ≤ n) where
  content_items_deep : (i : ℕ) (seen : List (List ℕ)) (ds : Items) (c : Content) → items_at inner i seen ds ≡ Ok c → items_depth ds ≤ n
  content_items_deep i seen no_items c h = any_least n
  content_items_deep i seen (item d ds) c h = by_item (λ more x. content_items_deep (suc i) more ds x) (inner d) refl h
    where
      by_item : ((more : List (List ℕ)) (x : Content) → items_at inner (suc i) more ds ≡ Ok x → items_depth ds ≤ n) → (r : Read (List ℕ × Content)) → inner d ≡ r
          → one_item seen (below (shown_place i) (λ e. e) r) (λ more. items_at inner (suc i) more ds) ≡ Ok c → max (depth d) (items_depth ds) ≤ n
      by_item later (Err e) is h = absurd (err_not_ok _ c h)
      by_item later (Ok e) is h =
          either_ok (max (depth d) (items_depth ds) ≤ n) (list_any (bytes_eq e.0) seen) (Err (DuplicateItem, [])) (joined (Ok (marked e.0 e.1)) (items_at inner (suc i) (e.0 ∷ seen) ds)) c h
          (λ wrong. absurd (err_not_ok (DuplicateItem, []) c wrong))
          (λ both_read. let parts = joined_ok (Ok (marked e.0 e.1)) (items_at inner (suc i) (e.0 ∷ seen) ds) c both_read in at_most (depth d) (items_depth ds) n (deep d e is) (later (e.0 ∷ seen) parts.1.0 parts.1.1))

  content_array_deep : (d : Data) (c : Content) → and_then (some_or WrongType (as_array d)) (items_at inner 0 []) ≡ Ok c → depth d ≤ suc n
  content_array_deep = array_deep n (items_at inner 0 []) (λ ds c h. content_items_deep 0 [] ds c h)

atomic_deep : (s : Shape) (d : Data) (c : Content) → below [] leaf (plain_of s d) ≡ Ok c → depth d ≤ depth_of s
atomic_deep s d c h = let found = below_ok [] leaf (plain_of s d) c h in plain_deep s d found.0 found.1

set_deep : (s : Shape) (d : Data) (e : List ℕ × Content) → set_item (plain_of s) d ≡ Ok e → depth d ≤ depth_of s
set_deep s d e h = let found = and_then_ok (plain_of s d) (λ x. named_item (set_item_text x) nothing) e h in plain_deep s d found.0 found.1

keyed_deep : (n : ℕ) (names : List (List ℕ)) (inner : Members → Read Content) → ((ms : Members) (c : Content) → inner ms ≡ Ok c → suc (members_depth ms) ≤ n) → (d : Data) (e : List ℕ × Content) → keyed_item names inner d ≡ Ok e → depth d ≤ n
keyed_deep n names inner deep null e h = any_least n
keyed_deep n names inner deep (boolean b) e h = any_least n
keyed_deep n names inner deep (number y) e h = any_least n
keyed_deep n names inner deep (string s) e h = any_least n
keyed_deep n names inner deep (array ds) e h = absurd (err_not_ok _ e h)
keyed_deep n names inner deep (object ms) e h =
    either_ok (suc (members_depth ms) ≤ n) (have_keys names ms) _ _ e h (λ reads. let found = and_then_ok (inner ms) (named_item (list_item_text (object (keys_in names ms)))) e reads in deep ms found.0 found.1) (λ wrong. absurd (err_not_ok _ e wrong))

beside_deep : (n : ℕ) (names : List (List ℕ)) (inner : List ℕ → Data → Read Content) → ((k : List ℕ) (d : Data) (c : Content) → inner k d ≡ Ok c → depth d ≤ n) → (k : List ℕ) (d : Data) (c : Content) → beside_keys names inner k d ≡ Ok c → depth d ≤ n
beside_deep n names inner deep k d c h =
    either_ok (depth d ≤ n) (list_any (bytes_eq k) names) _ (inner k d) c h (λ key. let found = below_ok [] _ (inner k d) c key in deep k d found.0 found.1) (deep k d c)

mutual
  pub content_deep : (s : Shape) (d : Data) (c : Content) → content_of s d ≡ Ok c → depth d ≤ depth_of s
  content_deep text d c h = let found = below_ok [] _ (text_in d) c h in text_flat 1 d found.0 found.1
  content_deep whole d c h = let found = below_ok [] _ (whole_in d) c h in whole_flat 1 d found.0 found.1
  content_deep truth d c h = let found = below_ok [] _ (truth_in d) c h in truth_flat 1 d found.0 found.1
  content_deep (struct_of all is_atomic) d c h =
      either_ok (depth d ≤ suc (fields_depth all)) is_atomic _ _ c h (atomic_deep (struct_of all is_atomic) d c)
      (object_deep (fields_depth all) (members_at (λ k e. content_of_field all k e)) (content_members_deep (fields_depth all) (λ k e. content_of_field all k e) (λ k e x. content_field_deep all k e x)) d c)
  content_deep (map_of s is_atomic) d c h =
      either_ok (depth d ≤ suc (depth_of s)) is_atomic _ _ c h (atomic_deep (map_of s is_atomic) d c)
      (object_deep (depth_of s) (members_at (λ k e. content_of s e)) (content_members_deep (depth_of s) (λ k e. content_of s e) (λ k e x. content_deep s e x)) d c)
  content_deep (list_of s atomic) d c h = atomic_deep (list_of s atomic) d c h
  content_deep (list_of s set) d c h = content_array_deep (depth_of s) (set_item (plain_of s)) (set_deep s) d c h
  content_deep (list_of s (keyed names)) d c h =
      content_array_deep (depth_of s) (keyed_item names (λ ms. content_of_item s names ms)) (keyed_deep (depth_of s) names (λ ms. content_of_item s names ms) (λ ms x. content_item_deep s names ms x)) d c h

  content_item_deep : (s : Shape) (names : List (List ℕ)) (ms : Members) (c : Content) → content_of_item s names ms ≡ Ok c → suc (members_depth ms) ≤ depth_of s
  content_item_deep text names ms c h = absurd (err_not_ok _ c h)
  content_item_deep whole names ms c h = absurd (err_not_ok _ c h)
  content_item_deep truth names ms c h = absurd (err_not_ok _ c h)
  content_item_deep (struct_of all is_atomic) names ms c h =
      deeper (members_depth ms) (fields_depth all)
      (content_members_deep (fields_depth all) (beside_keys names (λ k e. content_of_field all k e)) (beside_deep (fields_depth all) names (λ k e. content_of_field all k e) (λ k e x. content_field_deep all k e x)) ms c h)
  content_item_deep (map_of s is_atomic) names ms c h = absurd (err_not_ok _ c h)
  content_item_deep (list_of s kind) names ms c h = absurd (err_not_ok _ c h)

  content_field_deep : (all : Fields) (k : List ℕ) (d : Data) (c : Content) → content_of_field all k d ≡ Ok c → depth d ≤ fields_depth all
  content_field_deep no_fields k d c h = absurd (err_not_ok _ c h)
  content_field_deep (field known s more) k d c h =
      either_ok (depth d ≤ max (depth_of s) (fields_depth more)) (bytes_eq known k) (content_of s d) (content_of_field more k d) c h
      (λ t. left_most (depth_of s) (fields_depth more) (depth d) (content_deep s d c t)) (λ t. right_most (depth_of s) (fields_depth more) (depth d) (content_field_deep more k d c t))
