-- What is printed of a content reads at a leaf as itself.
use Rattle.std.proofs.Common.{◌≡◌, ℕ, ℤ, suc, pos, negsuc, ◌^◌, ◌<◌, nat_lt, arith, Bool, true, false, cond, ◌&&◌, ◌||◌, is_eq, nat_cmp, List, [], ◌∷◌, Option, Some, None, is_some, option_map, Ok, Err, inl, inr, ◌⊎◌, Ordering, Less, Equal, Greater, refl, sym, ap, ap₂, ◌∙◌, true≢false, subst}
use Rattle.std.specs.Prelude.{option_and_then}
use Rattle.std.specs.Cmp.{first_so, second_so}
use Rattle.std.specs.Cmp.Lexicographic.{slice_cmp}
use Rattle.std.specs.FinMap as fin
use Rattle.std.specs.List.{AllByRecursion, list_all, list_any}
use Rattle.std.specs.Ordering.{match_ordering}
use Rattle.std.specs.Str.{bytes_eq}
use Rattle.std.proofs.lemmas.Bool.{and_parts}
use Rattle.std.proofs.lemmas.Bool.Decides.{nat_tests}
use Rattle.std.proofs.lemmas.Map.Text.{is_eq-slice_cmp}
use Rattle.std.proofs.lemmas.Slice.Eq.{bytes_eq-Decides}
use Rattle.serde_json.specs.Data.{Data, null, boolean, number, string, array, object, Items, no_items, item, Members, no_members, member, put}
use Rattle.serde_json.specs.Find.{of_integer, as_i64}
use Rattle.serde_json.specs.Written.{compact_text}
use Rattle.fieldpath.specs.Elements.{name_text, field_name}
use Rattle.pathmap.specs.Contents.{LeafValue, Content, nothing, here}
use Rattle.pathmap.specs.Contents as leaf_value
use Rattle.pathmap.specs.Insides.{inside, heads}
use Rattle.pathmap.proofs.Levels.{get-here-top}
use Rattle.pathmap.proofs.Heads.{itself}
use Rattle.pathmap.proofs.Trees.{ties}
use Rattle.fieldpath.specs.Scalars.{ascend}
use Rattle.schema.specs.Lawful.{names_of, item_is_lawful, has_keys, is_scalar, is_some_scalar, is_some_name, is_well_formed, are_well_formed}
use Rattle.schema.specs.Shape.{atomic, set, keyed, Shape, text, whole, truth, struct_of, map_of, list_of, Fields, no_fields, field, shape_at}
use Rattle.typed.specs.declared.fault.Cause.TheVariants.{WrongType, KeyFieldMissing}
use Rattle.typed.specs.Faults.{Read, below, and_then, some_or, shown_name, shown_place}
use Rattle.typed.specs.WellTyped.{IsWithin, IsAtomic, IsSetItem, HasKeys, IsItem, IsWellTyped, AreWellTyped}
use Rattle.typed.specs.Printing.{value_at, value_of, object_or_none, array_or_none, with_member, with_named, each_member, each_item, scalar_in, print, print_item, print_fields}
use Rattle.typed.specs.Printing as printing
use Rattle.typed.specs.Reading.{is_null, plain_members, plain_items, plain_item, plain_of, plain_of_field, leaf, content_of, text_in, whole_in, truth_in}
use Rattle.typed.proofs.ElementTexts.{value_element, key_element, scalar_reads}
use Rattle.typed.proofs.Floats.{below_ok, err_not_ok}
use Rattle.typed.proofs.KeyFields.{AreRising, ascend_rising, AreKeys, keys_fit, keys_there, keys_found, fields_keep}
use Rattle.typed.proofs.Prints.{print-nothing}
use Rattle.typed.proofs.RoundTrip.{lives, one_so, other_so, leaf_is}

-- ---- a field found by its name

abbrev pub AllAt : Fields → Fields → Type 0
AllAt all no_fields = Unit {0}
AllAt all (field f s more) = (shape_at f all ≡ Some s) × AllAt all more

not_above : (f k : List ℕ) (ns : List (List ℕ)) → f ≡ k → AllByRecursion (λ m. slice_cmp nat_cmp f m ≡ Less) ns → list_any (bytes_eq k) ns ≡ false
not_above f k [] is above = refl
not_above f k (n ∷ ns) is above = ap₂ (λ a b. a || b) (sym (is_eq-slice_cmp k n) ∙ ap (λ x. is_eq (slice_cmp nat_cmp x n)) (sym is) ∙ ap is_eq above.0) (not_above f k ns is above.1)

pub all_at : (all fs : Fields) → AreRising (names_of fs) → ((k : List ℕ) → list_any (bytes_eq k) (names_of fs) ≡ true → shape_at k all ≡ shape_at k fs) → AllAt all fs
all_at all no_fields rise same = tt
all_at all (field f s more) rise same = (
  same f (one_so (bytes_eq f f) (list_any (bytes_eq f) (names_of more)) (itself f)) ∙ ap (λ b. cond b (Some s) (shape_at f more)) (itself f),
  all_at all more rise.1 (λ k t.
      same k (other_so (bytes_eq k f) (list_any (bytes_eq k) (names_of more)) t) ∙ by_test k (bytes_eq f k) refl t),
)
  where
    by_test : (k : List ℕ) (b : Bool) → bytes_eq f k ≡ b → list_any (bytes_eq k) (names_of more) ≡ true → cond b (Some s) (shape_at k more) ≡ shape_at k more
    by_test k true t h = absurd (true≢false (sym h ∙ not_above f k (names_of more) ((bytes_eq-Decides f k).0 t) rise.0))
    by_test k false t h = refl

plain_field-at : (all : Fields) (k : List ℕ) (d : Data) (s : Shape) → shape_at k all ≡ Some s → plain_of_field all k d ≡ plain_of s d
plain_field-at no_fields k d s h = absurd (true≢false (sym (ap is_some h)))
plain_field-at (field known t more) k d s h = by_test (bytes_eq known k) h (plain_field-at more k d s)
  where
    shape_or : Option Shape → Shape
    shape_or None = t
    shape_or (Some u) = u

    by_test : (b : Bool) → cond b (Some t) (shape_at k more) ≡ Some s → (shape_at k more ≡ Some s → plain_of_field more k d ≡ plain_of s d) → cond b (plain_of t d) (plain_of_field more k d) ≡ plain_of s d
    by_test true h later = ap (λ o. plain_of (shape_or o) d) h
    by_test false h later = later h

-- ---- what reads as itself

pub null_read : (s : Shape) (x : Data) → plain_of s null ≡ Ok x → ⊥
null_read text x h = err_not_ok _ x h
null_read whole x h = err_not_ok _ x h
null_read truth x h = err_not_ok _ x h
null_read (struct_of all b) x h = err_not_ok _ x h
null_read (map_of s b) x h = err_not_ok _ x h
null_read (list_of s kind) x h = err_not_ok _ x h

no_null : (s : Shape) (d x : Data) → plain_of s d ≡ Ok x → is_null d ≡ false
no_null s null x h = absurd (null_read s x h)
no_null s (boolean b) x h = refl
no_null s (number n) x h = refl
no_null s (string t) x h = refl
no_null s (array ds) x h = refl
no_null s (object ms) x h = refl

abbrev pub Plain : (Data → Read Data) → Option Data → Type 0
Plain inner None = Unit {0}
Plain inner (Some d) = inner d ≡ Ok d

module _ (inner : List ℕ → Data → Read Data) where
  abbrev PlainMember : List ℕ → Option Data → Type 0
  PlainMember k None = Unit {0}
  PlainMember k (Some d) = (is_null d ≡ false) × (inner k d ≡ Ok d)

  abbrev PlainMembers : Members → Type 0
  PlainMembers no_members = Unit {0}
  PlainMembers (member k d ms) = PlainMember k (Some d) × PlainMembers ms

  members_plain : (ms : Members) → PlainMembers ms → plain_members inner ms ≡ Ok ms
  members_plain no_members plain = refl
  members_plain (member k d ms) plain =
      ap (λ b. cond b (plain_members inner ms) (and_then (below (shown_name k) (λ y. y) (inner k d)) (λ y. below [] (member k y) (plain_members inner ms)))) plain.0.0
      ∙ ap (λ r. and_then (below (shown_name k) (λ y. y) r) (λ y. below [] (member k y) (plain_members inner ms))) plain.0.1 ∙ ap (below [] (member k d)) (members_plain ms plain.1)

  put_plain : (k : List ℕ) (d : Data) → PlainMember k (Some d) → (ms : Members) → PlainMembers ms → PlainMembers (put k d ms)
  put_plain k d one no_members plain = (one, tt)
  put_plain k d one (member l e ms) plain = by_order (slice_cmp nat_cmp k l) refl (put_plain k d one ms plain.1)
    where
      by_order : (o : Ordering) → slice_cmp nat_cmp k l ≡ o → PlainMembers (put k d ms) → PlainMembers (match_ordering o (member k d (member l e ms)) (member l d ms) (member l e (put k d ms)))
      by_order Less is later = (one, plain)
      by_order Equal is later = ((one.0, subst (λ n. inner n d ≡ Ok d) (ties k l (ap is_eq is)) one.1), plain.1)
      by_order Greater is later = (plain.0, later)

  with_plain : (k : List ℕ) (o : Option Data) → PlainMember k o → (ms : Members) → PlainMembers ms → PlainMembers (with_member k o ms)
  with_plain k None one ms plain = plain
  with_plain k (Some d) one ms plain = put_plain k d one ms plain

  named_plain : (n : Option (List ℕ)) (o : Option Data) → ((k : List ℕ) → PlainMember k o) → (ms : Members) → PlainMembers ms → PlainMembers (with_named n o ms)
  named_plain None o one ms plain = plain
  named_plain (Some k) o one ms plain = with_plain k o (one k) ms plain

  each_plain : (pr : List ℕ → Option Data) → ((e k : List ℕ) → PlainMember k (pr e)) → (es : List (List ℕ)) (ms : Members) → PlainMembers ms → PlainMembers (each_member pr es ms)
  each_plain pr one [] ms plain = plain
  each_plain pr one (e ∷ es) ms plain = each_plain pr one es (with_named (field_name e) (pr e) ms) (named_plain (field_name e) (pr e) (one e) ms plain)

  object_plain : (s : Shape) → ((xs : Members) → plain_of s (object xs) ≡ below [] object (plain_members inner xs)) → (ms : Members) → PlainMembers ms → Plain (plain_of s) (object_or_none ms)
  object_plain s at no_members plain = tt
  object_plain s at (member k d ms) plain = at (member k d ms) ∙ ap (below [] object) (members_plain (member k d ms) plain)

-- ---- items

module _ (inner : Data → Read Data) where
  abbrev PlainItems : Items → Type 0
  PlainItems no_items = Unit {0}
  PlainItems (item d ds) = (inner d ≡ Ok d) × PlainItems ds

  items_plain : (i : ℕ) (ds : Items) → PlainItems ds → plain_items inner i ds ≡ Ok ds
  items_plain i no_items plain = refl
  items_plain i (item d ds) plain =
      ap (λ r. and_then (below (shown_place i) (λ y. y) r) (λ y. below [] (item y) (plain_items inner (suc i) ds))) plain.0 ∙ ap (below [] (item d)) (items_plain (suc i) ds plain.1)

  with_item_plain : (o : Option Data) (ds : Items) → Plain inner o → PlainItems ds → PlainItems (printing.with_item o ds)
  with_item_plain None ds one plain = plain
  with_item_plain (Some d) ds one plain = (one, plain)

  each_item_plain : (pr : List ℕ → Option Data) (es : List (List ℕ)) → AllByRecursion (λ e. Plain inner (pr e)) es → PlainItems (each_item pr es)
  each_item_plain pr [] one = tt
  each_item_plain pr (e ∷ es) one = with_item_plain (pr e) (each_item pr es) one.0 (each_item_plain pr es one.1)

  array_plain : (s : Shape) → ((xs : Items) → plain_of s (array xs) ≡ below [] array (plain_items inner 0 xs)) → (ds : Items) → PlainItems ds → Plain (plain_of s) (array_or_none ds)
  array_plain s at no_items plain = tt
  array_plain s at (item d ds) plain = at (item d ds) ∙ ap (below [] array) (items_plain 0 (item d ds) plain)

every : (P : List ℕ → Type 0) (hs : List (List ℕ)) → ((e : List ℕ) → list_any (bytes_eq e) hs ≡ true → P e) → AllByRecursion P hs
every P [] each = tt
every P (h ∷ hs) each = (each h (one_so (bytes_eq h h) (list_any (bytes_eq h) hs) (itself h)), every P hs (λ e t. each e (other_so (bytes_eq e h) (list_any (bytes_eq e) hs) t)))

-- ---- at a leaf

at_none : (s : Shape) (c : Content) → c ≡ nothing → Plain (plain_of s) (print s c)
at_none s c none = subst (Plain (plain_of s)) (sym (ap (print s) none ∙ print-nothing s)) tt

at_value : (s : Shape) (c : Content) (v : LeafValue) (d : Data) → c ≡ here v → value_of v ≡ Some d → plain_of s d ≡ Ok d → Plain (plain_of s) (value_at c)
at_value s c v d is value plain = subst (Plain (plain_of s)) (sym (ap (λ x. option_and_then value_of (fin.get x [])) is ∙ ap (option_and_then value_of) (get-here-top v) ∙ value)) plain

at_atomic : (s : Shape) (c : Content) → (c ≡ nothing → Plain (plain_of s) (value_at c)) → IsAtomic s c → Plain (plain_of s) (value_at c)
at_atomic s c bare (inl none) = bare none
at_atomic s c bare (inr (d, plain, reads, is)) = by_leaf (leaf_is d)
  where
    by_leaf : (leaf d ≡ nothing) ⊎ (leaf d ≡ here (leaf_value.plain (compact_text d))) → Plain (plain_of s) (value_at c)
    by_leaf (inl none) = bare (is ∙ none)
    by_leaf (inr there) = at_value s c (leaf_value.plain (compact_text d)) d (is ∙ there) reads plain

below_is : (m n : ℕ) → m < n → nat_lt m n ≡ true
below_is m n h = grind (arith, nat_tests)

within_is : (n : ℤ) → IsWithin n → as_i64 (of_integer n) ≡ Some n
within_is (pos m) lt = ap (λ b. cond b (Some (pos m)) None) (below_is m (2 ^ 63) lt)
within_is (negsuc m) lt = refl

-- ---- key fields

scalar_plain : (s : Shape) (d : Data) (x : Content) → is_scalar s ≡ true → content_of s d ≡ Ok x → plain_of s d ≡ Ok d
scalar_plain text d x h reads = let k = below_ok [] (λ s. here (leaf_value.text s)) (text_in d) x reads in ap (below [] (λ s. d)) k.1
scalar_plain whole d x h reads = let k = below_ok [] (λ n. here (leaf_value.whole n)) (whole_in d) x reads in ap (below [] (λ n. d)) k.1
scalar_plain truth d x h reads = let k = below_ok [] (λ b. here (leaf_value.truth b)) (truth_in d) x reads in ap (below [] (λ b. d)) k.1
scalar_plain (struct_of all b) d x h reads = absurd (true≢false (sym h))
scalar_plain (map_of s b) d x h reads = absurd (true≢false (sym h))
scalar_plain (list_of s kind) d x h reads = absurd (true≢false (sym h))

keys_plain : (names : List (List ℕ)) (all : Fields) (ms : Members) → list_all (λ n. is_some_scalar (shape_at n all)) names ≡ true → AreKeys names all ms → PlainMembers (λ k e. plain_of_field all k e) ms
keys_plain [] all no_members h keys = tt
keys_plain [] all (member k d ms) h keys = absurd keys
keys_plain (n ∷ ns) all no_members h keys = absurd keys
keys_plain (n ∷ ns) all (member k d ms) h keys =
    let p = and_parts (is_some_scalar (shape_at n all)) (list_all (λ n. is_some_scalar (shape_at n all)) ns) h in
    let found = keys.2 in (
      (keys.1, plain_field-at all k d found.0 (ap (λ l. shape_at l all) (sym keys.0) ∙ found.2) ∙ scalar_plain found.0 d found.1 (ap is_some_scalar (sym found.2) ∙ p.0) found.3),
      keys_plain ns all ms p.1 keys.3,
    )

-- ---- fields

-- what is printed of each field reads as itself
abbrev AllPlain : Fields → Content → Type 0
AllPlain no_fields c = Unit {0}
AllPlain (field f s more) c = Plain (plain_of s) (print s (inside (name_text f) c)) × AllPlain more c

member_of : (all : Fields) (f : List ℕ) (s : Shape) → shape_at f all ≡ Some s → (o : Option Data) → Plain (plain_of s) o → PlainMember (λ k e. plain_of_field all k e) f o
member_of all f s at None plain = tt
member_of all f s at (Some d) plain = (no_null s d d plain, plain_field-at all f d s at ∙ plain)

fields_plain : (all fs : Fields) (c : Content) (ms : Members) → AllAt all fs → AllPlain fs c → PlainMembers (λ k e. plain_of_field all k e) ms → PlainMembers (λ k e. plain_of_field all k e) (print_fields fs c ms)
fields_plain all no_fields c ms at plain h = h
fields_plain all (field f s more) c ms at plain h =
    fields_plain all more c (with_member f (print s (inside (name_text f) c)) ms) at.1 plain.1
    (with_plain (λ k e. plain_of_field all k e) f (print s (inside (name_text f) c)) (member_of all f s at.0 (print s (inside (name_text f) c)) plain.0) ms h)

-- ---- items of sets and map lists

any_member : (s : Shape) (o : Option Data) → Plain (plain_of s) o → (k : List ℕ) → PlainMember (λ k e. plain_of s e) k o
any_member s None plain k = tt
any_member s (Some d) plain k = (no_null s d d plain, plain)

set_item_plain : (s : Shape) (c : Content) (e : List ℕ) → list_any (bytes_eq e) (heads c) ≡ true → (inside e c ≡ nothing) ⊎ IsSetItem s e (inside e c) → Plain (plain_of s) (scalar_in e)
set_item_plain s c e h (inl bare) = absurd (lives c e h bare)
set_item_plain s c e h (inr (v, is, fit, there)) = let encodable = value_element e v is in subst (Plain (plain_of s)) (sym encodable.1) (scalar_reads s encodable.0 v fit encodable.2).1

abbrev keyed_plain_item : List (List ℕ) → Shape → Data → Read Data
keyed_plain_item names s = plain_item (keyed names) (λ e. plain_of s e) (λ ms. plain_of s (object ms))

item_plain : (names : List (List ℕ)) (all : Fields) (b : Bool) (c : Content) (e : List ℕ) → AreRising names → AreRising (names_of all) → list_all (λ n. is_some_scalar (shape_at n all)) names ≡ true → HasKeys names all e c
    → AllPlain all c → Plain (keyed_plain_item names (struct_of all b)) (option_map (λ ms. object (print_item (struct_of all b) c ms)) (printing.keys_in e))
item_plain names all b c e rise fields_rise scalars (ks, is, fit, top, none, bare) plain =
    let encodable = key_element e ks is in
    let ms = encodable.0 in
    let printed = print_fields all c ms in
    let keys = keys_fit names all ms ks encodable.2 fit in
    let found = keys_found names all ms printed rise keys (λ n t. fields_keep all c ms n (bare n t)) in
    let at = all_at all all fields_rise (λ k t. refl) in
    let members = members_plain (λ k e. plain_of_field all k e) printed (fields_plain all all c ms at plain (keys_plain names all ms scalars keys)) in
    subst (λ o. Plain (keyed_plain_item names (struct_of all b)) (option_map (λ ms. object (print_item (struct_of all b) c ms)) o)) (sym encodable.1)
    (ap (λ t. cond t (plain_of (struct_of all b) (object printed)) (Err (KeyFieldMissing, []))) (keys_there names all ms printed keys found) ∙ ap (below [] object) members)

-- ---- the law

mutual
  plain_back : (s : Shape) (c : Content) → is_well_formed s ≡ true → IsWellTyped s c → Plain (plain_of s) (print s c)
  plain_back text c lawful (inl none) = at_none text c none
  plain_back text c lawful (inr (s, is)) = at_value text c (leaf_value.text s) (string s) is refl refl
  plain_back whole c lawful (inl none) = at_none whole c none
  plain_back whole c lawful (inr (n, within, is)) =
      at_value whole c (leaf_value.whole n) (number (of_integer n)) is refl (ap (λ o. below [] (λ m. number (of_integer n)) (some_or WrongType o)) (within_is n within))
  plain_back truth c lawful (inl none) = at_none truth c none
  plain_back truth c lawful (inr (b, is)) = at_value truth c (leaf_value.truth b) (boolean b) is refl refl
  plain_back (struct_of all true) c lawful well_typed = at_atomic (struct_of all true) c (at_none (struct_of all true) c) well_typed
  plain_back (struct_of all false) c lawful well_typed =
      let rise = ascend_rising (names_of all) (first_so (ascend (names_of all)) (are_well_formed all) lawful) in
      object_plain (λ k e. plain_of_field all k e) (struct_of all false) (λ xs. refl) (print_fields all c no_members)
      (fields_plain all all c no_members (all_at all all rise (λ k t. refl)) (fields_back all c (second_so (ascend (names_of all)) (are_well_formed all) lawful) well_typed.1) tt)
  plain_back (map_of s true) c lawful well_typed = at_atomic (map_of s true) c (at_none (map_of s true) c) well_typed
  plain_back (map_of s false) c lawful well_typed =
      object_plain (λ k e. plain_of s e) (map_of s false) (λ xs. refl) (each_member (λ e. print s (inside e c)) (heads c) no_members)
      (each_plain (λ k e. plain_of s e) (λ e. print s (inside e c)) (λ e k. any_member s (print s (inside e c)) (plain_back s (inside e c) lawful (well_typed.1 e)) k) (heads c) no_members tt)
  plain_back (list_of s atomic) c lawful well_typed = at_atomic (list_of s atomic) c (at_none (list_of s atomic) c) well_typed
  plain_back (list_of s set) c lawful well_typed =
      array_plain (plain_of s) (list_of s set) (λ xs. refl) (each_item scalar_in (heads c))
      (each_item_plain (plain_of s) scalar_in (heads c) (every (λ e. Plain (plain_of s) (scalar_in e)) (heads c) (λ e h. set_item_plain s c e h (well_typed.1 e))))
  plain_back (list_of s (keyed names)) c lawful well_typed =
      let pr = λ (e : List ℕ). option_map (λ ms. object (print_item s (inside e c) ms)) (printing.keys_in e) in
      array_plain (keyed_plain_item names s) (list_of s (keyed names)) (λ xs. refl) (each_item pr (heads c))
      (each_item_plain (keyed_plain_item names s) pr (heads c) (every (λ e. Plain (keyed_plain_item names s) (pr e)) (heads c) (λ e h. item_back names s c lawful e h (well_typed.1 e))))

  item_back : (names : List (List ℕ)) (s : Shape) (c : Content) → is_well_formed (list_of s (keyed names)) ≡ true → (e : List ℕ) → list_any (bytes_eq e) (heads c) ≡ true → (inside e c ≡ nothing) ⊎ IsItem names s e (inside e c)
      → Plain (keyed_plain_item names s) (option_map (λ ms. object (print_item s (inside e c) ms)) (printing.keys_in e))
  item_back names s c lawful e h (inl bare) = absurd (lives c e h bare)
  item_back names text c lawful e h (inr well_typed) = absurd well_typed
  item_back names whole c lawful e h (inr well_typed) = absurd well_typed
  item_back names truth c lawful e h (inr well_typed) = absurd well_typed
  item_back names (map_of s b) c lawful e h (inr well_typed) = absurd well_typed
  item_back names (list_of s kind) c lawful e h (inr well_typed) = absurd well_typed
  item_back names (struct_of all b) c lawful e h (inr well_typed) =
      let of_list = first_so (item_is_lawful (keyed names) (struct_of all b)) (is_well_formed (struct_of all b)) lawful in
      let of_struct = second_so (item_is_lawful (keyed names) (struct_of all b)) (is_well_formed (struct_of all b)) lawful in
      let named = first_so (is_some_name names && ascend names) (has_keys names (struct_of all b)) of_list in
      let scalars = second_so (is_some_name names && ascend names) (has_keys names (struct_of all b)) of_list in
      item_plain names all b (inside e c) e (ascend_rising names (second_so (is_some_name names) (ascend names) named))
      (ascend_rising (names_of all) (first_so (ascend (names_of all)) (are_well_formed all) of_struct)) (and_parts _ _ scalars).1 well_typed.0
      (fields_back all (inside e c) (second_so (ascend (names_of all)) (are_well_formed all) of_struct) well_typed.1)

  fields_back : (fs : Fields) (c : Content) → are_well_formed fs ≡ true → AreWellTyped fs c → AllPlain fs c
  fields_back no_fields c lawful well_typed = tt
  fields_back (field f s more) c lawful well_typed =
      (plain_back s (inside (name_text f) c) (first_so (is_well_formed s) (are_well_formed more) lawful) well_typed.0, fields_back more c (second_so (is_well_formed s) (are_well_formed more) lawful) well_typed.1)

pub printed_plain : (s : Shape) (c : Content) (d : Data) → is_well_formed s ≡ true → IsWellTyped s c → print s c ≡ Some d → plain_of s d ≡ Ok d
printed_plain s c d lawful well_typed is = subst (Plain (plain_of s)) is (plain_back s c lawful well_typed)
