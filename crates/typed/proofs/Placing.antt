-- What reading gives of a spelled value is a content that the shape has.
use Rattle.std.proofs.Common.{◌≡◌, ℕ, ℤ, suc, pos, negsuc, ◌^◌, ◌<◌, ◌≤◌, nat_lt, Bool, true, false, true≢false, cond, not, ◌&&◌, ◌||◌, ◌⊎◌, inl, inr, is_eq, is_some, List, [], ◌∷◌, Option, Some, None, option_map, Ok, Err, Ordering, Less, Equal, Greater, nat_cmp, refl, sym, ap, ap₂, subst, ◌∙◌, arith}
use Rattle.std.proofs.lemmas.Bool.{and_parts, or_parts}
use Rattle.std.proofs.lemmas.Bool.Decides.{nat_tests}
use Rattle.std.proofs.lemmas.Map.Text.{is_eq-slice_cmp}
use Rattle.std.proofs.lemmas.Slice.Eq.{bytes_eq-Decides}
use Rattle.std.specs.Cmp.Derive.{both_true}
use Rattle.std.specs.Cmp.Lexicographic.{slice_cmp}
use Rattle.std.specs.FinMap as fin
use Rattle.std.specs.List.{AllByRecursion, list_all, list_any}
use Rattle.std.specs.Ordering.{is_lt, match_ordering}
use Rattle.std.specs.Prelude.{option_and_then}
use Rattle.std.specs.Str.{bytes_eq}
use Rattle.serde_json.specs.Data.{Num, unsigned, negative, float, Data, null, boolean, number, string, array, object, Items, no_items, item, Members, no_members, member, put, depth, items_depth, members_depth}
use Rattle.serde_json.specs.Find.{get_member, as_array, as_i64, as_number, as_object}
use Rattle.serde_json.specs.Read.{read, max_depth}
use Rattle.serde_json.specs.Written.{compact_text, has_float, members_have_float}
use Rattle.fieldpath.specs.Elements.{Scalar, KeyFields, has_prefix, key_members, key_text, keys_of, keys_of_members, name_text, one_more, read_element, read_json, scalar_of, scalar_text, set_item_text, list_item_text, some_keys, whole_scalar, if_canonical, scalar_data}
use Rattle.fieldpath.specs.Elements as element
use Rattle.fieldpath.specs.Paths.{PathTexts}
use Rattle.fieldpath.specs.Scalars.{ascend, ascend_from}
use Rattle.fieldpath.specs.Encodable.{IsEncodableNumber, IsEncodable, AreEncodable, MembersAreEncodable, member_names}
use Rattle.fieldpath.proofs.Encodable.{compact-read}
use Rattle.pathmap.specs.Contents.{Content, nothing, here, under, over}
use Rattle.pathmap.specs.Contents as leaf_value
use Rattle.pathmap.specs.Insides.{inside}
use Rattle.pathmap.proofs.Contents.{same, either, get-nothing, get-over, get-under-top, get-here-below, nothing-over, over-nothing}
use Rattle.pathmap.proofs.Levels.{get-here-top}
use Rattle.pathmap.proofs.Trees.{ties}
use Rattle.schema.specs.Lawful.{names_of, item_is_lawful, has_keys, is_scalar, is_some_scalar, is_some_name, is_well_formed, are_well_formed}
use Rattle.schema.specs.Place.{fits, fits_some, fit_keys}
use Rattle.schema.specs.Shape.{atomic, set, keyed, Shape, text, whole, truth, struct_of, map_of, list_of, Fields, no_fields, field, shape_at}
use Rattle.typed.specs.declared.fault.Cause.TheVariants.{NotAnObject, WrongType, DuplicateItem, KeyFieldMissing}
use Rattle.typed.specs.Faults.{Read, below, and_then, some_or, shown_name, shown_place}
use Rattle.typed.specs.WellTyped.{IsWithin, IsAtomic, is_field, IsSetItem, HasKeys, IsItem, IsWellTyped, AreWellTyped, ReadingsAreWellTyped}
use Rattle.typed.specs.Reading.{is_null, is_there, text_in, whole_in, truth_in, have_keys, put_some, keys_in, plain_of, leaf, at_field, joined, one_member, members_at, marked, one_item, items_at, named_item, set_item, keyed_item, beside_keys, content_of, content_of_item, content_of_field}
use Rattle.typed.proofs.ElementTexts.{scalar_same}
use Rattle.typed.proofs.Floats.{ok_is, err_not_ok, below_ok, and_then_ok, named_is, plain_clean, content_item_clean, keys_clean}
use Rattle.pathmap.proofs.Heads.{inside-nothing, itself}
use Rattle.pathmap.proofs.Insides.{get-inside, inside-over, inside-under}
use Rattle.typed.proofs.KeyFields.{AreRising, ascend_rising, keys_text, field-at}
use Rattle.typed.proofs.PlainAgain.{ascend_skip, ascend_rest, plain_leaf}
use Rattle.typed.proofs.Putting.{same_ok, StandsBelow, one_stands, split}
use Rattle.typed.proofs.RoundTrip.{AllFound, all_found, one_so, other_so}

-- ---- what stands inside an element

inside-marked : (g : List ℕ) (c : Content) → inside g (over (here leaf_value.mark) c) ≡ inside g c
inside-marked g c =
    same (inside g (over (here leaf_value.mark) c)) (inside g c) (λ q.
    get-inside g (over (here leaf_value.mark) c) q ∙ get-over (here leaf_value.mark) c (g ∷ q) ∙ ap (λ o. either o (fin.get c (g ∷ q))) (get-here-below leaf_value.mark g q) ∙ sym (get-inside g c q))

inside_apart : (e k : List ℕ) (a : Content) → StandsBelow k a → bytes_eq e k ≡ false → inside e a ≡ nothing
inside_apart e k a stands apart = same (inside e a) nothing (λ q. get-inside e a q ∙ stands.1 e q (is_eq-slice_cmp e k ∙ apart) ∙ sym (get-nothing q))

names_same : (k l : List ℕ) → bytes_eq (name_text k) (name_text l) ≡ bytes_eq k l
unfolding name_text
names_same k l = refl

name_is : (k l : List ℕ) → name_text k ≡ name_text l → k ≡ l
name_is k l h = (bytes_eq-Decides k l).0 (sym (names_same k l) ∙ (bytes_eq-Decides (name_text k) (name_text l)).1 h)

either_none : {X : Type 0} (a b : Option X) → a ≡ None → b ≡ None → either a b ≡ None
either_none a b p q = ap₂ either p q

-- ---- members

abbrev Good : Data → Type 0
Good d = IsEncodable d × (depth d ≤ max_depth)

not_in : (k : List ℕ) (ks : List (List ℕ)) → ascend_from k ks ≡ true → list_any (bytes_eq k) ks ≡ false
not_in k [] up = refl
not_in k (m ∷ ks) up =
    ap₂ (λ a b. a || b) (sym (is_eq-slice_cmp k m) ∙ lt_apart (slice_cmp nat_cmp k m) (and_parts (is_lt (slice_cmp nat_cmp k m)) _ up).0) (not_in k ks (ascend_skip k m ks up))
  where
    lt_apart : (o : Ordering) → is_lt o ≡ true → is_eq o ≡ false
    lt_apart Less h = refl
    lt_apart Equal h = absurd (true≢false (sym h))
    lt_apart Greater h = refl

module _ (inner : List ℕ → Data → Read Content) where
  abbrev MemberAt : List ℕ → Content → Type 0
  MemberAt e x = (k : List ℕ) × (d : Data) × Good d × (e ≡ name_text k) × (inner k d ≡ Ok x)

  abbrev NoneOr : List ℕ → Content → Type 0
  NoneOr e x = (x ≡ nothing) ⊎ MemberAt e x

  members_top : (ms : Members) (c : Content) → members_at inner ms ≡ Ok c → fin.get c [] ≡ None
  members_top no_members c h = ap (λ x. fin.get x []) (sym (same_ok nothing c h)) ∙ get-nothing []
  members_top (member k d ms) c h =
      let p = split (one_member inner k d) (members_at inner ms) c h in
      ap (λ x. fin.get x []) (sym p.4) ∙ get-over p.0 p.1 [] ∙ either_none (fin.get p.0 []) (fin.get p.1 []) (one_stands inner k d p.0 p.2).0 (members_top ms p.1 p.3)

  absent : (k : List ℕ) (ms : Members) (c : Content) → list_any (bytes_eq k) (member_names ms) ≡ false → members_at inner ms ≡ Ok c → inside (name_text k) c ≡ nothing
  absent k no_members c none h = ap (inside (name_text k)) (sym (same_ok nothing c h)) ∙ inside-nothing (name_text k)
  absent k (member l d ms) c none h =
      let q = or_parts (bytes_eq k l) (list_any (bytes_eq k) (member_names ms)) none in
      let p = split (one_member inner l d) (members_at inner ms) c h in
      ap (inside (name_text k)) (sym p.4) ∙ inside-over (name_text k) p.0 p.1
      ∙ ap₂ over (inside_apart (name_text k) (name_text l) p.0 (one_stands inner l d p.0 p.2) (names_same k l ∙ q.0)) (absent k ms p.1 q.1 p.3) ∙ nothing-over nothing

  -- what one member gives, inside its element
  one_inside : (k : List ℕ) (d : Data) (a : Content) (b : Bool) → cond b (Ok nothing) (at_field k (inner k d)) ≡ Ok a → (inside (name_text k) a ≡ nothing) ⊎ (inner k d ≡ Ok (inside (name_text k) a))
  one_inside k d a true h = inl (ap (inside (name_text k)) (sym (same_ok nothing a h)) ∙ inside-nothing (name_text k))
  one_inside k d a false h =
      let found = below_ok (shown_name k) (under (name_text k)) (inner k d) a h in
      inr (found.1 ∙ ap Ok (sym (ap (inside (name_text k)) found.2 ∙ inside-under (name_text k) (name_text k) found.0 true (itself (name_text k)))))

  here_or : (e k : List ℕ) (d : Data) (a b c : Content) → over a b ≡ c → e ≡ name_text k → Good d → inside (name_text k) b ≡ nothing
      → (inside (name_text k) a ≡ nothing) ⊎ (inner k d ≡ Ok (inside (name_text k) a)) → NoneOr e (inside e c)
  here_or e k d a b c is named good none (inl bare) = inl (ap (λ f. inside f c) named ∙ ap (inside (name_text k)) (sym is) ∙ inside-over (name_text k) a b ∙ ap₂ over bare none ∙ nothing-over nothing)
  here_or e k d a b c is named good none (inr there) =
      let found : inside e c ≡ inside (name_text k) a =
      ap (λ f. inside f c) named ∙ ap (inside (name_text k)) (sym is) ∙ inside-over (name_text k) a b ∙ ap (over (inside (name_text k) a)) none ∙ over-nothing (inside (name_text k) a) in
      inr (k, d, good, named, there ∙ ap Ok (sym found))

  by_element : (e k : List ℕ) (d : Data) (a b c : Content) (t : Bool) → bytes_eq e (name_text k) ≡ t → over a b ≡ c → Good d → inside (name_text k) b ≡ nothing → StandsBelow (name_text k) a
      → (inside (name_text k) a ≡ nothing) ⊎ (inner k d ≡ Ok (inside (name_text k) a)) → NoneOr e (inside e b) → NoneOr e (inside e c)
  by_element e k d a b c true t is good none stands one later = here_or e k d a b c is ((bytes_eq-Decides e (name_text k)).0 t) good none one
  by_element e k d a b c false t is good none stands one later =
      subst (NoneOr e) (sym (ap (inside e) (sym is) ∙ inside-over e a b ∙ ap (λ x. over x (inside e b)) (inside_apart e (name_text k) a stands t) ∙ nothing-over (inside e b))) later

  members_each : (ms : Members) (c : Content) → members_at inner ms ≡ Ok c → ascend (member_names ms) ≡ true → MembersAreEncodable ms → members_depth ms ≤ max_depth → (e : List ℕ) → NoneOr e (inside e c)
  members_each no_members c h up encodable shallow e = inl (ap (inside e) (sym (same_ok nothing c h)) ∙ inside-nothing e)
  members_each (member k d ms) c h up encodable shallow e =
      let p = split (one_member inner k d) (members_at inner ms) c h in
      let first : depth d ≤ max_depth = omega (arith, shallow) in
      let others : members_depth ms ≤ max_depth = omega (arith, shallow) in
      by_element e k d p.0 p.1 c (bytes_eq e (name_text k)) refl p.4 (encodable.0, first) (absent k ms p.1 (not_in k (member_names ms) up) p.3) (one_stands inner k d p.0 p.2)
      (one_inside k d p.0 (is_null d) p.2) (members_each ms p.1 p.3 (ascend_rest k (member_names ms) up) encodable.1 others e)

  -- the member that is found at a name was read
  abbrev WasRead : List ℕ → Data → Type 0
  WasRead n d = (y : Content) × Good d × (inner n d ≡ Ok y)

  read_at : (o : Ordering) (n k : List ℕ) (d e : Data) (a : Content) (rest : Option Data) → slice_cmp nat_cmp n k ≡ o → match_ordering o rest (Some e) rest ≡ Some d → is_null d ≡ false → Good e
      → cond (is_null e) (Ok nothing) (at_field k (inner k e)) ≡ Ok a → (rest ≡ Some d → WasRead n d) → WasRead n d
  read_at Less n k d e a rest is found full good read later = later found
  read_at Greater n k d e a rest is found full good read later = later found
  read_at Equal n k d e a rest is found full good read later =
      let one : e ≡ d = some_is found in
      let made = below_ok (shown_name k) (under (name_text k)) (inner k e) a (ap (λ b. cond b (Ok nothing) (at_field k (inner k e))) (sym (ap is_null one ∙ full)) ∙ read) in
      (made.0, subst Good one good, ap₂ inner (ties n k (ap is_eq is)) (sym one) ∙ made.1)
    where
      or_this : Option Data → Data
      or_this None = e
      or_this (Some x) = x

      some_is : Some e ≡ Some d → e ≡ d
      some_is h = ap or_this h

  member_read : (n : List ℕ) (d : Data) (ms : Members) (c : Content) → get_member n ms ≡ Some d → is_null d ≡ false → members_at inner ms ≡ Ok c → MembersAreEncodable ms → members_depth ms ≤ max_depth → WasRead n d
  member_read n d no_members c found full h encodable shallow = absurd (true≢false (sym (ap is_some found)))
  member_read n d (member k e ms) c found full h encodable shallow =
      let p = split (one_member inner k e) (members_at inner ms) c h in
      let first : depth e ≤ max_depth = omega (arith, shallow) in
      let others : members_depth ms ≤ max_depth = omega (arith, shallow) in
      read_at (slice_cmp nat_cmp n k) n k d e p.0 (get_member n ms) refl found full (encodable.0, first) p.2 (λ rest. member_read n d ms p.1 rest full p.3 encodable.1 others)

-- ---- where nothing stands

mutual
  pub nothing_well_typed : (s : Shape) → IsWellTyped s nothing
  nothing_well_typed text = inl refl
  nothing_well_typed whole = inl refl
  nothing_well_typed truth = inl refl
  nothing_well_typed (struct_of all true) = inl refl
  nothing_well_typed (struct_of all false) = ((get-nothing [], λ e q h. get-nothing (e ∷ q)), nothing_below all)
  nothing_well_typed (map_of s true) = inl refl
  nothing_well_typed (map_of s false) = ((get-nothing [], λ e q h. get-nothing (e ∷ q)), λ e. subst (IsWellTyped s) (sym (inside-nothing e)) (nothing_well_typed s))
  nothing_well_typed (list_of s atomic) = inl refl
  nothing_well_typed (list_of s set) = (get-nothing [], λ e. inl (inside-nothing e))
  nothing_well_typed (list_of s (keyed names)) = (get-nothing [], λ e. inl (inside-nothing e))

  nothing_below : (all : Fields) → AreWellTyped all nothing
  nothing_below no_fields = tt
  nothing_below (field f s more) = (subst (IsWellTyped s) (sym (inside-nothing (name_text f))) (nothing_well_typed s), nothing_below more)

-- ---- scalars

text_well_typed : (d : Data) (c : Content) → content_of text d ≡ Ok c → IsWellTyped text c
text_well_typed d c h = let k = below_ok [] (λ s. here (leaf_value.text s)) (text_in d) c h in inr (k.0, k.2)

truth_well_typed : (d : Data) (c : Content) → content_of truth d ≡ Ok c → IsWellTyped truth c
truth_well_typed d c h = let k = below_ok [] (λ b. here (leaf_value.truth b)) (truth_in d) c h in inr (k.0, k.2)

abbrev some_of : {X : Type 0} → X → Option X → X
some_of d None = d
some_of d (Some x) = x

same_some : {X : Type 0} (x y : X) → Some x ≡ Some y → x ≡ y
same_some x y h = ap (some_of x) h

below_of : (m n : ℕ) → nat_lt m n ≡ true → m < n
below_of m n h = grind (arith, nat_tests)

within_by : (b : Bool) (m : ℕ) (n : ℤ) → nat_lt m (2 ^ 63) ≡ b → cond b (Some (pos m)) None ≡ Some n → IsWithin n
within_by true m n is h = subst IsWithin (same_some (pos m) n h) (below_of m (2 ^ 63) is)
within_by false m n is h = absurd (true≢false (sym (ap is_some h)))

whole_within : (x : Num) (n : ℤ) → IsEncodableNumber x → as_i64 x ≡ Some n → IsWithin n
whole_within (unsigned m) n fit h = within_by (nat_lt m (2 ^ 63)) m n refl h
whole_within (negative (pos m)) n fit h = absurd fit
whole_within (negative (negsuc m)) n fit h = subst IsWithin (same_some (negsuc m) n h) fit
whole_within (float x) n fit h = absurd (true≢false (sym (ap is_some h)))

was_some : {X : Type 0} (o : Option X) (x : X) → some_or WrongType o ≡ Ok x → o ≡ Some x
was_some None x h = absurd (err_not_ok _ x h)
was_some (Some y) x h = ap Some (ok_is y x h)

whole_found : (d : Data) (n : ℤ) → IsEncodable d → option_and_then as_i64 (as_number d) ≡ Some n → IsWithin n
whole_found null n encodable h = absurd (true≢false (sym (ap is_some h)))
whole_found (boolean b) n encodable h = absurd (true≢false (sym (ap is_some h)))
whole_found (number x) n encodable h = whole_within x n encodable h
whole_found (string s) n encodable h = absurd (true≢false (sym (ap is_some h)))
whole_found (array ds) n encodable h = absurd (true≢false (sym (ap is_some h)))
whole_found (object ms) n encodable h = absurd (true≢false (sym (ap is_some h)))

whole_well_typed : (d : Data) (c : Content) → IsEncodable d → content_of whole d ≡ Ok c → IsWellTyped whole c
whole_well_typed d c encodable h = let k = below_ok [] (λ n. here (leaf_value.whole n)) (whole_in d) c h in inr (k.0, whole_found d k.0 encodable (was_some (option_and_then as_i64 (as_number d)) k.0 k.1), k.2)

-- what is read where a scalar is due is one, of the type due
abbrev IsScalar : Shape → Data → Type 0
IsScalar s d = (v : Scalar) × (scalar_of d ≡ Some v) × (fits s v ≡ true)

text_scalar : (d : Data) (x : List ℕ) → text_in d ≡ Ok x → IsScalar text d
text_scalar null x h = absurd (err_not_ok _ x h)
text_scalar (boolean b) x h = absurd (err_not_ok _ x h)
text_scalar (number n) x h = absurd (err_not_ok _ x h)
text_scalar (string s) x h = (element.text s, refl, refl)
text_scalar (array ds) x h = absurd (err_not_ok _ x h)
text_scalar (object ms) x h = absurd (err_not_ok _ x h)

whole_scalar_is : (d : Data) (n : ℤ) → whole_in d ≡ Ok n → IsScalar whole d
whole_scalar_is null n h = absurd (err_not_ok _ n h)
whole_scalar_is (boolean b) n h = absurd (err_not_ok _ n h)
whole_scalar_is (number x) n h = (element.whole n, ap whole_scalar (was_some (as_i64 x) n h), refl)
whole_scalar_is (string s) n h = absurd (err_not_ok _ n h)
whole_scalar_is (array ds) n h = absurd (err_not_ok _ n h)
whole_scalar_is (object ms) n h = absurd (err_not_ok _ n h)

truth_scalar : (d : Data) (b : Bool) → truth_in d ≡ Ok b → IsScalar truth d
truth_scalar null b h = absurd (err_not_ok _ b h)
truth_scalar (boolean t) b h = (element.truth t, refl, refl)
truth_scalar (number n) b h = absurd (err_not_ok _ b h)
truth_scalar (string s) b h = absurd (err_not_ok _ b h)
truth_scalar (array ds) b h = absurd (err_not_ok _ b h)
truth_scalar (object ms) b h = absurd (err_not_ok _ b h)

content_scalar : (s : Shape) (d : Data) (c : Content) → is_scalar s ≡ true → content_of s d ≡ Ok c → IsScalar s d
content_scalar text d c is h = let k = below_ok [] (λ x. here (leaf_value.text x)) (text_in d) c h in text_scalar d k.0 k.1
content_scalar whole d c is h = let k = below_ok [] (λ x. here (leaf_value.whole x)) (whole_in d) c h in whole_scalar_is d k.0 k.1
content_scalar truth d c is h = let k = below_ok [] (λ x. here (leaf_value.truth x)) (truth_in d) c h in truth_scalar d k.0 k.1
content_scalar (struct_of all b) d c is h = absurd (true≢false (sym is))
content_scalar (map_of s b) d c is h = absurd (true≢false (sym is))
content_scalar (list_of s kind) d c is h = absurd (true≢false (sym is))

-- at a leaf: the value itself, and a scalar
abbrev LeafScalar : Shape → Data → Data → Type 0
LeafScalar s d x = (x ≡ d) × IsScalar s d

plain_scalar : (s : Shape) (d x : Data) → is_scalar s ≡ true → plain_of s d ≡ Ok x → LeafScalar s d x
plain_scalar text d x is h = let k = below_ok [] (λ s. d) (text_in d) x h in (k.2, text_scalar d k.0 k.1)
plain_scalar whole d x is h = let k = below_ok [] (λ s. d) (whole_in d) x h in (k.2, whole_scalar_is d k.0 k.1)
plain_scalar truth d x is h = let k = below_ok [] (λ s. d) (truth_in d) x h in (k.2, truth_scalar d k.0 k.1)
plain_scalar (struct_of all b) d x is h = absurd (true≢false (sym is))
plain_scalar (map_of s b) d x is h = absurd (true≢false (sym is))
plain_scalar (list_of s kind) d x is h = absurd (true≢false (sym is))

-- ---- atomic values

atomic_well_typed : (s : Shape) (d : Data) (c : Content) → Good d → below [] leaf (plain_of s d) ≡ Ok c → IsAtomic s c
atomic_well_typed s d c good h =
    let k = below_ok [] leaf (plain_of s d) c h in
    let x = k.0 in
    let kept = plain_leaf s d x k.1 good.0 in
    let deep : depth x ≤ depth d = kept.2 in
    let most : depth d ≤ max_depth = good.1 in
    inr (x, kept.0, compact-read x kept.1 (plain_clean s d x k.1).1 (omega (arith, deep, most)), k.2)

-- ---- the fields of a struct

abbrev Places : Shape → Type 0
Places s = (d : Data) (c : Content) → Good d → content_of s d ≡ Ok c → IsWellTyped s c

abbrev AllPlace : Fields → Type 0
AllPlace no_fields = Unit {0}
AllPlace (field f s more) = Places s × AllPlace more

abbrev FieldAt : Fields → List ℕ → Content → Type 0
FieldAt all f x = (x ≡ nothing) ⊎ ((d : Data) × Good d × (content_of_field all f d ≡ Ok x))

one_well_typed : (all : Fields) (f : List ℕ) (s : Shape) (x : Content) → Places s → ((d : Data) → content_of_field all f d ≡ content_of s d) → FieldAt all f x → IsWellTyped s x
one_well_typed all f s x place found (inl none) = subst (IsWellTyped s) (sym none) (nothing_well_typed s)
one_well_typed all f s x place found (inr (d, good, reads)) = place d x good (sym (found d) ∙ reads)

fields_well_typed : (all fs : Fields) (c : Content) → AllFound all fs → AllPlace fs → ((f : List ℕ) → FieldAt all f (inside (name_text f) c)) → AreWellTyped fs c
fields_well_typed all no_fields c found place each = tt
fields_well_typed all (field f s more) c found place each = (one_well_typed all f s (inside (name_text f) c) place.0 found.0 (each f), fields_well_typed all more c found.1 place.1 each)

field_known : (all : Fields) (k : List ℕ) (d : Data) (x : Content) → content_of_field all k d ≡ Ok x → is_field all (name_text k) ≡ true
field_known no_fields k d x h = absurd (err_not_ok _ x h)
field_known (field known s more) k d x h = by_name (bytes_eq known k) refl h (field_known more k d x)
  where
    by_name : (b : Bool) → bytes_eq known k ≡ b → cond b (content_of s d) (content_of_field more k d) ≡ Ok x → (content_of_field more k d ≡ Ok x → is_field more (name_text k) ≡ true)
        → (bytes_eq (name_text k) (name_text known) || is_field more (name_text k)) ≡ true
    by_name true is h later =
        one_so (bytes_eq (name_text k) (name_text known)) (is_field more (name_text k)) (ap (λ l. bytes_eq (name_text k) (name_text l)) ((bytes_eq-Decides known k).0 is) ∙ itself (name_text k))
    by_name false is h later = other_so (bytes_eq (name_text k) (name_text known)) (is_field more (name_text k)) (later h)

bare_below : (e : List ℕ) (q : PathTexts) (c : Content) → inside e c ≡ nothing → fin.get c (e ∷ q) ≡ None
bare_below e q c none = sym (get-inside e c q) ∙ ap (λ x. fin.get x q) none ∙ get-nothing q

struct_each : (all : Fields) (f : List ℕ) (x : Content) → NoneOr (λ k e. content_of_field all k e) (name_text f) x → FieldAt all f x
struct_each all f x (inl none) = inl none
struct_each all f x (inr (k, d, good, is, reads)) = inr (d, good, ap (λ l. content_of_field all l d) (name_is f k is) ∙ reads)

struct_none : (all : Fields) (e : List ℕ) (q : PathTexts) (c : Content) → is_field all e ≡ false → NoneOr (λ k e. content_of_field all k e) e (inside e c) → fin.get c (e ∷ q) ≡ None
struct_none all e q c apart (inl none) = bare_below e q c none
struct_none all e q c apart (inr (k, d, good, is, reads)) = absurd (true≢false (sym (ap (is_field all) is ∙ field_known all k d (inside e c) reads) ∙ apart))

struct_well_typed : (all : Fields) (ms : Members) (c : Content) → ascend (names_of all) ≡ true → AllPlace all → Good (object ms) → members_at (λ k e. content_of_field all k e) ms ≡ Ok c → IsWellTyped (struct_of all false) c
struct_well_typed all ms c rise place good h =
    let inner : List ℕ → Data → Read Content = λ k e. content_of_field all k e in
    let deep : depth (object ms) ≤ max_depth = good.1 in
    let each = members_each inner ms c h good.0.0 good.0.1 (omega (arith, deep)) in (
      (members_top inner ms c h, λ e q apart. struct_none all e q c apart (each e)),
      fields_well_typed all all c (all_found all all (ascend_rising (names_of all) rise) (λ k d t. refl)) place (λ f. struct_each all f (inside (name_text f) c) (each (name_text f))),
    )

pub prefix_of_name : (k : List ℕ) → has_prefix 102 (name_text k) ≡ true
unfolding name_text
prefix_of_name k = refl

map_none : (s : Shape) (e : List ℕ) (q : PathTexts) (c : Content) → has_prefix 102 e ≡ false → NoneOr (λ k e. content_of s e) e (inside e c) → fin.get c (e ∷ q) ≡ None
map_none s e q c apart (inl none) = bare_below e q c none
map_none s e q c apart (inr (k, d, good, is, reads)) = absurd (true≢false (sym (ap (has_prefix 102) is ∙ prefix_of_name k) ∙ apart))

map_each : (s : Shape) (e : List ℕ) (x : Content) → Places s → NoneOr (λ k e. content_of s e) e x → IsWellTyped s x
map_each s e x place (inl none) = subst (IsWellTyped s) (sym none) (nothing_well_typed s)
map_each s e x place (inr (k, d, good, is, reads)) = place d x good reads

map_well_typed : (s : Shape) (ms : Members) (c : Content) → Places s → Good (object ms) → members_at (λ k e. content_of s e) ms ≡ Ok c → IsWellTyped (map_of s false) c
map_well_typed s ms c place good h =
    let inner : List ℕ → Data → Read Content = λ k e. content_of s e in
    let deep : depth (object ms) ≤ max_depth = good.1 in
    let each = members_each inner ms c h good.0.0 good.0.1 (omega (arith, deep)) in
    ((members_top inner ms c h, λ e q apart. map_none s e q c apart (each e)), λ e. map_each s e (inside e c) place (each e))

-- ---- items

module _ (inner : Data → Read (List ℕ × Content)) where
  abbrev ItemAt : List ℕ → Content → Type 0
  ItemAt e x = (d : Data) × (y : Content) × Good d × (inner d ≡ Ok (e, y)) × (x ≡ over (here leaf_value.mark) y)

  abbrev Split : ℕ → List (List ℕ) → Data → Items → Content → Type 0
  Split i seen d ds c =
      (e : List ℕ × Content) × (inner d ≡ Ok e) × (list_any (bytes_eq e.0) seen ≡ false) × (b : Content) × (items_at inner (suc i) (e.0 ∷ seen) ds ≡ Ok b) × (over (marked e.0 e.1) b ≡ c)

  split_item : (i : ℕ) (seen : List (List ℕ)) (d : Data) (ds : Items) (c : Content) → items_at inner i seen (item d ds) ≡ Ok c → Split i seen d ds c
  split_item i seen d ds c h = by_item (inner d) refl h
    where
      by_seen : (e : List ℕ × Content) (b : Bool) → inner d ≡ Ok e → list_any (bytes_eq e.0) seen ≡ b → cond b (Err (DuplicateItem, [])) (joined (Ok (marked e.0 e.1)) (items_at inner (suc i) (e.0 ∷ seen) ds)) ≡ Ok c → Split i seen d ds c
      by_seen e true is fresh h = absurd (err_not_ok _ c h)
      by_seen e false is fresh h =
          let p = split (Ok (marked e.0 e.1)) (items_at inner (suc i) (e.0 ∷ seen) ds) c h in
          (e, is, fresh, p.1, p.3, ap (λ x. over x p.1) (same_ok (marked e.0 e.1) p.0 p.2) ∙ p.4)

      by_item : (r : Read (List ℕ × Content)) → inner d ≡ r → one_item seen (below (shown_place i) (λ e. e) r) (λ more. items_at inner (suc i) more ds) ≡ Ok c → Split i seen d ds c
      by_item (Err e) is h = absurd (err_not_ok _ c h)
      by_item (Ok e) is h = by_seen e (list_any (bytes_eq e.0) seen) is refl h

  items_top : (i : ℕ) (seen : List (List ℕ)) (ds : Items) (c : Content) → items_at inner i seen ds ≡ Ok c → fin.get c [] ≡ None
  items_top i seen no_items c h = ap (λ x. fin.get x []) (sym (same_ok nothing c h)) ∙ get-nothing []
  items_top i seen (item d ds) c h =
      let p = split_item i seen d ds c h in
      ap (λ x. fin.get x []) (sym p.5) ∙ get-over (marked p.0.0 p.0.1) p.3 []
      ∙ either_none (fin.get (marked p.0.0 p.0.1) []) (fin.get p.3 []) (get-under-top p.0.0 (over (here leaf_value.mark) p.0.1)) (items_top (suc i) (p.0.0 ∷ seen) ds p.3 p.4)

  apart_from : (e f : List ℕ) (seen : List (List ℕ)) → list_any (bytes_eq e) seen ≡ true → list_any (bytes_eq f) seen ≡ false → bytes_eq e f ≡ false
  apart_from e f seen there fresh = by_test (bytes_eq e f) refl
    where
      by_test : (b : Bool) → bytes_eq e f ≡ b → b ≡ false
      by_test true t = absurd (true≢false (sym there ∙ ap (λ g. list_any (bytes_eq g) seen) ((bytes_eq-Decides e f).0 t) ∙ fresh))
      by_test false t = refl

  skip_item : (e : List ℕ) (f : List ℕ × Content) (b c : Content) → bytes_eq e f.0 ≡ false → over (marked f.0 f.1) b ≡ c → inside e c ≡ inside e b
  skip_item e f b c apart is =
      ap (inside e) (sym is) ∙ inside-over e (marked f.0 f.1) b ∙ ap (λ x. over x (inside e b)) (inside-under e f.0 (over (here leaf_value.mark) f.1) false apart) ∙ nothing-over (inside e b)

  -- nothing stands inside the element of an earlier item
  items_seen : (i : ℕ) (seen : List (List ℕ)) (ds : Items) (c : Content) → items_at inner i seen ds ≡ Ok c → (e : List ℕ) → list_any (bytes_eq e) seen ≡ true → inside e c ≡ nothing
  items_seen i seen no_items c h e there = ap (inside e) (sym (same_ok nothing c h)) ∙ inside-nothing e
  items_seen i seen (item d ds) c h e there =
      let p = split_item i seen d ds c h in
      skip_item e p.0 p.3 c (apart_from e p.0.0 seen there p.2) p.5 ∙ items_seen (suc i) (p.0.0 ∷ seen) ds p.3 p.4 e (other_so (bytes_eq e p.0.0) (list_any (bytes_eq e) seen) there)

  abbrev NoneOrItem : List ℕ → Content → Type 0
  NoneOrItem e x = (x ≡ nothing) ⊎ ItemAt e x

  by_item_element : (e : List ℕ) (f : List ℕ × Content) (d : Data) (b c : Content) (t : Bool) → bytes_eq e f.0 ≡ t → Good d → inner d ≡ Ok f → inside f.0 b ≡ nothing → over (marked f.0 f.1) b ≡ c
      → NoneOrItem e (inside e b) → NoneOrItem e (inside e c)
  by_item_element e f d b c true t good read bare is later =
      let named : e ≡ f.0 = (bytes_eq-Decides e f.0).0 t in
      let stands : inside e c ≡ over (here leaf_value.mark) f.1 =
      ap (λ g. inside g c) named ∙ ap (inside f.0) (sym is) ∙ inside-over f.0 (marked f.0 f.1) b
      ∙ ap₂ over (inside-under f.0 f.0 (over (here leaf_value.mark) f.1) true (itself f.0)) bare ∙ over-nothing (over (here leaf_value.mark) f.1) in
      inr (d, f.1, good, read ∙ ap (λ g. Ok (g, f.1)) (sym named), stands)
  by_item_element e f d b c false t good read bare is later = subst (NoneOrItem e) (sym (skip_item e f b c t is)) later

  items_each : (i : ℕ) (seen : List (List ℕ)) (ds : Items) (c : Content) → items_at inner i seen ds ≡ Ok c → AreEncodable ds → items_depth ds ≤ max_depth → (e : List ℕ) → NoneOrItem e (inside e c)
  items_each i seen no_items c h encodable shallow e = inl (ap (inside e) (sym (same_ok nothing c h)) ∙ inside-nothing e)
  items_each i seen (item d ds) c h encodable shallow e =
      let p = split_item i seen d ds c h in
      let first : depth d ≤ max_depth = omega (arith, shallow) in
      let others : items_depth ds ≤ max_depth = omega (arith, shallow) in
      by_item_element e p.0 d p.3 c (bytes_eq e p.0.0) refl (encodable.0, first) p.1
      (items_seen (suc i) (p.0.0 ∷ seen) ds p.3 p.4 p.0.0 (one_so (bytes_eq p.0.0 p.0.0) (list_any (bytes_eq p.0.0) seen) (itself p.0.0))) p.5
      (items_each (suc i) (p.0.0 ∷ seen) ds p.3 p.4 encodable.1 others e)

-- ---- sets

scalar_read : (x : Data) (v : Scalar) → read (compact_text x) ≡ Some x → scalar_of x ≡ Some v → read_element (scalar_text x) ≡ Ok (element.value v)
unfolding read_element scalar_text
scalar_read x v reads is =
    ap (read_json (118 ∷ 58 ∷ compact_text x) (λ d. option_map element.value (scalar_of d))) reads ∙ ap (λ o. if_canonical (118 ∷ 58 ∷ compact_text x) (option_map element.value o)) is
    ∙ ap (λ b. cond b (Ok (element.value v)) (Err element.not_canonical)) ((bytes_eq-Decides (118 ∷ 58 ∷ compact_text (scalar_data v)) (118 ∷ 58 ∷ compact_text x)).1 (ap (λ t. 118 ∷ 58 ∷ t) (scalar_same x v is)))

abbrev pair : List ℕ → Content → List ℕ × Content
pair e c = (e, c)

abbrev pair_text : List ℕ × Content → List ℕ
pair_text p = p.0

set_each : (s : Shape) (e : List ℕ) (x : Content) → is_scalar s ≡ true → NoneOrItem (set_item (plain_of s)) e x → (x ≡ nothing) ⊎ IsSetItem s e x
set_each s e x is (inl none) = inl none
set_each s e x is (inr (d, y, good, reads, stands)) =
    let k = and_then_ok (plain_of s d) (λ x. named_item (set_item_text x) nothing) (pair e y) reads in
    let z = k.0 in
    let one = plain_scalar s d z is k.1 in
    let v = one.1.0 in
    let scalar : scalar_of z ≡ Some v = ap scalar_of one.0 ∙ one.1.1 in
    let clean : has_float z ≡ false = (plain_clean s d z k.1).1 in
    let good_z : Good z = subst Good (sym one.0) good in
    let back = compact-read z good_z.0 clean good_z.1 in
    let named = named_is (set_item_text z) (scalar_text z) nothing (pair e y) (ap (option_map (λ w. scalar_text z)) scalar) k.2 in
    inr (v, ap read_element (ap pair_text named) ∙ scalar_read z v back scalar, one.1.2, stands ∙ ap (λ p. over (here leaf_value.mark) p.1) named ∙ over-nothing (here leaf_value.mark))

set_well_typed : (s : Shape) (ds : Items) (c : Content) → is_scalar s ≡ true → Good (array ds) → items_at (set_item (plain_of s)) 0 [] ds ≡ Ok c → IsWellTyped (list_of s set) c
set_well_typed s ds c is good h =
    let deep : depth (array ds) ≤ max_depth = good.1 in
    (items_top (set_item (plain_of s)) 0 [] ds c h, λ e. set_each s e (inside e c) is (items_each (set_item (plain_of s)) 0 [] ds c h good.0 (omega (arith, deep)) e))

-- ---- the key fields of an item

record KeysRead (ns : List (List ℕ)) (all : Fields) (ms : Members) : Type 0 where
  pub keys : KeyFields
  pub are : keys_of_members (keys_in ns ms) ≡ Some keys
  pub fit : fit_keys ns all keys ≡ true
  pub named : member_names (keys_in ns ms) ≡ ns
  pub encodable : MembersAreEncodable (keys_in ns ms)
  pub flat : members_depth (keys_in ns ms) ≤ 0

abbrev KeyIs : Fields → Members → List ℕ → Type 0
KeyIs all ms n = (d : Data) × (v : Scalar) × (get_member n ms ≡ Some d) × (scalar_of d ≡ Some v) × (fits_some (shape_at n all) v ≡ true) × IsEncodable d

flat_scalar : (d : Data) (v : Scalar) → scalar_of d ≡ Some v → depth d ≤ 0
flat_scalar null v h = omega arith
flat_scalar (boolean b) v h = omega arith
flat_scalar (number n) v h = omega arith
flat_scalar (string s) v h = omega arith
flat_scalar (array ds) v h = absurd (true≢false (sym (ap is_some h)))
flat_scalar (object ms) v h = absurd (true≢false (sym (ap is_some h)))

put_before : (n : List ℕ) (d : Data) (ms : Members) (ns : List (List ℕ)) → member_names ms ≡ ns → AllByRecursion (λ m. slice_cmp nat_cmp n m ≡ Less) ns → put n d ms ≡ member n d ms
put_before n d no_members ns named above = refl
put_before n d (member k e ms) [] named above = absurd cc
put_before n d (member k e ms) (m ∷ ns) named above =
    let first : k ≡ m = cc in ap (λ o. match_ordering o (member n d (member k e ms)) (member k d ms) (member k e (put n d ms))) (ap (slice_cmp nat_cmp n) first ∙ above.0)

keys_more : (n : List ℕ) (ns : List (List ℕ)) (all : Fields) (ms : Members) → AllByRecursion (λ m. slice_cmp nat_cmp n m ≡ Less) ns → KeyIs all ms n → KeysRead ns all ms → KeysRead (n ∷ ns) all ms
keys_more n ns all ms above (d, v, found, scalar, fit, encodable) rest =
    let same_keys : keys_in (n ∷ ns) ms ≡ member n d (keys_in ns ms) = ap (λ o. put_some n o (keys_in ns ms)) found ∙ put_before n d (keys_in ns ms) ns rest.named above in
    let flat : members_depth (member n d (keys_in ns ms)) ≤ 0 = omega (arith, flat_scalar d v scalar, rest.flat) in
    record {
      keys = (n, v) ∷ rest.keys;
      are = ap keys_of_members same_keys ∙ ap₂ (one_more n) scalar rest.are;
      fit = both_true (both_true (itself n) fit) rest.fit;
      named = ap member_names same_keys ∙ ap (λ ks. n ∷ ks) rest.named;
      encodable = subst MembersAreEncodable (sym same_keys) (encodable, rest.encodable);
      flat = subst (λ m. members_depth m ≤ 0) (sym same_keys) flat;
    }

keys_are : (ns : List (List ℕ)) (all : Fields) (ms : Members) → AreRising ns → ((n : List ℕ) → list_any (bytes_eq n) ns ≡ true → KeyIs all ms n) → KeysRead ns all ms
keys_are [] all ms rise each = record { keys = []; are = refl; fit = refl; named = refl; encodable = tt; flat = omega arith }
keys_are (n ∷ ns) all ms rise each =
    keys_more n ns all ms rise.0 (each n (one_so (bytes_eq n n) (list_any (bytes_eq n) ns) (itself n))) (keys_are ns all ms rise.1 (λ m t. each m (other_so (bytes_eq m n) (list_any (bytes_eq m) ns) t)))

all_at : (p : List ℕ → Bool) (ns : List (List ℕ)) (n : List ℕ) → list_all p ns ≡ true → list_any (bytes_eq n) ns ≡ true → p n ≡ true
all_at p [] n h there = absurd (true≢false (sym there))
all_at p (m ∷ ns) n h there = by_test (bytes_eq n m) refl there (λ later. all_at p ns n (and_parts (p m) _ h).1 later)
  where
    by_test : (b : Bool) → bytes_eq n m ≡ b → (b || list_any (bytes_eq n) ns) ≡ true → (list_any (bytes_eq n) ns ≡ true → p n ≡ true) → p n ≡ true
    by_test true t there later = ap p ((bytes_eq-Decides n m).0 t) ∙ (and_parts (p m) _ h).0
    by_test false t there later = later there

keys_all : (ns : List (List ℕ)) (ms : Members) → have_keys ns ms ≡ true → list_all (λ k. is_there (get_member k ms)) ns ≡ true
keys_all [] ms h = refl
keys_all (k ∷ ks) ms h = let p = and_parts (is_there (get_member k ms)) _ h in both_true p.0 (keys_all ks ms p.1)

key_there : (o : Option Data) → is_there o ≡ true → (d : Data) × (o ≡ Some d) × (is_null d ≡ false)
key_there None h = absurd (true≢false (sym h))
key_there (Some d) h = (d, refl, not_so (is_null d) h)
  where
    not_so : (b : Bool) → not b ≡ true → b ≡ false
    not_so true h = absurd (true≢false (sym h))
    not_so false h = refl

scalar_there : (o : Option Shape) → is_some_scalar o ≡ true → (s : Shape) × (o ≡ Some s) × (is_scalar s ≡ true)
scalar_there None h = absurd (true≢false (sym h))
scalar_there (Some s) h = (s, refl, h)

module _ (names : List (List ℕ)) (all : Fields) where
  abbrev item_members : List ℕ → Data → Read Content
  item_members = beside_keys names (λ k e. content_of_field all k e)

  abbrev OfField : List ℕ → Data → Content → Type 0
  OfField k d x = ((list_any (bytes_eq k) names ≡ true) × (x ≡ nothing) × ((z : Content) × (content_of_field all k d ≡ Ok z))) ⊎ ((list_any (bytes_eq k) names ≡ false) × (content_of_field all k d ≡ Ok x))

  of_field : (k : List ℕ) (d : Data) (x : Content) → item_members k d ≡ Ok x → OfField k d x
  of_field k d x h = by_key (list_any (bytes_eq k) names) refl h
    where
      by_key : (b : Bool) → list_any (bytes_eq k) names ≡ b → cond b (below [] (λ c. nothing) (content_of_field all k d)) (content_of_field all k d) ≡ Ok x → OfField k d x
      by_key true t h = let found = below_ok [] (λ c. nothing) (content_of_field all k d) x h in inl (t, found.2, (found.0, found.1))
      by_key false t h = inr (t, h)

  key_content : (k : List ℕ) (d : Data) (x : Content) → OfField k d x → (z : Content) × (content_of_field all k d ≡ Ok z)
  key_content k d x (inl h) = h.2
  key_content k d x (inr h) = (x, h.1)

  key_is : (ms : Members) (c : Content) → list_all (λ n. is_some_scalar (shape_at n all)) names ≡ true → have_keys names ms ≡ true → members_at item_members ms ≡ Ok c → MembersAreEncodable ms → members_depth ms ≤ max_depth
      → (n : List ℕ) → list_any (bytes_eq n) names ≡ true → KeyIs all ms n
  key_is ms c scalars keys h encodable shallow n named =
      let there = key_there (get_member n ms) (all_at (λ k. is_there (get_member k ms)) names n (keys_all names ms keys) named) in
      let d = there.0 in
      let was = member_read item_members n d ms c there.1 there.2 h encodable shallow in
      let content = key_content n d was.0 (of_field n d was.0 was.2) in
      let typed = scalar_there (shape_at n all) (all_at (λ k. is_some_scalar (shape_at k all)) names n scalars named) in
      let one = content_scalar typed.0 d content.0 typed.2 (sym (field-at all n d typed.0 typed.1) ∙ content.1) in
      (d, one.0, there.1, one.1, ap (λ o. fits_some o one.0) typed.1 ∙ one.2, was.1.0)

  item_each : (f : List ℕ) (x : Content) → NoneOr item_members (name_text f) x → FieldAt all f x
  item_each f x (inl none) = inl none
  item_each f x (inr (k, d, good, is, reads)) = by_field (of_field k d x reads)
    where
      by_field : OfField k d x → FieldAt all f x
      by_field (inl h) = inl h.1
      by_field (inr h) = inr (d, good, ap (λ l. content_of_field all l d) (name_is f k is) ∙ h.1)

  item_bare : (f : List ℕ) (x : Content) → list_any (bytes_eq f) names ≡ true → NoneOr item_members (name_text f) x → x ≡ nothing
  item_bare f x named (inl none) = none
  item_bare f x named (inr (k, d, good, is, reads)) = by_field (of_field k d x reads)
    where
      by_field : OfField k d x → x ≡ nothing
      by_field (inl h) = h.1
      by_field (inr h) = absurd (true≢false (sym named ∙ ap (λ l. list_any (bytes_eq l) names) (name_is f k is) ∙ h.0))

  item_none : (e : List ℕ) (q : PathTexts) (c : Content) → is_field all e ≡ false → NoneOr item_members e (inside e c) → fin.get c (e ∷ q) ≡ None
  item_none e q c apart (inl none) = bare_below e q c none
  item_none e q c apart (inr (k, d, good, is, reads)) =
      let content = key_content k d (inside e c) (of_field k d (inside e c) reads) in absurd (true≢false (sym (ap (is_field all) is ∙ field_known all k d content.0 content.1) ∙ apart))

some_key : (names : List (List ℕ)) (all : Fields) (ks : KeyFields) → is_some_name names ≡ true → fit_keys names all ks ≡ true → some_keys (Some ks) ≡ Some (element.key ks)
some_key [] all ks some fit = absurd (true≢false (sym some))
some_key (n ∷ ns) all [] some fit = absurd (true≢false (sym fit))
some_key (n ∷ ns) all (k ∷ ks) some fit = refl

key_read : (ms : Members) (ks : KeyFields) → read (compact_text (object ms)) ≡ Some (object ms) → keys_of_members ms ≡ Some ks → some_keys (Some ks) ≡ Some (element.key ks) → key_text (key_members ks) ≡ key_text ms
    → read_element (key_text ms) ≡ Ok (element.key ks)
unfolding read_element key_text
key_read ms ks reads are some same_text =
    ap (read_json (107 ∷ 58 ∷ compact_text (object ms)) keys_of) reads ∙ ap (λ o. if_canonical (107 ∷ 58 ∷ compact_text (object ms)) (some_keys o)) are ∙ ap (if_canonical (107 ∷ 58 ∷ compact_text (object ms))) some
    ∙ ap (λ b. cond b (Ok (element.key ks)) (Err element.not_canonical)) ((bytes_eq-Decides (107 ∷ 58 ∷ compact_text (object (key_members ks))) (107 ∷ 58 ∷ compact_text (object ms))).1 same_text)

-- ---- the items of a map list

module _ (names : List (List ℕ)) (all : Fields) (some : is_some_name names ≡ true) (rise : ascend names ≡ true) (scalars : list_all (λ n. is_some_scalar (shape_at n all)) names ≡ true) (fields_rise : ascend (names_of all) ≡ true) (place : AllPlace all) where
  abbrev IsKeyed : List ℕ → Content → Type 0
  IsKeyed e x = HasKeys names all e x × AreWellTyped all x

  item_of : (ms : Members) (y : Content) → Good (object ms) → have_keys names ms ≡ true → members_at (item_members names all) ms ≡ Ok y → members_have_float ms ≡ false
      → IsKeyed (key_text (keys_in names ms)) (over (here leaf_value.mark) y)
  item_of ms y good keys h clean =
      let deep : depth (object ms) ≤ max_depth = good.1 in
      let shallow : members_depth ms ≤ max_depth = omega (arith, deep) in
      let each = members_each (item_members names all) ms y h good.0.0 good.0.1 shallow in
      let ks = keys_are names all ms (ascend_rising names rise) (key_is names all ms y scalars keys h good.0.1 shallow) in
      let up : ascend (member_names (keys_in names ms)) ≡ true = ap ascend ks.named ∙ rise in
      let flat : depth (object (keys_in names ms)) ≤ max_depth = omega (arith, ks.flat) in
      let back = compact-read (object (keys_in names ms)) (up, ks.encodable) (keys_clean names ms clean) flat in
      let reads_as = key_read (keys_in names ms) ks.keys back ks.are (some_key names all ks.keys some ks.fit) (keys_text (keys_in names ms) ks.keys ks.are) in
      let marked_top : fin.get (over (here leaf_value.mark) y) [] ≡ Some leaf_value.mark = get-over (here leaf_value.mark) y [] ∙ ap (λ o. either o (fin.get y [])) (get-here-top leaf_value.mark) in
      let below_mark = λ (g : List ℕ) (q : PathTexts). get-over (here leaf_value.mark) y (g ∷ q) ∙ ap (λ o. either o (fin.get y (g ∷ q))) (get-here-below leaf_value.mark g q) in (
        (
          ks.keys,
          reads_as,
          ks.fit,
          marked_top,
          (λ g q apart. below_mark g q ∙ item_none names all g q y apart (each g)),
          (λ f named. inside-marked (name_text f) y ∙ item_bare names all f (inside (name_text f) y) named (each (name_text f))),
        ),
        fields_well_typed all all (over (here leaf_value.mark) y) (all_found all all (ascend_rising (names_of all) fields_rise) (λ k d t. refl)) place (λ f.
            subst (FieldAt all f) (sym (inside-marked (name_text f) y)) (item_each names all f (inside (name_text f) y) (each (name_text f)))),
      )

  -- the key fields that are read name the item
  keys_named : (ms : Members) (y : Content) → Good (object ms) → have_keys names ms ≡ true → members_at (item_members names all) ms ≡ Ok y → list_item_text (object (keys_in names ms)) ≡ Some (key_text (keys_in names ms))
  unfolding key_text
  keys_named ms y good keys h =
      let deep : depth (object ms) ≤ max_depth = good.1 in
      let shallow : members_depth ms ≤ max_depth = omega (arith, deep) in
      let ks = keys_are names all ms (ascend_rising names rise) (key_is names all ms y scalars keys h good.0.1 shallow) in
      ap (option_map (λ x. 107 ∷ 58 ∷ compact_text (object (keys_in names ms)))) (ap some_keys ks.are ∙ some_key names all ks.keys some ks.fit)

  keyed_at : (b : Bool) (d : Data) (e : List ℕ) (y x : Content) → Good d → keyed_item names (λ ms. content_of_item (struct_of all b) names ms) d ≡ Ok (e, y) → x ≡ over (here leaf_value.mark) y → IsKeyed e x
  keyed_at b null e y x good h is = absurd (err_not_ok _ (e, y) h)
  keyed_at b (boolean t) e y x good h is = absurd (err_not_ok _ (e, y) h)
  keyed_at b (number n) e y x good h is = absurd (err_not_ok _ (e, y) h)
  keyed_at b (string s) e y x good h is = absurd (err_not_ok _ (e, y) h)
  keyed_at b (array ds) e y x good h is = absurd (err_not_ok _ (e, y) h)
  keyed_at b (object ms) e y x good h is = by_keys (have_keys names ms) refl h
    where
      of_members : and_then (members_at (item_members names all) ms) (named_item (list_item_text (object (keys_in names ms)))) ≡ Ok (e, y) → have_keys names ms ≡ true → IsKeyed e x
      of_members h keys =
          let k = and_then_ok (members_at (item_members names all) ms) (named_item (list_item_text (object (keys_in names ms)))) (pair e y) h in
          let named = named_is (list_item_text (object (keys_in names ms))) (key_text (keys_in names ms)) k.0 (pair e y) (keys_named ms k.0 good keys k.1) k.2 in
          let made = item_of ms k.0 good keys k.1 (content_item_clean (struct_of all b) names ms k.0 k.1) in
          subst (λ z. IsKeyed e z) (sym (is ∙ ap (λ p. over (here leaf_value.mark) p.1) named)) (subst (λ f. IsKeyed f (over (here leaf_value.mark) k.0)) (sym (ap pair_text named)) made)

      by_keys : (t : Bool) → have_keys names ms ≡ t → cond t (and_then (members_at (item_members names all) ms) (named_item (list_item_text (object (keys_in names ms))))) (Err (KeyFieldMissing, [])) ≡ Ok (e, y) → IsKeyed e x
      by_keys true keys h = of_members h keys
      by_keys false keys h = absurd (err_not_ok _ (e, y) h)

  keyed_each : (b : Bool) (e : List ℕ) (x : Content) → NoneOrItem (keyed_item names (λ ms. content_of_item (struct_of all b) names ms)) e x → (x ≡ nothing) ⊎ IsItem names (struct_of all b) e x
  keyed_each b e x (inl none) = inl none
  keyed_each b e x (inr (d, y, good, reads, stands)) = inr (keyed_at b d e y x good reads stands)

  list_well_typed : (b : Bool) (ds : Items) (c : Content) → Good (array ds) → items_at (keyed_item names (λ ms. content_of_item (struct_of all b) names ms)) 0 [] ds ≡ Ok c → IsWellTyped (list_of (struct_of all b) (keyed names)) c
  list_well_typed b ds c good h =
      let inner = keyed_item names (λ ms. content_of_item (struct_of all b) names ms) in
      let deep : depth (array ds) ≤ max_depth = good.1 in
      (items_top inner 0 [] ds c h, λ e. keyed_each b e (inside e c) (items_each inner 0 [] ds c h good.0 (omega (arith, deep)) e))

-- ---- the law

object_in : (d : Data) (f : Members → Read Content) (c : Content) → and_then (some_or NotAnObject (as_object d)) f ≡ Ok c → (ms : Members) × (d ≡ object ms) × (f ms ≡ Ok c)
object_in null f c h = absurd (err_not_ok _ c h)
object_in (boolean b) f c h = absurd (err_not_ok _ c h)
object_in (number n) f c h = absurd (err_not_ok _ c h)
object_in (string s) f c h = absurd (err_not_ok _ c h)
object_in (array ds) f c h = absurd (err_not_ok _ c h)
object_in (object ms) f c h = (ms, refl, h)

array_in : (d : Data) (f : Items → Read Content) (c : Content) → and_then (some_or WrongType (as_array d)) f ≡ Ok c → (ds : Items) × (d ≡ array ds) × (f ds ≡ Ok c)
array_in null f c h = absurd (err_not_ok _ c h)
array_in (boolean b) f c h = absurd (err_not_ok _ c h)
array_in (number n) f c h = absurd (err_not_ok _ c h)
array_in (string s) f c h = absurd (err_not_ok _ c h)
array_in (object ms) f c h = absurd (err_not_ok _ c h)
array_in (array ds) f c h = (ds, refl, h)

mutual
  pub place : (s : Shape) → is_well_formed s ≡ true → Places s
  place text lawful d c good h = text_well_typed d c h
  place whole lawful d c good h = whole_well_typed d c good.0 h
  place truth lawful d c good h = truth_well_typed d c h
  place (struct_of all true) lawful d c good h = atomic_well_typed (struct_of all true) d c good h
  place (struct_of all false) lawful d c good h =
      let p = and_parts (ascend (names_of all)) _ lawful in
      let found = object_in d (members_at (λ k e. content_of_field all k e)) c h in
      struct_well_typed all found.0 c p.0 (place_all all p.1) (subst Good found.1 good) found.2
  place (map_of s true) lawful d c good h = atomic_well_typed (map_of s true) d c good h
  place (map_of s false) lawful d c good h =
      let found = object_in d (members_at (λ k e. content_of s e)) c h in map_well_typed s found.0 c (place s lawful) (subst Good found.1 good) found.2
  place (list_of s atomic) lawful d c good h = atomic_well_typed (list_of s atomic) d c good h
  place (list_of s set) lawful d c good h =
      let found = array_in d (items_at (set_item (plain_of s)) 0 []) c h in set_well_typed s found.0 c (and_parts (is_scalar s) _ lawful).0 (subst Good found.1 good) found.2
  place (list_of s (keyed names)) lawful d c good h =
      let found = array_in d (items_at (keyed_item names (λ ms. content_of_item s names ms)) 0 []) c h in place_keyed names s lawful found.0 c (subst Good found.1 good) found.2

  place_keyed : (names : List (List ℕ)) (s : Shape) → is_well_formed (list_of s (keyed names)) ≡ true → (ds : Items) (c : Content) → Good (array ds) → items_at (keyed_item names (λ ms. content_of_item s names ms)) 0 [] ds ≡ Ok c
      → IsWellTyped (list_of s (keyed names)) c
  place_keyed names text lawful ds c good h = absurd (true≢false (sym (and_parts (is_some_name names && ascend names) _ (and_parts (item_is_lawful (keyed names) text) _ lawful).0).1))
  place_keyed names whole lawful ds c good h = absurd (true≢false (sym (and_parts (is_some_name names && ascend names) _ (and_parts (item_is_lawful (keyed names) whole) _ lawful).0).1))
  place_keyed names truth lawful ds c good h = absurd (true≢false (sym (and_parts (is_some_name names && ascend names) _ (and_parts (item_is_lawful (keyed names) truth) _ lawful).0).1))
  place_keyed names (map_of s b) lawful ds c good h =
      absurd (true≢false (sym (and_parts (is_some_name names && ascend names) _ (and_parts (item_is_lawful (keyed names) (map_of s b)) (is_well_formed (map_of s b)) lawful).0).1))
  place_keyed names (list_of s kind) lawful ds c good h =
      absurd (true≢false (sym (and_parts (is_some_name names && ascend names) _ (and_parts (item_is_lawful (keyed names) (list_of s kind)) (is_well_formed (list_of s kind)) lawful).0).1))
  place_keyed names (struct_of all b) lawful ds c good h =
      let both = and_parts (item_is_lawful (keyed names) (struct_of all b)) (is_well_formed (struct_of all b)) lawful in
      let item_so = and_parts (is_some_name names && ascend names) (has_keys names (struct_of all b)) both.0 in
      let names_so = and_parts (is_some_name names) (ascend names) item_so.0 in
      let scalars = (and_parts (not b) (list_all (λ n. is_some_scalar (shape_at n all)) names) item_so.1).1 in
      let struct_so = and_parts (ascend (names_of all)) (are_well_formed all) both.1 in
      list_well_typed names all names_so.0 names_so.1 scalars struct_so.0 (place_all all struct_so.1) b ds c good h

  place_all : (all : Fields) → are_well_formed all ≡ true → AllPlace all
  place_all no_fields lawful = tt
  place_all (field f s more) lawful = let p = and_parts (is_well_formed s) _ lawful in (place s p.0, place_all more p.1)

pub well_typed : ReadingsAreWellTyped
well_typed s d c lawful encodable shallow h = place s lawful d c (encodable, shallow) h
