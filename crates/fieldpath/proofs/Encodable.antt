-- What a JSON text spells, and that a value's compact text spells it.
use Rattle.std.proofs.Common.{◌≡◌, ℕ, zero, suc, ◌<◌, ◌≤◌, ◌^◌, pos, negsuc, ◌==◌, ◌&&◌, Bool, true, false, true≢false, cond, nat_lt, nat_le, List, [], Option, Some, None, option_map, option_and_then, Ordering, Less, Equal, Greater, nat_cmp, refl, sym, ap, ap₂, subst, ◌∙◌, arith, append-nil}
use Rattle.std.specs.Prelude.{⊤, drop, max, slice_index}
use Rattle.std.specs.Cmp.Derive.{both_true}
use Rattle.std.specs.Cmp.Lexicographic.{slice_cmp}
use Rattle.std.specs.Float.{binary64, float_is_finite}
use Rattle.std.specs.Ordering.{match_ordering, is_lt, ordering_reverse}
use Rattle.std.proofs.lemmas.Bool.{and_parts, or_parts}
use Rattle.std.proofs.lemmas.Bool.Decides.{nat_tests}
use Rattle.std.proofs.lemmas.Cmp.{nat_list_cmp_total}
use Rattle.fast_float.specs.Text.{Parts, digits_of, scan, nearest, with_sign, minus}
use Rattle.json.specs.Json as json
use Rattle.json.specs.Lex.{tokens}
use Rattle.json.specs.Tree as tree
use Rattle.json.specs.Tree.{HasNumbers, ItemsHaveNumbers, MembersHaveNumbers, json_tokens}
use Rattle.json.specs.Print.{IsNumber}
use Rattle.json.proofs.Printed.Decimals.{IsNumber-decimal, IsNumber-signed_decimal}
use Rattle.json.proofs.Printed.Tokens.{tokens-print}
use Rattle.json.proofs.Printed.Trees.{value-json_tokens, ArePrintable-json_tokens}
use Rattle.serde_json.specs.Data.{Num, unsigned, negative, float, Data, null, boolean, number, string, array, object, Items, no_items, item, Members, no_members, member, put, depth, items_depth, members_depth}
use Rattle.serde_json.specs.Find.{is_float}
use Rattle.serde_json.specs.Read.{number_from, float_of, number_of, is_integer, of_json, of_items, of_members, max_depth}
use Rattle.serde_json.specs.Written.{number_text, outline, items_outline, members_outline, has_float, items_have_float, members_have_float, compact_text}
use Rattle.serde_json.proofs.Nesting.{depth-read}
use Rattle.serde_json.proofs.Numbers.{number_of-decimal, number_of-negative}
use Rattle.serde_json.proofs.Texts.{print-outline}
use Rattle.fieldpath.specs.Scalars.{ascend, ascend_from}
use Rattle.fieldpath.proofs.Names.{ascend_rest, first_below, rest_above}
use Rattle.fieldpath.specs.Encodable.{IsEncodableNumber, IsEncodable, AreEncodable, MembersAreEncodable, member_names, ReadingsAreEncodable, CompactTextsReadBack}

-- ---- what is read is encodable

abbrev Given : {A : Type 0} → (A → Type 0) → Option A → Type 0
Given P None = ⊤
Given P (Some a) = P a

given_map : {A B : Type 0} (P : A → Type 0) (Q : B → Type 0) (f : A → B) → ((a : A) → P a → Q (f a)) → (o : Option A) → Given P o → Given Q (option_map f o)
given_map P Q f k None h = tt
given_map P Q f k (Some a) h = k a h

given_then : {A B : Type 0} (P : A → Type 0) (Q : B → Type 0) (f : A → Option B) → ((a : A) → P a → Given Q (f a)) → (o : Option A) → Given P o → Given Q (option_and_then f o)
given_then P Q f k None h = tt
given_then P Q f k (Some a) h = k a h

encodable_float : (b : Bool) (p : Parts) → Given IsEncodableNumber (float_of b p)
encodable_float b p = by_test (float_is_finite (nearest binary64 b p))
  where
    by_test : (t : Bool) → Given IsEncodableNumber (cond t (Some (float (nearest binary64 b p))) None)
    by_test true = tt
    by_test false = tt

below_of : (m n : ℕ) → nat_lt m n ≡ true → m < n
below_of m n h = grind (arith, nat_tests)

most_of : (m n : ℕ) → nat_le m n ≡ true → m ≤ n
most_of m n h = grind (arith, nat_tests)

encodable_unsigned : (b : Bool) (p : Parts) → (is_integer p && nat_lt (digits_of p) (2 ^ 64)) ≡ b → Given IsEncodableNumber (cond b (Some (unsigned (digits_of p))) (float_of false p))
encodable_unsigned true p is = below_of (digits_of p) (2 ^ 64) (and_parts (is_integer p) _ is).1
encodable_unsigned false p is = encodable_float false p

below_zero : (n : ℕ) → nat_lt 0 n ≡ true → n ≤ 2 ^ 63 → IsEncodableNumber (negative (with_sign true n))
below_zero zero some most = absurd (true≢false (sym some))
below_zero (suc n) some most = omega (arith, most)

encodable_negative : (b : Bool) (p : Parts) → (is_integer p && nat_lt 0 (digits_of p) && nat_le (digits_of p) (2 ^ 63)) ≡ b
    → Given IsEncodableNumber (cond b (Some (negative (with_sign true (digits_of p)))) (float_of true p))
encodable_negative true p is =
    let q = and_parts (is_integer p && nat_lt 0 (digits_of p)) _ is in below_zero (digits_of p) (and_parts (is_integer p) _ q.0).1 (most_of (digits_of p) (2 ^ 63) q.1)
encodable_negative false p is = encodable_float true p

encodable_from : (b : Bool) (p : Parts) → Given IsEncodableNumber (number_from b p)
encodable_from true p = encodable_negative _ p refl
encodable_from false p = encodable_unsigned _ p refl

encodable_number : (s : List ℕ) → Given IsEncodableNumber (number_of s)
unfolding number_of
encodable_number s = by_sign (slice_index s 0 == minus)
  where
    by_sign : (b : Bool) → Given IsEncodableNumber (cond b (number_from true (scan (drop 1 s))) (number_from false (scan s)))
    by_sign true = encodable_from true (scan (drop 1 s))
    by_sign false = encodable_from false (scan s)

put_from_at : (o : Ordering) (n k l : List ℕ) (d e : Data) (ms : Members) → slice_cmp nat_cmp k l ≡ o → is_lt (slice_cmp nat_cmp n k) ≡ true → is_lt (slice_cmp nat_cmp n l) ≡ true
    → ascend_from l (member_names ms) ≡ true → (is_lt (slice_cmp nat_cmp l k) ≡ true → ascend_from l (member_names (put k d ms)) ≡ true)
    → ascend_from n (member_names (match_ordering o (member k d (member l e ms)) (member l d ms) (member l e (put k d ms)))) ≡ true
put_from_at Less n k l d e ms is first next up later = both_true first (both_true (ap is_lt is) up)
put_from_at Equal n k l d e ms is first next up later = both_true next up
put_from_at Greater n k l d e ms is first next up later = both_true next (later (ap is_lt (nat_list_cmp_total.antisymm l k ∙ ap ordering_reverse is)))

put_from : (n k : List ℕ) (d : Data) (ms : Members) → is_lt (slice_cmp nat_cmp n k) ≡ true → ascend_from n (member_names ms) ≡ true → ascend_from n (member_names (put k d ms)) ≡ true
put_from n k d no_members first up = both_true first refl
put_from n k d (member l e ms) first up =
    let p = and_parts (is_lt (slice_cmp nat_cmp n l)) _ up in put_from_at _ n k l d e ms refl first p.0 p.1 (λ lt. put_from l k d ms lt p.1)

put_ascend_at : (o : Ordering) (k l : List ℕ) (d e : Data) (ms : Members) → slice_cmp nat_cmp k l ≡ o → ascend_from l (member_names ms) ≡ true
    → (is_lt (slice_cmp nat_cmp l k) ≡ true → ascend_from l (member_names (put k d ms)) ≡ true)
    → ascend (member_names (match_ordering o (member k d (member l e ms)) (member l d ms) (member l e (put k d ms)))) ≡ true
put_ascend_at Less k l d e ms is up later = both_true (ap is_lt is) up
put_ascend_at Equal k l d e ms is up later = up
put_ascend_at Greater k l d e ms is up later = later (ap is_lt (nat_list_cmp_total.antisymm l k ∙ ap ordering_reverse is))

-- one member more leaves them in order
pub put_ascend : (k : List ℕ) (d : Data) (ms : Members) → ascend (member_names ms) ≡ true → ascend (member_names (put k d ms)) ≡ true
put_ascend k d no_members up = refl
put_ascend k d (member l e ms) up = put_ascend_at _ k l d e ms refl up (λ lt. put_from l k d ms lt up)

put_encodable_at : (o : Ordering) (k l : List ℕ) (d e : Data) (ms : Members) → IsEncodable d → IsEncodable e → MembersAreEncodable ms → MembersAreEncodable (put k d ms)
    → MembersAreEncodable (match_ordering o (member k d (member l e ms)) (member l d ms) (member l e (put k d ms)))
put_encodable_at Less k l d e ms one other all later = (one, (other, all))
put_encodable_at Equal k l d e ms one other all later = (one, all)
put_encodable_at Greater k l d e ms one other all later = (other, later)

pub put_encodable : (k : List ℕ) (d : Data) (ms : Members) → IsEncodable d → MembersAreEncodable ms → MembersAreEncodable (put k d ms)
put_encodable k d no_members one all = (one, tt)
put_encodable k d (member l e ms) one all = put_encodable_at (slice_cmp nat_cmp k l) k l d e ms one all.0 all.1 (put_encodable k d ms one all.1)

abbrev AreInOrder : Members → Type 0
AreInOrder ms = (ascend (member_names ms) ≡ true) × MembersAreEncodable ms

mutual
  encodable_json : (j : json.Json) → Given IsEncodable (of_json j)
  encodable_json json.null = tt
  encodable_json (json.boolean b) = tt
  encodable_json (json.number s) = given_map IsEncodableNumber IsEncodable number (λ n h. h) (number_of s) (encodable_number s)
  encodable_json (json.string s) = tt
  encodable_json (json.array js) = given_map AreEncodable IsEncodable array (λ ds h. h) (of_items js) (encodable_items js)
  encodable_json (json.object ms) = given_map AreInOrder IsEncodable object (λ ns h. h) (of_members ms no_members) (encodable_members ms no_members (refl, tt))

  encodable_items : (js : json.Items) → Given AreEncodable (of_items js)
  encodable_items json.no_items = tt
  encodable_items (json.item j js) =
      given_then IsEncodable AreEncodable (λ d. option_map (item d) (of_items js)) (λ d h. given_map AreEncodable AreEncodable (item d) (λ ds k. (h, k)) (of_items js) (encodable_items js)) (of_json j) (encodable_json j)

  encodable_members : (ms : json.Members) (found : Members) → AreInOrder found → Given AreInOrder (of_members ms found)
  encodable_members json.no_members found so_far = so_far
  encodable_members (json.member k j ms) found so_far =
      given_then IsEncodable AreInOrder (λ d. of_members ms (put k d found)) (λ d h. encodable_members ms (put k d found) (put_ascend k d found so_far.0, put_encodable k d found h so_far.1)) (of_json j) (encodable_json j)

pub encodable-read : ReadingsAreEncodable
encodable-read text d h = (subst (Given IsEncodable) h (by_json (option_and_then (λ p. json.if_last p.0 p.1) (json.value max_depth (tokens text)))), depth-read text d h)
  where
    by_json : (o : Option json.Json) → Given IsEncodable (option_and_then of_json o)
    by_json None = tt
    by_json (Some j) = encodable_json j

-- ---- numbers

pub number_back : (n : Num) → IsEncodableNumber n → is_float n ≡ false → number_of (number_text n) ≡ Some n
number_back (unsigned n) fits h = number_of-decimal n fits
number_back (negative (pos n)) fits h = absurd fits
number_back (negative (negsuc n)) fits h = number_of-negative n fits
number_back (float x) fits h = absurd (true≢false h)

number_is : (n : Num) → IsEncodableNumber n → is_float n ≡ false → IsNumber (number_text n)
number_is (unsigned n) fits h = IsNumber-decimal n fits
number_is (negative (pos n)) fits h = absurd fits
number_is (negative (negsuc n)) fits h = IsNumber-signed_decimal (negsuc n) fits
number_is (float x) fits h = absurd (true≢false h)

mutual
  has_numbers : (d : Data) → IsEncodable d → has_float d ≡ false → HasNumbers (outline d)
  has_numbers null s h = tt
  has_numbers (boolean b) s h = tt
  has_numbers (number n) s h = number_is n s h
  has_numbers (string x) s h = tt
  has_numbers (array ds) s h = items_numbers ds s h
  has_numbers (object ms) s h = members_numbers ms s.1 h

  items_numbers : (ds : Items) → AreEncodable ds → items_have_float ds ≡ false → ItemsHaveNumbers (items_outline ds)
  items_numbers no_items s h = tt
  items_numbers (item d ds) s h = let p = or_parts (has_float d) _ h in (has_numbers d s.0 p.0, items_numbers ds s.1 p.1)

  members_numbers : (ms : Members) → MembersAreEncodable ms → members_have_float ms ≡ false → MembersHaveNumbers (members_outline ms)
  members_numbers no_members s h = tt
  members_numbers (member k d ms) s h = let p = or_parts (has_float d) _ h in (has_numbers d s.0 p.0, members_numbers ms s.1 p.1)

mutual
  outline_depth : (d : Data) → tree.depth (outline d) ≡ depth d
  outline_depth null = refl
  outline_depth (boolean b) = refl
  outline_depth (number n) = refl
  outline_depth (string s) = refl
  outline_depth (array ds) = ap suc (items_outline_depth ds)
  outline_depth (object ms) = ap suc (members_outline_depth ms)

  items_outline_depth : (ds : Items) → tree.items_depth (items_outline ds) ≡ items_depth ds
  items_outline_depth no_items = refl
  items_outline_depth (item d ds) = ap₂ max (outline_depth d) (items_outline_depth ds)

  members_outline_depth : (ms : Members) → tree.members_depth (members_outline ms) ≡ members_depth ms
  members_outline_depth no_members = refl
  members_outline_depth (member k d ms) = ap₂ max (outline_depth d) (members_outline_depth ms)

-- ---- members, one after another

abbrev pub both : Members → Members → Members
both no_members more = more
both (member k d ms) more = member k d (both ms more)

below_later : (l k : List ℕ) (d : Data) (ms more : Members) → ascend_from l (member_names (both ms (member k d more))) ≡ true → slice_cmp nat_cmp l k ≡ Less
below_later l k d no_members more up = first_below l k (member_names more) up
below_later l k d (member m e ms) more up =
    let rest = member_names (both ms (member k d more)) in
    nat_list_cmp_total.trans l m k (first_below l m rest up) (below_later m k d ms more (rest_above l m rest up))

-- a member above all others goes last
pub put_last : (k : List ℕ) (d : Data) (ms more : Members) → ascend (member_names (both ms (member k d more))) ≡ true → put k d ms ≡ both ms (member k d no_members)
put_last k d no_members more up = refl
put_last k d (member l e ms) more up =
    let above : slice_cmp nat_cmp k l ≡ Greater = nat_list_cmp_total.antisymm k l ∙ ap ordering_reverse (below_later l k d ms more up) in
    ap (λ o. match_ordering o (member k d (member l e ms)) (member l d ms) (member l e (put k d ms))) above ∙ ap (member l e) (put_last k d ms more (ascend_rest l _ up))

pub both_assoc : (ms : Members) (k : List ℕ) (d : Data) (more : Members) → both (both ms (member k d no_members)) more ≡ both ms (member k d more)
both_assoc no_members k d more = refl
both_assoc (member l e ms) k d more = ap (member l e) (both_assoc ms k d more)

pub both_none : (ms : Members) → both ms no_members ≡ ms
both_none no_members = refl
both_none (member l e ms) = ap (member l e) (both_none ms)

-- ---- the value that an outline is

mutual
  json_back : (d : Data) → IsEncodable d → has_float d ≡ false → of_json (outline d) ≡ Some d
  json_back null s h = refl
  json_back (boolean b) s h = refl
  json_back (number n) s h = ap (option_map number) (number_back n s h)
  json_back (string x) s h = refl
  json_back (array ds) s h = ap (option_map array) (items_back ds s h)
  json_back (object ms) s h = ap (option_map object) (members_back ms no_members s.0 s.1 h)

  items_back : (ds : Items) → AreEncodable ds → items_have_float ds ≡ false → of_items (items_outline ds) ≡ Some ds
  items_back no_items s h = refl
  items_back (item d ds) s h =
      let p = or_parts (has_float d) _ h in
      ap (option_and_then (λ x. option_map (item x) (of_items (items_outline ds)))) (json_back d s.0 p.0) ∙ ap (option_map (item d)) (items_back ds s.1 p.1)

  members_back : (ms found : Members) → ascend (member_names (both found ms)) ≡ true → MembersAreEncodable ms → members_have_float ms ≡ false → of_members (members_outline ms) found ≡ Some (both found ms)
  members_back no_members found up s h = ap Some (sym (both_none found))
  members_back (member k d ms) found up s h =
      let p = or_parts (has_float d) _ h in
      let next = both_assoc found k d ms in
      ap (option_and_then (λ x. of_members (members_outline ms) (put k x found))) (json_back d s.0 p.0)
      ∙ ap (of_members (members_outline ms)) (put_last k d found ms up)
      ∙ members_back ms (both found (member k d no_members)) (ap (λ ns. ascend (member_names ns)) next ∙ up) s.1 p.1 ∙ ap Some next

-- the compact text is one value, which is the outline
pub compact-outline : (d : Data) → IsEncodable d → has_float d ≡ false → depth d ≤ max_depth → option_and_then (λ p. json.if_last p.0 p.1) (json.value max_depth (tokens (compact_text d))) ≡ Some (outline d)
compact-outline d s h shallow =
    let same : tokens (compact_text d) ≡ json_tokens (outline d) = ap tokens (sym (print-outline d)) ∙ tokens-print (json_tokens (outline d)) (ArePrintable-json_tokens (outline d) (has_numbers d s h)) in
    let deep : tree.depth (outline d) ≤ max_depth = subst (λ n. n ≤ max_depth) (sym (outline_depth d)) shallow in
    ap (option_and_then (λ p. json.if_last p.0 p.1)) (ap (json.value max_depth) (same ∙ sym (append-nil _)) ∙ value-json_tokens (outline d) max_depth [] deep)

pub compact-read : CompactTextsReadBack
compact-read d s h shallow = ap (option_and_then of_json) (compact-outline d s h shallow) ∙ json_back d s h
