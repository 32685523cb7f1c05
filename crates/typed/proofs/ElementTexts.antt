-- What the texts of elements say: the scalar of a set item, the key fields of a map list item.
use Rattle.std.proofs.Common.{◌≡◌, ℕ, ℤ, Bool, true, false, cond, List, [], ◌∷◌, drop, Option, Some, None, is_some, Ok, Err, is_ok, option_map, refl, sym, ap, ◌∙◌, true≢false}
use Rattle.std.specs.Prelude.{pos, negsuc, nat_lt, ◌^◌, option_and_then}
use Rattle.std.specs.declared.result.Result.{Result}
use Rattle.std.specs.Str.{bytes_eq}
use Rattle.std.proofs.lemmas.Slice.Eq.{bytes_eq-Decides}
use Rattle.serde_json.specs.Data.{Num, unsigned, negative, float, Data, null, boolean, number, string, array, object, Members}
use Rattle.serde_json.specs.Find.{as_i64, as_object, of_integer}
use Rattle.serde_json.specs.Read.{read}
use Rattle.serde_json.specs.Written.{compact_text, number_text}
use Rattle.fieldpath.specs.Elements.{Scalar, KeyFields, Element, NoElement, scalar_data, scalar_of, whole_scalar, key_members, key_text, scalar_text, element_text, keys_of_members, some_keys, keys_of, if_canonical, read_json, has_prefix, read_element}
use Rattle.fieldpath.specs.Elements as element
use Rattle.pathmap.specs.Contents.{Content, here}
use Rattle.pathmap.specs.Contents as leaf_value
use Rattle.schema.specs.Place.{fits}
use Rattle.schema.specs.Shape.{Shape, text, whole, truth, struct_of, map_of, list_of}
use Rattle.typed.specs.declared.fault.Cause.TheVariants.{WrongType}
use Rattle.typed.specs.Faults.{below, some_or}
use Rattle.typed.specs.Printing.{scalar_in, keys_in}
use Rattle.typed.specs.Reading.{is_null, plain_of, content_of}

-- ---- the element that a text is read as

abbrev element_or : Element → Result Element NoElement → Element
element_or x (Ok y) = y
element_or x (Err n) = x

canonical : (e : List ℕ) (o : Option Element) (x : Element) → if_canonical e o ≡ Ok x → (o ≡ Some x) × (element_text x ≡ e)
canonical e None x h = absurd (true≢false (sym (ap is_ok h)))
canonical e (Some y) x h = by_test (bytes_eq (element_text y) e) refl h
  where
    by_test : (b : Bool) → bytes_eq (element_text y) e ≡ b → cond b (Ok y) (Err element.not_canonical) ≡ Ok x → (Some y ≡ Some x) × (element_text x ≡ e)
    by_test true t h = let same : y ≡ x = ap (element_or y) h in (ap Some same, ap element_text (sym same) ∙ (bytes_eq-Decides (element_text y) e).0 t)
    by_test false t h = absurd (true≢false (sym (ap is_ok h)))

abbrev is_value : Option Element → Bool
is_value (Some (element.value v)) = true
is_value _ = false

abbrev is_key : Option Element → Bool
is_key (Some (element.key ks)) = true
is_key _ = false

abbrev result_ok : Result Element NoElement → Option Element
result_ok (Ok x) = Some x
result_ok (Err n) = None

some_keys-key : (o : Option KeyFields) → is_value (some_keys o) ≡ false
some_keys-key None = refl
some_keys-key (Some []) = refl
some_keys-key (Some (k ∷ ks)) = refl

keys_of-key : (d : Data) → is_value (keys_of d) ≡ false
keys_of-key null = refl
keys_of-key (boolean b) = refl
keys_of-key (number n) = refl
keys_of-key (string s) = refl
keys_of-key (array ds) = refl
keys_of-key (object ms) = some_keys-key (keys_of_members ms)

abbrev scalar_or : Scalar → Option Element → Scalar
scalar_or v (Some (element.value w)) = w
scalar_or v _ = v

scalar_is : (o : Option Scalar) (v : Scalar) → option_map element.value o ≡ Some (element.value v) → o ≡ Some v
scalar_is None v h = absurd (true≢false (sym (ap is_some h)))
scalar_is (Some w) v h = ap (λ x. Some (scalar_or w x)) h

value-not_key : (o : Option Scalar) → is_key (option_map element.value o) ≡ false
value-not_key None = refl
value-not_key (Some v) = refl

abbrev pub SpellsScalar : List ℕ → Scalar → Type 0
SpellsScalar e v = (d : Data) × (scalar_in e ≡ Some d) × (scalar_of d ≡ Some v) × (scalar_text (scalar_data v) ≡ e)

pub value_element : (e : List ℕ) (v : Scalar) → read_element e ≡ Ok (element.value v) → SpellsScalar e v
unfolding read_element
value_element e v h = by_prefix (has_prefix 102 e) (has_prefix 107 e) (has_prefix 118 e) refl (read (drop 2 e)) refl h
  where
    by_prefix : (a b c : Bool) → has_prefix 118 e ≡ c → (r : Option Data) → read (drop 2 e) ≡ r
        → cond a (Ok (element.field (drop 2 e))) (cond b (read_json e keys_of r) (cond c (read_json e (λ d. option_map element.value (scalar_of d)) r) (Err element.no_prefix))) ≡ Ok (element.value v) → SpellsScalar e v
    by_prefix true b c t r is h = absurd (true≢false (sym (ap (λ x. is_value (result_ok x)) h)))
    by_prefix false true c t None is h = absurd (true≢false (sym (ap is_ok h)))
    by_prefix false true c t (Some d) is h = absurd (true≢false (sym (ap is_value (canonical e (keys_of d) (element.value v) h).0) ∙ keys_of-key d))
    by_prefix false false true t None is h = absurd (true≢false (sym (ap is_ok h)))
    by_prefix false false true t (Some d) is h =
        let found = canonical e (option_map element.value (scalar_of d)) (element.value v) h in
        (d, ap (λ b. option_and_then read (cond b (Some (drop 2 e)) None)) t ∙ is, scalar_is (scalar_of d) v found.0, found.1)
    by_prefix false false false t r is h = absurd (true≢false (sym (ap is_ok h)))

abbrev keys_or : KeyFields → Option Element → KeyFields
keys_or ks (Some (element.key ls)) = ls
keys_or ks _ = ks

some_is : (o : Option KeyFields) (ks : KeyFields) → some_keys o ≡ Some (element.key ks) → o ≡ Some ks
some_is None ks h = absurd (true≢false (sym (ap is_some h)))
some_is (Some []) ks h = absurd (true≢false (sym (ap is_some h)))
some_is (Some (k ∷ ls)) ks h = ap (λ x. Some (keys_or (k ∷ ls) x)) h

abbrev SpellsMembers : Data → KeyFields → Type 0
SpellsMembers d ks = (ms : Members) × (d ≡ object ms) × (keys_of_members ms ≡ Some ks)

members_of : (d : Data) (ks : KeyFields) → keys_of d ≡ Some (element.key ks) → SpellsMembers d ks
members_of null ks h = absurd (true≢false (sym (ap is_some h)))
members_of (boolean b) ks h = absurd (true≢false (sym (ap is_some h)))
members_of (number n) ks h = absurd (true≢false (sym (ap is_some h)))
members_of (string s) ks h = absurd (true≢false (sym (ap is_some h)))
members_of (array ds) ks h = absurd (true≢false (sym (ap is_some h)))
members_of (object ms) ks h = (ms, refl, some_is (keys_of_members ms) ks h)

abbrev pub SpellsKeys : List ℕ → KeyFields → Type 0
SpellsKeys e ks = (ms : Members) × (keys_in e ≡ Some ms) × (keys_of_members ms ≡ Some ks) × (key_text (key_members ks) ≡ e) × (keys_of (object ms) ≡ Some (element.key ks))

pub key_element : (e : List ℕ) (ks : KeyFields) → read_element e ≡ Ok (element.key ks) → SpellsKeys e ks
unfolding read_element
key_element e ks h = by_prefix (has_prefix 102 e) (has_prefix 107 e) refl (has_prefix 118 e) (read (drop 2 e)) refl h
  where
    by_prefix : (a b : Bool) → has_prefix 107 e ≡ b → (c : Bool) (r : Option Data) → read (drop 2 e) ≡ r
        → cond a (Ok (element.field (drop 2 e))) (cond b (read_json e keys_of r) (cond c (read_json e (λ d. option_map element.value (scalar_of d)) r) (Err element.no_prefix))) ≡ Ok (element.key ks) → SpellsKeys e ks
    by_prefix true b t c r is h = absurd (true≢false (sym (ap (λ x. is_key (result_ok x)) h)))
    by_prefix false true t c None is h = absurd (true≢false (sym (ap is_ok h)))
    by_prefix false true t c (Some d) is h =
        let found = canonical e (keys_of d) (element.key ks) h in
        let encodable = members_of d ks found.0 in
        (encodable.0, ap (λ b. option_and_then as_object (option_and_then read (cond b (Some (drop 2 e)) None))) t ∙ ap (option_and_then as_object) is ∙ ap as_object encodable.1, encodable.2, found.1, ap keys_of (sym encodable.1) ∙ found.0)
    by_prefix false false t true None is h = absurd (true≢false (sym (ap is_ok h)))
    by_prefix false false t true (Some d) is h = absurd (true≢false (sym (ap is_key (canonical e (option_map element.value (scalar_of d)) (element.key ks) h).0) ∙ value-not_key (scalar_of d)))
    by_prefix false false t false r is h = absurd (true≢false (sym (ap is_ok h)))

-- ---- scalars

abbrev whole_or : ℤ → Option ℤ → ℤ
whole_or z None = z
whole_or z (Some w) = w

abbrev data_or : Scalar → Option Scalar → Scalar
data_or v None = v
data_or v (Some w) = w

number_same : (n : Num) (z : ℤ) → as_i64 n ≡ Some z → number_text (of_integer z) ≡ number_text n
number_same (unsigned m) z h = by_test (nat_lt m (2 ^ 63)) h
  where
    by_test : (b : Bool) → cond b (Some (pos m)) None ≡ Some z → number_text (of_integer z) ≡ number_text (unsigned m)
    by_test true h = ap (λ w. number_text (of_integer w)) (sym (ap (whole_or (pos m)) h))
    by_test false h = absurd (true≢false (sym (ap is_some h)))
number_same (negative (pos m)) z h = ap (λ w. number_text (of_integer w)) (sym (ap (whole_or (pos m)) h))
number_same (negative (negsuc m)) z h = ap (λ w. number_text (of_integer w)) (sym (ap (whole_or (negsuc m)) h))
number_same (float x) z h = absurd (true≢false (sym (ap is_some h)))

-- the text of what a value is as a scalar
pub scalar_same : (d : Data) (v : Scalar) → scalar_of d ≡ Some v → compact_text (scalar_data v) ≡ compact_text d
scalar_same null v h = absurd (true≢false (sym (ap is_some h)))
scalar_same (boolean b) v h = ap (λ w. compact_text (scalar_data w)) (sym (ap (data_or v) h))
scalar_same (string s) v h = ap (λ w. compact_text (scalar_data w)) (sym (ap (data_or v) h))
scalar_same (array ds) v h = absurd (true≢false (sym (ap is_some h)))
scalar_same (object ms) v h = absurd (true≢false (sym (ap is_some h)))
scalar_same (number n) v h = by_whole (as_i64 n) refl h
  where
    by_whole : (o : Option ℤ) → as_i64 n ≡ o → whole_scalar o ≡ Some v → compact_text (scalar_data v) ≡ compact_text (number n)
    by_whole None is h = absurd (true≢false (sym (ap is_some h)))
    by_whole (Some z) is h = ap (λ w. compact_text (scalar_data w)) (sym (ap (data_or v) h)) ∙ number_same n z is

abbrev is_text : Option Scalar → Bool
is_text (Some (element.text s)) = true
is_text _ = false

abbrev is_whole : Option Scalar → Bool
is_whole (Some (element.whole n)) = true
is_whole _ = false

abbrev is_truth : Option Scalar → Bool
is_truth (Some (element.truth b)) = true
is_truth _ = false

text_fits : (v : Scalar) → fits text v ≡ true → is_text (Some v) ≡ true
text_fits (element.text s) h = refl
text_fits (element.whole n) h = absurd (true≢false (sym h))
text_fits (element.truth b) h = absurd (true≢false (sym h))

whole_fits : (v : Scalar) → fits whole v ≡ true → is_whole (Some v) ≡ true
whole_fits (element.whole n) h = refl
whole_fits (element.text s) h = absurd (true≢false (sym h))
whole_fits (element.truth b) h = absurd (true≢false (sym h))

truth_fits : (v : Scalar) → fits truth v ≡ true → is_truth (Some v) ≡ true
truth_fits (element.truth b) h = refl
truth_fits (element.text s) h = absurd (true≢false (sym h))
truth_fits (element.whole n) h = absurd (true≢false (sym h))

whole_scalar-text : (o : Option ℤ) → is_text (whole_scalar o) ≡ false
whole_scalar-text None = refl
whole_scalar-text (Some z) = refl

whole_scalar-truth : (o : Option ℤ) → is_truth (whole_scalar o) ≡ false
whole_scalar-truth None = refl
whole_scalar-truth (Some z) = refl

-- a value of the type due reads without fault
abbrev pub ReadsAs : Shape → Data → Type 0
ReadsAs s d = (is_null d ≡ false) × (plain_of s d ≡ Ok d) × ((x : Content) × (content_of s d ≡ Ok x))

read_text : (d : Data) → is_text (scalar_of d) ≡ true → ReadsAs text d
read_text null h = absurd (true≢false (sym h))
read_text (boolean b) h = absurd (true≢false (sym h))
read_text (number n) h = absurd (true≢false (sym h ∙ whole_scalar-text (as_i64 n)))
read_text (string s) h = (refl, refl, (_, refl))
read_text (array ds) h = absurd (true≢false (sym h))
read_text (object ms) h = absurd (true≢false (sym h))

read_truth : (d : Data) → is_truth (scalar_of d) ≡ true → ReadsAs truth d
read_truth null h = absurd (true≢false (sym h))
read_truth (boolean b) h = (refl, refl, (_, refl))
read_truth (number n) h = absurd (true≢false (sym h ∙ whole_scalar-truth (as_i64 n)))
read_truth (string s) h = absurd (true≢false (sym h))
read_truth (array ds) h = absurd (true≢false (sym h))
read_truth (object ms) h = absurd (true≢false (sym h))

read_whole : (d : Data) → is_whole (scalar_of d) ≡ true → ReadsAs whole d
read_whole null h = absurd (true≢false (sym h))
read_whole (boolean b) h = absurd (true≢false (sym h))
read_whole (string s) h = absurd (true≢false (sym h))
read_whole (array ds) h = absurd (true≢false (sym h))
read_whole (object ms) h = absurd (true≢false (sym h))
read_whole (number n) h = by_whole (as_i64 n) refl h
  where
    by_whole : (o : Option ℤ) → as_i64 n ≡ o → is_whole (whole_scalar o) ≡ true → ReadsAs whole (number n)
    by_whole None is h = absurd (true≢false (sym h))
    by_whole (Some z) is h = (
      refl,
      ap (λ o. below [] (λ m. number n) (some_or WrongType o)) is,
      (here (leaf_value.whole z), ap (λ o. below [] (λ m. here (leaf_value.whole m)) (some_or WrongType o)) is),
    )

pub scalar_reads : (s : Shape) (d : Data) (v : Scalar) → fits s v ≡ true → scalar_of d ≡ Some v → ReadsAs s d
scalar_reads text d v fit is = read_text d (ap is_text is ∙ text_fits v fit)
scalar_reads whole d v fit is = read_whole d (ap is_whole is ∙ whole_fits v fit)
scalar_reads truth d v fit is = read_truth d (ap is_truth is ∙ truth_fits v fit)
scalar_reads (struct_of all b) d v fit is = absurd (true≢false (sym fit))
scalar_reads (map_of s b) d v fit is = absurd (true≢false (sym fit))
scalar_reads (list_of s kind) d v fit is = absurd (true≢false (sym fit))
