-- The texts of list items' elements, by the values that they are made of.
use Rattle.std.proofs.Common.{◌≡◌, ℕ, ℤ, ◌≤◌, Bool, true, false, cond, ◌++◌, ◌||◌, List, [], ◌∷◌, Option, Some, None, is_some, Ok, Err, option_map, refl, sym, subst, ap, ap₂, ◌∙◌, true≢false, arith}
use Rattle.std.specs.Prelude.{pos, negsuc, nat_lt, ◌^◌}
use Rattle.std.proofs.lemmas.Slice.Eq.{bytes_eq-Decides}
use Rattle.serde_json.specs.Data.{Num, unsigned, negative, float, Data, null, boolean, number, string, array, object, Members, no_members, member, depth, members_depth}
use Rattle.serde_json.specs.Find.{as_i64, of_integer}
use Rattle.serde_json.specs.Read.{read, max_depth}
use Rattle.serde_json.specs.Written.{compact_text, number_text, members_text, comma_if, has_float, members_have_float}
use Rattle.fieldpath.specs.Elements as element
use Rattle.fieldpath.specs.Elements.{Scalar, KeyFields, IsElementText, scalar_data, scalar_of, whole_scalar, key_members, key_text, scalar_text, one_more, keys_of_members, some_keys, keys_of, if_canonical, read_json, read_element}

-- ---- scalars

abbrev whole_or : ℤ → Option ℤ → ℤ
whole_or z None = z
whole_or z (Some w) = w

abbrev data_or : Scalar → Option Scalar → Scalar
data_or v None = v
data_or v (Some w) = w

number_same : (n : Num) (z : ℤ) → as_i64 n ≡ Some z → number_text (of_integer z) ≡ number_text n
number_same (unsigned m) z h = by_test (nat_lt m (2 ^ 63)) h
  where
    by_test : (b : Bool) → cond b (Some (pos m)) None ≡ Some z → number_text (of_integer z) ≡ number_text (unsigned m)
    by_test true h = ap (λ w. number_text (of_integer w)) (sym (ap (whole_or (pos m)) h))
    by_test false h = absurd (true≢false (sym (ap is_some h)))
number_same (negative (pos m)) z h = ap (λ w. number_text (of_integer w)) (sym (ap (whole_or (pos m)) h))
number_same (negative (negsuc m)) z h = ap (λ w. number_text (of_integer w)) (sym (ap (whole_or (negsuc m)) h))
number_same (float x) z h = absurd (true≢false (sym (ap is_some h)))

-- the text of what a value is as a scalar
pub scalar_same : (d : Data) (v : Scalar) → scalar_of d ≡ Some v → compact_text (scalar_data v) ≡ compact_text d
scalar_same null v h = absurd (true≢false (sym (ap is_some h)))
scalar_same (boolean b) v h = ap (λ w. compact_text (scalar_data w)) (sym (ap (data_or v) h))
scalar_same (string s) v h = ap (λ w. compact_text (scalar_data w)) (sym (ap (data_or v) h))
scalar_same (array ds) v h = absurd (true≢false (sym (ap is_some h)))
scalar_same (object ms) v h = absurd (true≢false (sym (ap is_some h)))
scalar_same (number n) v h = by_whole (as_i64 n) refl h
  where
    by_whole : (o : Option ℤ) → as_i64 n ≡ o → whole_scalar o ≡ Some v → compact_text (scalar_data v) ≡ compact_text (number n)
    by_whole None is h = absurd (true≢false (sym (ap is_some h)))
    by_whole (Some z) is h = ap (λ w. compact_text (scalar_data w)) (sym (ap (data_or v) h)) ∙ number_same n z is

scalar_read : (x : Data) (v : Scalar) → read (compact_text x) ≡ Some x → scalar_of x ≡ Some v → read_element (scalar_text x) ≡ Ok (element.value v)
unfolding read_element scalar_text
scalar_read x v reads is =
    ap (read_json (118 ∷ 58 ∷ compact_text x) (λ d. option_map element.value (scalar_of d))) reads ∙ ap (λ o. if_canonical (118 ∷ 58 ∷ compact_text x) (option_map element.value o)) is
    ∙ ap (λ b. cond b (Ok (element.value v)) (Err element.not_canonical)) ((bytes_eq-Decides (118 ∷ 58 ∷ compact_text (scalar_data v)) (118 ∷ 58 ∷ compact_text x)).1 (ap (λ t. 118 ∷ 58 ∷ t) (scalar_same x v is)))

-- ---- key fields

-- the key fields and the members that they are read of
abbrev Spells : Members → KeyFields → Type 0
Spells no_members [] = Unit {0}
Spells no_members (k ∷ ks) = ⊥
Spells (member k d ms) [] = ⊥
Spells (member k d ms) (l ∷ ks) = (k ≡ l.0) × (scalar_of d ≡ Some l.1) × Spells ms ks

abbrev list_or : KeyFields → Option KeyFields → KeyFields
list_or ks None = ks
list_or ks (Some ls) = ls

spells : (ms : Members) (ks : KeyFields) → keys_of_members ms ≡ Some ks → Spells ms ks
spells no_members ks h = subst (Spells no_members) (ap (list_or ks) h) tt
spells (member k d ms) ks h = by_first (scalar_of d) refl (keys_of_members ms) (spells ms) h
  where
    by_first : (o : Option Scalar) → scalar_of d ≡ o → (r : Option KeyFields) → ((ls : KeyFields) → r ≡ Some ls → Spells ms ls) → one_more k o r ≡ Some ks → Spells (member k d ms) ks
    by_first None is r rest h = absurd (true≢false (sym (ap is_some h)))
    by_first (Some v) is None rest h = absurd (true≢false (sym (ap is_some h)))
    by_first (Some v) is (Some ls) rest h = subst (Spells (member k d ms)) (ap (list_or ks) h) (refl, is, rest ls refl)

-- their text is that of the members
same_text : (ms : Members) (ks : KeyFields) → Spells ms ks → (later : Bool) → members_text later (key_members ks) ≡ members_text later ms
same_text no_members [] h later = refl
same_text no_members (k ∷ ks) h later = absurd h
same_text (member k d ms) [] h later = absurd h
same_text (member k d ms) (l ∷ ks) h later =
    ap (λ n. comma_if later ++ (compact_text (string n) ++ 58 ∷ (compact_text (scalar_data l.1) ++ members_text true (key_members ks)))) (sym h.0)
    ∙ ap₂ (λ a b. comma_if later ++ (compact_text (string k) ++ 58 ∷ (a ++ b))) (scalar_same d l.1 h.1) (same_text ms ks h.2 true)

pub keys_text : (ms : Members) (ks : KeyFields) → keys_of_members ms ≡ Some ks → key_text (key_members ks) ≡ key_text ms
unfolding key_text
keys_text ms ks h = ap (λ s. 107 ∷ 58 ∷ 123 ∷ s) (same_text ms ks (spells ms ks h) false)

key_read : (ms : Members) (ks : KeyFields) → read (compact_text (object ms)) ≡ Some (object ms) → keys_of_members ms ≡ Some ks → some_keys (Some ks) ≡ Some (element.key ks) → key_text (key_members ks) ≡ key_text ms
    → read_element (key_text ms) ≡ Ok (element.key ks)
unfolding read_element key_text
key_read ms ks reads are some same_text =
    ap (read_json (107 ∷ 58 ∷ compact_text (object ms)) keys_of) reads ∙ ap (λ o. if_canonical (107 ∷ 58 ∷ compact_text (object ms)) (some_keys o)) are ∙ ap (if_canonical (107 ∷ 58 ∷ compact_text (object ms))) some
    ∙ ap (λ b. cond b (Ok (element.key ks)) (Err element.not_canonical)) ((bytes_eq-Decides (107 ∷ 58 ∷ compact_text (object (key_members ks))) (107 ∷ 58 ∷ compact_text (object ms))).1 same_text)

-- ---- the text of a value that has been printed

abbrev IsPlain : Data → Type 0
IsPlain d = (has_float d ≡ false) × (depth d ≡ 0)

scalar_plain : (d : Data) (v : Scalar) → scalar_of d ≡ Some v → IsPlain d
scalar_plain null v h = absurd (true≢false (sym (ap is_some h)))
scalar_plain (boolean b) v h = (refl, refl)
scalar_plain (number (unsigned n)) v h = (refl, refl)
scalar_plain (number (negative z)) v h = (refl, refl)
scalar_plain (number (float x)) v h = absurd (true≢false (sym (ap is_some h)))
scalar_plain (string s) v h = (refl, refl)
scalar_plain (array ds) v h = absurd (true≢false (sym (ap is_some h)))
scalar_plain (object ms) v h = absurd (true≢false (sym (ap is_some h)))

neither : (a b : Bool) → a ≡ false → b ≡ false → a || b ≡ false
neither true b x y = absurd (true≢false x)
neither false b x y = y

keys_plain : (ms : Members) (ks : KeyFields) → Spells ms ks → (members_have_float ms ≡ false) × (members_depth ms ≤ 0)
keys_plain no_members [] h = (refl, omega arith)
keys_plain no_members (k ∷ ks) h = absurd h
keys_plain (member k d ms) [] h = absurd h
keys_plain (member k d ms) (l ∷ ks) h =
    let one = scalar_plain d l.1 h.1 in
    let rest = keys_plain ms ks h.2 in
    let flat : depth d ≡ 0 = one.1 in
    let shallow : members_depth ms ≤ 0 = rest.1 in
    (neither (has_float d) (members_have_float ms) one.0 rest.0, omega (arith, flat, shallow))

some_or : {A : Type 0} → A → Option A → A
some_or a None = a
some_or a (Some b) = b

abbrev IsThere : {A : Type 0} → Option A → Type 0
IsThere {A} o = (a : A) × (o ≡ Some a)

there : {A : Type 0} (o : Option A) → is_some o ≡ true → IsThere o
there None h = absurd (true≢false (sym h))
there (Some a) h = (a, refl)

pub scalar_printed : (d : Data) (s : List ℕ) → is_some (scalar_of d) ≡ true → (has_float d ≡ false → s ≡ compact_text d) → (depth d ≤ max_depth → read s ≡ Some d) → (s ≡ compact_text d) × IsElementText (118 ∷ 58 ∷ s)
unfolding scalar_text
scalar_printed d s is text reads =
    let v = there (scalar_of d) is in
    let plain = scalar_plain d v.0 v.1 in
    let flat : depth d ≡ 0 = plain.1 in
    let same = text plain.0 in
    (same, (element.value v.0, ap (λ t. read_element (118 ∷ 58 ∷ t)) same ∙ scalar_read d v.0 (ap read (sym same) ∙ reads (omega (arith, flat))) v.1))

abbrev IsKeyObject : Data → Type 0
IsKeyObject d = (ms : Members) × (ks : KeyFields) × (d ≡ object ms) × (keys_of_members ms ≡ Some ks) × (some_keys (Some ks) ≡ Some (element.key ks))

some_named : (o : Option KeyFields) → is_some (some_keys o) ≡ true → (ks : KeyFields) × (o ≡ Some ks) × (some_keys (Some ks) ≡ Some (element.key ks))
some_named None h = absurd (true≢false (sym h))
some_named (Some []) h = absurd (true≢false (sym h))
some_named (Some (k ∷ ks)) h = (k ∷ ks, refl, refl)

key_object : (d : Data) → is_some (keys_of d) ≡ true → IsKeyObject d
key_object null h = absurd (true≢false (sym h))
key_object (boolean b) h = absurd (true≢false (sym h))
key_object (number n) h = absurd (true≢false (sym h))
key_object (string s) h = absurd (true≢false (sym h))
key_object (array ds) h = absurd (true≢false (sym h))
key_object (object ms) h = let k = some_named (keys_of_members ms) h in (ms, k.0, refl, k.1, k.2)

pub keys_printed : (d : Data) (s : List ℕ) → is_some (keys_of d) ≡ true → (has_float d ≡ false → s ≡ compact_text d) → (depth d ≤ max_depth → read s ≡ Some d) → (s ≡ compact_text d) × IsElementText (107 ∷ 58 ∷ s)
unfolding key_text
keys_printed d s is text reads =
    let k = key_object d is in
    let ms = k.0 in
    let plain = keys_plain ms k.1 (spells ms k.1 k.3) in
    let shallow : members_depth ms ≤ 0 = plain.1 in
    let same = text (ap has_float k.2 ∙ plain.0) in
    let fits : depth (object ms) ≤ max_depth = omega (arith, shallow) in
    let back : read (compact_text (object ms)) ≡ Some (object ms) = ap read (ap compact_text (sym k.2) ∙ sym same) ∙ reads (subst (λ x. depth x ≤ max_depth) (sym k.2) fits) ∙ ap Some k.2 in
    (same, (element.key k.1, ap (λ t. read_element (107 ∷ 58 ∷ t)) (same ∙ ap compact_text k.2) ∙ key_read ms k.1 back k.3 k.4 (keys_text ms k.1 k.3)))

pub some_text : {A : Type 0} (o : Option A) (t : List ℕ) → is_some o ≡ true → Some t ≡ option_map (λ a. t) o
some_text None t h = absurd (true≢false (sym h))
some_text (Some a) t h = refl

pub no_text : {A : Type 0} (o : Option A) (t : List ℕ) → is_some o ≡ false → None ≡ option_map (λ a. t) o
no_text None t h = refl
no_text (Some a) t h = absurd (true≢false h)

-- ---- whether members are key fields, as far as a loop has come

abbrev pub are_with : Bool → Option KeyFields → Bool
are_with true o = is_some o
are_with false o = is_some (some_keys o)

pub are_more : (b : Bool) (k : List ℕ) (v : Scalar) (o : Option KeyFields) → are_with true o ≡ are_with b (one_more k (Some v) o)
are_more true k v None = refl
are_more true k v (Some ks) = refl
are_more false k v None = refl
are_more false k v (Some ks) = refl

pub are_not : (b : Bool) (k : List ℕ) (o : Option KeyFields) → false ≡ are_with b (one_more k None o)
are_not true k o = refl
are_not false k o = refl

pub are_all : (b : Bool) → b ≡ are_with b (Some [])
are_all true = refl
are_all false = refl
