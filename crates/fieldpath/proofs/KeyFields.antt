-- Key fields, one after another.
use Rattle.std.proofs.Common.{◌≡◌, ℕ, suc, ◌+◌, ◌<◌, Bool, true, false, ◌&&◌, ◌||◌, true≢false, pos, negsuc, List, [], ◌∷◌, ◌++◌, map, length, drop, get_or, drop-cons, ◌≤◌, append_assoc, append-nil, Option, Some, None, Result, Ok, Err, IfOk, Ordering, Less, Equal, Greater, String, Global, nat_cmp, string_cmp, string_bytes, refl, sym, subst, ap, ap₂, ◌∙◌, add-one}
use Rattle.std.specs.Cmp.Lexicographic.{slice_cmp}
use Rattle.std.specs.List.{AllByRecursion}
use Rattle.std.specs.List.Sorted.{IsStrictlySortedBy}
use Rattle.std.specs.Map.{keys_of}
use Rattle.std.specs.Ordering.{is_lt}
use Rattle.std.proofs.lemmas.List.{drop_all}
use Rattle.std.proofs.lemmas.Map.Keys.{sorted_head, sorted_tail}
use Rattle.serde_json.specs.Data.{Data, member, put}
use Rattle.serde_json.specs.View.{view, members_view}
use Rattle.serde_json.specs.Written.{compact_text, has_float, members_have_float}
use Rattle.serde_json.specs.declared.value.Value.{Value}
use Rattle.fieldpath.specs.Elements as pure
use Rattle.fieldpath.specs.Elements.{KeyFields, scalar_data, scalar_of, key_members, one_more, keys_of_members, shown_field, shown_keys}
use Rattle.fieldpath.specs.Scalars.{scalar, key_fields, names, ascend, ascend_from}
use Rattle.fieldpath.specs.declared.scalar.Scalar.{Scalar}

abbrev pub Entry : Type 0
Entry = String Global × Value

-- ---- no float

scalar_clean : (s : pure.Scalar) → has_float (scalar_data s) ≡ false
scalar_clean (pure.text s) = refl
scalar_clean (pure.whole (pos n)) = refl
scalar_clean (pure.whole (negsuc n)) = refl
scalar_clean (pure.truth b) = refl

pub keys_clean : (ks : KeyFields) → members_have_float (key_members ks) ≡ false
keys_clean [] = refl
keys_clean (k ∷ ks) = either_false _ _ (scalar_clean k.1) (keys_clean ks)
  where
    either_false : (a b : Bool) → a ≡ false → b ≡ false → a || b ≡ false
    either_false true b x y = absurd (true≢false x)
    either_false false b x y = y

pub text_clean : (s : pure.Scalar) → has_float (scalar_data s) ≡ false
text_clean = scalar_clean

-- ---- the object of key fields

lt_is : (o : Ordering) → is_lt o ≡ true → o ≡ Less
lt_is Less h = refl
lt_is Equal h = absurd (true≢false (sym h))
lt_is Greater h = absurd (true≢false (sym h))

and_first : (a b : Bool) → a && b ≡ true → a ≡ true
and_first true b h = refl
and_first false b h = h

and_second : (a b : Bool) → a && b ≡ true → b ≡ true
and_second true b h = h
and_second false b h = absurd (true≢false (sym h))

pub ascend_rest : (n : List ℕ) (ns : List (List ℕ)) → ascend_from n ns ≡ true → ascend ns ≡ true
ascend_rest n [] h = refl
ascend_rest n (m ∷ ns) h = and_second (is_lt (slice_cmp nat_cmp n m)) _ h

-- a field before all others goes first
pub put_first : (k : List ℕ) (d : Data) (ks : KeyFields) → ascend_from k (names ks) ≡ true → put k d (key_members ks) ≡ member k d (key_members ks)
put_first k d [] h = refl
put_first k d (l ∷ ks) h = rw (lt_is (slice_cmp nat_cmp k l.0) (and_first _ _ h)) refl

-- ---- members read as key fields, as far as a loop has come

abbrev pub keys_after : KeyFields → Option KeyFields → Option KeyFields
keys_after ks None = None
keys_after ks (Some ls) = Some (ks ++ ls)

abbrev pub AreReadSoFar : Option KeyFields → KeyFields → List Entry → Type 0
AreReadSoFar whole ks it = keys_after ks (keys_of_members (members_view it)) ≡ whole

pub read_begin : (it all : List Entry) → it ≡ all → AreReadSoFar (keys_of_members (members_view all)) [] it
read_begin it all is = ap (λ es. keys_after [] (keys_of_members (members_view es))) is ∙ by_read (keys_of_members (members_view all))
  where
    by_read : (o : Option KeyFields) → keys_after [] o ≡ o
    by_read None = refl
    by_read (Some ls) = refl

pub read_end : (whole : Option KeyFields) (ks : KeyFields) (it : List Entry) → it ≡ [] → AreReadSoFar whole ks it → Some ks ≡ whole
read_end whole ks it none so_far = ap Some (sym (append-nil ks)) ∙ sym (ap (λ es. keys_after ks (keys_of_members (members_view es))) none) ∙ so_far

pub read_stopped : (whole : Option KeyFields) (ks : KeyFields) (it : List Entry) (e : Entry) (left : List Entry) → it ≡ e ∷ left → scalar_of (view e.1) ≡ None → AreReadSoFar whole ks it → None ≡ whole
read_stopped whole ks it e left steps none so_far =
    sym (ap (λ es. keys_after ks (keys_of_members (members_view es))) steps
    ∙ ap (λ o. keys_after ks (one_more (string_bytes e.0) o (keys_of_members (members_view left)))) none) ∙ so_far

pub read_more : (whole : Option KeyFields) (ks new : KeyFields) (it : List Entry) (e : Entry) (left : List Entry) (s : pure.Scalar) → it ≡ e ∷ left → scalar_of (view e.1) ≡ Some s
    → new ≡ ks ++ (string_bytes e.0, s) ∷ [] → AreReadSoFar whole ks it → AreReadSoFar whole new left
read_more whole ks new it e left s steps some pushed so_far =
    ap (λ l. keys_after l (keys_of_members (members_view left))) pushed ∙ by_read (keys_of_members (members_view left))
    ∙ sym (ap (λ es. keys_after ks (keys_of_members (members_view es))) steps
    ∙ ap (λ o. keys_after ks (one_more (string_bytes e.0) o (keys_of_members (members_view left)))) some) ∙ so_far
  where
    by_read : (o : Option KeyFields) → keys_after (ks ++ (string_bytes e.0, s) ∷ []) o ≡ keys_after ks (one_more (string_bytes e.0) (Some s) o)
    by_read None = refl
    by_read (Some ls) = ap Some (append_assoc ks _ ls)

pub key_fields-push : (fs : List (String Global × Scalar)) (n : String Global) (x : Scalar) → key_fields (fs ++ (n, x) ∷ []) ≡ key_fields fs ++ (string_bytes n, scalar x) ∷ []
key_fields-push [] n x = refl
key_fields-push (f ∷ fs) n x = ap (λ ks. (string_bytes f.0, scalar f.1) ∷ ks) (key_fields-push fs n x)

-- members that are read as key fields have their names, in order
abbrev some_or : KeyFields → Option KeyFields → KeyFields
some_or d None = d
some_or d (Some ks) = ks

names_read : (es : List Entry) (ks : KeyFields) → Some ks ≡ keys_of_members (members_view es) → names ks ≡ map (λ e. string_bytes e.0) es
names_read [] ks is = ap (λ o. names (some_or [] o)) is
names_read (e ∷ es) ks is = by_parts (λ ls. names_read es ls) (scalar_of (view e.1)) (keys_of_members (members_view es)) refl is
  where
    by_parts : ((ls : KeyFields) → Some ls ≡ keys_of_members (members_view es) → names ls ≡ map (λ e. string_bytes e.0) es) → (o : Option pure.Scalar) (r : Option KeyFields) → keys_of_members (members_view es) ≡ r → Some ks ≡ one_more (string_bytes e.0) o r
        → names ks ≡ string_bytes e.0 ∷ map (λ e. string_bytes e.0) es
    by_parts later None r at h = absurd cc
    by_parts later (Some s) None at h = absurd cc
    by_parts later (Some s) (Some ls) at h = ap (λ o. names (some_or [] o)) h ∙ ap (λ ns. string_bytes e.0 ∷ ns) (later ls (sym at))

from_first : (e : Entry) (es : List Entry) → AllByRecursion (λ y. string_cmp e.0 y ≡ Less) (keys_of es) → ascend (map (λ e. string_bytes e.0) es) ≡ true → ascend_from (string_bytes e.0) (map (λ e. string_bytes e.0) es) ≡ true
from_first e [] above h = refl
from_first e (x ∷ es) above h = ap₂ (λ a b. a && b) (ap is_lt above.0) h

-- the names of a map ascend
pub ascend_keys : (es : List Entry) → IsStrictlySortedBy string_cmp (keys_of es) → ascend (map (λ e. string_bytes e.0) es) ≡ true
ascend_keys [] sorted = refl
ascend_keys (e ∷ es) sorted = from_first e es (sorted_head string_cmp e.0 (keys_of es) sorted) (ascend_keys es (sorted_tail string_cmp e.0 (keys_of es) sorted))

pub read_ascending : (es : List Entry) (ks : KeyFields) → IsStrictlySortedBy string_cmp (keys_of es) → Some ks ≡ keys_of_members (members_view es) → ascend (names ks) ≡ true
read_ascending es ks sorted is = subst (λ ns. ascend ns ≡ true) (sym (names_read es ks is)) (ascend_keys es sorted)

-- ---- shown fields, as far as a loop has come

-- each with a comma before it
abbrev pub shown_rest : KeyFields → List ℕ
shown_rest [] = []
shown_rest (k ∷ ks) = 44 ∷ (shown_field k ++ shown_rest ks)

shown_first : (k : List ℕ × pure.Scalar) (ks : KeyFields) → shown_keys (k ∷ ks) ≡ shown_field k ++ shown_rest ks
shown_first k [] = sym (append-nil (shown_field k))
shown_first k (l ∷ ks) = ap (λ s. shown_field k ++ 44 ∷ s) (shown_first l ks)

pub shown_begin : (old new : List ℕ) (fs : List (String Global × Scalar)) (x : String Global × Scalar) (rest : List (String Global × Scalar)) → fs ≡ x ∷ rest
    → new ≡ old ++ shown_field (string_bytes x.0, scalar x.1) → new ++ shown_rest (key_fields rest) ≡ old ++ shown_keys (key_fields fs)
shown_begin old new fs x rest is pushed =
    let k : List ℕ × pure.Scalar = (string_bytes x.0, scalar x.1) in
    ap (λ s. s ++ shown_rest (key_fields rest)) pushed ∙ append_assoc old (shown_field k) (shown_rest (key_fields rest))
    ∙ ap (λ s. old ++ s) (sym (ap (λ l. shown_keys (key_fields l)) is ∙ shown_first k (key_fields rest)))

pub shown_more : (old comma new : List ℕ) (fs : List (String Global × Scalar)) (i : ℕ) (x : String Global × Scalar) (whole : List ℕ) → i < length fs → x ≡ get_or fs i x
    → comma ≡ old ++ 44 ∷ [] → new ≡ comma ++ shown_field (string_bytes x.0, scalar x.1)
    → old ++ shown_rest (key_fields (drop i fs)) ≡ whole
    → new ++ shown_rest (key_fields (drop (i + 1) fs)) ≡ whole
shown_more old comma new fs i x whole lt is separated pushed so_far =
    let k : List ℕ × pure.Scalar = (string_bytes x.0, scalar x.1) in
    let rest = shown_rest (key_fields (drop (i + 1) fs)) in
    ap (λ s. s ++ rest) (pushed ∙ ap (λ s. s ++ shown_field k) separated)
    ∙ regroup old (shown_field k) rest
    ∙ sym (ap (λ l. old ++ shown_rest (key_fields l)) (drop-next fs i x lt is)) ∙ so_far
  where
    drop-next : (fs : List (String Global × Scalar)) (i : ℕ) (x : String Global × Scalar) → i < length fs → x ≡ get_or fs i x → drop i fs ≡ x ∷ drop (i + 1) fs
    drop-next fs i x lt is = rw add-one (drop-cons fs i x lt ∙ ap (λ y. y ∷ drop (suc i) fs) (sym is))

    regroup : (a b c : List ℕ) → ((a ++ 44 ∷ []) ++ b) ++ c ≡ a ++ 44 ∷ (b ++ c)
    regroup a b c = append_assoc (a ++ 44 ∷ []) b c ∙ append_assoc a (44 ∷ []) (b ++ c)

pub shown_end : (s : List ℕ) (i : ℕ) (fs : List (String Global × Scalar)) (whole : List ℕ) → length fs ≤ i → s ++ shown_rest (key_fields (drop i fs)) ≡ whole → s ≡ whole
shown_end s i fs whole le so_far = sym (append-nil s) ∙ sym (ap (λ l. s ++ shown_rest (key_fields l)) (drop_all i fs le)) ∙ so_far

-- ---- texts

pub members_first : (fs : List (String Global × Scalar)) (x : String Global × Scalar) (rest : List (String Global × Scalar)) → fs ≡ x ∷ rest → ascend (names (key_fields fs)) ≡ true
    → put (string_bytes x.0) (scalar_data (scalar x.1)) (key_members (key_fields rest)) ≡ key_members (key_fields fs)
members_first fs x rest is up =
    put_first (string_bytes x.0) (scalar_data (scalar x.1)) (key_fields rest) (subst (λ l. ascend (names (key_fields l)) ≡ true) is up) ∙ sym (ap (λ l. key_members (key_fields l)) is)

pub text_given : {E : Type 0} (r : Result (String Global) E) (d e : Data) → d ≡ e → has_float e ≡ false → IfOk r (λ s. has_float d ≡ false → string_bytes s ≡ compact_text d) → IfOk r (λ s. string_bytes s ≡ compact_text e)
text_given (Ok s) d e is clean h = h (ap has_float is ∙ clean) ∙ ap compact_text is
text_given (Err x) d e is clean h = h
