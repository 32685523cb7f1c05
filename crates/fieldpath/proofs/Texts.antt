-- Texts after a prefix.
use Rattle.std.proofs.Common.{◌≡◌, ◌≢◌, ℕ, Bool, true, false, cond, List, [], ◌∷◌, ◌++◌, length, take, drop, take-append-drop, Option, Some, None, is_some, option_map, unwrap_or, MatchOption, Result, Ok, Err, IfOk, String, Global, string_bytes, Bor, refl, sym, subst, ap, ap₂, ◌∙◌}
use Rattle.std.proofs.lemmas.Slice.Eq.{bytes_eq-Decides}
use Rattle.std.specs.Str.{bytes_eq}
use Rattle.std.specs.Str.Pattern.{FindsTextPrefix, LacksTextAt, StripsPrefix}
use Rattle.serde_json.specs.Read.{read}
use Rattle.fieldpath.specs.Elements.{Element, field, name_text, value, NoElement, no_prefix, has_prefix, is_field_text, text_after, read_json, read_element, keys_of, scalar_of}
use Rattle.fieldpath.specs.ElementViews.{element, Returns}
use Rattle.fieldpath.specs.declared.elem.Elem.{Elem}
use Rattle.fieldpath.specs.declared.elem.ElemFault.{ElemFault}

take_prefix : (n r : List ℕ) → take (length n) (n ++ r) ≡ n
take_prefix [] r = refl
take_prefix (x ∷ n) r = ap (λ l. x ∷ l) (take_prefix n r)

abbrev rest_if : List ℕ → List ℕ → Bool → Option (List ℕ)
rest_if n s b = cond b (Some (drop (length n) s)) None

lacking : (n s : List ℕ) (b : Bool) → bytes_eq (take (length n) s) n ≡ b → LacksTextAt n s 0 → None ≡ rest_if n s b
lacking n s false is h = refl
lacking n s true is h =
    absurd (h (drop (length n) s) (sym (take-append-drop (length n) s) ∙ ap (λ l. l ++ drop (length n) s) ((bytes_eq-Decides (take (length n) s) n).0 is)))

pub rest-strip : (n s : List ℕ) (r : Option (Bor (List ℕ))) → MatchOption r (FindsTextPrefix n s None) (λ x. StripsPrefix (FindsTextPrefix n) s x.now)
    → option_map (λ x. x.now) r ≡ cond (bytes_eq (take (length n) s) n) (Some (drop (length n) s)) None
rest-strip n s None h = lacking n s _ refl h
rest-strip n s (Some x) h =
    let k = h.0 in
    let len : k ≡ length n = h.1.0 in
    let split : s ≡ n ++ drop k s = h.1.1 in
    let prefix : take (length n) s ≡ n = ap (take (length n)) split ∙ take_prefix n (drop k s) in
    let same : bytes_eq (take (length n) s) n ≡ true = (bytes_eq-Decides (take (length n) s) n).1 prefix in
    ap Some (h.2 ∙ ap (λ j. drop j s) len) ∙ sym (ap (rest_if n s) same)

pub prefixed_as : {E : Type 0} (r : Result (String Global) E) (s t : List ℕ) → s ≡ t → IfOk r (λ x. string_bytes x ≡ s) → IfOk r (λ x. string_bytes x ≡ t)
prefixed_as r s t is h = subst (λ u. IfOk r (λ x. string_bytes x ≡ u)) is h

-- ---- which prefix a text has

abbrev pub by_prefix : List ℕ → Bool → Bool → Bool → Result Element NoElement
by_prefix s f k v = cond f (Ok (field (drop 2 s))) (cond k (read_json s keys_of (read (drop 2 s))) (cond v (read_json s (λ d. option_map value (scalar_of d)) (read (drop 2 s))) (Err no_prefix)))

read-by_prefix : (s : List ℕ) → read_element s ≡ by_prefix s (has_prefix 102 s) (has_prefix 107 s) (has_prefix 118 s)
unfolding read_element
read-by_prefix s = refl

some_rest : (b : Bool) (s t : List ℕ) → Some t ≡ cond b (Some (drop 2 s)) None → (b ≡ true) × (t ≡ drop 2 s)
some_rest true s t h = (refl, ap (λ o. unwrap_or o t) h)
some_rest false s t h = absurd cc

no_rest : (b : Bool) (s : List ℕ) → None ≡ cond b (Some (drop 2 s)) None → b ≡ false
no_rest true s h = absurd cc
no_rest false s h = refl

pub no_prefix_of : (kind : ℕ) (s : List ℕ) → None ≡ text_after kind s → has_prefix kind s ≡ false
no_prefix_of kind s h = no_rest (has_prefix kind s) s h

pub read-field : (s t : List ℕ) → Some t ≡ text_after 102 s → read_element s ≡ Ok (field t)
read-field s t h =
    let p = some_rest (has_prefix 102 s) s t h in
    read-by_prefix s ∙ ap (λ f. by_prefix s f (has_prefix 107 s) (has_prefix 118 s)) p.0 ∙ ap (λ u. Ok (field u)) (sym p.1)

pub field-read : (s : List ℕ) → is_field_text s ≡ true → read_element s ≡ Ok (field (drop 2 s))
field-read s h = read-by_prefix s ∙ ap (λ f. by_prefix s f (has_prefix 107 s) (has_prefix 118 s)) h

-- something is found exactly where the test holds
pub some-if : (r : Option (Bor (List ℕ))) (b : Bool) (t : List ℕ) → option_map (λ s. s.now) r ≡ cond b (Some t) None → is_some r ≡ b
some-if None true t h = absurd cc
some-if None false t h = refl
some-if (Some x) true t h = refl
some-if (Some x) false t h = absurd cc

pub read-key : (s t : List ℕ) → None ≡ text_after 102 s → Some t ≡ text_after 107 s → read_element s ≡ read_json s keys_of (read t)
read-key s t f h =
    let p = some_rest (has_prefix 107 s) s t h in
    read-by_prefix s ∙ ap₂ (λ a b. by_prefix s a b (has_prefix 118 s)) (no_prefix_of 102 s f) p.0 ∙ ap (λ u. read_json s keys_of (read u)) (sym p.1)

pub read-value : (s t : List ℕ) → None ≡ text_after 102 s → None ≡ text_after 107 s → Some t ≡ text_after 118 s → read_element s ≡ read_json s (λ d. option_map value (scalar_of d)) (read t)
read-value s t f k h =
    let p = some_rest (has_prefix 118 s) s t h in
    read-by_prefix s ∙ ap₂ (λ a b. by_prefix s a b (has_prefix 118 s)) (no_prefix_of 102 s f) (no_prefix_of 107 s k) ∙ ap (λ v. by_prefix s false false v) p.0
    ∙ ap (λ u. read_json s (λ d. option_map value (scalar_of d)) (read u)) (sym p.1)

pub read-none : (s : List ℕ) → None ≡ text_after 102 s → None ≡ text_after 107 s → None ≡ text_after 118 s → read_element s ≡ Err no_prefix
read-none s f k v =
    read-by_prefix s ∙ ap₂ (λ a b. by_prefix s a b (has_prefix 118 s)) (no_prefix_of 102 s f) (no_prefix_of 107 s k) ∙ ap (λ v. by_prefix s false false v) (no_prefix_of 118 s v)

pub gives-as : (r : Result Elem ElemFault) (a b : Result Element NoElement) → a ≡ b → Returns element r b → Returns element r a
gives-as r a b is h = subst (Returns element r) (sym is) h

pub not_some : (r : Option (Bor (List ℕ))) (o : Option (List ℕ)) → ((x : Bor (List ℕ)) → r ≢ Some x) → option_map (λ s. s.now) r ≡ o → None ≡ o
not_some None o differs h = h
not_some (Some x) o differs h = absurd (differs x refl)

-- a field's text reads as the field
pub name-read : (f : List ℕ) → read_element (name_text f) ≡ Ok (field f)
unfolding read_element name_text
name-read f = refl
