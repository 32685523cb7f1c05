-- A compact text is UTF-8 where each text in it is; and so is the text of an object at another version.
use Rattle.std.proofs.Common.{◌≡◌, ℕ, zero, suc, ◌<◌, ◌≤◌, ◌^◌, pos, negsuc, nat_lt, ◌&&◌, Bool, true, false, List, [], ◌∷◌, ◌++◌, length, get_or, Option, Some, None, Ordering, Less, Equal, Greater, IsUtf8, ◌⊎◌, inl, inr, refl, sym, ap, subst, ◌∙◌, arith, append_assoc, length-append, lt-ltb, ltb-true}
use Rattle.std.specs.Prelude.{codes, decimal, option_and_then, option_map}
use Rattle.std.specs.Cmp.Lexicographic.{slice_cmp}
use Rattle.std.specs.Ordering.{match_ordering, nat_cmp}
use Rattle.std.proofs.Math.Seq.{drop-append_seam, get_or-append_seam, take-append_seam}
use Rattle.std.proofs.lemmas.Bool.{and_parts, cases_eq, cases_lt}
use Rattle.std.proofs.lemmas.Fmt.{IsAscii-decimal}
use Rattle.std.proofs.lemmas.Str.{IsCharBoundary-after_ascii, IsCharBoundary-before_ascii, IsUtf8-append, IsUtf8-drop, IsUtf8-from_ascii, IsUtf8-take}
use Rattle.json.specs.Print.{escape, escape_byte, quoted}
use Rattle.json.proofs.Printed.Strings.{escape_byte_plain}
use Rattle.json.proofs.Printed.Utf8.{are_ascii, IsUtf8-are_ascii, IsUtf8-boolean, IsUtf8-quoted}
use Rattle.serde_json.specs.Data.{Num, unsigned, negative, float, Data, null, boolean, number, string, array, object, Items, no_items, item, Members, no_members, member, put}
use Rattle.serde_json.specs.Find.{as_object, get_member}
use Rattle.serde_json.specs.Written.{comma_if, compact_text, items_text, members_text, number_text}
use Rattle.fieldpath.specs.Encodable.{IsEncodableNumber, IsEncodable, AreEncodable, MembersAreEncodable}
use Rattle.objects.specs.ReadBack.{max_version}
use Rattle.objects.proofs.Taken.{same_some}
use Rattle.json_values.specs.Members.{less}
use Rattle.watchline.specs.Versions.{metadata_at, value_at, value_of}

-- ---- of texts that are UTF-8

number_utf8 : (n : Num) → IsEncodableNumber n → IsUtf8 (number_text n)
number_utf8 (unsigned n) fits = IsUtf8-from_ascii (decimal n) (IsAscii-decimal n fits)
number_utf8 (negative (pos n)) fits = absurd fits
number_utf8 (negative (negsuc n)) fits =
    let low : n < 2 ^ 63 = fits in
    IsUtf8-append (45 ∷ []) (decimal (suc n)) (IsUtf8-are_ascii (45 ∷ []) refl) (IsUtf8-from_ascii (decimal (suc n)) (IsAscii-decimal (suc n) (omega (arith, low))))
number_utf8 (float x) fits = IsUtf8-are_ascii [] refl

comma_utf8 : (b : Bool) → IsUtf8 (comma_if b)
comma_utf8 true = IsUtf8-are_ascii (44 ∷ []) refl
comma_utf8 false = IsUtf8-are_ascii [] refl

-- each name and each text in it is UTF-8, and its numbers are within 64 bits
abbrev mutual
  pub HasTexts : Data → Type 0
  HasTexts null = Unit {0}
  HasTexts (boolean b) = Unit {0}
  HasTexts (number n) = IsEncodableNumber n
  HasTexts (string s) = IsUtf8 s
  HasTexts (array ds) = ItemsHaveTexts ds
  HasTexts (object ms) = MembersHaveTexts ms

  pub ItemsHaveTexts : Items → Type 0
  ItemsHaveTexts no_items = Unit {0}
  ItemsHaveTexts (item d ds) = HasTexts d × ItemsHaveTexts ds

  pub MembersHaveTexts : Members → Type 0
  MembersHaveTexts no_members = Unit {0}
  MembersHaveTexts (member k d ms) = IsUtf8 k × (HasTexts d × MembersHaveTexts ms)

mutual
  pub text_utf8 : (d : Data) → HasTexts d → IsUtf8 (compact_text d)
  text_utf8 null h = IsUtf8-are_ascii _ refl
  text_utf8 (boolean b) h = IsUtf8-boolean b
  text_utf8 (number n) h = number_utf8 n h
  text_utf8 (string s) h = IsUtf8-quoted s h
  text_utf8 (array ds) h = IsUtf8-append (91 ∷ []) (items_text false ds) (IsUtf8-are_ascii (91 ∷ []) refl) (items_utf8 false ds h)
  text_utf8 (object ms) h = IsUtf8-append (123 ∷ []) (members_text false ms) (IsUtf8-are_ascii (123 ∷ []) refl) (members_utf8 false ms h)

  items_utf8 : (b : Bool) (ds : Items) → ItemsHaveTexts ds → IsUtf8 (items_text b ds)
  items_utf8 b no_items h = IsUtf8-are_ascii (93 ∷ []) refl
  items_utf8 b (item d ds) h = IsUtf8-append (comma_if b) (compact_text d ++ items_text true ds) (comma_utf8 b) (IsUtf8-append (compact_text d) (items_text true ds) (text_utf8 d h.0) (items_utf8 true ds h.1))

  members_utf8 : (b : Bool) (ms : Members) → MembersHaveTexts ms → IsUtf8 (members_text b ms)
  members_utf8 b no_members h = IsUtf8-are_ascii (125 ∷ []) refl
  members_utf8 b (member k d ms) h =
      let value = h.1 in
      IsUtf8-append (comma_if b) (quoted k ++ 58 ∷ (compact_text d ++ members_text true ms)) (comma_utf8 b)
      (IsUtf8-append (quoted k) (58 ∷ (compact_text d ++ members_text true ms)) (IsUtf8-quoted k h.0)
      (IsUtf8-append (58 ∷ []) (compact_text d ++ members_text true ms) (IsUtf8-are_ascii (58 ∷ []) refl) (IsUtf8-append (compact_text d) (members_text true ms) (text_utf8 d value.0) (members_utf8 true ms value.1))))

-- ---- a text cut at an ASCII byte

after_byte : (c : ℕ) (xs : List ℕ) → c < 128 → IsUtf8 (c ∷ xs) → IsUtf8 xs
after_byte c xs low text = IsUtf8-drop (c ∷ xs) 1 text (IsCharBoundary-after_ascii (c ∷ xs) 0 text (omega arith) low)

cut : (xs ys : List ℕ) (c : ℕ) → c < 128 → IsUtf8 (xs ++ c ∷ ys) → IsUtf8 xs × IsUtf8 ys
cut xs ys c low text =
    let within : length xs < length (xs ++ c ∷ ys) = omega (arith, length-append xs (c ∷ ys)) in
    let ascii : get_or (xs ++ c ∷ ys) (length xs) 0 < 128 = subst (λ b. b < 128) (sym (get_or-append_seam xs c ys 0)) low in
    let edge = IsCharBoundary-before_ascii (xs ++ c ∷ ys) (length xs) within ascii in (
      subst IsUtf8 (take-append_seam xs (c ∷ ys)) (IsUtf8-take (xs ++ c ∷ ys) (length xs) text edge),
      after_byte c ys low (subst IsUtf8 (drop-append_seam xs (c ∷ ys)) (IsUtf8-drop (xs ++ c ∷ ys) (length xs) text edge)),
    )

after_ascii : (xs ys : List ℕ) → are_ascii xs ≡ true → IsUtf8 (xs ++ ys) → IsUtf8 ys
after_ascii [] ys all text = text
after_ascii (x ∷ xs) ys all text = let p = and_parts (nat_lt x 128) (are_ascii xs) all in after_ascii xs ys p.1 (after_byte x (xs ++ ys) (ltb-true x 128 p.0) text)

-- ---- a string and its escapes

-- some bytes, all ASCII
abbrev is_escape : List ℕ → Bool
is_escape [] = false
is_escape (x ∷ xs) = are_ascii (x ∷ xs)

abbrev escapes_below : ℕ → Bool
escapes_below zero = true
escapes_below (suc n) = is_escape (escape_byte n) && escapes_below n

escape_under : (n : ℕ) → escapes_below n ≡ true → (x : ℕ) → x < n → is_escape (escape_byte x) ≡ true
escape_under zero e x h = absurd (omega arith)
escape_under (suc n) e x h =
    let p = and_parts _ _ e in
    elim (cases_eq x n) [ inl same ↦ rw same p.0 | inr other ↦ escape_under n p.1 x (omega arith) ]

all_escapes : escapes_below 128 ≡ true
unfolding escape_byte
all_escapes = refl

cut_escape : (prefix bytes back : List ℕ) → is_escape bytes ≡ true → IsUtf8 (prefix ++ (bytes ++ back)) → IsUtf8 prefix × IsUtf8 back
cut_escape prefix [] back is text = absurd cc
cut_escape prefix (b ∷ bytes) back is text =
    let p = and_parts (nat_lt b 128) (are_ascii bytes) is in
    let parts = cut prefix (bytes ++ back) b (ltb-true b 128 p.0) text in
    (parts.0, after_ascii bytes back p.1 parts.1)

-- bytes above ASCII stand as they are, and so gather before what is still to be read
by_byte : (prefix : List ℕ) (x : ℕ) (s : List ℕ) → ((before : List ℕ) → IsUtf8 (before ++ escape s) → IsUtf8 (before ++ s)) → IsUtf8 (prefix ++ escape (x ∷ s)) → (x < 128) ⊎ (128 ≤ x)
    → IsUtf8 (prefix ++ x ∷ s)
by_byte prefix x s others text (inl low) =
    let parts = cut_escape prefix (escape_byte x) (escape s) (escape_under 128 all_escapes x low) text in
    IsUtf8-append prefix (x ∷ s) parts.0 (IsUtf8-append (x ∷ []) s (IsUtf8-are_ascii (x ∷ []) (ap (λ b. b && true) (lt-ltb x 128 low))) (others [] parts.1))
by_byte prefix x s others text (inr high) =
    let plain : escape_byte x ≡ x ∷ [] = escape_byte_plain x (λ e. omega arith) (λ e. omega arith) (omega arith) in
    subst IsUtf8 (append_assoc prefix (x ∷ []) s) (others (prefix ++ x ∷ [])
    (subst IsUtf8 (ap (λ bytes. prefix ++ (bytes ++ escape s)) plain ∙ sym (append_assoc prefix (x ∷ []) (escape s))) text))

unescaped : (prefix s : List ℕ) → IsUtf8 (prefix ++ escape s) → IsUtf8 (prefix ++ s)
unescaped prefix [] text = text
unescaped prefix (x ∷ s) text = by_byte prefix x s (λ before t. unescaped before s t) text (cases_lt x 128)

unquoted : (s : List ℕ) → IsUtf8 (quoted s) → IsUtf8 s
unquoted s text = unescaped [] s (cut (escape s) [] 34 (omega arith) (after_byte 34 (escape s ++ 34 ∷ []) (omega arith) text)).0

-- ---- the texts of a compact text

after_comma : (b : Bool) (xs : List ℕ) → IsUtf8 (comma_if b ++ xs) → IsUtf8 xs
after_comma true xs text = after_byte 44 xs (omega arith) text
after_comma false xs text = text

ascii_before : (xs ys : List ℕ) (c : ℕ) → c < 128 → are_ascii (c ∷ []) ≡ true → IsUtf8 (xs ++ c ∷ ys) → IsUtf8 xs × IsUtf8 (c ∷ ys)
ascii_before xs ys c low ascii text = let parts = cut xs ys c low text in (parts.0, IsUtf8-append (c ∷ []) ys (IsUtf8-are_ascii (c ∷ []) ascii) parts.1)

before_items : (xs : List ℕ) (ds : Items) → IsUtf8 (xs ++ items_text true ds) → IsUtf8 xs × IsUtf8 (items_text true ds)
before_items xs no_items text = ascii_before xs [] 93 (omega arith) refl text
before_items xs (item d ds) text = ascii_before xs (compact_text d ++ items_text true ds) 44 (omega arith) refl text

before_members : (xs : List ℕ) (ms : Members) → IsUtf8 (xs ++ members_text true ms) → IsUtf8 xs × IsUtf8 (members_text true ms)
before_members xs no_members text = ascii_before xs [] 125 (omega arith) refl text
before_members xs (member k d ms) text = ascii_before xs (quoted k ++ 58 ∷ (compact_text d ++ members_text true ms)) 44 (omega arith) refl text

mutual
  pub has_texts : (d : Data) → IsEncodable d → IsUtf8 (compact_text d) → HasTexts d
  has_texts null s text = tt
  has_texts (boolean b) s text = tt
  has_texts (number n) s text = s
  has_texts (string x) s text = unquoted x text
  has_texts (array ds) s text = items_have_texts false ds s (after_byte 91 (items_text false ds) (omega arith) text)
  has_texts (object ms) s text = members_have_texts false ms s.1 (after_byte 123 (members_text false ms) (omega arith) text)

  items_have_texts : (b : Bool) (ds : Items) → AreEncodable ds → IsUtf8 (items_text b ds) → ItemsHaveTexts ds
  items_have_texts b no_items s text = tt
  items_have_texts b (item d ds) s text =
      let parts = before_items (compact_text d) ds (after_comma b (compact_text d ++ items_text true ds) text) in
      (has_texts d s.0 parts.0, items_have_texts true ds s.1 parts.1)

  members_have_texts : (b : Bool) (ms : Members) → MembersAreEncodable ms → IsUtf8 (members_text b ms) → MembersHaveTexts ms
  members_have_texts b no_members s text = tt
  members_have_texts b (member k d ms) s text =
      let value = compact_text d ++ members_text true ms in
      let named = cut (quoted k) value 58 (omega arith) (after_comma b (quoted k ++ 58 ∷ value) text) in
      let parts = before_members (compact_text d) ms named.1 in
      (unquoted k named.0, (has_texts d s.0 parts.0, members_have_texts true ms s.1 parts.1))

-- ---- another version

put_texts : (k : List ℕ) (d : Data) (ms : Members) → IsUtf8 k → HasTexts d → MembersHaveTexts ms → MembersHaveTexts (put k d ms)
put_texts k d no_members name value texts = (name, (value, tt))
put_texts k d (member l e ms) name value texts = by_order (slice_cmp nat_cmp k l) (put_texts k d ms name value texts.1.1)
  where
    by_order : (o : Ordering) → MembersHaveTexts (put k d ms) → MembersHaveTexts (match_ordering o (member k d (member l e ms)) (member l d ms) (member l e (put k d ms)))
    by_order Less later = (name, (value, texts))
    by_order Equal later = (texts.0, (value, texts.1.1))
    by_order Greater later = (texts.0, (texts.1.0, later))

texts_less : (k : List ℕ) (ms : Members) → MembersHaveTexts ms → MembersHaveTexts (less k ms)
texts_less k no_members texts = tt
texts_less k (member l e ms) texts = by_order (slice_cmp nat_cmp k l) (texts_less k ms texts.1.1)
  where
    by_order : (o : Ordering) → MembersHaveTexts (less k ms) → MembersHaveTexts (match_ordering o (member l e (less k ms)) ms (member l e (less k ms)))
    by_order Less later = (texts.0, (texts.1.0, later))
    by_order Equal later = texts.1.1
    by_order Greater later = (texts.0, (texts.1.0, later))

texts_at : (k : List ℕ) (ms : Members) (d : Data) → MembersHaveTexts ms → get_member k ms ≡ Some d → HasTexts d
texts_at k no_members d texts is = absurd cc
texts_at k (member l e ms) d texts is = by_order (slice_cmp nat_cmp k l) (λ found. texts_at k ms d texts.1.1 found) is
  where
    by_order : (o : Ordering) → (get_member k ms ≡ Some d → HasTexts d) → match_ordering o (get_member k ms) (Some e) (get_member k ms) ≡ Some d → HasTexts d
    by_order Less later found = later found
    by_order Equal later found = subst HasTexts (same_some e d found) texts.1.0
    by_order Greater later found = later found

pub decimal_utf8 : (n : ℕ) → n ≤ max_version → IsUtf8 (decimal n)
decimal_utf8 n low = IsUtf8-from_ascii (decimal n) (IsAscii-decimal n (omega (arith, low)))

value_texts : (r : ℕ) (others metadata : Members) → r ≤ max_version → MembersHaveTexts others → MembersHaveTexts metadata → HasTexts (value_of r others metadata)
value_texts r others metadata low texts marks =
    put_texts (codes "metadata") (object (metadata_at r metadata)) others (IsUtf8-are_ascii (codes "metadata") refl)
    (put_texts (codes "resourceVersion") (string (decimal r)) metadata (IsUtf8-are_ascii (codes "resourceVersion") refl) (decimal_utf8 r low) marks) texts

abbrev numbered : ℕ → Members → Option Data → Option Data
numbered r ms o = option_map (λ (p : Members × Members). value_of r p.0 p.1) (option_map (λ (m : Members). (less (codes "metadata") ms, m)) (option_and_then as_object o))

-- with another version there stand the same texts and that version
pub renumbered_texts : (r : ℕ) (d e : Data) → r ≤ max_version → HasTexts d → value_at r d ≡ Some e → HasTexts e
renumbered_texts r null e low texts is = absurd cc
renumbered_texts r (boolean b) e low texts is = absurd cc
renumbered_texts r (number n) e low texts is = absurd cc
renumbered_texts r (string s) e low texts is = absurd cc
renumbered_texts r (array ds) e low texts is = absurd cc
renumbered_texts r (object ms) e low texts is = by_member (get_member (codes "metadata") ms) refl is
  where
    by_member : (o : Option Data) → get_member (codes "metadata") ms ≡ o → numbered r ms o ≡ Some e → HasTexts e
    by_member None found has = absurd cc
    by_member (Some null) found has = absurd cc
    by_member (Some (boolean b)) found has = absurd cc
    by_member (Some (number n)) found has = absurd cc
    by_member (Some (string s)) found has = absurd cc
    by_member (Some (array ds)) found has = absurd cc
    by_member (Some (object m)) found has =
        subst HasTexts (same_some (value_of r (less (codes "metadata") ms) m) e has)
        (value_texts r (less (codes "metadata") ms) m low (texts_less (codes "metadata") ms texts) (texts_at (codes "metadata") ms (object m) texts found))
