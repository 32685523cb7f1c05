-- A compact text has no line feed.
use Rattle.std.proofs.Common.{◌≡◌, ℕ, zero, suc, ◌<◌, ◌^◌, pos, negsuc, ◌==◌, ◌&&◌, Bool, true, false, true≢false, not, List, [], ◌∷◌, ◌++◌, inl, inr, refl, sym, ap, ap₂, ◌∙◌, arith, append_assoc, eqb-true}
use Rattle.std.specs.Prelude.{◌||◌, codes, decimal}
use Rattle.std.specs.Char.{is_ascii_digit}
use Rattle.std.specs.List.{list_all, list_any}
use Rattle.std.proofs.lemmas.Bool.{and_parts, cases_eq, cases_lt, ne_eqb}
use Rattle.std.proofs.lemmas.Fmt.{digits_decimal}
use Rattle.std.proofs.lemmas.List.Folds.{list_any-append}
use Rattle.names.proofs.Decimals.{digits}
use Rattle.json.specs.Print.{escape, escape_byte, quoted}
use Rattle.json.proofs.Printed.Strings.{escape_byte_plain}
use Rattle.serde_json.specs.Data.{Num, unsigned, negative, float, Data, null, boolean, number, string, array, object, Items, no_items, item, Members, no_members, member}
use Rattle.serde_json.specs.Written.{comma_if, compact_text, items_text, members_text, number_text}
use Rattle.fieldpath.specs.Encodable.{IsEncodableNumber, IsEncodable, AreEncodable, MembersAreEncodable}
use Rattle.watchline.specs.declared.event.EventType.{EventType}
use Rattle.watchline.specs.declared.event.EventType.TheVariants as event
use Rattle.watchline.specs.Lines.{line, type_text}
use Rattle.line_laws.specs.Shown.{is_feed, shown}

abbrev HasNone : List ℕ → Type 0
HasNone text = list_any is_feed text ≡ false

none_both : (xs ys : List ℕ) → HasNone xs → HasNone ys → HasNone (xs ++ ys)
none_both xs ys a b = list_any-append is_feed xs ys ∙ ap₂ (λ x y. x || y) a b

-- ---- numbers

digit_is_none : (b : ℕ) → is_ascii_digit b ≡ true → is_feed b ≡ false
digit_is_none b digit = by_test (b == 10) refl
  where
    by_test : (t : Bool) → (b == 10) ≡ t → t ≡ false
    by_test true is = absurd (true≢false (sym (ap is_ascii_digit (sym (eqb-true b 10 is)) ∙ digit)))
    by_test false is = refl

digits_have_none : (ds : List ℕ) → list_all is_ascii_digit ds ≡ true → HasNone ds
digits_have_none [] all = refl
digits_have_none (d ∷ ds) all =
    let p = and_parts (is_ascii_digit d) (list_all is_ascii_digit ds) all in
    ap₂ (λ x y. x || y) (digit_is_none d p.0) (digits_have_none ds p.1)

decimal_has_none : (n : ℕ) → n < 2 ^ 64 → HasNone (decimal n)
decimal_has_none n fits = digits_have_none (decimal n) (digits_decimal digits n fits)

number_has_none : (n : Num) → IsEncodableNumber n → HasNone (number_text n)
number_has_none (unsigned n) fits = decimal_has_none n fits
number_has_none (negative (pos n)) fits = absurd fits
number_has_none (negative (negsuc n)) fits = let low : n < 2 ^ 63 = fits in decimal_has_none (suc n) (omega (arith, low))
number_has_none (float x) fits = refl

-- ---- strings

abbrev none_below : ℕ → Bool
none_below zero = true
none_below (suc n) = not (list_any is_feed (escape_byte n)) && none_below n

not_true : (b : Bool) → not b ≡ true → b ≡ false
not_true true h = sym h
not_true false h = refl

none_under : (n : ℕ) → none_below n ≡ true → (x : ℕ) → x < n → HasNone (escape_byte x)
none_under zero e x h = absurd (omega arith)
none_under (suc n) e x h =
    let p = and_parts _ _ e in
    elim (cases_eq x n) [ inl same ↦ rw same (not_true _ p.0) | inr other ↦ none_under n p.1 x (omega arith) ]

all_none : none_below 128 ≡ true
unfolding escape_byte
all_none = refl

byte_has_none : (x : ℕ) → HasNone (escape_byte x)
byte_has_none x = elim (cases_lt x 128) [
  | inl small ↦ none_under 128 all_none x small
  | inr big ↦
      ap (list_any is_feed) (escape_byte_plain x (λ e. omega arith) (λ e. omega arith) (omega arith)) ∙ ap (λ b. b || false) (ne_eqb x 10 (λ e. omega arith))
]

escape_has_none : (s : List ℕ) → HasNone (escape s)
escape_has_none [] = refl
escape_has_none (x ∷ xs) = none_both (escape_byte x) (escape xs) (byte_has_none x) (escape_has_none xs)

quoted_has_none : (s : List ℕ) → HasNone (quoted s)
quoted_has_none s = none_both (escape s) (34 ∷ []) (escape_has_none s) refl

-- ---- values

comma_has_none : (b : Bool) → HasNone (comma_if b)
comma_has_none true = refl
comma_has_none false = refl

mutual
  pub text_has_none : (d : Data) → IsEncodable d → HasNone (compact_text d)
  text_has_none null s = refl
  text_has_none (boolean true) s = refl
  text_has_none (boolean false) s = refl
  text_has_none (number n) s = number_has_none n s
  text_has_none (string x) s = quoted_has_none x
  text_has_none (array ds) s = items_have_none false ds s
  text_has_none (object ms) s = members_have_none false ms s.1

  items_have_none : (b : Bool) (ds : Items) → AreEncodable ds → HasNone (items_text b ds)
  items_have_none b no_items s = refl
  items_have_none b (item d ds) s = none_both (comma_if b) (compact_text d ++ items_text true ds) (comma_has_none b) (none_both (compact_text d) (items_text true ds) (text_has_none d s.0) (items_have_none true ds s.1))

  members_have_none : (b : Bool) (ms : Members) → MembersAreEncodable ms → HasNone (members_text b ms)
  members_have_none b no_members s = refl
  members_have_none b (member k d ms) s =
      none_both (comma_if b) (quoted k ++ 58 ∷ (compact_text d ++ members_text true ms)) (comma_has_none b)
      (none_both (quoted k) (58 ∷ (compact_text d ++ members_text true ms)) (quoted_has_none k) (none_both (compact_text d) (members_text true ms) (text_has_none d s.0) (members_have_none true ms s.1)))

-- ---- a line

type_has_none : (what : EventType) → HasNone (codes "{\"type\":\"" ++ type_text what ++ codes "\",\"object\":")
type_has_none event.Added = refl
type_has_none event.Modified = refl
type_has_none event.Deleted = refl
type_has_none event.Bookmark = refl
type_has_none event.Error = refl

pub shown_has_none : (what : EventType) (d : Data) → IsEncodable d → list_any is_feed (shown what (compact_text d)) ≡ false
shown_has_none what d s =
    none_both (codes "{\"type\":\"" ++ type_text what ++ codes "\",\"object\":" ++ compact_text d) (codes "}")
    (none_both (codes "{\"type\":\"" ++ type_text what ++ codes "\",\"object\":") (compact_text d) (type_has_none what) (text_has_none d s)) refl

pub ends_shown : (what : EventType) (text : List ℕ) → line what text ≡ shown what text ++ 10 ∷ []
ends_shown what text = sym (append_assoc (codes "{\"type\":\"" ++ type_text what ++ codes "\",\"object\":" ++ text) (codes "}") (10 ∷ []))
