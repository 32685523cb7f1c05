-- The size of a compact text, part by part.
use Rattle.std.proofs.Common.{◌≡◌, ℕ, suc, ◌+◌, ◌-◌, ◌<◌, ◌≤◌, ℤ, List, [], ◌∷◌, ◌++◌, length, drop, get_or, Bool, true, false, ◌||◌, eqb, ltb, true≢false, Option, Some, None, is_some, unwrap_or, string_bytes, decimal, refl, sym, ap, ◌∙◌, arith, length-append}
use Rattle.std.specs.Fmt.{signed_decimal}
use Rattle.std.specs.Option.{SomeIff}
use Rattle.std.proofs.lemmas.Bool.Decides.{nat_tests}
use Rattle.std.proofs.lemmas.List.{drop_more, drop_all}
use Rattle.json.specs.Print.{escape, escape_byte, escape_letter, quoted}
use Rattle.serde_json.specs.Data.{Num, unsigned, negative, float, number}
use Rattle.serde_json.specs.Find.{as_u64, as_i64}
use Rattle.serde_json.specs.View.{view, items_view, members_view}
use Rattle.serde_json.specs.Written.{comma_if, compact_text, items_text, members_text}
use Rattle.serde_json.specs.declared.value.Value.{Value}
use Rattle.serde_json.proofs.Views.{Entry}
use Rattle.json_patch.specs.CopiedSize.{copied_size, items_without_floats, left_of, members_without_floats, without_floats}
use Rattle.json_patch.proofs.Room.{after_more, checked, none_after}

-- ---- numbers

pub unsigned_size : (n : Num) (k : ℕ) → Some k ≡ as_u64 n → length (decimal k) ≡ copied_size (number n)
unsigned_size (unsigned m) k is = ap (λ o. length (decimal (unwrap_or o 0))) is
unsigned_size (negative z) k is = absurd (true≢false (ap is_some is))
unsigned_size (float x) k is = absurd (true≢false (ap is_some is))

pub negative_size : (n : Num) (z : ℤ) → None ≡ as_u64 n → Some z ≡ as_i64 n → length (signed_decimal z) ≡ copied_size (number n)
negative_size (unsigned m) z none is = absurd (true≢false (sym (ap is_some none)))
negative_size (negative y) z none is = ap (λ o. length (signed_decimal (unwrap_or o z))) is
negative_size (float x) z none is = absurd (true≢false (ap is_some is))

pub float_size : (n : Num) → None ≡ as_u64 n → None ≡ as_i64 n → 4 ≡ copied_size (number n)
float_size (unsigned m) none neither = absurd (true≢false (sym (ap is_some none)))
float_size (negative y) none neither = absurd (true≢false (sym (ap is_some neither)))
float_size (float x) none neither = refl

-- ---- texts

pub short_escape : (x : ℕ) → ((((((eqb x 34 || eqb x 92) || eqb x 8) || eqb x 9) || eqb x 10) || eqb x 12) || eqb x 13) ≡ ltb 0 (escape_letter x)
short_escape x = grind (arith, nat_tests)

pub short_size : (x : ℕ) → ltb 0 (escape_letter x) ≡ true → 2 ≡ length (escape_byte x)
unfolding escape_byte
short_size x short = rw short refl

pub control_size : (x : ℕ) → ltb 0 (escape_letter x) ≡ false → ltb x 32 ≡ true → 6 ≡ length (escape_byte x)
unfolding escape_byte
control_size x not_short control = rw (not_short, control) refl

pub plain_size : (x : ℕ) → ltb 0 (escape_letter x) ≡ false → ltb x 32 ≡ false → 1 ≡ length (escape_byte x)
unfolding escape_byte
plain_size x not_short plain = rw (not_short, plain) refl

pub quoted_size : (s : List ℕ) → 2 + length (escape s) ≡ length (quoted s)
quoted_size s = let e = length-append (escape s) (34 ∷ []) in omega arith

pub text_begun : (room left : ℕ) (s : List ℕ) → SomeIff (Some left) (2 ≤ room) (room - 2) → left_of left (length (escape s)) ≡ left_of room (length (quoted s))
text_begun room left s is = after_more room 2 (length (escape s)) left (checked room 2 (Some left) is) ∙ ap (left_of room) (quoted_size s)

pub text_too_long : (room : ℕ) (s : List ℕ) → SomeIff {T = ℕ} None (2 ≤ room) (room - 2) → None ≡ left_of room (length (quoted s))
text_too_long room s is = none_after room 2 (length (escape s)) (checked room 2 None is) ∙ ap (left_of room) (quoted_size s)

module _ (whole : Option ℕ) (bytes : List ℕ) (i left size : ℕ) (here : i < length bytes) (sized : size ≡ length (escape_byte (get_or bytes i 0)))
    (so_far : left_of left (length (escape (drop i bytes))) ≡ whole) where
  abbrev rest_size : ℕ
  rest_size = length (escape (drop (i + 1) bytes))

  escaped : left_of left (size + rest_size) ≡ whole
  escaped =
      ap (λ n. left_of left (n + rest_size)) sized
      ∙ ap (left_of left) (sym (length-append (escape_byte (get_or bytes i 0)) (escape (drop (i + 1) bytes))))
      ∙ sym (ap (λ l. left_of left (length (escape l))) (drop_more bytes i 0 here)) ∙ so_far

  pub byte_counted : (next : ℕ) → SomeIff (Some next) (size ≤ left) (left - size) → left_of next (length (escape (drop (i + 1) bytes))) ≡ whole
  byte_counted next fits = after_more left size rest_size next (checked left size (Some next) fits) ∙ escaped

  pub byte_too_long : SomeIff {T = ℕ} None (size ≤ left) (left - size) → None ≡ whole
  byte_too_long not = none_after left size rest_size (checked left size None not) ∙ escaped

pub text_ended : (whole : Option ℕ) (bytes : List ℕ) (i left : ℕ) → length bytes ≤ i → left_of left (length (escape (drop i bytes))) ≡ whole → Some left ≡ whole
text_ended whole bytes i left past so_far =
    checked left 0 (Some left) (omega arith, omega arith) ∙ sym (ap (λ l. left_of left (length (escape l))) (drop_all i bytes past)) ∙ so_far

-- ---- items

abbrev rest_text : List Value → List ℕ
rest_text xs = items_text true (items_without_floats (items_view xs))

items_size : (later : Bool) (x : Value) (xs : List Value)
    → length (items_text later (items_without_floats (items_view (x ∷ xs)))) ≡ length (comma_if later) + (copied_size (view x) + length (rest_text xs))
items_size later x xs =
    length-append (comma_if later) (compact_text (without_floats (view x)) ++ rest_text xs)
    ∙ ap (λ n. length (comma_if later) + n) (length-append (compact_text (without_floats (view x))) (rest_text xs))

module _ (whole : Option ℕ) (items : List Value) (i left : ℕ) (later : Bool) (x : Value) (here : i < length items) (is : x ≡ get_or items i x)
    (so_far : left_of left (length (items_text later (items_without_floats (items_view (drop i items))))) ≡ whole) where
  item_next : left_of left (length (comma_if later) + (copied_size (view x) + length (rest_text (drop (i + 1) items)))) ≡ whole
  item_next =
      ap (λ y. left_of left (length (comma_if later) + (copied_size (view y) + length (rest_text (drop (i + 1) items))))) is
      ∙ ap (left_of left) (sym (items_size later (get_or items i x) (drop (i + 1) items)))
      ∙ sym (ap (λ l. left_of left (length (items_text later (items_without_floats (items_view l))))) (drop_more items i x here)) ∙ so_far

  pub comma_too_long : None ≡ left_of left (length (comma_if later)) → None ≡ whole
  comma_too_long none = none_after left (length (comma_if later)) (copied_size (view x) + length (rest_text (drop (i + 1) items))) none ∙ item_next

  module _ (past : ℕ) (comma : Some past ≡ left_of left (length (comma_if later))) where
    after_this : left_of past (copied_size (view x) + length (rest_text (drop (i + 1) items))) ≡ whole
    after_this = after_more left (length (comma_if later)) (copied_size (view x) + length (rest_text (drop (i + 1) items))) past comma ∙ item_next

    pub item_too_long : None ≡ left_of past (copied_size (view x)) → None ≡ whole
    item_too_long none = none_after past (copied_size (view x)) (length (rest_text (drop (i + 1) items))) none ∙ after_this

    pub item_counted : (next : ℕ) → Some next ≡ left_of past (copied_size (view x)) → left_of next (length (rest_text (drop (i + 1) items))) ≡ whole
    item_counted next is_next = after_more past (copied_size (view x)) (length (rest_text (drop (i + 1) items))) next is_next ∙ after_this

pub items_ended : (whole : Option ℕ) (items : List Value) (i left : ℕ) (later : Bool) (o : Option ℕ) → length items ≤ i
    → left_of left (length (items_text later (items_without_floats (items_view (drop i items))))) ≡ whole → SomeIff o (1 ≤ left) (left - 1) → o ≡ whole
items_ended whole items i left later o past so_far fits =
    checked left 1 o fits ∙ sym (ap (λ l. left_of left (length (items_text later (items_without_floats (items_view l))))) (drop_all i items past)) ∙ so_far

-- ---- members

abbrev others_text : List Entry → List ℕ
others_text es = members_text true (members_without_floats (members_view es))

members_size : (later : Bool) (e : Entry) (es : List Entry)
    → length (members_text later (members_without_floats (members_view (e ∷ es)))) ≡ length (comma_if later) + (length (quoted (string_bytes e.0)) + (1 + (copied_size (view e.1) + length (others_text es))))
members_size later e es =
    let value = compact_text (without_floats (view e.1)) in
    let value_size = length-append value (others_text es) in
    let named_size = length-append (quoted (string_bytes e.0)) (58 ∷ (value ++ others_text es)) in
    let whole_size = length-append (comma_if later) (quoted (string_bytes e.0) ++ 58 ∷ (value ++ others_text es)) in
    omega (arith, value_size, named_size, whole_size)

module _ (whole : Option ℕ) (it : List Entry) (left : ℕ) (later : Bool) (e : Entry) (es : List Entry) (steps : it ≡ e ∷ es)
    (so_far : left_of left (length (members_text later (members_without_floats (members_view it)))) ≡ whole) where
  abbrev value_rest : ℕ
  value_rest = copied_size (view e.1) + length (others_text es)

  member_next : left_of left (length (comma_if later) + (length (quoted (string_bytes e.0)) + (1 + value_rest))) ≡ whole
  member_next =
      ap (left_of left) (sym (members_size later e es)) ∙ sym (ap (λ l. left_of left (length (members_text later (members_without_floats (members_view l))))) steps) ∙ so_far

  pub member_comma : None ≡ left_of left (length (comma_if later)) → None ≡ whole
  member_comma none = none_after left (length (comma_if later)) _ none ∙ member_next

  module _ (past : ℕ) (comma : Some past ≡ left_of left (length (comma_if later))) where
    past_comma : left_of past (length (quoted (string_bytes e.0)) + (1 + value_rest)) ≡ whole
    past_comma = after_more left (length (comma_if later)) (length (quoted (string_bytes e.0)) + (1 + value_rest)) past comma ∙ member_next

    pub name_too_long : None ≡ left_of past (length (quoted (string_bytes e.0))) → None ≡ whole
    name_too_long none = none_after past (length (quoted (string_bytes e.0))) (1 + value_rest) none ∙ past_comma

    module _ (named : ℕ) (name : Some named ≡ left_of past (length (quoted (string_bytes e.0)))) where
      past_name : left_of named (1 + value_rest) ≡ whole
      past_name = after_more past (length (quoted (string_bytes e.0))) (1 + value_rest) named name ∙ past_comma

      pub colon_too_long : SomeIff {T = ℕ} None (1 ≤ named) (named - 1) → None ≡ whole
      colon_too_long not = none_after named 1 value_rest (checked named 1 None not) ∙ past_name

      module _ (colon : ℕ) (fits : SomeIff (Some colon) (1 ≤ named) (named - 1)) where
        past_colon : left_of colon value_rest ≡ whole
        past_colon = after_more named 1 value_rest colon (checked named 1 (Some colon) fits) ∙ past_name

        pub member_too_long : None ≡ left_of colon (copied_size (view e.1)) → None ≡ whole
        member_too_long none = none_after colon (copied_size (view e.1)) (length (others_text es)) none ∙ past_colon

        pub member_counted : (next : ℕ) → Some next ≡ left_of colon (copied_size (view e.1)) → left_of next (length (others_text es)) ≡ whole
        member_counted next is_next = after_more colon (copied_size (view e.1)) (length (others_text es)) next is_next ∙ past_colon

pub members_ended : (whole : Option ℕ) (it : List Entry) (left : ℕ) (later : Bool) (o : Option ℕ) → it ≡ []
    → left_of left (length (members_text later (members_without_floats (members_view it)))) ≡ whole → SomeIff o (1 ≤ left) (left - 1) → o ≡ whole
members_ended whole it left later o none so_far fits =
    checked left 1 o fits ∙ sym (ap (λ l. left_of left (length (members_text later (members_without_floats (members_view l))))) none) ∙ so_far

-- ---- the bracket that opens

pub opened : (room n left : ℕ) → SomeIff (Some left) (1 ≤ room) (room - 1) → left_of left n ≡ left_of room (suc n)
opened room n left fits = after_more room 1 n left (checked room 1 (Some left) fits) ∙ ap (left_of room) (let e : 1 + n ≡ suc n = omega arith in e)

pub no_bracket : (room n : ℕ) → SomeIff {T = ℕ} None (1 ≤ room) (room - 1) → None ≡ left_of room (suc n)
no_bracket room n not = none_after room 1 n (checked room 1 None not) ∙ ap (left_of room) (let e : 1 + n ≡ suc n = omega arith in e)
