-- The bytes of a reply as a head of the grammar.
use Rattle.std.proofs.Common.{arith, ◌≡◌, ℕ, ◌+◌, ◌≤◌, ◌<◌, ◌^◌, zero, suc, Bool, true, false, List, [], ◌∷◌, ◌++◌, length, map, Option, Some, None, refl, sym, ap, subst, ◌∙◌, append_assoc, append-nil, length-append}
use Rattle.std.proofs.lemmas.Bool.{le-leb, leb-false, leb-true}
use Rattle.std.proofs.lemmas.Fmt.{decimal_is_IsNumeral, length-decimal-le}
use Rattle.std.proofs.lemmas.Int.Digits.{digits_value-lt}
use Rattle.std.proofs.lemmas.List.Elements.{All-cons, All-nil}
use Rattle.std.specs.Prelude.{codes, if◌then◌else◌, nat_le}
use Rattle.std.specs.Char.{is_ascii_digit}
use Rattle.std.specs.Fmt.{decimal}
use Rattle.std.specs.List.{All, flat_map}
use Rattle.std.specs.Str.Parse.{digits_value}
use Rattle.http.specs.StatusCode.{IsStatusCode}
use Rattle.httparse.specs.Grammar as grammar
use Rattle.httparse.specs.Grammar.{AllPass, is_token_byte, is_value_byte, Field, IsField, print_field, ResponseHead, IsResponseHead, print_response, status_code, trim_ows}
use Rattle.httparse.specs.Spans.{name_and_value}
use Rattle.wire.specs.Heads.{crlf, max_fields, max_head}
use Rattle.wire.specs.Lengths.{length_in}
use Rattle.wire.proofs.Lines.{passes_each}
use Rattle.requests.specs.ReplyBytes.{phrase_of, allow_field, reply}
use Rattle.wireclient.specs.Reads.{Items, framed_by_length, framing_of, max_body}
use Rattle.wireclient.specs.Reply.{by_length, end, head, malformed, whole}
use Rattle.wire_laws.specs.Printed.{IsAllowed}
use Rattle.wire_laws.specs.Replied.{reply_sent}
use Rattle.wire_laws.proofs.Fields.{field, decimal_digits, decimal_is_value, is_field, trimmed}
use Rattle.wire_laws.proofs.Statuses.{phrase_passes, phrase_short}

abbrev pub allow_of : Option (List ℕ) → List Field
allow_of None = []
allow_of (Some methods) = field (codes "Allow") methods ∷ []

abbrev pub fields_of : Option (List ℕ) → List ℕ → List Field
fields_of allow count = field (codes "Content-Type") (codes "application/json") ∷ field (codes "Content-Length") count ∷ field (codes "Connection") (codes "close") ∷ allow_of allow

abbrev pub head_of : List ℕ → List ℕ → Option (List ℕ) → List ℕ → ResponseHead
head_of code phrase allow count = record {
  blank = [];
  minor = 1;
  digits = code;
  reason = Some phrase;
  line_end = grammar.crlf;
  fields = fields_of allow count;
  last = grammar.crlf;
}

-- the same bytes as the server prints, of any digits and phrase
abbrev pub after_count : Option (List ℕ) → List ℕ
after_count allow = crlf ++ (codes "Connection: close" ++ (crlf ++ (allow_field allow ++ crlf)))

abbrev pub after_phrase : Option (List ℕ) → List ℕ → List ℕ
after_phrase allow count = crlf ++ (codes "Content-Type: application/json" ++ (crlf ++ (codes "Content-Length: " ++ (count ++ after_count allow))))

abbrev pub head_text : List ℕ → List ℕ → Option (List ℕ) → List ℕ → List ℕ
head_text code phrase allow count = codes "HTTP/1.1 " ++ (code ++ (32 ∷ (phrase ++ after_phrase allow count)))

-- ---- the same bytes

pub status_line : (digits phrase rest : List ℕ) → ((digits ++ 32 ∷ phrase) ++ crlf) ++ rest ≡ digits ++ (32 ∷ (phrase ++ (crlf ++ rest)))
status_line digits phrase rest = append_assoc (digits ++ 32 ∷ phrase) crlf rest ∙ append_assoc digits (32 ∷ phrase) (crlf ++ rest)

length_line : (digits rest : List ℕ) → ((digits ++ crlf) ++ rest) ++ crlf ≡ digits ++ (crlf ++ (rest ++ crlf))
length_line digits rest = append_assoc (digits ++ crlf) rest crlf ∙ append_assoc digits crlf (rest ++ crlf)

allow_line : (allow : Option (List ℕ)) → flat_map print_field (allow_of allow) ++ crlf ≡ allow_field allow ++ crlf
allow_line None = refl
allow_line (Some methods) = ap (λ (s : List ℕ). codes "Allow: " ++ (s ++ crlf)) (append-nil (methods ++ crlf))

printed : (code phrase : List ℕ) (allow : Option (List ℕ)) (count : List ℕ) → print_response (head_of code phrase allow count) ≡ head_text code phrase allow count
unfolding print_response
printed code phrase allow count =
    ap (λ (s : List ℕ). codes "HTTP/1.1 " ++ s) (status_line code phrase (flat_map print_field (fields_of allow count) ++ crlf)
    ∙ ap (λ (s : List ℕ). code ++ (32 ∷ (phrase ++ (crlf ++ (codes "Content-Type: application/json" ++ (crlf ++ (codes "Content-Length: " ++ s)))))))
    (length_line count (print_field (field (codes "Connection") (codes "close")) ++ flat_map print_field (allow_of allow))
    ∙ ap (λ (s : List ℕ). count ++ (crlf ++ (codes "Connection: close" ++ (crlf ++ s)))) (allow_line allow)))

-- ---- a head of the grammar

pub three_digits : (code : ℕ) → IsStatusCode code → length (decimal code) ≡ 3
three_digits code is =
    let wide : code < 2 ^ 64 = omega (arith, is.1) in
    let most : length (decimal code) ≤ 3 = length-decimal-le 3 code (omega arith) (omega (arith, is.1)) wide in
    let numeral = decimal_is_IsNumeral code wide in
    let value : code < 10 ^ length (decimal code) = subst (λ (v : ℕ). v < 10 ^ length (decimal code)) numeral.1 (digits_value-lt 10 (decimal code) numeral.0.1) in
    exactly (length (decimal code)) most is.0 value
  where
    exactly : (k : ℕ) → k ≤ 3 → 100 ≤ code → code < 10 ^ k → k ≡ 3
    exactly zero few low value = absurd (omega (arith, low, value))
    exactly (suc zero) few low value = absurd (omega (arith, low, value))
    exactly (suc (suc zero)) few low value = absurd (omega (arith, low, value))
    exactly (suc (suc (suc k))) few low value = omega (arith, few)

pub is_content_type : IsField (field (codes "Content-Type") (codes "application/json"))
unfolding is_token_byte
is_content_type = is_field (codes "Content-Type") (codes "application/json") (omega arith) refl (passes_each is_value_byte (codes "application/json") refl)

is_content_length : (digits : List ℕ) → AllPass is_value_byte digits → IsField (field (codes "Content-Length") digits)
unfolding is_token_byte
is_content_length digits pass = is_field (codes "Content-Length") digits (omega arith) refl pass

pub is_connection : IsField (field (codes "Connection") (codes "close"))
unfolding is_token_byte
is_connection = is_field (codes "Connection") (codes "close") (omega arith) refl (passes_each is_value_byte (codes "close") refl)

is_allow : (methods : List ℕ) → AllPass is_value_byte methods → IsField (field (codes "Allow") methods)
unfolding is_token_byte
is_allow methods pass = is_field (codes "Allow") methods (omega arith) refl pass

allow_fields : (allow : Option (List ℕ)) → IsAllowed allow → All IsField (allow_of allow)
allow_fields None is = All-nil IsField
allow_fields (Some methods) is = All-cons IsField (field (codes "Allow") methods) [] (is_allow methods is.0) (All-nil IsField)

are_fields : (allow : Option (List ℕ)) (count : List ℕ) → IsAllowed allow → AllPass is_value_byte count → All IsField (fields_of allow count)
are_fields allow count is pass =
    All-cons IsField (field (codes "Content-Type") (codes "application/json")) (field (codes "Content-Length") count ∷ field (codes "Connection") (codes "close") ∷ allow_of allow) is_content_type
    (All-cons IsField (field (codes "Content-Length") count) (field (codes "Connection") (codes "close") ∷ allow_of allow) (is_content_length count pass)
    (All-cons IsField (field (codes "Connection") (codes "close")) (allow_of allow) is_connection (allow_fields allow is)))

few_fields : (allow : Option (List ℕ)) (count : List ℕ) → length (fields_of allow count) ≤ max_fields
few_fields None count = omega arith
few_fields (Some methods) count = omega arith

framed : (allow : Option (List ℕ)) (count : List ℕ) → trim_ows (32 ∷ count) ≡ count → framing_of (map name_and_value (fields_of allow count)) ≡ framed_by_length (length_in count)
framed None count is = ap (λ (value : List ℕ). framed_by_length (length_in value)) is
framed (Some methods) count is = ap (λ (value : List ℕ). framed_by_length (length_in value)) is

-- ---- its length

allow_short : (allow : Option (List ℕ)) → IsAllowed allow → length (allow_field allow ++ crlf) ≤ 16011
allow_short None is = omega arith
allow_short (Some methods) is =
    let inner = length-append methods crlf in
    let outer = length-append (methods ++ crlf) crlf in
    let short = is.1 in
    omega (arith, inner, outer, short)

head_fits : (code phrase : List ℕ) (allow : Option (List ℕ)) (count : List ℕ) → length code ≤ 3 → length phrase ≤ 64 → IsAllowed allow → length count ≤ 64 → length (head_text code phrase allow count) ≤ max_head
head_fits code phrase allow count three short allowed few =
    let after = allow_short allow allowed in
    let counted : length (count ++ after_count allow) ≡ length count + length (after_count allow) = length-append count (after_count allow) in
    let text : length (phrase ++ after_phrase allow count) ≡ length phrase + length (after_phrase allow count) = length-append phrase (after_phrase allow count) in
    let line : length (code ++ (32 ∷ (phrase ++ after_phrase allow count))) ≡ length code + length (32 ∷ (phrase ++ after_phrase allow count)) = length-append code (32 ∷ (phrase ++ after_phrase allow count)) in
    omega (arith, after, counted, text, line, three, short, few)

pub record HasHead (code phrase : List ℕ) (allow : Option (List ℕ)) (count : List ℕ) : Type 0 where
  is : IsResponseHead (head_of code phrase allow count)
  same : print_response (head_of code phrase allow count) ≡ head_text code phrase allow count
  fits : length (print_response (head_of code phrase allow count)) ≤ max_head

pub has_head : (code phrase : List ℕ) (allow : Option (List ℕ)) (count : List ℕ) → (length code ≡ 3) × AllPass is_ascii_digit code → AllPass is_value_byte phrase → length phrase ≤ 64 → IsAllowed allow
    → AllPass is_value_byte count → length count ≤ 64 → HasHead code phrase allow count
has_head code phrase allow count digits pass short allowed value few =
    let same = printed code phrase allow count in
    let three : length code ≤ 3 = let exact = digits.0 in omega (arith, exact) in
    record {
      is = record { minor = omega arith; digits = digits; reason = pass; fields = are_fields allow count allowed value };
      same = same;
      fits = subst (λ (xs : List ℕ). length xs ≤ max_head) (sym same) (head_fits code phrase allow count three short allowed few);
    }

-- ---- the law

-- what the reader's own laws give of a head, and of a printed length
abbrev pub ReadsBack : Type 0
ReadsBack = (h : ResponseHead) (body : List ℕ) → IsResponseHead h → length (print_response h) ≤ max_head → length h.fields ≤ max_fields
    → framing_of (map name_and_value h.fields) ≡ Some (by_length (length body))
    → Items (print_response h ++ body) (head (status_code h) ∷ whole body ∷ end ∷ [])

abbrev pub ReadsNone : Type 0
ReadsNone = (h : ResponseHead) (more : List ℕ) → IsResponseHead h → length (print_response h) ≤ max_head → framing_of (map name_and_value h.fields) ≡ None → Items (print_response h ++ more) (malformed ∷ [])

pub record Reader : Type 0 where
  pub reply : ReadsBack
  pub counted : (n : ℕ) → n ≤ max_body → framed_by_length (length_in (decimal n)) ≡ Some (by_length n)
  pub none : ReadsNone
  pub uncounted : (n : ℕ) → max_body < n → n < 2 ^ 64 → framed_by_length (length_in (decimal n)) ≡ None

pub head_read : ReadsBack → (code phrase : List ℕ) (allow : Option (List ℕ)) (count body : List ℕ) → HasHead code phrase allow count → trim_ows (32 ∷ count) ≡ count
    → framed_by_length (length_in count) ≡ Some (by_length (length body)) → Items (head_text code phrase allow count ++ body) (head (digits_value 10 code) ∷ whole body ∷ end ∷ [])
head_read reads code phrase allow count body has trim counts =
    subst (λ (xs : List ℕ). Items (xs ++ body) (head (digits_value 10 code) ∷ whole body ∷ end ∷ [])) has.same
    (reads (head_of code phrase allow count) body has.is has.fits (few_fields allow count) (framed allow count trim ∙ counts))

pub head_refused : ReadsNone → (code phrase : List ℕ) (allow : Option (List ℕ)) (count body : List ℕ) → HasHead code phrase allow count → trim_ows (32 ∷ count) ≡ count
    → framed_by_length (length_in count) ≡ None → Items (head_text code phrase allow count ++ body) (malformed ∷ [])
head_refused none code phrase allow count body has trim counts =
    subst (λ (xs : List ℕ). Items (xs ++ body) (malformed ∷ [])) has.same (none (head_of code phrase allow count) body has.is has.fits (framed allow count trim ∙ counts))

pub reply_read : Reader → (code : ℕ) (allow : Option (List ℕ)) (body : List ℕ) → IsStatusCode code → IsAllowed allow → length body < 2 ^ 64 → Items (reply code allow body) (reply_sent code body)
reply_read reader code allow body is allowed wide =
    let low : code < 2 ^ 64 = let top = is.1 in omega (arith, top) in
    let twenty : length (decimal (length body)) ≤ 20 = length-decimal-le 20 (length body) (omega arith) (omega (arith, wide)) wide in
    let few : length (decimal (length body)) ≤ 64 = omega (arith, twenty) in
    let has = has_head (decimal code) (phrase_of code) allow (decimal (length body)) (three_digits code is, decimal_digits code low) (phrase_passes code) (phrase_short code) allowed (decimal_is_value (length body) wide) few in
    by_length (nat_le (length body) max_body) refl has (decimal_is_IsNumeral code low).1
  where
    by_length : (t : Bool) → nat_le (length body) max_body ≡ t → HasHead (decimal code) (phrase_of code) allow (decimal (length body)) → digits_value 10 (decimal code) ≡ code
        → Items (reply code allow body) (if t then head code ∷ whole body ∷ end ∷ [] else malformed ∷ [])
    by_length true short has value =
        subst (λ (n : ℕ). Items (reply code allow body) (head n ∷ whole body ∷ end ∷ [])) value
        (head_read reader.reply (decimal code) (phrase_of code) allow (decimal (length body)) body has (trimmed (length body) wide) (reader.counted (length body) (leb-true (length body) max_body short)))
    by_length false long has value =
        head_refused reader.none (decimal code) (phrase_of code) allow (decimal (length body)) body has (trimmed (length body) wide) (reader.uncounted (length body) (leb-false (length body) max_body long) wide)

pub short_sent : (code : ℕ) (body : List ℕ) → length body ≤ max_body → reply_sent code body ≡ head code ∷ whole body ∷ end ∷ []
short_sent code body short = by_length (nat_le (length body) max_body) (le-leb (length body) max_body short)
  where
    by_length : (t : Bool) → t ≡ true → (if t then head code ∷ whole body ∷ end ∷ [] else malformed ∷ []) ≡ head code ∷ whole body ∷ end ∷ []
    by_length true is = refl
    by_length false is = absurd cc

-- of a body that isn't too long
pub short_read : ((code : ℕ) (allow : Option (List ℕ)) (body : List ℕ) → IsStatusCode code → IsAllowed allow → length body < 2 ^ 64 → Items (reply code allow body) (reply_sent code body))
    → (code : ℕ) (allow : Option (List ℕ)) (body : List ℕ) → IsStatusCode code → IsAllowed allow → length body ≤ max_body → Items (reply code allow body) (head code ∷ whole body ∷ end ∷ [])
short_read reads code allow body is allowed short = subst (Items (reply code allow body)) (short_sent code body short) (reads code allow body is allowed (omega (arith, short)))
