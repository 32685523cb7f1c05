-- What a client is told of a reply of any length, also where the length has more digits than a number of 64 bits.
use Rattle.std.proofs.Common.{arith, ◌≡◌, ◌⊎◌, inl, inr, ℕ, ◌+◌, ◌/◌, ◌%◌, ◌<◌, ◌≤◌, ◌^◌, zero, suc, Bool, true, false, cond, List, [], ◌∷◌, ◌++◌, length, take, drop, Option, Some, None, refl, sym, ap, subst, ◌∙◌, IsTrue, append_assoc, take-append-drop}
use Rattle.std.proofs.lemmas.Bool.{leb-true, lt-ltb, ltb-false, ltb-true}
use Rattle.std.proofs.lemmas.Fmt.{decimal_is_IsNumeral}
use Rattle.std.proofs.lemmas.List.{length-take-le}
use Rattle.std.proofs.lemmas.List.Elements.{All-cons, All-nil}
use Rattle.std.specs.Prelude.{◌==◌, if◌then◌else◌, nat_le, nat_lt}
use Rattle.std.specs.Fmt.{decimal, digit_glyph, digits, digits_onto}
use Rattle.std.specs.Str.Parse.{digits_value}
use Rattle.http.specs.StatusCode.{IsStatusCode}
use Rattle.httparse.specs.Grammar.{AllPass, is_value_byte, trim_ows}
use Rattle.wire.specs.Lengths.{length_in}
use Rattle.requests.specs.ReplyBytes.{phrase_of, reply}
use Rattle.wireclient.proofs.Prefixes.{closed_holds}
use Rattle.wireclient.specs.Reads.{Items, framed_by_length, max_body}
use Rattle.wireclient.specs.Reply.{ReplyItem, by_length, end, head, malformed, whole}
use Rattle.wire_laws.specs.Printed.{IsAllowed}
use Rattle.wire_laws.specs.Replied.{reply_sent}
use Rattle.wire_laws.proofs.Fields.{decimal_digits, digit_is_no_blank, digit_is_value, is_no_blank, unblank_trimmed}
use Rattle.wire_laws.proofs.PrintedReplies.{HasHead, Reader, has_head, head_read, head_refused, head_text, reply_read, three_digits}
use Rattle.wire_laws.proofs.Statuses.{phrase_passes, phrase_short}

-- ---- digits of any number

-- it holds of each digit
abbrev OfDigits : (ℕ → Bool) → Type 0
OfDigits test = (b : ℕ) → 48 ≤ b → b ≤ 57 → test b ≡ true

glyph_is : (test : ℕ → Bool) → OfDigits test → (d : ℕ) → d < 10 → test (digit_glyph false d) ≡ true
glyph_is test is d low = ap (λ (b : Bool). test (if b then 48 + d else (if false then 55 + d else 87 + d))) (lt-ltb d 10 low) ∙ is (48 + d) (omega arith) (omega (arith, low))

by_end : (P : List ℕ → Type 0) (b : Bool) (xs ys : List ℕ) → P xs → P ys → P (cond b xs ys)
by_end P true xs ys first second = first
by_end P false xs ys first second = second

onto_pass : (test : ℕ → Bool) → OfDigits test → (k n : ℕ) (acc : List ℕ) → AllPass test acc → AllPass test (digits_onto k 10 false n acc)
onto_pass test is zero n acc pass = pass
onto_pass test is (suc k) n acc pass =
    let first : AllPass test (digit_glyph false (n % 10) ∷ acc) = All-cons (λ b. IsTrue (test b)) (digit_glyph false (n % 10)) acc (glyph_is test is (n % 10) (omega arith)) pass in
    by_end (AllPass test) (n / 10 == 0) (digit_glyph false (n % 10) ∷ acc) (digits_onto k 10 false (n / 10) (digit_glyph false (n % 10) ∷ acc)) first
    (onto_pass test is k (n / 10) (digit_glyph false (n % 10) ∷ acc) first)

onto_few : (k n : ℕ) (acc : List ℕ) → length (digits_onto k 10 false n acc) ≤ k + length acc
onto_few zero n acc = omega arith
onto_few (suc k) n acc =
    let more : length (digits_onto k 10 false (n / 10) (digit_glyph false (n % 10) ∷ acc)) ≤ k + suc (length acc) = onto_few k (n / 10) (digit_glyph false (n % 10) ∷ acc) in
    by_end (λ xs. length xs ≤ suc k + length acc) (n / 10 == 0) (digit_glyph false (n % 10) ∷ acc) (digits_onto k 10 false (n / 10) (digit_glyph false (n % 10) ∷ acc)) (omega arith) (omega (arith, more))

decimal_passes : (test : ℕ → Bool) → OfDigits test → (n : ℕ) → AllPass test (decimal n)
unfolding digits
decimal_passes test is n = onto_pass test is 64 n [] (All-nil (λ b. IsTrue (test b)))

decimal_few : (n : ℕ) → length (decimal n) ≤ 64
unfolding digits
decimal_few n = onto_few 64 n []

-- ---- a reply

-- its status, its body and the end; or a bad byte alone, where the body is too long; or, where even its length is too long, a strict prefix in
-- place of the body
abbrev pub IsSentOf : ℕ → List ℕ → List ReplyItem → Type 0
IsSentOf code body items = (items ≡ reply_sent code body) ⊎ ((k : ℕ) × (k < length body) × (items ≡ head code ∷ whole (take k body) ∷ end ∷ []))

abbrev pub IsRead : ℕ → Option (List ℕ) → List ℕ → Type 0
IsRead code allow body = (items : List ReplyItem) × Items (reply code allow body) items × IsSentOf code body items

long_sent : (code : ℕ) (body : List ℕ) → max_body < length body → malformed ∷ [] ≡ reply_sent code body
long_sent code body long = go (nat_le (length body) max_body) (λ short. leb-true (length body) max_body short)
  where
    go : (b : Bool) → (b ≡ true → length body ≤ max_body) → malformed ∷ [] ≡ (if b then head code ∷ whole body ∷ end ∷ [] else malformed ∷ [])
    go true short = let few = short refl in absurd (omega (arith, few, long))
    go false short = refl

-- what a length frames
framed_by : (o : Option ℕ) → (framed_by_length o ≡ None) ⊎ ((k : ℕ) × (k ≤ max_body) × (framed_by_length o ≡ Some (by_length k)))
framed_by None = inl refl
framed_by (Some k) = go (nat_le k max_body) (λ short. leb-true k max_body short)
  where
    go : (b : Bool) → (b ≡ true → k ≤ max_body) → ((if b then Some (by_length k) else None) ≡ None) ⊎ ((j : ℕ) × (j ≤ max_body) × ((if b then Some (by_length k) else None) ≡ Some (by_length j)))
    go true short = inr (k, short refl, refl)
    go false short = inl refl

module _ (reader : Reader) (code : ℕ) (allow : Option (List ℕ)) (body : List ℕ) (is : IsStatusCode code) (allowed : IsAllowed allow) where
  long_read : 2 ^ 64 ≤ length body → IsRead code allow body
  long_read long = go (framed_by (length_in count))
    where
      count : List ℕ
      count = decimal (length body)

      low : code < 2 ^ 64
      low = let top = is.1 in omega (arith, top)

      has : HasHead (decimal code) (phrase_of code) allow count
      has = has_head (decimal code) (phrase_of code) allow count (three_digits code is, decimal_digits code low) (phrase_passes code) (phrase_short code) allowed
          (decimal_passes is_value_byte digit_is_value (length body)) (decimal_few (length body))

      trims : trim_ows (32 ∷ count) ≡ count
      trims = unblank_trimmed count (decimal_passes is_no_blank digit_is_no_blank (length body))

      text : List ℕ
      text = head_text (decimal code) (phrase_of code) allow count

      parts : (k : ℕ) → (text ++ take k body) ++ drop k body ≡ text ++ body
      parts k = append_assoc text (take k body) (drop k body) ∙ ap (λ (l : List ℕ). text ++ l) (take-append-drop k body)

      go : (framed_by_length (length_in count) ≡ None) ⊎ ((k : ℕ) × (k ≤ max_body) × (framed_by_length (length_in count) ≡ Some (by_length k))) → IsRead code allow body
      go (inl none) = (malformed ∷ [], head_refused reader.none (decimal code) (phrase_of code) allow count body has trims none, inl (long_sent code body (omega (arith, long))))
      go (inr (k, short, framed)) =
          let within : k ≤ length body = omega (arith, short, long) in
          let same : length (take k body) ≡ k = length-take-le k body within in
          let counts : framed_by_length (length_in count) ≡ Some (by_length (length (take k body))) = framed ∙ ap (λ (j : ℕ). Some (by_length j)) (sym same) in
          let value : digits_value 10 (decimal code) ≡ code = (decimal_is_IsNumeral code low).1 in
          let items : List ReplyItem = head code ∷ whole (take k body) ∷ end ∷ [] in
          let prefix : Items (text ++ take k body) items =
          subst (λ (n : ℕ). Items (text ++ take k body) (head n ∷ whole (take k body) ∷ end ∷ [])) value (head_read reader.reply (decimal code) (phrase_of code) allow count (take k body) has trims counts) in
          (items, subst (λ (l : List ℕ). Items l items) (parts k) (closed_holds (text ++ take k body) (drop k body) items prefix refl), inr (k, omega (arith, short, long), refl))

  -- whatever its length is
  pub any_reply_read : IsRead code allow body
  any_reply_read = go (nat_lt (length body) (2 ^ 64)) (λ wide. ltb-true (length body) (2 ^ 64) wide) (λ long. ltb-false (length body) (2 ^ 64) long)
    where
      go : (b : Bool) → (b ≡ true → length body < 2 ^ 64) → (b ≡ false → 2 ^ 64 ≤ length body) → IsRead code allow body
      go true wide long = (reply_sent code body, reply_read reader code allow body is allowed (wide refl), inl refl)
      go false wide long = long_read (long refl)
