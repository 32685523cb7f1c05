-- The names of objects and types are ASCII.
use Rattle.std.proofs.Common.{◌≡◌, ℕ, ◌<◌, ◌==◌, Bool, true, List, [], ◌∷◌, refl, subst, arith}
use Rattle.std.proofs.lemmas.Bool.{and_parts, ltb-true}
use Rattle.std.proofs.lemmas.Bool.Decides.{nat_tests}
use Rattle.std.proofs.lemmas.List.Elements.{All-weaker}
use Rattle.std.proofs.lemmas.List.Splits.{join_with_byte-slice_split}
use Rattle.std.proofs.lemmas.List.Sums.{AllPass-from_list_all}
use Rattle.std.proofs.lemmas.Str.{IsUtf8-append, IsUtf8-from_ascii}
use Rattle.std.proofs.lemmas.Str.Ascii.{IsAscii-from_all}
use Rattle.std.specs.Prelude.{nat_lt}
use Rattle.std.specs.Char.{is_ascii_alphanumeric}
use Rattle.std.specs.List.{join_with_byte, list_all, slice_split}
use Rattle.std.specs.Str.{IsUtf8}
use Rattle.names.specs.Names.{has_alphanumeric_ends, is_dns_byte, is_dns_label, is_dns_part, is_dns_subdomain}
use Rattle.api_types.specs.Names.{is_kind_name}

-- bytes below 128
utf8_by : (p : ℕ → Bool) → ((b : ℕ) → p b ≡ true → b < 128) → (text : List ℕ) → list_all p text ≡ true → IsUtf8 text
utf8_by p low text all = IsUtf8-from_ascii text (IsAscii-from_all text (All-weaker (λ b. p b ≡ true) (λ b. b < 128) low text (AllPass-from_list_all p text all)))

pub ascii_utf8 : (text : List ℕ) → list_all (λ b. nat_lt b 128) text ≡ true → IsUtf8 text
ascii_utf8 text all = utf8_by (λ b. nat_lt b 128) (λ b is. ltb-true b 128 is) text all

dns_low : (b : ℕ) → is_dns_byte b ≡ true → b < 128
dns_low b h = grind (arith, nat_tests)

letter_low : (b : ℕ) → is_ascii_alphanumeric b ≡ true → b < 128
letter_low b h = grind (arith, nat_tests)

part_utf8 : (text : List ℕ) → is_dns_part text ≡ true → IsUtf8 text
part_utf8 text is = utf8_by is_dns_byte dns_low text (and_parts (has_alphanumeric_ends text) (list_all is_dns_byte text) is).1

pub label_utf8 : (text : List ℕ) → is_dns_label text ≡ true → IsUtf8 text
label_utf8 text is = part_utf8 text (and_parts _ (is_dns_part text) is).1

joined_utf8 : (parts : List (List ℕ)) → list_all is_dns_part parts ≡ true → IsUtf8 (join_with_byte 46 parts)
joined_utf8 [] all = ascii_utf8 [] refl
joined_utf8 (part ∷ []) all = part_utf8 part (and_parts (is_dns_part part) true all).0
joined_utf8 (part ∷ next ∷ parts) all =
    let both = and_parts (is_dns_part part) (list_all is_dns_part (next ∷ parts)) all in
    IsUtf8-append part (46 ∷ join_with_byte 46 (next ∷ parts)) (part_utf8 part both.0) (IsUtf8-append (46 ∷ []) (join_with_byte 46 (next ∷ parts)) (ascii_utf8 (46 ∷ []) refl) (joined_utf8 (next ∷ parts) both.1))

pub subdomain_utf8 : (text : List ℕ) → is_dns_subdomain text ≡ true → IsUtf8 text
subdomain_utf8 text is = subst IsUtf8 (join_with_byte-slice_split 46 text) (joined_utf8 (slice_split (λ b. b == 46) text) (and_parts _ (list_all is_dns_part (slice_split (λ b. b == 46) text)) is).1)

pub kind_utf8 : (text : List ℕ) → is_kind_name text ≡ true → IsUtf8 text
kind_utf8 text is = utf8_by is_ascii_alphanumeric letter_low text (and_parts _ (list_all is_ascii_alphanumeric text) is).1
