-- The bytes of an apply of counts ask the call.
use Rattle.std.proofs.Common.{◌≡◌, ◌≢◌, ℕ, ◌+◌, ◌<◌, ◌≤◌, ◌==◌, ◌^◌, Bool, true, false, cond, not, All, List, [], ◌∷◌, ◌++◌, length, Option, Some, None, Ok, IsTrue, IsUtf8, codes, decimal, refl, sym, ap, subst, ◌∙◌, arith, append_assoc, leb-true, length-append, lt-ltb, ltb-true, ne_eqb}
use Rattle.std.proofs.lemmas.Bool.{and_from, and_parts}
use Rattle.std.proofs.lemmas.Bool.Decides.{nat_tests}
use Rattle.std.proofs.lemmas.Fmt.{length-decimal-le}
use Rattle.std.proofs.lemmas.List.Elements.{All-append, All-cons, All-head, All-nil, All-tail, All-weaker}
use Rattle.std.proofs.lemmas.List.Folds.{list_any_none}
use Rattle.std.proofs.lemmas.List.Splits.{join_with_byte-slice_split}
use Rattle.std.proofs.lemmas.List.Sums.{AllPass-from_list_all}
use Rattle.std.proofs.lemmas.Str.{IsUtf8-from_ascii}
use Rattle.std.proofs.lemmas.Str.Ascii.{IsAscii-from_all}
use Rattle.std.specs.Prelude.{nat_le, nat_lt, ◌&&◌}
use Rattle.std.specs.Char.{is_ascii}
use Rattle.std.specs.List.{join_with_byte, list_all, list_any, slice_split}
use Rattle.httparse.specs.Grammar.{AllPass, IsToken, is_token_byte, is_uri_byte, is_value_byte, trim_ows}
use Rattle.matchit.specs.Seek.{has_slash}
use Rattle.names.specs.Names.{is_dns_byte, is_dns_label, is_dns_part, is_dns_subdomain}
use Rattle.serde_json.specs.Data.{Data}
use Rattle.serde_json.specs.Written.{compact_text}
use Rattle.api_types.specs.TypesFile.{ServedShape}
use Rattle.api_request.specs.declared.verb.Verb.TheVariants.{Apply}
use Rattle.api_request.specs.declared.resource.Resource.TheVariants.{Object}
use Rattle.objects.specs.declared.manager.Subresource.TheVariants.{Main}
use Rattle.api_request.specs.Admit.{RequestInfo, admitted, method_named, path_admitted, place_of}
use Rattle.api_request.specs.Calls.{Target, of_object, of_objects}
use Rattle.api_request.specs.RouteLaws.{IsPart, place_for}
use Rattle.api_request.proofs.Leading.{paths_of_objects}
use Rattle.verbs.specs.Machine.{IsNamed}
use Rattle.wire.specs.Heads.{crlf, max_head}
use Rattle.wire.proofs.Lines.{passes_each}
use Rattle.requests.specs.Asks.{Asks}
use Rattle.requests.specs.Bodies.{json_in, max_body, needs_body, some_json}
use Rattle.requests.specs.Decision.{accepted, and_then, decided_by}
use Rattle.wireclient.specs.Request.{request}
use Rattle.wire_laws.specs.Printed.{IsPrinted, IsRequest, asked_with, is_question}
use Rattle.indexer.specs.Objects.{Place}
use Rattle.summary.specs.Apply.{apply_request, summary_of, target_of}
use Rattle.summary.specs.Counts.{Summed}
use Rattle.settling_laws.specs.Applying.{AppliesAsk, FitIntoBody, ServesSummaries, apply_call, key_of}
use Rattle.settling_laws.specs.Said.{IsSayable}
use Rattle.settling_laws.proofs.Bodies.{body_is_read}
use Rattle.settling_laws.proofs.Calls.{query}

-- a request with a body asks what its path, its query and its body lead to (`wire_laws::requests_ask`)
abbrev pub RequestsAsk : Type 0
RequestsAsk =
    (types : List ServedShape) (method path query media bytes : List ℕ) → list_any is_question path ≡ false → needs_body method ≡ true → length bytes ≤ max_body
    → IsPrinted method (path ++ 63 ∷ query) (Some (media, bytes))
    → Asks types (request method (path ++ 63 ∷ query) (Some (media, bytes))) (asked_with types method path query media bytes)

-- ---- the bytes of names

-- a printable byte, no blank, no question mark and no slash
record IsNameByte (b : ℕ) : Type 0 where
  above : 32 < b
  below : b < 127
  unmarked : b ≢ 63
  inner : b ≢ 47

dns_byte : (b : ℕ) → is_dns_byte b ≡ true → IsNameByte b
dns_byte b is = record { above = grind (arith, nat_tests); below = grind (arith, nat_tests); unmarked = λ e. grind (arith, nat_tests); inner = λ e. grind (arith, nat_tests) }

dot_byte : IsNameByte 46
dot_byte = record { above = omega arith; below = omega arith; unmarked = λ e. omega arith; inner = λ e. omega arith }

part_bytes : (text : List ℕ) → is_dns_part text ≡ true → All IsNameByte text
part_bytes text is = All-weaker (λ b. is_dns_byte b ≡ true) IsNameByte dns_byte text (AllPass-from_list_all is_dns_byte text (and_parts _ (list_all is_dns_byte text) is).1)

label_is_part : (text : List ℕ) → is_dns_label text ≡ true → is_dns_part text ≡ true
label_is_part text is = (and_parts _ (is_dns_part text) is).1

joined_bytes : (parts : List (List ℕ)) → list_all is_dns_part parts ≡ true → All IsNameByte (join_with_byte 46 parts)
joined_bytes [] all = All-nil IsNameByte
joined_bytes (part ∷ []) all = part_bytes part (and_parts (is_dns_part part) true all).0
joined_bytes (part ∷ next ∷ parts) all =
    let both = and_parts (is_dns_part part) (list_all is_dns_part (next ∷ parts)) all in
    let others : List ℕ = join_with_byte 46 (next ∷ parts) in
    All-append IsNameByte part (46 ∷ others) (part_bytes part both.0) (All-cons IsNameByte 46 others dot_byte (joined_bytes (next ∷ parts) both.1))

subdomain_bytes : (text : List ℕ) → is_dns_subdomain text ≡ true → All IsNameByte text
subdomain_bytes text is = subst (All IsNameByte) (join_with_byte-slice_split 46 text) (joined_bytes (slice_split (λ b. b == 46) text) (and_parts _ (list_all is_dns_part (slice_split (λ b. b == 46) text)) is).1)

all_ascii : (text : List ℕ) → All IsNameByte text → list_all is_ascii text ≡ true
all_ascii [] all = refl
all_ascii (b ∷ bs) all =
    let low : b < 127 = (All-head IsNameByte b bs all).below in
    and_from (is_ascii b) (list_all is_ascii bs) (lt-ltb b 128 (omega (arith, low))) (all_ascii bs (All-tail IsNameByte b bs all))

no_slash : (text : List ℕ) → All IsNameByte text → has_slash text ≡ false
no_slash [] all = refl
no_slash (b ∷ bs) all = ap (λ t. cond t true (has_slash bs)) (ne_eqb b 47 (All-head IsNameByte b bs all).inner) ∙ no_slash bs (All-tail IsNameByte b bs all)

is_part : (text : List ℕ) → 0 < length text → All IsNameByte text → IsPart text
is_part text some all = record { some = some; ascii = all_ascii text all; whole = no_slash text all }

some_in_part : (text : List ℕ) → is_dns_part text ≡ true → 0 < length text
some_in_part [] is = absurd cc
some_in_part (b ∷ bs) is = omega arith

some_in_subdomain : (text : List ℕ) → is_dns_subdomain text ≡ true → 0 < length text
some_in_subdomain [] is = absurd cc
some_in_subdomain (b ∷ bs) is = omega arith

names_text : (text : List ℕ) → All IsNameByte text → IsUtf8 text
names_text text all = IsUtf8-from_ascii text (IsAscii-from_all text (All-weaker IsNameByte (λ b. b < 128) (λ b is. let low : b < 127 = is.below in omega (arith, low)) text all))

-- ---- the bytes of the target

-- a printable byte, and no blank
record IsVisible (b : ℕ) : Type 0 where
  above : 32 < b
  below : b < 127

seen : (text : List ℕ) → All IsNameByte text → All IsVisible text
seen text all = All-weaker IsNameByte IsVisible (λ b is. record { above = is.above; below = is.below }) text all

abbrev is_visible : ℕ → Bool
is_visible b = nat_lt 32 b && nat_lt b 127

literal_seen : (text : List ℕ) → list_all is_visible text ≡ true → All IsVisible text
literal_seen text all =
    All-weaker (λ b. is_visible b ≡ true) IsVisible
    (λ b is. let both = and_parts (nat_lt 32 b) (nat_lt b 127) is in record { above = ltb-true 32 b both.0; below = ltb-true b 127 both.1 }) text (AllPass-from_list_all is_visible text all)

visible_uri : (bs : List ℕ) → All IsVisible bs → AllPass is_uri_byte bs
visible_uri bs all = All-weaker IsVisible (λ b. IsTrue (is_uri_byte b)) one bs all
  where
    one : (b : ℕ) → IsVisible b → is_uri_byte b ≡ true
    one b is = let below : b < 127 = is.below in and_from (nat_lt 32 b) _ (lt-ltb 32 b is.above) (ap not (ne_eqb b 127 (λ e. omega (arith, below, e))))

visible_text : (bs : List ℕ) → All IsVisible bs → IsUtf8 bs
visible_text bs all = IsUtf8-from_ascii bs (IsAscii-from_all bs (All-weaker IsVisible (λ b. b < 128) (λ b is. let low : b < 127 = is.below in omega (arith, low)) bs all))

unmarked_name : (text : List ℕ) → All IsNameByte text → All (λ b. is_question b ≡ false) text
unmarked_name text all = All-weaker IsNameByte (λ b. is_question b ≡ false) (λ b is. ne_eqb b 63 is.unmarked) text all

literal_unmarked : (text : List ℕ) → list_all (λ b. not (is_question b)) text ≡ true → All (λ b. is_question b ≡ false) text
literal_unmarked text all = All-weaker (λ b. not (is_question b) ≡ true) (λ b. is_question b ≡ false) (λ b is. not_true (is_question b) is) text (AllPass-from_list_all (λ b. not (is_question b)) text all)
  where
    not_true : (b : Bool) → not b ≡ true → b ≡ false
    not_true true is = absurd cc
    not_true false is = refl

abbrev media : List ℕ
media = codes "application/apply-patch+yaml"

-- ---- the request

module _ (ask : RequestsAsk) (types : List ServedShape) (kind : ℕ) (s : Summed) (place : Place) (serves : ServesSummaries types kind) (named : IsNamed (key_of kind place)) (is : IsSayable s) where
  abbrev of_namespace : List ℕ
  of_namespace = place.0

  abbrev of_name : List ℕ
  of_name = place.1

  namespace_bytes : All IsNameByte of_namespace
  namespace_bytes = part_bytes of_namespace (label_is_part of_namespace named.namespace)

  name_bytes : All IsNameByte of_name
  name_bytes = subdomain_bytes of_name named.name

  abbrev prefix : List ℕ
  prefix = codes "/apis/summary.example/v1/namespaces/"

  abbrev middle : List ℕ
  middle = codes "/labelsummaries/"

  abbrev path : List ℕ
  path = prefix ++ (of_namespace ++ (middle ++ of_name))

  target_is : target_of of_namespace of_name ≡ path ++ 63 ∷ query
  target_is = sym (
      append_assoc prefix (of_namespace ++ (middle ++ of_name)) (63 ∷ query)
      ∙ ap (λ (l : List ℕ). prefix ++ l) (append_assoc of_namespace (middle ++ of_name) (63 ∷ query) ∙ ap (λ (l : List ℕ). of_namespace ++ l) (append_assoc middle of_name (63 ∷ query))))

  path_seen : All IsVisible path
  path_seen =
      All-append IsVisible prefix (of_namespace ++ (middle ++ of_name)) (literal_seen prefix refl)
      (All-append IsVisible of_namespace (middle ++ of_name) (seen of_namespace namespace_bytes) (All-append IsVisible middle of_name (literal_seen middle refl) (seen of_name name_bytes)))

  target_seen : All IsVisible (path ++ 63 ∷ query)
  target_seen = All-append IsVisible path (63 ∷ query) path_seen (literal_seen (63 ∷ query) refl)

  unasked : list_any is_question path ≡ false
  unasked =
      let free : ℕ → Type 0 = λ b. is_question b ≡ false in
      list_any_none is_question path
      (All-append free prefix (of_namespace ++ (middle ++ of_name)) (literal_unmarked prefix refl)
      (All-append free of_namespace (middle ++ of_name) (unmarked_name of_namespace namespace_bytes) (All-append free middle of_name (literal_unmarked middle refl) (unmarked_name of_name name_bytes))))

  abbrev target : Target
  target = of_objects kind (of_object of_namespace of_name Main) Apply

  place_is : place_of types path ≡ Some (record { resource = Object; kind = kind; namespace = Some of_namespace; name = Some of_name })
  place_is =
      paths_of_objects types (codes "summary.example") (codes "v1") of_namespace (codes "labelsummaries") of_name
      (record { some = omega arith; ascii = refl; whole = refl }) (record { some = omega arith; ascii = refl; whole = refl })
      (is_part of_namespace (some_in_part of_namespace (label_is_part of_namespace named.namespace)) namespace_bytes)
      (record { some = omega arith; ascii = refl; whole = refl }) (is_part of_name (some_in_subdomain of_name named.name) name_bytes)
      ∙ ap (place_for Object (Some of_namespace) (Some of_name)) serves.numbered

  is_admitted : admitted types (method_named (codes "PATCH")) path (Some media) ≡ Ok target
  is_admitted = ap (λ (o : Option RequestInfo). path_admitted types o (method_named (codes "PATCH")) path (Some media)) place_is

  abbrev body : Data
  body = summary_of s of_namespace of_name

  abbrev bytes : List ℕ
  bytes = compact_text body

  patch_is_token : IsToken (codes "PATCH")
  unfolding is_token_byte
  patch_is_token = (omega arith, passes_each is_token_byte (codes "PATCH") refl)

  -- the parts of the head that aren't fixed are short
  module _ (can : FitIntoBody s place) where
    few : length bytes ≤ 262144
    few = can

    low : length bytes < 2 ^ 64
    low = let most : length bytes ≤ 262144 = few in omega (arith, most)

    digits : length (decimal (length bytes)) ≤ 6
    digits = let most : length bytes ≤ 262144 = few in length-decimal-le 6 (length bytes) (omega arith) (omega (arith, most)) low

    target_short : length (path ++ 63 ∷ query) ≤ 406
    target_short =
        let behind : List ℕ = middle ++ (of_name ++ 63 ∷ query) in
        let all : length (prefix ++ (of_namespace ++ behind)) ≡ length prefix + length (of_namespace ++ behind) = length-append prefix (of_namespace ++ behind) in
        let first : length prefix ≡ 36 = refl in
        let two : length (of_namespace ++ behind) ≡ length of_namespace + length behind = length-append of_namespace behind in
        let three : length behind ≡ length middle + length (of_name ++ 63 ∷ query) = length-append middle (of_name ++ 63 ∷ query) in
        let second : length middle ≡ 16 = refl in
        let four : length (of_name ++ 63 ∷ query) ≡ length of_name + length (63 ∷ query) = length-append of_name (63 ∷ query) in
        let last : length (63 ∷ query) ≡ 38 = refl in
        let short_namespace : length of_namespace ≤ 63 = leb-true (length of_namespace) 63 (and_parts (nat_le (length of_namespace) 63) (is_dns_part of_namespace) named.namespace).0 in
        let short_name : length of_name ≤ 253 = leb-true (length of_name) 253 (and_parts (nat_le (length of_name) 253) _ named.name).0 in
        let whole : length (prefix ++ (of_namespace ++ behind)) ≤ 406 = omega (arith, all, first, two, three, second, four, last, short_namespace, short_name) in
        subst (λ (t : List ℕ). length t ≤ 406) target_is whole

    -- what stands between the target and the number of the body's bytes
    abbrev line_end : List ℕ
    line_end = codes " HTTP/1.1" ++ (crlf ++ (codes "Host: localhost" ++ crlf))

    abbrev described : List ℕ
    described = codes "Content-Type: application/apply-patch+yaml" ++ (crlf ++ codes "Content-Length: ")

    head_short : length (request (codes "PATCH") (path ++ 63 ∷ query) (Some (media, bytes))) ≤ max_head + length bytes
    head_short =
        let whole : List ℕ = path ++ 63 ∷ query in
        let number : List ℕ = decimal (length bytes) in
        let tail : List ℕ = (described ++ (number ++ crlf)) ++ (crlf ++ bytes) in
        let method : length (codes "PATCH " ++ (whole ++ (line_end ++ tail))) ≡ length (codes "PATCH ") + length (whole ++ (line_end ++ tail)) = length-append (codes "PATCH ") (whole ++ (line_end ++ tail)) in
        let six : length (codes "PATCH ") ≡ 6 = refl in
        let parts : length (whole ++ (line_end ++ tail)) ≡ length whole + length (line_end ++ tail) = length-append whole (line_end ++ tail) in
        let line : length (line_end ++ tail) ≡ length line_end + length tail = length-append line_end tail in
        let line_long : length line_end ≡ 28 = refl in
        let ends : length tail ≡ length (described ++ (number ++ crlf)) + length (crlf ++ bytes) = length-append (described ++ (number ++ crlf)) (crlf ++ bytes) in
        let says : length (described ++ (number ++ crlf)) ≡ length described + length (number ++ crlf) = length-append described (number ++ crlf) in
        let says_long : length described ≡ 60 = refl in
        let numbered : length (number ++ crlf) ≡ length number + length crlf = length-append number crlf in
        let two : length crlf ≡ 2 = refl in
        let last : length (crlf ++ bytes) ≡ length crlf + length bytes = length-append crlf bytes in
        let short : length whole ≤ 406 = target_short in
        let short_number : length number ≤ 6 = digits in
        let fits : length (codes "PATCH " ++ (whole ++ (line_end ++ tail))) ≤ 16384 + length bytes =
        omega (arith, method, six, parts, line, line_long, ends, says, says_long, numbered, two, last, short, short_number) in
        fits

    is_request : IsRequest (codes "PATCH") (path ++ 63 ∷ query) (Some (media, bytes))
    unfolding trim_ows
    is_request = record {
      token = patch_is_token;
      path = refl;
      visible = visible_uri (path ++ 63 ∷ query) target_seen;
      text = visible_text (path ++ 63 ∷ query) target_seen;
      media = (passes_each is_value_byte media refl, refl, low);
    }

    printed : IsPrinted (codes "PATCH") (path ++ 63 ∷ query) (Some (media, bytes))
    printed = record { parts = is_request; fits = head_short }

    asked_is : asked_with types (codes "PATCH") path query media bytes ≡ accepted (apply_call kind s place)
    asked_is =
        ap (λ r. and_then (decided_by r) (λ (t : Target). and_then (some_json (json_in bytes)) (λ b. accepted (record { target = t; query = query; body = b; agent = None; ticked = 0 })))) is_admitted
        ∙ ap (λ (o : Option Data). and_then (some_json o) (λ b. accepted (record { target = target; query = query; body = b; agent = None; ticked = 0 }))) (body_is_read s of_namespace of_name is (names_text of_namespace namespace_bytes) (names_text of_name name_bytes))

    pub asks : Asks types (apply_request s of_namespace of_name) (accepted (apply_call kind s place))
    asks =
        subst (λ (t : List ℕ). Asks types (request (codes "PATCH") t (Some (media, bytes))) (accepted (apply_call kind s place))) (sym target_is)
        (subst (Asks types (request (codes "PATCH") (path ++ 63 ∷ query) (Some (media, bytes)))) asked_is
        (ask types (codes "PATCH") path query media bytes unasked refl can printed))

pub applies_ask : RequestsAsk → AppliesAsk
applies_ask ask types kind s place serves named is can = asks ask types kind s place serves named is can
