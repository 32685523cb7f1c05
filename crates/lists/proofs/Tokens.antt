-- The token of a page, in a client's query, is read as what it says.
use Rattle.std.proofs.Common.{◌≡◌, ℕ, ◌<◌, ◌≤◌, ◌&&◌, ◌==◌, Bool, true, false, cond, not, List, [], ◌∷◌, ◌++◌, length, map, refl, ap, ap₂, ◌∙◌, Option, Some, None, option_map, codes, decimal, arith, lit<, eqb-true}
use Rattle.std.proofs.lemmas.Bool.{and_from, and_parts, lt-ltb, ltb-true}
use Rattle.std.proofs.lemmas.Bool.Decides.{nat_tests}
use Rattle.std.proofs.lemmas.Fmt.{decimal_nonempty, digits_decimal}
use Rattle.std.proofs.lemmas.List.Elements.{All-cons, All-head, All-nil, All-tail, All-weaker}
use Rattle.std.proofs.lemmas.List.Folds.{list_all-append}
use Rattle.std.proofs.lemmas.List.Sums.{AllPass-from_list_all}
use Rattle.std.proofs.lemmas.Str.{IsUtf8-from_ascii, utf8_lossy-IsUtf8}
use Rattle.std.proofs.lemmas.Str.Ascii.{IsAscii-from_all}
use Rattle.std.specs.Prelude.{nat_lt}
use Rattle.std.specs.Char.{is_ascii_digit}
use Rattle.std.specs.List.{All, list_all, slice_split}
use Rattle.std.specs.Str.Lossy.{utf8_lossy}
use Rattle.std.specs.declared.result.Result.TheVariants.{Ok}
use Rattle.form_urlencoded.specs.Form.{decode, extend_pairs, raw_pairs}
use Rattle.form_urlencoded.proofs.FormLemmas.{IsBytePair, round_trip}
use Rattle.names.specs.Decimals.{decimal_up_to}
use Rattle.names.specs.Names.{is_dns_byte, is_dns_label, is_dns_part, is_dns_subdomain}
use Rattle.names.proofs.Decimals.{digits, exact}
use Rattle.history.specs.History.{Key, last_revision}
use Rattle.selector.specs.Grammar.{parse_selector}
use Rattle.selector.specs.Requirement.{Requirement}
use Rattle.params.specs.declared.parameter.Parameter.{Parameter}
use Rattle.params.specs.declared.parameter.Parameter.TheVariants as parameter
use Rattle.params.specs.declared.params.VersionMatch.{VersionMatch}
use Rattle.params.specs.declared.params.Asked.TheVariants as asked
use Rattle.params.specs.Query.{Pairs, pair_in, pairs_in, text_of, value_of}
use Rattle.params.specs.Reading.{Read, ◌>>=◌, absent_in, match_in, number_in, or_bad, params_of, selected, selector_in, text_or, together, token_in, truth_in, version_in, watched}
use Rattle.params.specs.Reading as reading
use Rattle.params.specs.Texts.{IsToken, is_dot, token_of}
use Rattle.params.specs.Values.{Token, Values, no_values}
use Rattle.params.proofs.Tokens.{reads_back}
use Rattle.lists.specs.Body.{continued_at}
use Rattle.lists.specs.TokenLaws.{CanBeListed, IsText, IsTextPair, labels_pair, next_pairs, token_after}

-- ---- texts of ASCII

abbrev is_ascii : ℕ → Bool
is_ascii b = nat_lt b 128

weaker : (p q : ℕ → Bool) → ((b : ℕ) → p b ≡ true → q b ≡ true) → (bs : List ℕ) → list_all p bs ≡ true → list_all q bs ≡ true
weaker p q reaches [] h = refl
weaker p q reaches (b ∷ bs) h = let parts = and_parts (p b) (list_all p bs) h in and_from (q b) (list_all q bs) (reaches b parts.0) (weaker p q reaches bs parts.1)

text_of_ascii : (bs : List ℕ) → list_all is_ascii bs ≡ true → IsText bs
text_of_ascii bs h =
    let all = AllPass-from_list_all is_ascii bs h in (
      IsUtf8-from_ascii bs (IsAscii-from_all bs (All-weaker (λ b. is_ascii b ≡ true) (λ b. b < 128) (λ b is. ltb-true b 128 is) bs all)),
      All-weaker (λ b. is_ascii b ≡ true) (λ b. b < 256) (λ b is. let low : b < 128 = ltb-true b 128 is in omega arith) bs all,
    )

digit_is_ascii : (b : ℕ) → is_ascii_digit b ≡ true → is_ascii b ≡ true
digit_is_ascii b h = let low : b < 128 = grind (arith, nat_tests) in lt-ltb b 128 low

dns_is_ascii : (b : ℕ) → is_dns_byte b ≡ true → is_ascii b ≡ true
dns_is_ascii b h = let low : b < 128 = grind (arith, nat_tests) in lt-ltb b 128 low

dns_is_no_dot : (b : ℕ) → is_dns_byte b ≡ true → not (is_dot b) ≡ true
dns_is_no_dot b h = go (b == 46) refl
  where
    go : (t : Bool) → (b == 46) ≡ t → not t ≡ true
    go false is = refl
    go true is = let same : b ≡ 46 = eqb-true b 46 is in let bad : false ≡ true = rw same at h in cc

-- ---- names

part_bytes : (text : List ℕ) → is_dns_part text ≡ true → list_all is_dns_byte text ≡ true
part_bytes text h = (and_parts _ (list_all is_dns_byte text) h).1

some_in_part : (text : List ℕ) → is_dns_part text ≡ true → 0 < length text
some_in_part [] h = absurd cc
some_in_part (b ∷ bs) h = omega arith

label_is_part : (text : List ℕ) → is_dns_label text ≡ true → is_dns_part text ≡ true
label_is_part text h = (and_parts _ (is_dns_part text) h).1

abbrev onto : ℕ → List (List ℕ) → List (List ℕ)
onto b [] = (b ∷ []) ∷ []
onto b (part ∷ parts) = (b ∷ part) ∷ parts

abbrev are_dns : List (List ℕ) → Bool
are_dns parts = list_all (list_all is_dns_byte) parts

taken_apart : (b : ℕ) (parts : List (List ℕ)) → are_dns (onto b parts) ≡ true → (is_dns_byte b ≡ true) × (are_dns parts ≡ true)
taken_apart b [] h = ((and_parts (is_dns_byte b) true (and_parts (is_dns_byte b && true) true h).0).0, refl)
taken_apart b (part ∷ parts) h =
    let here = and_parts (is_dns_byte b && list_all is_dns_byte part) (are_dns parts) h in
    let first = and_parts (is_dns_byte b) (list_all is_dns_byte part) here.0 in
    (first.0, and_from (list_all is_dns_byte part) (are_dns parts) first.1 here.1)

parts_are_ascii : (text : List ℕ) → are_dns (slice_split (λ b. b == 46) text) ≡ true → list_all is_ascii text ≡ true
parts_are_ascii [] h = refl
parts_are_ascii (b ∷ bs) h = go (b == 46) refl (parts_are_ascii bs) h
  where
    go : (t : Bool) → (b == 46) ≡ t → (are_dns (slice_split (λ x. x == 46) bs) ≡ true → list_all is_ascii bs ≡ true)
        → are_dns (cond t ([] ∷ slice_split (λ x. x == 46) bs) (onto b (slice_split (λ x. x == 46) bs))) ≡ true → list_all is_ascii (b ∷ bs) ≡ true
    go true is rest all = let same : b ≡ 46 = eqb-true b 46 is in let here : is_ascii b ≡ true = rw same refl in and_from (is_ascii b) (list_all is_ascii bs) here (rest all)
    go false is rest all =
        let both = taken_apart b (slice_split (λ x. x == 46) bs) all in
        and_from (is_ascii b) (list_all is_ascii bs) (dns_is_ascii b both.0) (rest both.1)

each_part : (parts : List (List ℕ)) → list_all is_dns_part parts ≡ true → are_dns parts ≡ true
each_part [] h = refl
each_part (part ∷ parts) h =
    let both = and_parts (is_dns_part part) (list_all is_dns_part parts) h in
    and_from (list_all is_dns_byte part) (are_dns parts) (part_bytes part both.0) (each_part parts both.1)

subdomain_parts : (text : List ℕ) → is_dns_subdomain text ≡ true → list_all is_dns_part (slice_split (λ b. b == 46) text) ≡ true
subdomain_parts text h = (and_parts _ (list_all is_dns_part (slice_split (λ b. b == 46) text)) h).1

subdomain_is_ascii : (text : List ℕ) → is_dns_subdomain text ≡ true → list_all is_ascii text ≡ true
subdomain_is_ascii text h = parts_are_ascii text (each_part (slice_split (λ b. b == 46) text) (subdomain_parts text h))

some_in_subdomain : (text : List ℕ) → is_dns_subdomain text ≡ true → 0 < length text
some_in_subdomain [] h = absurd cc
some_in_subdomain (b ∷ bs) h = omega arith

-- ---- tokens

is_token : (revision : ℕ) (k : Key) → CanBeListed revision k → IsToken (token_after revision k)
is_token revision k is =
    let part = label_is_part k.namespace is.namespace in
    record {
      revision = is.high;
      dotless = weaker is_dns_byte (λ b. not (is_dot b)) dns_is_no_dot k.namespace (part_bytes k.namespace part);
      namespace = some_in_part k.namespace part;
      name = some_in_subdomain k.name is.name;
    }

token_back : (revision : ℕ) (k : Key) → CanBeListed revision k → token_of (continued_at revision k) ≡ Some (token_after revision k)
token_back revision k is = reads_back (token_after revision k) (is_token revision k is)

some_in_number : (n : ℕ) → n ≤ last_revision → 0 < length (decimal n)
some_in_number n high = decimal_nonempty n (omega (arith, high))

number_is_ascii : (n : ℕ) → n ≤ last_revision → list_all is_ascii (decimal n) ≡ true
number_is_ascii n high = weaker is_ascii_digit is_ascii digit_is_ascii (decimal n) (digits_decimal digits n (omega (arith, high)))

some_before : (prefix back : List ℕ) → 0 < length prefix → 0 < length (prefix ++ back)
some_before [] back h = absurd (omega arith)
some_before (b ∷ prefix) back h = omega arith

all_of_both : (xs ys : List ℕ) → list_all is_ascii xs ≡ true → list_all is_ascii ys ≡ true → list_all is_ascii (xs ++ ys) ≡ true
all_of_both xs ys h g = list_all-append is_ascii xs ys ∙ and_from (list_all is_ascii xs) (list_all is_ascii ys) h g

token_is_text : (revision : ℕ) (k : Key) → CanBeListed revision k → IsText (continued_at revision k)
token_is_text revision k is =
    let namespace = weaker is_dns_byte is_ascii dns_is_ascii k.namespace (part_bytes k.namespace (label_is_part k.namespace is.namespace)) in
    let place = all_of_both k.namespace (46 ∷ k.name) namespace (subdomain_is_ascii k.name is.name) in
    text_of_ascii (continued_at revision k) (all_of_both (decimal revision) (46 ∷ (k.namespace ++ 46 ∷ k.name)) (number_is_ascii revision is.high) place)

-- ---- the pairs of a query come back

bytes_of : (pairs : Pairs) → All IsTextPair pairs → All IsBytePair pairs
bytes_of pairs all = All-weaker IsTextPair IsBytePair (λ pair is. (is.0.1, is.1.1)) pairs all

texts_back : (raw pairs : Pairs) → All IsTextPair pairs → map (λ (name, value). (decode name, decode value)) raw ≡ pairs → map pair_in raw ≡ pairs
texts_back [] [] all is = refl
texts_back [] (pair ∷ pairs) all is = absurd cc
texts_back (r ∷ raw) [] all is = absurd cc
texts_back (r ∷ raw) (pair ∷ pairs) all is =
    let first : (decode r.0, decode r.1) ≡ pair = cc in
    let rest : map (λ (name, value). (decode name, decode value)) raw ≡ pairs = cc in
    let text = All-head IsTextPair pair pairs all in
    let name : text_of r.0 ≡ pair.0 = ap (λ (p : List ℕ × List ℕ). utf8_lossy p.0) first ∙ utf8_lossy-IsUtf8 pair.0 text.0.0 in
    let value : text_of r.1 ≡ pair.1 = ap (λ (p : List ℕ × List ℕ). utf8_lossy p.1) first ∙ utf8_lossy-IsUtf8 pair.1 text.1.0 in
    ap₂ (λ (p : List ℕ × List ℕ) (ps : Pairs). p ∷ ps) (ap₂ (λ (a b : List ℕ). (a, b)) name value) (texts_back raw pairs (All-tail IsTextPair pair pairs all) rest)

pairs_back : (pairs : Pairs) → All IsTextPair pairs → pairs_in (extend_pairs [] pairs) ≡ pairs
pairs_back pairs all = texts_back (raw_pairs (extend_pairs [] pairs)) pairs all (round_trip pairs (bytes_of pairs all))

-- ---- single parameters

text_reads : {A : Type 0} (absent : A) (read : List ℕ → Option A) (p : Parameter) (text : List ℕ) (x : A) → 0 < length text → read text ≡ Some x → text_or absent read p text ≡ Ok x
text_reads absent read p [] x some h = absurd (omega arith)
text_reads absent read p (b ∷ bs) x some h = ap (or_bad p) h

token_said : (revision : ℕ) (k : Key) → CanBeListed revision k → text_or None (λ text. option_map Some (token_of text)) parameter.Continue (continued_at revision k) ≡ Ok (Some (token_after revision k))
token_said revision k is =
    text_reads None (λ text. option_map Some (token_of text)) parameter.Continue (continued_at revision k) (Some (token_after revision k))
    (some_before (decimal revision) (46 ∷ (k.namespace ++ 46 ∷ k.name)) (some_in_number revision is.high)) (ap (option_map Some) (token_back revision k is))

limit_said : (limit : ℕ) → limit ≤ last_revision → text_or 0 (decimal_up_to 9223372036854775807) parameter.Limit (decimal limit) ≡ Ok limit
limit_said limit high =
    text_reads 0 (decimal_up_to 9223372036854775807) parameter.Limit (decimal limit) limit (some_in_number limit high)
    ((exact 9223372036854775807 (decimal limit) limit (lit< tt)).1 (high, refl))

pub token_is_read : (revision : ℕ) (k : Key) (pairs : Pairs) → CanBeListed revision k → All IsTextPair pairs → value_of parameter.Continue pairs ≡ continued_at revision k
    → token_in (pairs_in (extend_pairs [] pairs)) ≡ Ok (Some (token_after revision k))
token_is_read revision k pairs is all said =
    ap token_in (pairs_back pairs all) ∙ ap (text_or None (λ text. option_map Some (token_of text)) parameter.Continue) said ∙ token_said revision k is

-- ---- the client's query

next_texts : (limit : ℕ) (token labels : List ℕ) → limit ≤ last_revision → IsText token → IsText labels → All IsTextPair (next_pairs limit token labels)
next_texts limit token labels high is text =
    All-cons IsTextPair (codes "limit", decimal limit) ((codes "continue", token) ∷ labels_pair labels) (text_of_ascii (codes "limit") refl, text_of_ascii (decimal limit) (number_is_ascii limit high))
    (All-cons IsTextPair (codes "continue", token) (labels_pair labels) (text_of_ascii (codes "continue") refl, is) (go labels text))
  where
    go : (labels : List ℕ) → IsText labels → All IsTextPair (labels_pair labels)
    go [] h = All-nil IsTextPair
    go (b ∷ bs) h = All-cons IsTextPair (codes "labelSelector", b ∷ bs) [] (text_of_ascii (codes "labelSelector") refl, h) (All-nil IsTextPair)

-- ---- a list's values, where each parameter is read so

module _ (pairs : Pairs) (token : Token) (requirements : List Requirement) (limit : ℕ) where
  abbrev values : Values
  values = record no_values { token = Some token; limit = limit; selector = requirements }

  -- what is left to be read after each parameter
  abbrev after_match : Option Token → List Requirement → ℕ → Option ℕ → Option VersionMatch → Read Values
  after_match t selector n version match =
      absent_in parameter.SendInitialEvents pairs >>= λ _. together (record no_values { token = t; selector = selector; limit = n; version = version; version_match = match })

  abbrev after_version : Option Token → List Requirement → ℕ → Option ℕ → Read Values
  after_version t selector n version = match_in pairs >>= λ match. after_match t selector n version match

  abbrev after_limit : Option Token → List Requirement → ℕ → Read Values
  after_limit t selector n = version_in pairs >>= λ version. after_version t selector n version

  abbrev after_selector : Option Token → List Requirement → Read Values
  after_selector t selector = number_in parameter.Limit 9223372036854775807 pairs >>= λ n. after_limit t selector n

  abbrev after_token : Option Token → Read Values
  after_token t = absent_in parameter.FieldSelector pairs >>= λ _. selector_in pairs >>= λ selector. after_selector t selector

  listed_so : truth_in parameter.Watch pairs ≡ Ok false → token_in pairs ≡ Ok (Some token) → absent_in parameter.FieldSelector pairs ≡ Ok tt → selector_in pairs ≡ Ok requirements
      → number_in parameter.Limit 9223372036854775807 pairs ≡ Ok limit → version_in pairs ≡ Ok None → match_in pairs ≡ Ok None → absent_in parameter.SendInitialEvents pairs ≡ Ok tt
      → params_of asked.List pairs ≡ Ok values
  listed_so watch continued fields labels number version match events =
      ap (λ (r : Read Bool). r >>= λ is_watch. cond is_watch (watched pairs) (reading.listed pairs)) watch
      ∙ ap (λ (r : Read (Option Token)). r >>= after_token) continued
      ∙ ap (λ (r : Read (Unit {0})). r >>= λ _. selector_in pairs >>= after_selector (Some token)) fields
      ∙ ap (λ (r : Read (List Requirement)). r >>= after_selector (Some token)) labels
      ∙ ap (λ (r : Read ℕ). r >>= after_limit (Some token) requirements) number
      ∙ ap (λ (r : Read (Option ℕ)). r >>= after_version (Some token) requirements limit) version
      ∙ ap (λ (r : Read (Option VersionMatch)). r >>= after_match (Some token) requirements limit None) match
      ∙ ap (λ (r : Read (Unit {0})). r >>= λ _. together values) events

next_read : (revision limit : ℕ) (k : Key) (labels : List ℕ) (requirements : List Requirement) → CanBeListed revision k → limit ≤ last_revision → parse_selector labels ≡ Ok requirements
    → params_of asked.List (next_pairs limit (continued_at revision k) labels) ≡ Ok (record no_values { token = Some (token_after revision k); limit = limit; selector = requirements })
next_read revision limit k [] requirements is high asks =
    listed_so (next_pairs limit (continued_at revision k) []) (token_after revision k) requirements limit refl (token_said revision k is) refl (ap selected asks) (limit_said limit high) refl refl refl
next_read revision limit k (b ∷ bs) requirements is high asks =
    listed_so (next_pairs limit (continued_at revision k) (b ∷ bs)) (token_after revision k) requirements limit refl (token_said revision k is) refl (ap selected asks) (limit_said limit high) refl refl refl

pub query_is_read : (revision limit : ℕ) (k : Key) (labels : List ℕ) (requirements : List Requirement) → CanBeListed revision k → limit ≤ last_revision → IsText labels → parse_selector labels ≡ Ok requirements
    → params_of asked.List (pairs_in (extend_pairs [] (next_pairs limit (continued_at revision k) labels))) ≡ Ok (record no_values { token = Some (token_after revision k); limit = limit; selector = requirements })
query_is_read revision limit k labels requirements is high text asks =
    ap (params_of asked.List) (pairs_back (next_pairs limit (continued_at revision k) labels) (next_texts limit (continued_at revision k) labels high (token_is_text revision k is) text))
    ∙ next_read revision limit k labels requirements is high asks
