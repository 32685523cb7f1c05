-- The queries by which a client lists and watches: their bytes, and what they are read as.
use Rattle.std.proofs.Common.{◌≡◌, ℕ, ◌<◌, ◌≤◌, ⊎_elim, Bool, true, false, cond, not, List, [], ◌∷◌, ◌++◌, All, length, Option, Some, None, option_map, IsTrue, IsUtf8, codes, decimal, refl, sym, ap, ◌∙◌, arith, lit<, lt-ltb, ltb-true, ne_eqb}
use Rattle.std.proofs.lemmas.Bool.{and_from}
use Rattle.std.proofs.lemmas.Bool.Decides.{nat_tests}
use Rattle.std.proofs.lemmas.Fmt.{decimal_nonempty, digits_decimal}
use Rattle.std.proofs.lemmas.List.Elements.{All-append, All-cons, All-nil, All-weaker}
use Rattle.std.proofs.lemmas.List.Sums.{AllPass-from_list_all}
use Rattle.std.proofs.lemmas.Str.{IsUtf8-from_ascii}
use Rattle.std.proofs.lemmas.Str.Ascii.{IsAscii-from_all}
use Rattle.std.specs.Prelude.{nat_lt}
use Rattle.std.specs.Char.{is_ascii_digit}
use Rattle.std.specs.List.{list_all}
use Rattle.std.specs.declared.result.Result.TheVariants.{Ok}
use Rattle.form_urlencoded.specs.Form.{append_pair, byte_serialize, extend_pairs, is_unchanged, separator, serialize_pair}
use Rattle.form_urlencoded.proofs.FormLemmas.{All-byte_serialize, IsSerializedByte}
use Rattle.httparse.specs.Grammar.{AllPass, is_uri_byte}
use Rattle.names.specs.Decimals.{decimal_up_to, version_of}
use Rattle.names.proofs.Decimals.{digits, exact}
use Rattle.history.specs.History.{last_revision}
use Rattle.selector.specs.Grammar.{parse_selector}
use Rattle.selector.specs.Requirement.{Requirement}
use Rattle.params.specs.declared.parameter.Parameter.{Parameter}
use Rattle.params.specs.declared.parameter.Parameter.TheVariants as parameter
use Rattle.params.specs.declared.params.Asked.TheVariants as asked
use Rattle.params.specs.Query.{Pairs, pairs_in}
use Rattle.params.specs.Reading.{Read, ◌>>=◌, or_bad, params_of, selected, text_or}
use Rattle.params.specs.Values.{Values, no_values}
use Rattle.lists.specs.TokenLaws.{IsText, IsTextPair, labels_pair, next_pairs}
use Rattle.reflector.specs.Requests.{Settings, list_query, watch_query}
use Rattle.wire_laws.proofs.Queries.{pairs_back, query_back}

-- ---- bytes

-- a printable byte, and no blank
pub record IsVisible (b : ℕ) : Type 0 where
  pub above : 32 < b
  pub below : b < 127

pub visible_uri : (bs : List ℕ) → All IsVisible bs → AllPass is_uri_byte bs
visible_uri bs all = All-weaker IsVisible (λ b. IsTrue (is_uri_byte b)) one bs all
  where
    one : (b : ℕ) → IsVisible b → is_uri_byte b ≡ true
    one b is =
        let below : b < 127 = is.below in
        and_from (nat_lt 32 b) _ (lt-ltb 32 b is.above) (ap not (ne_eqb b 127 (λ e. omega (arith, below, e))))

pub visible_text : (bs : List ℕ) → All IsVisible bs → IsUtf8 bs
visible_text bs all = IsUtf8-from_ascii bs (IsAscii-from_all bs (All-weaker IsVisible (λ b. b < 128) (λ b is. let below : b < 127 = is.below in omega (arith, below)) bs all))

unchanged_visible : (b : ℕ) → is_unchanged b ≡ true → IsVisible b
unchanged_visible b is = record { above = grind (arith, nat_tests); below = grind (arith, nat_tests) }

serialized_visible : (b : ℕ) → IsSerializedByte b → IsVisible b
serialized_visible b is =
    ⊎_elim (unchanged_visible b) (λ other. ⊎_elim (λ plus. record { above = omega (arith, plus); below = omega (arith, plus) }) (λ percent. record { above = omega (arith, percent); below = omega (arith, percent) }) other) is.allowed

written_visible : (bs : List ℕ) → All IsVisible (byte_serialize bs)
written_visible bs = All-weaker IsSerializedByte IsVisible serialized_visible (byte_serialize bs) (All-byte_serialize bs)

mark_visible : (b : ℕ) → 32 < b → b < 127 → All IsVisible (b ∷ [])
mark_visible b above below = All-cons IsVisible b [] (record { above = above; below = below }) (All-nil IsVisible)

separator_visible : (t : Bool) → All IsVisible (cond t (38 ∷ []) [])
separator_visible true = mark_visible 38 (omega arith) (omega arith)
separator_visible false = All-nil IsVisible

-- a form of pairs is of such bytes
pub form_visible : (form : List ℕ) (pairs : Pairs) → All IsVisible form → All IsVisible (extend_pairs form pairs)
form_visible form [] all = all
form_visible form (pair ∷ pairs) all = form_visible (append_pair form pair.0 pair.1) pairs appended
  where
    both : All IsVisible (serialize_pair pair)
    both =
        All-append IsVisible (byte_serialize pair.0 ++ 61 ∷ []) (byte_serialize pair.1)
        (All-append IsVisible (byte_serialize pair.0) (61 ∷ []) (written_visible pair.0) (mark_visible 61 (omega arith) (omega arith))) (written_visible pair.1)

    appended : All IsVisible (append_pair form pair.0 pair.1)
    appended = All-append IsVisible (form ++ separator form) (serialize_pair pair) (All-append IsVisible form (separator form) all (separator_visible _)) both

-- ---- the pairs of the queries

abbrev pub first_pairs : ℕ → List ℕ → Pairs
first_pairs limit labels = (codes "limit", decimal limit) ∷ labels_pair labels

abbrev pub watch_pairs : ℕ → List ℕ → Pairs
watch_pairs revision labels = (codes "watch", codes "true") ∷ (codes "resourceVersion", decimal revision) ∷ (codes "allowWatchBookmarks", codes "true") ∷ labels_pair labels

pub first_query : (s : Settings) → list_query s None ≡ extend_pairs [] (first_pairs s.page s.selector)
first_query s = by s.selector
  where
    by : (labels : List ℕ) → list_query (record s { selector = labels }) None ≡ extend_pairs [] (first_pairs s.page labels)
    by [] = refl
    by (b ∷ bs) = refl

pub next_query : (s : Settings) (token : List ℕ) → list_query s (Some token) ≡ extend_pairs [] (next_pairs s.page token s.selector)
next_query s token = by s.selector
  where
    by : (labels : List ℕ) → list_query (record s { selector = labels }) (Some token) ≡ extend_pairs [] (next_pairs s.page token labels)
    by [] = refl
    by (b ∷ bs) = refl

pub watch_query_is : (s : Settings) (revision : ℕ) → watch_query s revision ≡ extend_pairs [] (watch_pairs revision s.selector)
watch_query_is s revision = by s.selector
  where
    by : (labels : List ℕ) → watch_query (record s { selector = labels }) revision ≡ extend_pairs [] (watch_pairs revision labels)
    by [] = refl
    by (b ∷ bs) = refl

-- ---- they come back

ascii_text : (bs : List ℕ) → All (λ b. b < 128) bs → IsText bs
ascii_text bs all = (IsUtf8-from_ascii bs (IsAscii-from_all bs all), All-weaker (λ b. b < 128) (λ b. b < 256) (λ b low. omega (arith, low)) bs all)

literal_text : (bs : List ℕ) → list_all (λ b. nat_lt b 128) bs ≡ true → IsText bs
literal_text bs all = ascii_text bs (All-weaker (λ b. nat_lt b 128 ≡ true) (λ b. b < 128) (λ b is. ltb-true b 128 is) bs (AllPass-from_list_all (λ b. nat_lt b 128) bs all))

digit_low : (b : ℕ) → is_ascii_digit b ≡ true → b < 128
digit_low b is = grind (arith, nat_tests)

number_text : (n : ℕ) → n ≤ last_revision → IsText (decimal n)
number_text n high = ascii_text (decimal n) (All-weaker (λ b. is_ascii_digit b ≡ true) (λ b. b < 128) digit_low (decimal n) (AllPass-from_list_all is_ascii_digit (decimal n) (digits_decimal digits n (omega (arith, high)))))

labels_text : (labels : List ℕ) → IsText labels → All IsTextPair (labels_pair labels)
labels_text [] text = All-nil IsTextPair
labels_text (b ∷ bs) text = All-cons IsTextPair (codes "labelSelector", b ∷ bs) [] (literal_text (codes "labelSelector") refl, text) (All-nil IsTextPair)

first_texts : (limit : ℕ) (labels : List ℕ) → limit ≤ last_revision → IsText labels → All IsTextPair (first_pairs limit labels)
first_texts limit labels high text = All-cons IsTextPair (codes "limit", decimal limit) (labels_pair labels) (literal_text (codes "limit") refl, number_text limit high) (labels_text labels text)

watch_texts : (revision : ℕ) (labels : List ℕ) → revision ≤ last_revision → IsText labels → All IsTextPair (watch_pairs revision labels)
watch_texts revision labels high text =
    let bookmarks : Pairs = (codes "allowWatchBookmarks", codes "true") ∷ labels_pair labels in
    let is_true : IsText (codes "true") = literal_text (codes "true") refl in
    All-cons IsTextPair (codes "watch", codes "true") ((codes "resourceVersion", decimal revision) ∷ bookmarks) (literal_text (codes "watch") refl, is_true)
    (All-cons IsTextPair (codes "resourceVersion", decimal revision) bookmarks (literal_text (codes "resourceVersion") refl, number_text revision high)
    (All-cons IsTextPair (codes "allowWatchBookmarks", codes "true") (labels_pair labels) (literal_text (codes "allowWatchBookmarks") refl, is_true) (labels_text labels text)))

form_back : (pairs : Pairs) → All IsTextPair pairs → pairs_in (extend_pairs [] pairs) ≡ pairs
form_back pairs all = ap pairs_in (sym (query_back [] (extend_pairs [] pairs) refl)) ∙ pairs_back [] pairs refl all

-- ---- what they say

text_reads : {A : Type 0} (absent : A) (read : List ℕ → Option A) (p : Parameter) (text : List ℕ) (x : A) → 0 < length text → read text ≡ Some x → text_or absent read p text ≡ Ok x
text_reads absent read p [] x some is = absurd (omega arith)
text_reads absent read p (b ∷ bs) x some is = ap (or_bad p) is

number_read : (n : ℕ) → n ≤ last_revision → decimal_up_to 9223372036854775807 (decimal n) ≡ Some n
number_read n high = (exact 9223372036854775807 (decimal n) n (lit< tt)).1 (high, refl)

limit_said : (limit : ℕ) → limit ≤ last_revision → text_or 0 (decimal_up_to 9223372036854775807) parameter.Limit (decimal limit) ≡ Ok limit
limit_said limit high = text_reads 0 (decimal_up_to 9223372036854775807) parameter.Limit (decimal limit) limit (decimal_nonempty limit (omega (arith, high))) (number_read limit high)

version_said : (revision : ℕ) → revision ≤ last_revision → text_or None (λ text. option_map Some (version_of text)) parameter.ResourceVersion (decimal revision) ≡ Ok (Some revision)
version_said revision high =
    text_reads None (λ text. option_map Some (version_of text)) parameter.ResourceVersion (decimal revision) (Some revision) (decimal_nonempty revision (omega (arith, high)))
    (ap (option_map Some) (number_read revision high))

abbrev first_values : ℕ → List Requirement → Values
first_values limit requirements = record no_values { limit = limit; selector = requirements }

first_said : (limit : ℕ) (labels : List ℕ) (requirements : List Requirement) → limit ≤ last_revision → parse_selector labels ≡ Ok requirements → params_of asked.List (first_pairs limit labels) ≡ Ok (first_values limit requirements)
first_said limit [] requirements high asks =
    ap (λ r. selected r >>= λ selector. text_or 0 (decimal_up_to 9223372036854775807) parameter.Limit (decimal limit) >>= λ n. Ok (first_values n selector)) asks
    ∙ ap (λ r. r >>= λ n. Ok (first_values n requirements)) (limit_said limit high)
first_said limit (b ∷ bs) requirements high asks =
    ap (λ r. selected r >>= λ selector. text_or 0 (decimal_up_to 9223372036854775807) parameter.Limit (decimal limit) >>= λ n. Ok (first_values n selector)) asks
    ∙ ap (λ r. r >>= λ n. Ok (first_values n requirements)) (limit_said limit high)

abbrev version_read : ℕ → Read (Option ℕ)
version_read revision = text_or None (λ text. option_map Some (version_of text)) parameter.ResourceVersion (decimal revision)

abbrev watched_so : Option ℕ → List Requirement → Values
watched_so version requirements = record no_values { version = version; selector = requirements; watch = Some (record { has_bookmarks = true; timeout = 0 }) }

watch_reads : (revision : ℕ) (labels : List ℕ) (requirements : List Requirement) → revision ≤ last_revision → parse_selector labels ≡ Ok requirements → params_of asked.List (watch_pairs revision labels) ≡ Ok (watched_so (Some revision) requirements)
watch_reads revision [] requirements high asks =
    ap (λ r. selected r >>= λ selector. version_read revision >>= λ version. Ok (watched_so version selector)) asks
    ∙ ap (λ r. r >>= λ version. Ok (watched_so version requirements)) (version_said revision high)
watch_reads revision (b ∷ bs) requirements high asks =
    ap (λ r. selected r >>= λ selector. version_read revision >>= λ version. Ok (watched_so version selector)) asks
    ∙ ap (λ r. r >>= λ version. Ok (watched_so version requirements)) (version_said revision high)

pub first_is_read : (limit : ℕ) (labels : List ℕ) (requirements : List Requirement) → limit ≤ last_revision → IsText labels → parse_selector labels ≡ Ok requirements
    → params_of asked.List (pairs_in (extend_pairs [] (first_pairs limit labels))) ≡ Ok (first_values limit requirements)
first_is_read limit labels requirements high text asks = ap (params_of asked.List) (form_back (first_pairs limit labels) (first_texts limit labels high text)) ∙ first_said limit labels requirements high asks

pub watch_is_read : (revision : ℕ) (labels : List ℕ) (requirements : List Requirement) → revision ≤ last_revision → IsText labels → parse_selector labels ≡ Ok requirements
    → params_of asked.List (pairs_in (extend_pairs [] (watch_pairs revision labels))) ≡ Ok (watched_so (Some revision) requirements)
watch_is_read revision labels requirements high text asks = ap (params_of asked.List) (form_back (watch_pairs revision labels) (watch_texts revision labels high text)) ∙ watch_reads revision labels requirements high asks
