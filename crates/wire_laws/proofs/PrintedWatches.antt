-- The head of a watch as a head of the grammar, and what is read of a watch.
use Rattle.std.proofs.Common.{arith, ◌≡◌, ℕ, ◌+◌, ◌≤◌, ◌<◌, ◌^◌, Bool, true, false, List, [], ◌∷◌, ◌++◌, length, map, Some, refl, sym, ap, subst, ◌∙◌, ◌⊎◌, inl, inr, append-nil, length-append}
use Rattle.std.proofs.lemmas.Bool.{ltb-false, ltb-true}
use Rattle.std.proofs.lemmas.Fmt.{decimal_is_IsNumeral}
use Rattle.std.proofs.lemmas.List.Elements.{All-cons, All-nil}
use Rattle.std.specs.Prelude.{codes, nat_lt}
use Rattle.std.specs.Char.{is_ascii_digit, is_ascii_hexdigit}
use Rattle.std.specs.Fmt.{decimal}
use Rattle.std.specs.List.{All, flat_map, list_all}
use Rattle.std.specs.Str.Parse.{digits_value}
use Rattle.http.specs.StatusCode.{IsStatusCode}
use Rattle.httparse.specs.Grammar as grammar
use Rattle.httparse.specs.Grammar.{AllPass, is_token_byte, is_value_byte, Field, IsField, print_field, ResponseHead, IsResponseHead, print_response, status_code}
use Rattle.httparse.specs.Spans.{name_and_value}
use Rattle.wire.specs.Chunks.{Chunk, IsChunk, print_chunk, print_chunks}
use Rattle.wire.specs.Heads.{crlf, max_fields, max_head}
use Rattle.wire.specs.Lengths.{IsSize, hexadecimal}
use Rattle.wire.proofs.Lines.{passes_each}
use Rattle.requests.specs.ReplyBytes.{chunks, phrase_of, watch_head}
use Rattle.wireclient.specs.LineLaws.{BeginsTooLong, HasNoFeed, IsLine, print_lines, with_feed}
use Rattle.wireclient.specs.Reads.{Items, framing_of}
use Rattle.wireclient.specs.Reply.{by_chunks, ReplyItem, end, head, line, malformed, max_line}
use Rattle.wire_laws.specs.Watched.{end_sent, joined, lines_sent, sent_of}
use Rattle.wire_laws.proofs.Chunking.{are_chunks, chunks_of, contents, ended_chunks, last_size, open_chunks, turns_joined}
use Rattle.wire_laws.proofs.Fields.{decimal_digits, field, is_field}
use Rattle.wire_laws.proofs.LongLines.{HasLong, begins_long, behind_size, lines_or_long, long_chunks, long_contents, long_sent, short_sent, with_chunks, with_size}
use Rattle.wire_laws.proofs.LongSizes.{hex_digits, hex_long}
use Rattle.wire_laws.proofs.PrintedReplies.{is_connection, is_content_type, status_line, three_digits}
use Rattle.wire_laws.proofs.Statuses.{phrase_passes, phrase_short}

abbrev fields : List Field
fields = field (codes "Content-Type") (codes "application/json") ∷ field (codes "Transfer-Encoding") (codes "chunked") ∷ field (codes "Connection") (codes "close") ∷ []

abbrev head_of : List ℕ → List ℕ → ResponseHead
head_of code phrase = record { blank = []; minor = 1; digits = code; reason = Some phrase; line_end = grammar.crlf; fields = fields; last = grammar.crlf }

abbrev after_phrase : List ℕ
after_phrase = crlf ++ (codes "Content-Type: application/json" ++ (crlf ++ (codes "Transfer-Encoding: chunked" ++ (crlf ++ (codes "Connection: close" ++ (crlf ++ crlf))))))

abbrev head_text : List ℕ → List ℕ → List ℕ
head_text code phrase = codes "HTTP/1.1 " ++ (code ++ (32 ∷ (phrase ++ after_phrase)))

printed : (code phrase : List ℕ) → print_response (head_of code phrase) ≡ head_text code phrase
unfolding print_response
printed code phrase = ap (λ (s : List ℕ). codes "HTTP/1.1 " ++ s) (status_line code phrase (flat_map print_field fields ++ crlf))

is_encoding : IsField (field (codes "Transfer-Encoding") (codes "chunked"))
unfolding is_token_byte
is_encoding = is_field (codes "Transfer-Encoding") (codes "chunked") (omega arith) refl (passes_each is_value_byte (codes "chunked") refl)

are_fields : All IsField fields
are_fields =
    All-cons IsField (field (codes "Content-Type") (codes "application/json")) (field (codes "Transfer-Encoding") (codes "chunked") ∷ field (codes "Connection") (codes "close") ∷ []) is_content_type
    (All-cons IsField (field (codes "Transfer-Encoding") (codes "chunked")) (field (codes "Connection") (codes "close") ∷ []) is_encoding
    (All-cons IsField (field (codes "Connection") (codes "close")) [] is_connection (All-nil IsField)))

framed : framing_of (map name_and_value fields) ≡ Some by_chunks
unfolding grammar.trim_ows
framed = refl

fits : (code phrase : List ℕ) → length code ≤ 3 → length phrase ≤ 64 → length (head_text code phrase) ≤ max_head
fits code phrase three short =
    let text : length (phrase ++ after_phrase) ≡ length phrase + length after_phrase = length-append phrase after_phrase in
    let whole : length (code ++ (32 ∷ (phrase ++ after_phrase))) ≡ length code + length (32 ∷ (phrase ++ after_phrase)) = length-append code (32 ∷ (phrase ++ after_phrase)) in
    omega (arith, text, whole, three, short)

record HasHead (code phrase : List ℕ) : Type 0 where
  is : IsResponseHead (head_of code phrase)
  same : print_response (head_of code phrase) ≡ head_text code phrase
  low : length (print_response (head_of code phrase)) ≤ max_head

has_head : (code phrase : List ℕ) → (length code ≡ 3) × AllPass is_ascii_digit code → AllPass is_value_byte phrase → length phrase ≤ 64 → HasHead code phrase
has_head code phrase digits pass short =
    let same = printed code phrase in
    let three : length code ≤ 3 = let exact = digits.0 in omega (arith, exact) in
    record {
      is = record { minor = omega arith; digits = digits; reason = pass; fields = are_fields };
      same = same;
      low = subst (λ (xs : List ℕ). length xs ≤ max_head) (sym same) (fits code phrase three short);
    }

-- ---- the law

-- what the reader's own laws give of a head and chunks
abbrev pub ReadsEnded : Type 0
ReadsEnded = (h : ResponseHead) (chunks : List Chunk) (last : List ℕ) (lines : List (List ℕ)) → IsResponseHead h → length (print_response h) ≤ max_head → length h.fields ≤ max_fields
    → framing_of (map name_and_value h.fields) ≡ Some by_chunks → All IsChunk chunks → IsSize last 0 → All IsLine lines → flat_map (λ c. c.content) chunks ≡ print_lines lines
    → Items (print_response h ++ print_chunks chunks last) (head (status_code h) ∷ (map line lines ++ end ∷ []))

abbrev pub ReadsOpen : Type 0
ReadsOpen = (h : ResponseHead) (chunks : List Chunk) (lines : List (List ℕ)) (rest : List ℕ) → IsResponseHead h → length (print_response h) ≤ max_head → length h.fields ≤ max_fields
    → framing_of (map name_and_value h.fields) ≡ Some by_chunks → All IsChunk chunks → All IsLine lines → HasNoFeed rest → length rest ≤ max_line → flat_map (λ c. c.content) chunks ≡ print_lines lines ++ rest
    → Items (print_response h ++ flat_map print_chunk chunks) (head (status_code h) ∷ map line lines)

abbrev pub ReadsLong : Type 0
ReadsLong = (h : ResponseHead) (chunks : List Chunk) (lines : List (List ℕ)) (rest more : List ℕ) → IsResponseHead h → length (print_response h) ≤ max_head → length h.fields ≤ max_fields
    → framing_of (map name_and_value h.fields) ≡ Some by_chunks → All IsChunk chunks → All IsLine lines → BeginsTooLong rest → flat_map (λ c. c.content) chunks ≡ print_lines lines ++ rest
    → Items (print_response h ++ (flat_map print_chunk chunks ++ more)) (head (status_code h) ∷ (map line lines ++ malformed ∷ []))

abbrev pub ReadsSized : Type 0
ReadsSized = (h : ResponseHead) (chunks : List Chunk) (lines : List (List ℕ)) (digits more : List ℕ) → IsResponseHead h → length (print_response h) ≤ max_head → length h.fields ≤ max_fields
    → framing_of (map name_and_value h.fields) ≡ Some by_chunks → All IsChunk chunks → All IsLine lines → flat_map (λ c. c.content) chunks ≡ print_lines lines
    → list_all is_ascii_hexdigit digits ≡ true → 16 < length digits
    → Items (print_response h ++ (flat_map print_chunk chunks ++ (digits ++ more))) (head (status_code h) ∷ (map line lines ++ malformed ∷ []))

pub record Reader : Type 0 where
  pub ended : ReadsEnded
  pub still : ReadsOpen
  pub long : ReadsLong
  pub sized : ReadsSized

-- the head of these digits and this phrase, and then chunks that are told so
abbrev ReadsAs : List ℕ → List ℕ → List ℕ → List ReplyItem → Type 0
ReadsAs code phrase bytes sent = Items (head_text code phrase ++ bytes) (head (digits_value 10 code) ∷ sent)

lines_read : Reader → (code phrase : List ℕ) (texts : List (List ℕ)) (has_ended : Bool) → HasHead code phrase → All IsLine texts
    → ReadsAs code phrase (chunks (map with_feed texts) has_ended) (map line texts ++ end_sent has_ended)
lines_read reader code phrase texts true has lines =
    subst (λ (bytes : List ℕ). ReadsAs code phrase bytes (map line texts ++ end_sent true)) (sym (ended_chunks texts))
    (subst (λ (xs : List ℕ). Items (xs ++ print_chunks (chunks_of texts) (codes "0")) (head (digits_value 10 code) ∷ (map line texts ++ end_sent true))) has.same
    (reader.ended (head_of code phrase) (chunks_of texts) (codes "0") texts has.is has.low (omega arith) framed (are_chunks texts lines) last_size lines (contents texts)))
lines_read reader code phrase texts false has lines =
    subst (λ (items : List ReplyItem). ReadsAs code phrase (chunks (map with_feed texts) false) items) (sym (append-nil (map line texts)))
    (subst (λ (bytes : List ℕ). ReadsAs code phrase bytes (map line texts)) (sym (open_chunks texts))
    (subst (λ (xs : List ℕ). Items (xs ++ flat_map print_chunk (chunks_of texts)) (head (digits_value 10 code) ∷ map line texts)) has.same
    (reader.still (head_of code phrase) (chunks_of texts) texts [] has.is has.low (omega arith) framed (are_chunks texts lines) lines refl (omega arith) (contents texts ∙ sym (append-nil (print_lines texts))))))

long_read : Reader → (code phrase : List ℕ) (before : List (List ℕ)) (long : List ℕ) (after : List (List ℕ)) (has_ended : Bool) → HasHead code phrase → All IsLine before → HasNoFeed long → max_line ≤ length long
    → ReadsAs code phrase (chunks (map with_feed (before ++ long ∷ after)) has_ended) (map line before ++ malformed ∷ [])
long_read reader code phrase before long after has_ended has lines plain over = by_size (nat_lt (length (with_feed long)) 18446744073709551616) refl
  where
    by_size : (t : Bool) → nat_lt (length (with_feed long)) 18446744073709551616 ≡ t → ReadsAs code phrase (chunks (map with_feed (before ++ long ∷ after)) has_ended) (map line before ++ malformed ∷ [])
    by_size true few =
        subst (λ (bytes : List ℕ). ReadsAs code phrase bytes (map line before ++ malformed ∷ [])) (sym (with_chunks before long after has_ended))
        (subst (λ (xs : List ℕ). Items (xs ++ (flat_map print_chunk (chunks_of (before ++ long ∷ [])) ++ chunks (map with_feed after) has_ended)) (head (digits_value 10 code) ∷ (map line before ++ malformed ∷ []))) has.same
        (reader.long (head_of code phrase) (chunks_of (before ++ long ∷ [])) before (with_feed long) (chunks (map with_feed after) has_ended) has.is has.low (omega arith) framed
        (long_chunks before long lines (ltb-true (length (with_feed long)) 18446744073709551616 few)) lines (begins_long long plain over) (long_contents before long)))
    by_size false many =
        subst (λ (bytes : List ℕ). ReadsAs code phrase bytes (map line before ++ malformed ∷ [])) (sym (with_size before long after has_ended))
        (subst (λ (xs : List ℕ). Items (xs ++ (flat_map print_chunk (chunks_of before) ++ (hexadecimal (length (with_feed long)) ++ behind_size long after has_ended))) (head (digits_value 10 code) ∷ (map line before ++ malformed ∷ []))) has.same
        (reader.sized (head_of code phrase) (chunks_of before) before (hexadecimal (length (with_feed long))) (behind_size long after has_ended) has.is has.low (omega arith) framed
        (are_chunks before lines) lines (contents before) (hex_digits (length (with_feed long))) (hex_long (length (with_feed long)) (ltb-false (length (with_feed long)) 18446744073709551616 many))))

texts_read : Reader → (code phrase : List ℕ) (texts : List (List ℕ)) (has_ended : Bool) → HasHead code phrase → All HasNoFeed texts
    → ReadsAs code phrase (chunks (map with_feed texts) has_ended) (lines_sent texts (end_sent has_ended))
texts_read reader code phrase texts has_ended has plain = by_lines (lines_or_long texts plain)
  where
    by_lines : All IsLine texts ⊎ HasLong texts → ReadsAs code phrase (chunks (map with_feed texts) has_ended) (lines_sent texts (end_sent has_ended))
    by_lines (inl lines) =
        subst (λ (sent : List ReplyItem). ReadsAs code phrase (chunks (map with_feed texts) has_ended) sent) (sym (short_sent texts (end_sent has_ended) lines)) (lines_read reader code phrase texts has_ended has lines)
    by_lines (inr x) =
        subst (λ (all : List (List ℕ)). ReadsAs code phrase (chunks (map with_feed all) has_ended) (lines_sent all (end_sent has_ended))) (sym x.are)
        (subst (λ (sent : List ReplyItem). ReadsAs code phrase (chunks (map with_feed (x.before ++ x.long ∷ x.after)) has_ended) sent) (sym (long_sent x.before x.long x.after (end_sent has_ended) x.lines x.over))
        (long_read reader code phrase x.before x.long x.after has_ended has x.lines x.plain x.over))

pub watch_read : Reader → (code : ℕ) (texts : List (List ℕ)) (has_ended : Bool) → IsStatusCode code → All HasNoFeed texts
    → Items (watch_head code ++ chunks (map with_feed texts) has_ended) (sent_of code texts has_ended)
watch_read reader code texts has_ended is plain =
    let low : code < 2 ^ 64 = let top = is.1 in omega (arith, top) in
    let value : digits_value 10 (decimal code) ≡ code = (decimal_is_IsNumeral code low).1 in
    let has = has_head (decimal code) (phrase_of code) (three_digits code is, decimal_digits code low) (phrase_passes code) (phrase_short code) in
    subst (λ (n : ℕ). Items (watch_head code ++ chunks (map with_feed texts) has_ended) (sent_of n texts has_ended)) value (texts_read reader (decimal code) (phrase_of code) texts has_ended has plain)

pub turns_read : ((code : ℕ) (texts : List (List ℕ)) (has_ended : Bool) → IsStatusCode code → All HasNoFeed texts → Items (watch_head code ++ chunks (map with_feed texts) has_ended) (sent_of code texts has_ended))
    → (code : ℕ) (turns : List (List (List ℕ))) (last : List (List ℕ)) (has_ended : Bool) → IsStatusCode code → All HasNoFeed (joined turns ++ last)
    → Items (watch_head code ++ (flat_map (λ texts. chunks (map with_feed texts) false) turns ++ chunks (map with_feed last) has_ended)) (sent_of code (joined turns ++ last) has_ended)
turns_read reads code turns last has_ended is plain =
    subst (λ (bytes : List ℕ). Items (watch_head code ++ bytes) (sent_of code (joined turns ++ last) has_ended)) (sym (turns_joined turns last has_ended)) (reads code (joined turns ++ last) has_ended is plain)
