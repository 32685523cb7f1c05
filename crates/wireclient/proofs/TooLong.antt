-- A body and a line that are too long are emitted as a bad byte.
use Rattle.std.proofs.Common.{arith, ◌≡◌, ℕ, ◌+◌, ◌-◌, ◌≤◌, ◌<◌, ◌^◌, Bool, true, false, cond, leb, ltb, List, [], ◌∷◌, ◌++◌, length, map, take, drop, None, Some, refl, sym, ap, subst, ◌∙◌, ◌⊎◌, inl, inr, append_assoc, append-nil, take-append-drop}
use Rattle.std.proofs.lemmas.Bool.{le-leb, lt-leb, ltb-true, ne_eqb}
use Rattle.std.proofs.lemmas.List.{length-append, length-drop, length-take}
use Rattle.std.proofs.lemmas.List.Elements.{All-head, All-tail}
use Rattle.std.specs.Prelude.{◌&&◌, ◌==◌}
use Rattle.std.specs.Char.{digit_value, is_ascii_hexdigit}
use Rattle.std.specs.Fmt.{decimal}
use Rattle.std.specs.List.{All, flat_map, list_all}
use Rattle.httparse.specs.Grammar.{ResponseHead, IsResponseHead, print_response, status_code}
use Rattle.httparse.specs.Spans.{name_and_value}
use Rattle.httparse.proofs.GrammarLemmas.{response_unique}
use Rattle.wire.specs.Chunks.{Chunk, IsChunk, print_chunk}
use Rattle.wire.specs.Heads.{crlf, max_fields, max_head}
use Rattle.wire.specs.Lengths.{length_in}
use Rattle.wire.proofs.Lengths.{decimal_read}
use Rattle.wireclient.specs.LineLaws.{BeginsTooLong, IsLine, print_lines}
use Rattle.wireclient.specs.Reads.{Items, Checked, Reaches, framed_by_length, framing_of, max_body, start}
use Rattle.wireclient.specs.Reply.{by_chunks, ReplyItem, head, line, malformed, State, size, size_lf, data_in, broken, max_line, Next, fails, goes_to, digit_onto, step}
use Rattle.wireclient.proofs.Checking.{over_limit}
use Rattle.wireclient.proofs.Chunked.{AreBegun, Fits, chunk_begins, chunk_read, data_of, fits_first, fits_rest, first_of, head_then_chunks, lines_append, lines_begun, lines_in, lines_lead, next_text, picked, rest_in, rest_append, rest_of, emitted_at, with_emitted}
use Rattle.wireclient.proofs.Determined.{framed_alike}
use Rattle.wireclient.proofs.Leading.{reaches_append}
use Rattle.wireclient.proofs.Lengthened.{after_broken, after_more, data_next}
use Rattle.wireclient.proofs.Printed.{head_ends}
use Rattle.wireclient.proofs.ReadBack.{whole_head_read}

-- ---- a head that frames no body

unframed : (h : ResponseHead) → IsResponseHead h → framing_of (map name_and_value h.fields) ≡ None → Checked (print_response h) None
unframed h is none k reads few =
    let same : h ≡ k = (response_unique (print_response h) h k [] [] (is, sym (append-nil (print_response h))) reads).0 in
    sym (framed_alike h k same) ∙ none

pub unframed_read : (h : ResponseHead) (more : List ℕ) → IsResponseHead h → length (print_response h) ≤ max_head → framing_of (map name_and_value h.fields) ≡ None
    → Items (print_response h ++ more) (malformed ∷ [])
unframed_read h more is fits none =
    let first : Reaches start (print_response h) broken (malformed ∷ []) = whole_head_read (print_response h) None fits (head_ends h is) (unframed h is none) in
    (broken, reaches_append start broken broken (print_response h) more (malformed ∷ []) [] first (after_broken more))

pub no_length : (n : ℕ) → max_body < n → n < 2 ^ 64 → framed_by_length (length_in (decimal n)) ≡ None
no_length n above wide = ap framed_by_length (decimal_read n wide) ∙ over_limit (leb n max_body) n (lt-leb _ _ above)

-- ---- data that break off

-- a byte after these data is one too many
record BreaksAfter (text prefix : List ℕ) : Type 0 where
  fits : Fits text prefix
  full : max_line ≤ length (rest_in text prefix)

data_breaks : (left : ℕ) (text prefix : List ℕ) (b : ℕ) (back : List ℕ) → left ≡ length prefix + (1 + length back) → Fits text prefix → max_line ≤ length (rest_in text prefix)
    → Reaches (data_in left text) (prefix ++ b ∷ back) broken (lines_in text prefix ++ malformed ∷ [])
data_breaks left text [] b back is fits full =
    let next : step None (data_in left text) b ≡ fails = picked (leb max_line (length text)) fails _ (le-leb _ _ full) in (
      None,
      [],
      tt,
      subst (λ (n : Next). Reaches n.0 back broken []) (sym next) (after_broken back),
      sym (ap (λ (n : Next). n.1 ++ []) next),
    )
data_breaks left text (f ∷ prefix) b back is fits full =
    let next : step None (data_in left text) f ≡ (data_in (left - 1) (next_text text f), emitted_at text f) =
    data_next (leb max_line (length text)) (f == 10) (left - 1) text f (lt-leb _ _ fits.0) ∙ ap (with_emitted (emitted_at text f)) (after_more (left - 1) (next_text text f) (omega (arith, is))) in
    let emitted : List ReplyItem = lines_in (next_text text f) prefix ++ malformed ∷ [] in
    let rest = data_breaks (left - 1) (next_text text f) prefix b back (omega (arith, is)) fits.1 full in (
      None,
      lines_in (next_text text f) prefix ++ malformed ∷ [],
      tt,
      subst (λ (n : Next). Reaches n.0 (prefix ++ b ∷ back) broken (lines_in (next_text text f) prefix ++ malformed ∷ [])) (sym next) rest,
      append_assoc (emitted_at text f) (lines_in (next_text text f) prefix) (malformed ∷ []) ∙ sym (ap (λ (n : Next). n.1 ++ (lines_in (next_text text f) prefix ++ malformed ∷ [])) next),
    )

chunk_breaks : (chunk : Chunk) (text prefix : List ℕ) (b : ℕ) (back more : List ℕ) → IsChunk chunk → chunk.content ≡ prefix ++ b ∷ back → BreaksAfter text prefix
    → Reaches (size 0 0 text) (print_chunk chunk ++ more) broken (lines_in text prefix ++ malformed ∷ [])
chunk_breaks chunk text prefix b back more is same breaks =
    let emitted : List ReplyItem = lines_in text prefix ++ malformed ∷ [] in
    let counted : length chunk.content ≡ length prefix + (1 + length back) = ap (λ (xs : List ℕ). length xs) same ∙ length-append prefix (b ∷ back) ∙ omega arith in
    let broke = data_breaks (length chunk.content) text prefix b back counted breaks.fits breaks.full in
    let inside = subst (λ (xs : List ℕ). Reaches (data_in (length chunk.content) text) xs broken (lines_in text prefix ++ malformed ∷ [])) (sym same) broke in
    let all = closes (data_in (length chunk.content) text) chunk.content crlf (lines_in text prefix ++ malformed ∷ []) inside in
    closes (size 0 0 text) (print_chunk chunk) more (lines_in text prefix ++ malformed ∷ []) (chunk_begins chunk text (chunk.content ++ crlf) broken (lines_in text prefix ++ malformed ∷ []) is all)
  where
    closes : (s : State) (xs ys : List ℕ) (emitted : List ReplyItem) → Reaches s xs broken emitted → Reaches s (xs ++ ys) broken emitted
    closes s xs ys emitted reaches = subst (λ (items : List ReplyItem). Reaches s (xs ++ ys) broken items) (append-nil emitted) (reaches_append s broken broken xs ys emitted [] reaches (after_broken ys))

-- ---- which chunk it is

-- bytes of two texts, cut before one of them: it stands in the former or in the latter
abbrev CutIn : List ℕ → List ℕ → List ℕ → ℕ → List ℕ → Type 0
CutIn xs ys prefix b back = ((behind : List ℕ) × (xs ≡ prefix ++ b ∷ behind)) ⊎ ((more : List ℕ) × (prefix ≡ xs ++ more) × (ys ≡ more ++ b ∷ back))

cut_in : (xs ys prefix : List ℕ) (b : ℕ) (back : List ℕ) → xs ++ ys ≡ prefix ++ b ∷ back → CutIn xs ys prefix b back
cut_in [] ys prefix b back is = inr (prefix, refl, is)
cut_in (x ∷ xs) ys [] b back is = let first : x ≡ b = cc in inl (xs, ap (λ (y : ℕ). y ∷ xs) first)
cut_in (x ∷ xs) ys (f ∷ prefix) b back is =
    let first : x ≡ f = cc in
    let rest : xs ++ ys ≡ prefix ++ b ∷ back = cc in
    later first (cut_in xs ys prefix b back rest)
  where
    later : x ≡ f → CutIn xs ys prefix b back → CutIn (x ∷ xs) ys (f ∷ prefix) b back
    later first (inl (behind, is)) = inl (behind, ap (λ (zs : List ℕ). x ∷ zs) is ∙ ap (λ (y : ℕ). y ∷ (prefix ++ b ∷ behind)) first)
    later first (inr (more, is, after)) = inr (more, ap (λ (y : ℕ). y ∷ prefix) (sym first) ∙ ap (λ (zs : List ℕ). x ∷ zs) is, after)

none_left : (prefix : List ℕ) (b : ℕ) (back : List ℕ) → [] ≡ prefix ++ b ∷ back → ⊥
none_left prefix b back is =
    let counted : 0 ≡ length (prefix ++ b ∷ back) = ap (λ (xs : List ℕ). length xs) is in
    let long = length-append prefix (b ∷ back) in
    omega (arith, counted, long)

-- what chunks lead to that break off there
abbrev BreakOff : List Chunk → List ℕ → List ℕ → Type 0
BreakOff chunks text prefix = Reaches (size 0 0 text) (flat_map print_chunk chunks) broken (lines_in text prefix ++ malformed ∷ [])

later_breaks : (chunk : Chunk) (chunks : List Chunk) (text prefix more : List ℕ) → IsChunk chunk → prefix ≡ chunk.content ++ more → BreaksAfter text prefix
    → (BreaksAfter (rest_in text chunk.content) more → BreakOff chunks (rest_in text chunk.content) more) → BreakOff (chunk ∷ chunks) text prefix
later_breaks chunk chunks text prefix more is same breaks others =
    let fits : Fits text (chunk.content ++ more) = subst (λ (xs : List ℕ). Fits text xs) same breaks.fits in
    let rest : rest_in text prefix ≡ rest_in (rest_in text chunk.content) more = ap (rest_in text) same ∙ rest_append text chunk.content more in
    let later = others (record { fits = fits_rest text chunk.content more fits; full = subst (λ (xs : List ℕ). max_line ≤ length xs) rest breaks.full }) in
    let one = chunk_read chunk text is (fits_first text chunk.content more fits) in
    let emitted : lines_in text chunk.content ++ (lines_in (rest_in text chunk.content) more ++ malformed ∷ []) ≡ lines_in text prefix ++ malformed ∷ [] =
    sym (append_assoc (lines_in text chunk.content) (lines_in (rest_in text chunk.content) more) (malformed ∷ []))
    ∙ ap (λ (items : List ReplyItem). items ++ malformed ∷ []) (sym (lines_append text chunk.content more) ∙ ap (lines_in text) (sym same)) in
    subst (λ (items : List ReplyItem). Reaches (size 0 0 text) (print_chunk chunk ++ flat_map print_chunk chunks) broken items) emitted
    (reaches_append (size 0 0 text) (size 0 0 (rest_in text chunk.content)) broken (print_chunk chunk) (flat_map print_chunk chunks) (lines_in text chunk.content)
    (lines_in (rest_in text chunk.content) more ++ malformed ∷ []) one later)

chunks_break : (chunks : List Chunk) (text prefix : List ℕ) (b : ℕ) (back : List ℕ) → All IsChunk chunks → BreaksAfter text prefix → data_of chunks ≡ prefix ++ b ∷ back → BreakOff chunks text prefix
chunks_break [] text prefix b back all breaks is = absurd (none_left prefix b back is)
chunks_break (chunk ∷ chunks) text prefix b back all breaks is =
    by_cut (cut_in chunk.content (data_of chunks) prefix b back is)
    (λ more after broke. chunks_break chunks (rest_in text chunk.content) more b back (All-tail IsChunk chunk chunks all) broke after)
  where
    by_cut : CutIn chunk.content (data_of chunks) prefix b back
        → ((more : List ℕ) → data_of chunks ≡ more ++ b ∷ back → BreaksAfter (rest_in text chunk.content) more → BreakOff chunks (rest_in text chunk.content) more) → BreakOff (chunk ∷ chunks) text prefix
    by_cut (inl (behind, same)) others = chunk_breaks chunk text prefix b behind (flat_map print_chunk chunks) (All-head IsChunk chunk chunks all) same breaks
    by_cut (inr (more, same, after)) others = later_breaks chunk chunks text prefix more (All-head IsChunk chunk chunks all) same breaks (others more after)

-- ---- a line that is too long

-- behind the head
after_head : (h : ResponseHead) (bytes more : List ℕ) (emitted : List ReplyItem) → IsResponseHead h → length (print_response h) ≤ max_head → length h.fields ≤ max_fields → framing_of (map name_and_value h.fields) ≡ Some by_chunks
    → Reaches (size 0 0 []) bytes broken emitted → Items (print_response h ++ (bytes ++ more)) (head (status_code h) ∷ emitted)
after_head h bytes more emitted is fits few framed reaches =
    let all = subst (λ (items : List ReplyItem). Reaches (size 0 0 []) (bytes ++ more) broken items) (append-nil emitted) (reaches_append (size 0 0 []) broken broken bytes more emitted [] reaches (after_broken more)) in
    (broken, reaches_append start (size 0 0 []) broken (print_response h) (bytes ++ more) (head (status_code h) ∷ []) emitted (head_then_chunks h is fits few framed) all)

pub long_line_read : (h : ResponseHead) (chunks : List Chunk) (lines : List (List ℕ)) (rest more : List ℕ) → IsResponseHead h → length (print_response h) ≤ max_head → length h.fields ≤ max_fields
    → framing_of (map name_and_value h.fields) ≡ Some by_chunks → All IsChunk chunks → All IsLine lines → BeginsTooLong rest → data_of chunks ≡ print_lines lines ++ rest
    → Items (print_response h ++ (flat_map print_chunk chunks ++ more)) (head (status_code h) ∷ (map line lines ++ malformed ∷ []))
long_line_read h chunks lines rest more is fits few framed chunked lined begins joined =
    let taken : length (take max_line rest) ≡ max_line = length-take max_line rest ∙ omega (arith, begins.long) in
    let begun : AreBegun (print_lines lines ++ take max_line rest) lines (take max_line rest) = lines_begun lines (take max_line rest) lined begins.one (omega (arith, taken)) in
    go (drop max_line rest) refl (omega (arith, begins.long, length-drop max_line rest)) begun taken
  where
    go : (left : List ℕ) → drop max_line rest ≡ left → 0 < length left → AreBegun (print_lines lines ++ take max_line rest) lines (take max_line rest) → length (take max_line rest) ≡ max_line
        → Items (print_response h ++ (flat_map print_chunk chunks ++ more)) (head (status_code h) ∷ (map line lines ++ malformed ∷ []))
    go [] left_is some begun taken = absurd (omega (arith, some))
    go (b ∷ back) left_is some begun taken =
        let prefix : List ℕ = print_lines lines ++ take max_line rest in
        let whole : rest ≡ take max_line rest ++ b ∷ back = sym (take-append-drop max_line rest) ∙ ap (λ (xs : List ℕ). take max_line rest ++ xs) left_is in
        let same : data_of chunks ≡ (print_lines lines ++ take max_line rest) ++ b ∷ back =
        joined ∙ ap (λ (xs : List ℕ). print_lines lines ++ xs) whole ∙ sym (append_assoc (print_lines lines) (take max_line rest) (b ∷ back)) in
        let counted : length (rest_in [] (print_lines lines ++ take max_line rest)) ≡ max_line = ap (λ (xs : List ℕ). length xs) begun.rest ∙ taken in
        let breaks : BreaksAfter [] (print_lines lines ++ take max_line rest) = record { fits = begun.fits; full = omega (arith, counted) } in
        let read = chunks_break chunks [] (print_lines lines ++ take max_line rest) b back chunked breaks same in
        after_head h (flat_map print_chunk chunks) more (map line lines ++ malformed ∷ []) is fits few framed
        (subst (λ (emitted : List ReplyItem). Reaches (size 0 0 []) (flat_map print_chunk chunks) broken (emitted ++ malformed ∷ [])) begun.emitted read)

-- ---- a size of too many digits

hex_no_return : (b : ℕ) → is_ascii_hexdigit b ≡ true → (b == 13) ≡ false
hex_no_return b is = ne_eqb b 13 (λ e. let at : is_ascii_hexdigit b ≡ false = ap is_ascii_hexdigit e in cc)

digit_refused : (s t u v : Bool) (n m : Next) → t ≡ false → u ≡ false → cond (s && t) n (cond (u && v) m fails) ≡ fails
digit_refused true true u v n m t-is u-is = absurd cc
digit_refused true false true v n m t-is u-is = absurd cc
digit_refused true false false v n m t-is u-is = refl
digit_refused false t true v n m t-is u-is = absurd cc
digit_refused false t false v n m t-is u-is = refl

digit_taken : (s t : Bool) (n m : Next) → s ≡ true → t ≡ true → cond (s && t) n m ≡ n
digit_taken true true n m s-is t-is = refl
digit_taken true false n m s-is t-is = absurd cc
digit_taken false t n m s-is t-is = absurd cc

size_breaks : (count value : ℕ) (digits : List ℕ) → list_all is_ascii_hexdigit digits ≡ true → 16 < count + length digits → count ≤ 16 → Reaches (size count value []) digits broken (malformed ∷ [])
size_breaks count value [] all long low = absurd (omega (arith, long, low))
size_breaks count value (b ∷ digits) all long low =
    by_count (ltb count 16) refl (first_of (is_ascii_hexdigit b) (list_all is_ascii_hexdigit digits) all)
    (λ within. size_breaks (count + 1) (digit_onto value (digit_value b)) digits (rest_of (is_ascii_hexdigit b) (list_all is_ascii_hexdigit digits) all) (omega (arith, long)) (omega (arith, within)))
  where
    by_count : (t : Bool) → ltb count 16 ≡ t → is_ascii_hexdigit b ≡ true → (count < 16 → Reaches (size (count + 1) (digit_onto value (digit_value b)) []) digits broken (malformed ∷ []))
        → Reaches (size count value []) (b ∷ digits) broken (malformed ∷ [])
    by_count true few is others =
        let next : step None (size count value []) b ≡ goes_to (size (count + 1) (digit_onto value (digit_value b)) []) =
        digit_taken (is_ascii_hexdigit b) (ltb count 16) (goes_to (size (count + 1) (digit_onto value (digit_value b)) [])) _ is few in (
          None,
          malformed ∷ [],
          tt,
          subst (λ (n : Next). Reaches n.0 digits broken (malformed ∷ [])) (sym next) (others (ltb-true count 16 few)),
          sym (ap (λ (n : Next). n.1 ++ malformed ∷ []) next),
        )
    by_count false many is others =
        let next : step None (size count value []) b ≡ fails =
        digit_refused (is_ascii_hexdigit b) (ltb count 16) (b == 13) (ltb 0 count) (goes_to (size (count + 1) (digit_onto value (digit_value b)) [])) (goes_to (size_lf value [])) many (hex_no_return b is) in (
          None,
          [],
          tt,
          subst (λ (n : Next). Reaches n.0 digits broken []) (sym next) (after_broken digits),
          sym (ap (λ (n : Next). n.1 ++ []) next),
        )

pub long_size_read : (h : ResponseHead) (chunks : List Chunk) (lines : List (List ℕ)) (digits more : List ℕ) → IsResponseHead h → length (print_response h) ≤ max_head → length h.fields ≤ max_fields
    → framing_of (map name_and_value h.fields) ≡ Some by_chunks → All IsChunk chunks → All IsLine lines → data_of chunks ≡ print_lines lines → list_all is_ascii_hexdigit digits ≡ true → 16 < length digits
    → Items (print_response h ++ (flat_map print_chunk chunks ++ (digits ++ more))) (head (status_code h) ∷ (map line lines ++ malformed ∷ []))
long_size_read h chunks lines digits more is fits few framed chunked lined joined all long =
    let both = reaches_append (size 0 0 []) (size 0 0 []) broken (flat_map print_chunk chunks) digits (map line lines) (malformed ∷ []) (lines_lead chunks lines chunked lined joined) (size_breaks 0 0 digits all (omega (arith, long)) (omega arith)) in
    subst (λ (bytes : List ℕ). Items (print_response h ++ bytes) (head (status_code h) ∷ (map line lines ++ malformed ∷ []))) (append_assoc (flat_map print_chunk chunks) digits more)
    (after_head h (flat_map print_chunk chunks ++ digits) more (map line lines ++ malformed ∷ []) is fits few framed both)
