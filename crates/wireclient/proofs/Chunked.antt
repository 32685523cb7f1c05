-- A reply in chunks is read as its status, its lines and the end.
use Rattle.std.proofs.Common.{arith, ◌≡◌, ℕ, ◌+◌, ◌-◌, ◌*◌, ◌≤◌, ◌<◌, Bool, true, false, cond, leb, ltb, List, [], ◌∷◌, ◌++◌, length, map, Some, None, refl, sym, ap, ap₂, subst, ◌∙◌, append_assoc, append-nil}
use Rattle.std.proofs.lemmas.Bool.{lt-leb, lt-ltb, ne_eqb}
use Rattle.std.proofs.lemmas.List.{length-append}
use Rattle.std.proofs.lemmas.List.Elements.{All-head, All-tail}
use Rattle.std.specs.Prelude.{◌&&◌, ◌==◌, if◌then◌else◌}
use Rattle.std.specs.Char.{digit_value, is_ascii_hexdigit}
use Rattle.std.specs.List.{All, flat_map, list_all, list_any}
use Rattle.std.specs.Str.Parse.{digits_value, digits_value_after}
use Rattle.httparse.specs.Grammar.{ResponseHead, IsResponseHead, print_response, status_code}
use Rattle.httparse.specs.Spans.{name_and_value}
use Rattle.wire.specs.Chunks.{Chunk, IsChunk, print_chunk, print_chunks}
use Rattle.wire.specs.Heads.{crlf, max_fields, max_head}
use Rattle.wire.specs.Lengths.{IsSize}
use Rattle.wireclient.specs.LineLaws.{HasNoFeed, IsLine, print_lines}
use Rattle.wireclient.specs.Reads.{Items, Checked, Reaches, framing_of, start}
use Rattle.wireclient.specs.Reply.{by_chunks, ReplyItem, head, line, end, State, size, size_lf, data_in, data_cr, last_cr, ended, max_line, Next, fails, goes_to, data_after, digit_onto, step}
use Rattle.wireclient.proofs.Leading.{reaches_append}
use Rattle.wireclient.proofs.Lengthened.{after_more, data_next, none_first, none_rest}
use Rattle.wireclient.proofs.Printed.{head_ends}
use Rattle.wireclient.proofs.ReadBack.{whole_head_read}

pub picked : (t : Bool) (n m : Next) → t ≡ true → cond t n m ≡ n
picked true n m is = refl
picked false n m is = absurd cc

pub first_of : (a b : Bool) → (a && b) ≡ true → a ≡ true
first_of true b is = refl
first_of false b is = absurd cc

pub rest_of : (a b : Bool) → (a && b) ≡ true → b ≡ true
rest_of true b is = is
rest_of false b is = absurd cc

-- ---- the data, cut at line feeds

abbrev pub next_text : List ℕ → ℕ → List ℕ
next_text text b = if b == 10 then [] else text ++ b ∷ []

abbrev pub emitted_at : List ℕ → ℕ → List ReplyItem
emitted_at text b = if b == 10 then line text ∷ [] else []

abbrev pub lines_in : List ℕ → List ℕ → List ReplyItem
lines_in text [] = []
lines_in text (b ∷ bytes) = emitted_at text b ++ lines_in (next_text text b) bytes

abbrev pub rest_in : List ℕ → List ℕ → List ℕ
rest_in text [] = text
rest_in text (b ∷ bytes) = rest_in (next_text text b) bytes

abbrev pub Fits : List ℕ → List ℕ → Type 0
Fits text [] = Unit {0}
Fits text (b ∷ bytes) = (length text < max_line) × Fits (next_text text b) bytes

pub lines_append : (text xs ys : List ℕ) → lines_in text (xs ++ ys) ≡ lines_in text xs ++ lines_in (rest_in text xs) ys
lines_append text [] ys = refl
lines_append text (x ∷ xs) ys =
    ap (λ (emitted : List ReplyItem). emitted_at text x ++ emitted) (lines_append (next_text text x) xs ys)
    ∙ sym (append_assoc (emitted_at text x) (lines_in (next_text text x) xs) (lines_in (rest_in (next_text text x) xs) ys))

pub rest_append : (text xs ys : List ℕ) → rest_in text (xs ++ ys) ≡ rest_in (rest_in text xs) ys
rest_append text [] ys = refl
rest_append text (x ∷ xs) ys = rest_append (next_text text x) xs ys

pub fits_first : (text xs ys : List ℕ) → Fits text (xs ++ ys) → Fits text xs
fits_first text [] ys fits = tt
fits_first text (x ∷ xs) ys fits = (fits.0, fits_first (next_text text x) xs ys fits.1)

pub fits_rest : (text xs ys : List ℕ) → Fits text (xs ++ ys) → Fits (rest_in text xs) ys
fits_rest text [] ys fits = fits
fits_rest text (x ∷ xs) ys fits = fits_rest (next_text text x) xs ys fits.1

fits_both : (text xs ys : List ℕ) → Fits text xs → Fits (rest_in text xs) ys → Fits text (xs ++ ys)
fits_both text [] ys one other = other
fits_both text (x ∷ xs) ys one other = (one.0, fits_both (next_text text x) xs ys one.1 other)

-- ---- a line

record IsCut (text bytes whole : List ℕ) : Type 0 where
  emitted : lines_in text bytes ≡ line whole ∷ []
  rest : rest_in text bytes ≡ []
  fits : Fits text bytes

cut_later : (t : Bool) (text bytes whole : List ℕ) (b : ℕ) → t ≡ false → IsCut (text ++ b ∷ []) bytes whole
    → (cond t (line text ∷ []) [] ++ lines_in (cond t [] (text ++ b ∷ [])) bytes ≡ line whole ∷ []) × (rest_in (cond t [] (text ++ b ∷ [])) bytes ≡ []) × Fits (cond t [] (text ++ b ∷ [])) bytes
cut_later true text bytes whole b is cut = absurd cc
cut_later false text bytes whole b is cut = (cut.emitted, cut.rest, cut.fits)

line_cut : (text bytes : List ℕ) → list_any (λ b. b == 10) bytes ≡ false → length text + length bytes < max_line → IsCut text (bytes ++ 10 ∷ []) (text ++ bytes)
line_cut text [] one fits = record {
  emitted = ap (λ (xs : List ℕ). line xs ∷ []) (sym (append-nil text));
  rest = refl;
  fits = (omega (arith, fits), tt);
}
line_cut text (b ∷ bytes) one fits =
    let long : length (text ++ b ∷ []) ≡ length text + 1 = length-append text (b ∷ []) in
    let later = line_cut (text ++ b ∷ []) bytes (none_rest (b == 10) (list_any (λ c. c == 10) bytes) one) (omega (arith, long, fits)) in
    let cut = cut_later (b == 10) text (bytes ++ 10 ∷ []) ((text ++ b ∷ []) ++ bytes) b (none_first (b == 10) (list_any (λ c. c == 10) bytes) one) later in
    record {
      emitted = cut.0 ∙ ap (λ (xs : List ℕ). line xs ∷ []) (append_assoc text (b ∷ []) bytes);
      rest = cut.1;
      fits = (omega (arith, fits), cut.2);
    }

record AreCut (bytes : List ℕ) (lines : List (List ℕ)) : Type 0 where
  emitted : lines_in [] bytes ≡ map line lines
  rest : rest_in [] bytes ≡ []
  fits : Fits [] bytes

lines_cut : (lines : List (List ℕ)) → All IsLine lines → AreCut (print_lines lines) lines
lines_cut [] all = record { emitted = refl; rest = refl; fits = tt }
lines_cut (text ∷ lines) all =
    let is = All-head IsLine text lines all in
    let one = line_cut [] text is.one (omega (arith, is.fits)) in
    let more = lines_cut lines (All-tail IsLine text lines all) in
    record {
      emitted = lines_append [] (text ++ 10 ∷ []) (print_lines lines)
          ∙ ap₂ (λ (emitted : List ReplyItem) (rest : List ℕ). emitted ++ lines_in rest (print_lines lines)) one.emitted one.rest
          ∙ ap (λ (emitted : List ReplyItem). line text ∷ emitted) more.emitted;
      rest = rest_append [] (text ++ 10 ∷ []) (print_lines lines) ∙ ap (λ (rest : List ℕ). rest_in rest (print_lines lines)) one.rest ∙ more.rest;
      fits = fits_both [] (text ++ 10 ∷ []) (print_lines lines) one.fits (subst (λ (rest : List ℕ). Fits rest (print_lines lines)) (sym one.rest) more.fits);
    }

-- ---- a chunk's size

grows : (n : ℕ) (digits : List ℕ) → n ≤ digits_value_after 16 n digits
grows n [] = omega arith
grows n (b ∷ digits) = let more = grows (n * 16 + digit_value b) digits in omega (arith, more)

onto : (value digit : ℕ) → value * 16 + digit ≤ 18446744073709551615 → digit_onto value digit ≡ value * 16 + digit
onto value digit fits = omega (arith, fits)

digit_next : (s t : Bool) (n m : Next) → s ≡ true → t ≡ true → cond (s && t) n m ≡ n
digit_next true true n m s-is t-is = refl
digit_next true false n m s-is t-is = absurd cc
digit_next false t n m s-is t-is = absurd cc

size_read : (count value : ℕ) (text digits : List ℕ) → list_all is_ascii_hexdigit digits ≡ true → count + length digits ≤ 16 → digits_value_after 16 value digits ≤ 18446744073709551615
    → Reaches (size count value text) digits (size (count + length digits) (digits_value_after 16 value digits) text) []
size_read count value text [] all few fits = (ap (λ (n : ℕ). size n value text) (omega arith), refl)
size_read count value text (b ∷ digits) all few fits =
    let now : ℕ = value * 16 + digit_value b in
    let more = grows (value * 16 + digit_value b) digits in
    let next : step None (size count value text) b ≡ goes_to (size (count + 1) (value * 16 + digit_value b) text) =
    digit_next (is_ascii_hexdigit b) (ltb count 16) (goes_to (size (count + 1) (digit_onto value (digit_value b)) text)) _ (first_of (is_ascii_hexdigit b) (list_all is_ascii_hexdigit digits) all) (lt-ltb count 16 (omega (arith, few)))
    ∙ ap (λ (v : ℕ). goes_to (size (count + 1) v text)) (onto value (digit_value b) (omega (arith, more, fits))) in
    let rest = size_read (count + 1) (value * 16 + digit_value b) text digits (rest_of (is_ascii_hexdigit b) (list_all is_ascii_hexdigit digits) all) (omega (arith, few)) fits in
    let counted : count + 1 + length digits ≡ count + length (b ∷ digits) = omega arith in
    let same = subst (λ (n : ℕ). Reaches (size (count + 1) (value * 16 + digit_value b) text) digits (size n (digits_value_after 16 value (b ∷ digits)) text) []) counted rest in (
      None,
      [],
      tt,
      subst (λ (n : Next). Reaches n.0 digits (size (count + length (b ∷ digits)) (digits_value_after 16 value (b ∷ digits)) text) []) (sym next) same,
      sym (ap (λ (n : Next). n.1 ++ []) next),
    )

size_done : (count value : ℕ) (text : List ℕ) → 0 < count → step None (size count value text) 13 ≡ goes_to (size_lf value text)
size_done count value text some = picked (ltb 0 count) (goes_to (size_lf value text)) fails (lt-ltb 0 count some)

size_ends : (count value : ℕ) (text : List ℕ) → 0 < count → 0 < value → Reaches (size count value text) crlf (data_in value text) []
size_ends count value text some more =
    let first = size_done count value text some in
    let second : step None (size_lf value text) 10 ≡ goes_to (data_in value text) = go (value == 0) (ne_eqb value 0 (λ e. absurd (omega (arith, e, more)))) in
    let last : Reaches (size_lf value text) (10 ∷ []) (data_in value text) [] = (None, [], tt, (sym (ap (λ (n : Next). n.0) second), refl), sym (ap (λ (n : Next). n.1 ++ []) second)) in (
      None,
      [],
      tt,
      subst (λ (n : Next). Reaches n.0 (10 ∷ []) (data_in value text) []) (sym first) last,
      sym (ap (λ (n : Next). n.1 ++ []) first),
    )
  where
    go : (t : Bool) → t ≡ false → ◌≡◌ {A = Next} (goes_to (cond t (last_cr text) (data_in value text))) (goes_to (data_in value text))
    go true is = absurd cc
    go false is = refl

last_ends : (count : ℕ) → 0 < count → Reaches (size count 0 []) (crlf ++ crlf) ended (end ∷ [])
last_ends count some =
    let first = size_done count 0 [] some in
    let after : Reaches (size_lf 0 []) (10 ∷ crlf) ended (end ∷ []) = (None, end ∷ [], tt, (None, end ∷ [], tt, (None, [], tt, (refl, refl), refl), refl), refl) in (
      None,
      end ∷ [],
      tt,
      subst (λ (n : Next). Reaches n.0 (10 ∷ crlf) ended (end ∷ [])) (sym first) after,
      sym (ap (λ (n : Next). n.1 ++ end ∷ []) first),
    )

-- ---- a chunk's data

abbrev pub with_emitted : List ReplyItem → State → Next
with_emitted emitted s = (s, emitted)

data_read : (left : ℕ) (text : List ℕ) (b : ℕ) (bytes : List ℕ) → left ≡ length bytes + 1 → Fits text (b ∷ bytes) → Reaches (data_in left text) (b ∷ bytes) (data_cr (rest_in text (b ∷ bytes))) (lines_in text (b ∷ bytes))
data_read left text b [] is fits =
    let gone : left - 1 ≡ 0 = omega (arith, is) in
    let next : step None (data_in left text) b ≡ (data_cr (next_text text b), emitted_at text b) =
    data_next (leb max_line (length text)) (b == 10) (left - 1) text b (lt-leb _ _ fits.0) ∙ ap (λ (n : ℕ). with_emitted (emitted_at text b) (data_after n (next_text text b))) gone in (
      None,
      [],
      tt,
      (sym (ap (λ (n : Next). n.0) next), refl),
      sym (ap (λ (n : Next). n.1 ++ []) next),
    )
data_read left text b (c ∷ bytes) is fits =
    let next : step None (data_in left text) b ≡ (data_in (left - 1) (next_text text b), emitted_at text b) =
    data_next (leb max_line (length text)) (b == 10) (left - 1) text b (lt-leb _ _ fits.0) ∙ ap (with_emitted (emitted_at text b)) (after_more (left - 1) (next_text text b) (omega (arith, is))) in
    let rest = data_read (left - 1) (next_text text b) c bytes (omega (arith, is)) fits.1 in (
      None,
      lines_in (next_text text b) (c ∷ bytes),
      tt,
      subst (λ (n : Next). Reaches n.0 (c ∷ bytes) (data_cr (rest_in (next_text text b) (c ∷ bytes))) (lines_in (next_text text b) (c ∷ bytes))) (sym next) rest,
      sym (ap (λ (n : Next). n.1 ++ lines_in (next_text text b) (c ∷ bytes)) next),
    )

some_data : (text bytes : List ℕ) → 0 < length bytes → Fits text bytes → Reaches (data_in (length bytes) text) bytes (data_cr (rest_in text bytes)) (lines_in text bytes)
some_data text [] some fits = absurd (omega (arith, some))
some_data text (b ∷ bytes) some fits = data_read (length (b ∷ bytes)) text b bytes (omega arith) fits

-- ---- chunk after chunk

-- a chunk's size leads into its data
pub chunk_begins : (chunk : Chunk) (text rest : List ℕ) (t : State) (items : List ReplyItem) → IsChunk chunk → Reaches (data_in (length chunk.content) text) rest t items
    → Reaches (size 0 0 text) (chunk.size ++ (crlf ++ rest)) t items
chunk_begins chunk text rest t items is inside =
    let long : digits_value 16 chunk.size ≤ 18446744073709551615 = omega (arith, is.size.value, is.fits) in
    let digits = size_read 0 0 text chunk.size is.size.are_digits (omega (arith, is.size.few)) long in
    let sized = subst (λ (n : ℕ). Reaches (size 0 0 text) chunk.size (size (0 + length chunk.size) n text) []) is.size.value digits in
    let ends = size_ends (0 + length chunk.size) (length chunk.content) text (omega (arith, is.size.some)) is.some in
    reaches_append (size 0 0 text) (size (0 + length chunk.size) (length chunk.content) text) t chunk.size (crlf ++ rest) [] items sized
    (reaches_append (size (0 + length chunk.size) (length chunk.content) text) (data_in (length chunk.content) text) t crlf rest [] items ends inside)

pub chunk_read : (chunk : Chunk) (text : List ℕ) → IsChunk chunk → Fits text chunk.content → Reaches (size 0 0 text) (print_chunk chunk) (size 0 0 (rest_in text chunk.content)) (lines_in text chunk.content)
chunk_read chunk text is fits =
    let after : Reaches (data_cr (rest_in text chunk.content)) crlf (size 0 0 (rest_in text chunk.content)) [] = (None, [], tt, (None, [], tt, (refl, refl), refl), refl) in
    let read = reaches_append (data_in (length chunk.content) text) (data_cr (rest_in text chunk.content)) (size 0 0 (rest_in text chunk.content)) chunk.content crlf (lines_in text chunk.content) [] (some_data text chunk.content is.some fits) after in
    let plain = subst (λ (emitted : List ReplyItem). Reaches (data_in (length chunk.content) text) (chunk.content ++ crlf) (size 0 0 (rest_in text chunk.content)) emitted) (append-nil (lines_in text chunk.content)) read in
    chunk_begins chunk text (chunk.content ++ crlf) (size 0 0 (rest_in text chunk.content)) (lines_in text chunk.content) is plain

abbrev pub data_of : List Chunk → List ℕ
data_of chunks = flat_map (λ c. c.content) chunks

chunks_read : (chunks : List Chunk) (text : List ℕ) → All IsChunk chunks → Fits text (data_of chunks) → Reaches (size 0 0 text) (flat_map print_chunk chunks) (size 0 0 (rest_in text (data_of chunks))) (lines_in text (data_of chunks))
chunks_read [] text all fits = (refl, refl)
chunks_read (chunk ∷ chunks) text all fits =
    let one = chunk_read chunk text (All-head IsChunk chunk chunks all) (fits_first text chunk.content (data_of chunks) fits) in
    let more = chunks_read chunks (rest_in text chunk.content) (All-tail IsChunk chunk chunks all) (fits_rest text chunk.content (data_of chunks) fits) in
    let both = reaches_append (size 0 0 text) (size 0 0 (rest_in text chunk.content)) (size 0 0 (rest_in (rest_in text chunk.content) (data_of chunks))) (print_chunk chunk) (flat_map print_chunk chunks)
    (lines_in text chunk.content) (lines_in (rest_in text chunk.content) (data_of chunks)) one more in
    let emitted = subst (λ (emitted : List ReplyItem). Reaches (size 0 0 text) (print_chunk chunk ++ flat_map print_chunk chunks) (size 0 0 (rest_in (rest_in text chunk.content) (data_of chunks))) emitted)
    (sym (lines_append text chunk.content (data_of chunks))) both in
    subst (λ (rest : List ℕ). Reaches (size 0 0 text) (print_chunk chunk ++ flat_map print_chunk chunks) (size 0 0 rest) (lines_in text (chunk.content ++ data_of chunks))) (sym (rest_append text chunk.content (data_of chunks))) emitted

-- chunks of whole lines
pub lines_lead : (chunks : List Chunk) (lines : List (List ℕ)) → All IsChunk chunks → All IsLine lines → data_of chunks ≡ print_lines lines
    → Reaches (size 0 0 []) (flat_map print_chunk chunks) (size 0 0 []) (map line lines)
lines_lead chunks lines chunked lined joined =
    let cut = subst (λ (bytes : List ℕ). AreCut bytes lines) (sym joined) (lines_cut lines lined) in
    let read = chunks_read chunks [] chunked cut.fits in
    let emitted = subst (λ (emitted : List ReplyItem). Reaches (size 0 0 []) (flat_map print_chunk chunks) (size 0 0 (rest_in [] (data_of chunks))) emitted) cut.emitted read in
    subst (λ (rest : List ℕ). Reaches (size 0 0 []) (flat_map print_chunk chunks) (size 0 0 rest) (map line lines)) cut.rest emitted

last_read : (last : List ℕ) → IsSize last 0 → Reaches (size 0 0 []) (last ++ (crlf ++ crlf)) ended (end ∷ [])
last_read last is =
    let digits = size_read 0 0 [] last is.are_digits (omega (arith, is.few)) (omega (arith, is.value)) in
    let sized = subst (λ (n : ℕ). Reaches (size 0 0 []) last (size (0 + length last) n []) []) is.value digits in
    reaches_append (size 0 0 []) (size (0 + length last) 0 []) ended last (crlf ++ crlf) [] (end ∷ []) sized (last_ends (0 + length last) (omega (arith, is.some)))

-- lines and the beginning of another
pub record AreBegun (bytes : List ℕ) (lines : List (List ℕ)) (begun : List ℕ) : Type 0 where
  pub emitted : lines_in [] bytes ≡ map line lines
  pub rest : rest_in [] bytes ≡ begun
  pub fits : Fits [] bytes

record IsBegun (text bytes : List ℕ) : Type 0 where
  emitted : lines_in text bytes ≡ []
  rest : rest_in text bytes ≡ text ++ bytes
  fits : Fits text bytes

begun_later : (t : Bool) (text bytes : List ℕ) (b : ℕ) → t ≡ false → IsBegun (text ++ b ∷ []) bytes
    → (cond t (line text ∷ []) [] ++ lines_in (cond t [] (text ++ b ∷ [])) bytes ≡ []) × (rest_in (cond t [] (text ++ b ∷ [])) bytes ≡ (text ++ b ∷ []) ++ bytes) × Fits (cond t [] (text ++ b ∷ [])) bytes
begun_later true text bytes b is later = absurd cc
begun_later false text bytes b is later = (later.emitted, later.rest, later.fits)

line_begun : (text bytes : List ℕ) → HasNoFeed bytes → length text + length bytes ≤ max_line → IsBegun text bytes
line_begun text [] one fits = record { emitted = refl; rest = sym (append-nil text); fits = tt }
line_begun text (b ∷ bytes) one fits =
    let long : length (text ++ b ∷ []) ≡ length text + 1 = length-append text (b ∷ []) in
    let later = line_begun (text ++ b ∷ []) bytes (none_rest (b == 10) (list_any (λ c. c == 10) bytes) one) (omega (arith, long, fits)) in
    let begun = begun_later (b == 10) text bytes b (none_first (b == 10) (list_any (λ c. c == 10) bytes) one) later in
    record { emitted = begun.0; rest = begun.1 ∙ append_assoc text (b ∷ []) bytes; fits = (omega (arith, fits), begun.2) }

pub lines_begun : (lines : List (List ℕ)) (begun : List ℕ) → All IsLine lines → HasNoFeed begun → length begun ≤ max_line → AreBegun (print_lines lines ++ begun) lines begun
lines_begun lines begun all one low =
    let before = lines_cut lines all in
    let after = line_begun [] begun one (omega (arith, low)) in
    record {
      emitted = lines_append [] (print_lines lines) begun
          ∙ ap₂ (λ (emitted : List ReplyItem) (text : List ℕ). emitted ++ lines_in text begun) before.emitted before.rest
          ∙ ap (λ (emitted : List ReplyItem). map line lines ++ emitted) after.emitted
          ∙ append-nil (map line lines);
      rest = rest_append [] (print_lines lines) begun ∙ ap (λ (text : List ℕ). rest_in text begun) before.rest ∙ after.rest;
      fits = fits_both [] (print_lines lines) begun before.fits (subst (λ (text : List ℕ). Fits text begun) (sym before.rest) after.fits);
    }

-- the head of a reply in chunks
pub head_then_chunks : (h : ResponseHead) → IsResponseHead h → length (print_response h) ≤ max_head → length h.fields ≤ max_fields → framing_of (map name_and_value h.fields) ≡ Some by_chunks
    → Reaches start (print_response h) (size 0 0 []) (head (status_code h) ∷ [])
head_then_chunks h is fits few framed =
    let checked : Checked (print_response h) (Some (status_code h, by_chunks)) = (h, (is, sym (append-nil (print_response h))), few, refl, framed) in
    whole_head_read (print_response h) (Some (status_code h, by_chunks)) fits (head_ends h is) checked

pub watch_read : (h : ResponseHead) (chunks : List Chunk) (lines : List (List ℕ)) (rest : List ℕ) → IsResponseHead h → length (print_response h) ≤ max_head → length h.fields ≤ max_fields
    → framing_of (map name_and_value h.fields) ≡ Some by_chunks → All IsChunk chunks → All IsLine lines → HasNoFeed rest → length rest ≤ max_line → data_of chunks ≡ print_lines lines ++ rest
    → Items (print_response h ++ flat_map print_chunk chunks) (head (status_code h) ∷ map line lines)
watch_read h chunks lines rest is fits few framed chunked lined one low joined =
    let cut = subst (λ (bytes : List ℕ). AreBegun bytes lines rest) (sym joined) (lines_begun lines rest lined one low) in
    let read = chunks_read chunks [] chunked cut.fits in
    let emitted = subst (λ (emitted : List ReplyItem). Reaches (size 0 0 []) (flat_map print_chunk chunks) (size 0 0 (rest_in [] (data_of chunks))) emitted) cut.emitted read in (
      size 0 0 (rest_in [] (data_of chunks)),
      reaches_append start (size 0 0 []) (size 0 0 (rest_in [] (data_of chunks))) (print_response h) (flat_map print_chunk chunks) (head (status_code h) ∷ []) (map line lines) (head_then_chunks h is fits few framed) emitted,
    )

pub chunked_read : (h : ResponseHead) (chunks : List Chunk) (last : List ℕ) (lines : List (List ℕ)) → IsResponseHead h → length (print_response h) ≤ max_head → length h.fields ≤ max_fields
    → framing_of (map name_and_value h.fields) ≡ Some by_chunks → All IsChunk chunks → IsSize last 0 → All IsLine lines → data_of chunks ≡ print_lines lines
    → Items (print_response h ++ print_chunks chunks last) (head (status_code h) ∷ (map line lines ++ end ∷ []))
chunked_read h chunks last lines is fits few framed chunked ends lined joined =
    let first = head_then_chunks h is fits few framed in
    let body = reaches_append (size 0 0 []) (size 0 0 []) ended (flat_map print_chunk chunks) (last ++ (crlf ++ crlf)) (map line lines) (end ∷ []) (lines_lead chunks lines chunked lined joined) (last_read last ends) in
    (ended, reaches_append start (size 0 0 []) ended (print_response h) (print_chunks chunks last) (head (status_code h) ∷ []) (map line lines ++ end ∷ []) first body)
