-- The chunks of lines.
use Rattle.std.proofs.Common.{arith, ◌≡◌, ℕ, ◌+◌, ◌<◌, Bool, true, false, List, [], ◌∷◌, ◌++◌, length, map, refl, sym, ap, ◌∙◌, append_assoc, append-nil}
use Rattle.std.specs.Prelude.{codes}
use Rattle.std.specs.List.{All, flat_map}
use Rattle.std.proofs.lemmas.List.{length-append}
use Rattle.std.proofs.lemmas.List.Elements.{All-cons, All-head, All-nil, All-tail}
use Rattle.wire.specs.Chunks.{Chunk, IsChunk, chunk_of, print_chunk, print_chunks}
use Rattle.wire.specs.Lengths.{IsSize}
use Rattle.wire.proofs.Sizes.{size_read}
use Rattle.requests.specs.ReplyBytes.{chunk, chunks, end_bytes, last_chunk}
use Rattle.wireclient.specs.LineLaws.{IsLine, print_lines, with_feed}
use Rattle.wire_laws.specs.Watched.{joined}

pub last_size : IsSize (codes "0") 0
last_size = record { are_digits = refl; some = omega arith; few = omega arith; value = refl }

abbrev pub chunks_of : List (List ℕ) → List Chunk
chunks_of texts = map (λ text. chunk_of (with_feed text)) texts

pub fed_long : (text : List ℕ) → length (with_feed text) ≡ length text + 1
fed_long text = length-append text (10 ∷ [])

pub is_chunk : (text : List ℕ) → length (with_feed text) < 18446744073709551616 → IsChunk (chunk_of (with_feed text))
is_chunk text low = let long = fed_long text in record { size = size_read (length (with_feed text)) low; some = omega (arith, long); fits = low }

pub are_chunks : (texts : List (List ℕ)) → All IsLine texts → All IsChunk (chunks_of texts)
are_chunks [] are = All-nil IsChunk
are_chunks (text ∷ texts) are =
    let is = All-head IsLine text texts are in
    let short = is.fits in
    let long = fed_long text in
    All-cons IsChunk (chunk_of (with_feed text)) (chunks_of texts) (is_chunk text (omega (arith, long, short))) (are_chunks texts (All-tail IsLine text texts are))

-- what stands in the chunks are the lines
pub contents : (texts : List (List ℕ)) → flat_map (λ c. c.content) (chunks_of texts) ≡ print_lines texts
contents [] = refl
contents (text ∷ texts) = ap (λ (rest : List ℕ). with_feed text ++ rest) (contents texts)

pub same_chunks : (texts : List (List ℕ)) → flat_map chunk (map with_feed texts) ≡ flat_map print_chunk (chunks_of texts)
same_chunks [] = refl
same_chunks (text ∷ texts) = ap (λ (rest : List ℕ). chunk (with_feed text) ++ rest) (same_chunks texts)

pub ended_chunks : (texts : List (List ℕ)) → chunks (map with_feed texts) true ≡ print_chunks (chunks_of texts) (codes "0")
ended_chunks texts = ap (λ (bytes : List ℕ). bytes ++ last_chunk) (same_chunks texts)

pub open_chunks : (texts : List (List ℕ)) → chunks (map with_feed texts) false ≡ flat_map print_chunk (chunks_of texts)
open_chunks texts = append-nil (flat_map chunk (map with_feed texts)) ∙ same_chunks texts

-- ---- turns, one after the other

map_both : (xs ys : List (List ℕ)) → map with_feed (xs ++ ys) ≡ map with_feed xs ++ map with_feed ys
map_both [] ys = refl
map_both (x ∷ xs) ys = ap (λ (rest : List (List ℕ)). with_feed x ∷ rest) (map_both xs ys)

flat_both : (xs ys : List (List ℕ)) → flat_map chunk (xs ++ ys) ≡ flat_map chunk xs ++ flat_map chunk ys
flat_both [] ys = refl
flat_both (x ∷ xs) ys = ap (λ (rest : List ℕ). chunk x ++ rest) (flat_both xs ys) ∙ sym (append_assoc (chunk x) (flat_map chunk xs) (flat_map chunk ys))

pub turn_then : (texts more : List (List ℕ)) (has_ended : Bool) → chunks (map with_feed texts) false ++ chunks (map with_feed more) has_ended ≡ chunks (map with_feed (texts ++ more)) has_ended
turn_then texts more has_ended =
    let first = flat_map chunk (map with_feed texts) in
    let second = flat_map chunk (map with_feed more) in
    ap (λ (bytes : List ℕ). bytes ++ (second ++ end_bytes has_ended)) (append-nil first) ∙ sym (append_assoc first second (end_bytes has_ended))
    ∙ ap (λ (bytes : List ℕ). bytes ++ end_bytes has_ended) (sym (flat_both (map with_feed texts) (map with_feed more)) ∙ ap (flat_map chunk) (sym (map_both texts more)))

pub turns_joined : (turns : List (List (List ℕ))) (last : List (List ℕ)) (has_ended : Bool)
    → flat_map (λ texts. chunks (map with_feed texts) false) turns ++ chunks (map with_feed last) has_ended ≡ chunks (map with_feed (joined turns ++ last)) has_ended
turns_joined [] last has_ended = refl
turns_joined (texts ∷ turns) last has_ended =
    append_assoc (chunks (map with_feed texts) false) (flat_map (λ ts. chunks (map with_feed ts) false) turns) (chunks (map with_feed last) has_ended)
    ∙ ap (λ (bytes : List ℕ). chunks (map with_feed texts) false ++ bytes) (turns_joined turns last has_ended)
    ∙ turn_then texts (joined turns ++ last) has_ended
    ∙ ap (λ (all : List (List ℕ)). chunks (map with_feed all) has_ended) (sym (append_assoc texts (joined turns) last))
