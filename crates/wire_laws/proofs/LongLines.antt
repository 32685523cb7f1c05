-- Lines up to the first that is too long for a client: their chunks, and what is told of them.
use Rattle.std.proofs.Common.{arith, ◌≡◌, ℕ, ◌≤◌, ◌<◌, Bool, true, false, List, [], ◌∷◌, ◌++◌, length, map, take, drop, refl, sym, ap, subst, ◌∙◌, ◌⊎◌, inl, inr, append_assoc, append-nil, take-append-drop}
use Rattle.std.specs.Prelude.{◌||◌, ◌==◌, if◌then◌else◌, nat_lt}
use Rattle.std.specs.List.{All, flat_map, list_any}
use Rattle.std.proofs.lemmas.Bool.{le-ltb, lt-ltb, ltb-false, ltb-true}
use Rattle.std.proofs.lemmas.List.{take-append-le}
use Rattle.std.proofs.lemmas.List.Folds.{list_any-append}
use Rattle.std.proofs.lemmas.List.Elements.{All-cons, All-head, All-nil, All-tail}
use Rattle.wire.specs.Chunks.{IsChunk, chunk_of, print_chunk}
use Rattle.wire.specs.Heads.{crlf}
use Rattle.wire.specs.Lengths.{hexadecimal}
use Rattle.requests.specs.ReplyBytes.{chunk, chunks, end_bytes}
use Rattle.wireclient.specs.LineLaws.{BeginsTooLong, HasNoFeed, IsLine, print_lines, with_feed}
use Rattle.wireclient.specs.Reply.{ReplyItem, line, malformed, max_line}
use Rattle.wire_laws.specs.Watched.{lines_sent}
use Rattle.wire_laws.proofs.Chunking.{are_chunks, chunks_of, contents, fed_long, is_chunk, open_chunks, turn_then}

-- ---- the first that is too long

pub record HasLong (texts : List (List ℕ)) : Type 0 where
  pub before : List (List ℕ)
  pub long : List ℕ
  pub after : List (List ℕ)
  pub lines : All IsLine before
  pub plain : HasNoFeed long
  pub over : max_line ≤ length long
  pub are : texts ≡ before ++ long ∷ after

pub lines_or_long : (texts : List (List ℕ)) → All HasNoFeed texts → All IsLine texts ⊎ HasLong texts
lines_or_long [] all = inl (All-nil IsLine)
lines_or_long (text ∷ texts) all = by_length (nat_lt (length text) max_line) refl (lines_or_long texts (All-tail HasNoFeed text texts all))
  where
    by_length : (t : Bool) → nat_lt (length text) max_line ≡ t → All IsLine texts ⊎ HasLong texts → All IsLine (text ∷ texts) ⊎ HasLong (text ∷ texts)
    by_length false many others =
        let over = ltb-false (length text) max_line many in
        inr (record { before = []; long = text; after = texts; lines = All-nil IsLine; plain = All-head HasNoFeed text texts all; over = over; are = refl })
    by_length true few (inl lines) = inl (All-cons IsLine text texts (record { one = All-head HasNoFeed text texts all; fits = ltb-true (length text) max_line few }) lines)
    by_length true few (inr has) =
        inr (record {
          before = text ∷ has.before;
          long = has.long;
          after = has.after;
          lines = All-cons IsLine text has.before (record { one = All-head HasNoFeed text texts all; fits = ltb-true (length text) max_line few }) has.lines;
          plain = has.plain;
          over = has.over;
          are = ap (λ (more : List (List ℕ)). text ∷ more) has.are;
        })

-- ---- what is told

first_sent : (t : Bool) (xs ys : List ReplyItem) → t ≡ true → (if t then xs else ys) ≡ xs
first_sent true xs ys is = refl
first_sent false xs ys is = absurd cc

second_sent : (t : Bool) (xs ys : List ReplyItem) → t ≡ false → (if t then xs else ys) ≡ ys
second_sent true xs ys is = absurd cc
second_sent false xs ys is = refl

line_sent : (text : List ℕ) (texts : List (List ℕ)) (last : List ReplyItem) → IsLine text → lines_sent (text ∷ texts) last ≡ line text ∷ lines_sent texts last
line_sent text texts last is = first_sent (nat_lt (length text) max_line) (line text ∷ lines_sent texts last) (malformed ∷ []) (lt-ltb (length text) max_line is.fits)

pub short_sent : (texts : List (List ℕ)) (last : List ReplyItem) → All IsLine texts → lines_sent texts last ≡ map line texts ++ last
short_sent [] last all = refl
short_sent (text ∷ texts) last all =
    line_sent text texts last (All-head IsLine text texts all) ∙ ap (λ (sent : List ReplyItem). line text ∷ sent) (short_sent texts last (All-tail IsLine text texts all))

pub long_sent : (before : List (List ℕ)) (long : List ℕ) (after : List (List ℕ)) (last : List ReplyItem) → All IsLine before → max_line ≤ length long
    → lines_sent (before ++ long ∷ after) last ≡ map line before ++ malformed ∷ []
long_sent [] long after last all over = second_sent (nat_lt (length long) max_line) (line long ∷ lines_sent after last) (malformed ∷ []) (le-ltb (length long) max_line over)
long_sent (text ∷ before) long after last all over =
    line_sent text (before ++ long ∷ after) last (All-head IsLine text before all)
    ∙ ap (λ (sent : List ReplyItem). line text ∷ sent) (long_sent before long after last (All-tail IsLine text before all) over)

-- ---- its chunk among the others

pub with_chunks : (before : List (List ℕ)) (long : List ℕ) (after : List (List ℕ)) (has_ended : Bool)
    → chunks (map with_feed (before ++ long ∷ after)) has_ended ≡ flat_map print_chunk (chunks_of (before ++ long ∷ [])) ++ chunks (map with_feed after) has_ended
with_chunks before long after has_ended =
    ap (λ (texts : List (List ℕ)). chunks (map with_feed texts) has_ended) (sym (append_assoc before (long ∷ []) after))
    ∙ sym (turn_then (before ++ long ∷ []) after has_ended)
    ∙ ap (λ (bytes : List ℕ). bytes ++ chunks (map with_feed after) has_ended) (open_chunks (before ++ long ∷ []))

-- what stands behind the size of its chunk
abbrev pub behind_size : List ℕ → List (List ℕ) → Bool → List ℕ
behind_size long after has_ended = ((crlf ++ (with_feed long ++ crlf)) ++ flat_map chunk (map with_feed after)) ++ end_bytes has_ended

pub with_size : (before : List (List ℕ)) (long : List ℕ) (after : List (List ℕ)) (has_ended : Bool)
    → chunks (map with_feed (before ++ long ∷ after)) has_ended ≡ flat_map print_chunk (chunks_of before) ++ (hexadecimal (length (with_feed long)) ++ behind_size long after has_ended)
with_size before long after has_ended =
    sym (turn_then before (long ∷ after) has_ended)
    ∙ ap (λ (bytes : List ℕ). bytes ++ chunks (map with_feed (long ∷ after)) has_ended) (open_chunks before)
    ∙ ap (λ (bytes : List ℕ). flat_map print_chunk (chunks_of before) ++ bytes)
    (ap (λ (bytes : List ℕ). bytes ++ end_bytes has_ended) (append_assoc (hexadecimal (length (with_feed long))) (crlf ++ (with_feed long ++ crlf)) (flat_map chunk (map with_feed after)))
    ∙ append_assoc (hexadecimal (length (with_feed long))) ((crlf ++ (with_feed long ++ crlf)) ++ flat_map chunk (map with_feed after)) (end_bytes has_ended))

-- ---- its chunk, where the size has few digits

lines_both : (before : List (List ℕ)) (long : List ℕ) → print_lines (before ++ long ∷ []) ≡ print_lines before ++ with_feed long
lines_both [] long = append-nil (with_feed long)
lines_both (text ∷ before) long =
    ap (λ (bytes : List ℕ). with_feed text ++ bytes) (lines_both before long) ∙ sym (append_assoc (with_feed text) (print_lines before) (with_feed long))

pub long_contents : (before : List (List ℕ)) (long : List ℕ) → flat_map (λ c. c.content) (chunks_of (before ++ long ∷ [])) ≡ print_lines before ++ with_feed long
long_contents before long = contents (before ++ long ∷ []) ∙ lines_both before long

pub long_chunks : (before : List (List ℕ)) (long : List ℕ) → All IsLine before → length (with_feed long) < 18446744073709551616 → All IsChunk (chunks_of (before ++ long ∷ []))
long_chunks [] long all low = All-cons IsChunk (chunk_of (with_feed long)) [] (is_chunk long low) (All-nil IsChunk)
long_chunks (text ∷ before) long all low =
    let first = are_chunks (text ∷ []) (All-cons IsLine text [] (All-head IsLine text before all) (All-nil IsLine)) in
    All-cons IsChunk (chunk_of (with_feed text)) (chunks_of (before ++ long ∷ [])) (All-head IsChunk (chunk_of (with_feed text)) [] first) (long_chunks before long (All-tail IsLine text before all) low)

first_false : (a b : Bool) → (a || b) ≡ false → a ≡ false
first_false true b is = absurd cc
first_false false b is = refl

none_taken : (n : ℕ) (bytes : List ℕ) → HasNoFeed bytes → HasNoFeed (take n bytes)
none_taken n bytes none =
    list_any_none_first (take n bytes) (drop n bytes) (ap (list_any (λ b. b == 10)) (take-append-drop n bytes) ∙ none)
  where
    list_any_none_first : (xs ys : List ℕ) → HasNoFeed (xs ++ ys) → HasNoFeed xs
    list_any_none_first xs ys both = first_false (list_any (λ b. b == 10) xs) (list_any (λ b. b == 10) ys) (sym (list_any-append (λ b. b == 10) xs ys) ∙ both)

pub begins_long : (long : List ℕ) → HasNoFeed long → max_line ≤ length long → BeginsTooLong (with_feed long)
begins_long long plain over =
    let more = fed_long long in
    record { one = subst HasNoFeed (sym (take-append-le max_line long (10 ∷ []) over)) (none_taken max_line long plain); long = omega (arith, more, over) }
