-- A query's pairs come back.
use Rattle.std.proofs.Common.{arith, ◌≡◌, ℕ, ◌+◌, Bool, true, false, cond, not, List, [], ◌∷◌, ◌++◌, length, map, take, drop, refl, sym, ap, ap₂, ◌∙◌}
use Rattle.std.proofs.Math.Seq.{drop-append-add, take-append_seam}
use Rattle.std.proofs.lemmas.List.Elements.{All-cons, All-head, All-nil, All-tail}
use Rattle.std.proofs.lemmas.Str.{utf8_lossy-IsUtf8}
use Rattle.std.specs.Prelude.{◌||◌, ◌==◌}
use Rattle.std.specs.List.{All, list_any, position_or_len}
use Rattle.std.specs.Str.Lossy.{utf8_lossy}
use Rattle.form_urlencoded.specs.Form.{decode, extend_pairs, raw_pairs}
use Rattle.form_urlencoded.proofs.FormLemmas.{IsBytePair, round_trip}
use Rattle.params.specs.Query.{pair_in, pairs_in, text_of}
use Rattle.requests.specs.Bodies.{path_of, query_of}
use Rattle.requests.proofs.RequestTargets.{nothing_after, whole_before}
use Rattle.lists.specs.TokenLaws.{IsTextPair}
use Rattle.wire_laws.specs.Printed.{is_question}

abbrev asked : ℕ → Bool
asked b = b == 63

place_of_mark : (path query : List ℕ) → list_any is_question path ≡ false → position_or_len asked (path ++ 63 ∷ query) ≡ length path
place_of_mark [] query none = refl
place_of_mark (b ∷ path) query none = go (λ rest. place_of_mark path query rest) (b == 63) refl none
  where
    go : (list_any is_question path ≡ false → position_or_len asked (path ++ 63 ∷ query) ≡ length path) → (t : Bool) → (b == 63) ≡ t → (t || list_any is_question path) ≡ false
        → cond (not t) (1 + position_or_len asked (path ++ 63 ∷ query)) 0 ≡ length (b ∷ path)
    go later true is rest = absurd cc
    go later false is rest = let same = later rest in omega (arith, same)

pub path_back : (path query : List ℕ) → list_any is_question path ≡ false → path_of (path ++ 63 ∷ query) ≡ path
path_back path query none = ap (λ (n : ℕ). take n (path ++ 63 ∷ query)) (place_of_mark path query none) ∙ take-append_seam path (63 ∷ query)

pub query_back : (path query : List ℕ) → list_any is_question path ≡ false → query_of (path ++ 63 ∷ query) ≡ query
query_back path query none = ap (λ (n : ℕ). drop (n + 1) (path ++ 63 ∷ query)) (place_of_mark path query none) ∙ drop-append-add path (63 ∷ query) 1

-- ---- without a question mark

no_mark : (path : List ℕ) → list_any is_question path ≡ false → position_or_len asked path ≡ length path
no_mark [] none = refl
no_mark (b ∷ path) none = go (λ rest. no_mark path rest) (b == 63) refl none
  where
    go : (list_any is_question path ≡ false → position_or_len asked path ≡ length path) → (t : Bool) → (b == 63) ≡ t → (t || list_any is_question path) ≡ false
        → cond (not t) (1 + position_or_len asked path) 0 ≡ length (b ∷ path)
    go later true is rest = absurd cc
    go later false is rest = let same = later rest in omega (arith, same)

pub path_alone : (path : List ℕ) → list_any is_question path ≡ false → path_of path ≡ path
path_alone path none = sym (whole_before path (no_mark path none))

pub query_alone : (path : List ℕ) → list_any is_question path ≡ false → query_of path ≡ []
query_alone path none = sym (nothing_after path (no_mark path none))

-- ---- the pairs

bytes_of : (pairs : List (List ℕ × List ℕ)) → All IsTextPair pairs → All IsBytePair pairs
bytes_of [] all = All-nil IsBytePair
bytes_of (pair ∷ pairs) all =
    let is = All-head IsTextPair pair pairs all in
    All-cons IsBytePair pair pairs (is.0.1, is.1.1) (bytes_of pairs (All-tail IsTextPair pair pairs all))

texts : (raw pairs : List (List ℕ × List ℕ)) → All IsTextPair pairs → map (λ (name, value). (decode name, decode value)) raw ≡ pairs → map pair_in raw ≡ pairs
texts [] [] all is = refl
texts [] (pair ∷ pairs) all is = absurd cc
texts (r ∷ raw) [] all is = absurd cc
texts (r ∷ raw) (pair ∷ pairs) all is =
    let first : (decode r.0, decode r.1) ≡ pair = cc in
    let rest : map (λ (name, value). (decode name, decode value)) raw ≡ pairs = cc in
    let text = All-head IsTextPair pair pairs all in
    let name : text_of r.0 ≡ pair.0 = ap (λ (p : List ℕ × List ℕ). utf8_lossy p.0) first ∙ utf8_lossy-IsUtf8 pair.0 text.0.0 in
    let value : text_of r.1 ≡ pair.1 = ap (λ (p : List ℕ × List ℕ). utf8_lossy p.1) first ∙ utf8_lossy-IsUtf8 pair.1 text.1.0 in
    ap₂ (λ (p : List ℕ × List ℕ) (ps : List (List ℕ × List ℕ)). p ∷ ps) (ap₂ (λ (a b : List ℕ). (a, b)) name value) (texts raw pairs (All-tail IsTextPair pair pairs all) rest)

pub pairs_back : (path : List ℕ) (pairs : List (List ℕ × List ℕ)) → list_any is_question path ≡ false → All IsTextPair pairs → pairs_in (query_of (path ++ 63 ∷ extend_pairs [] pairs)) ≡ pairs
pairs_back path pairs none all = ap pairs_in (query_back path (extend_pairs [] pairs) none) ∙ texts (raw_pairs (extend_pairs [] pairs)) pairs all (round_trip pairs (bytes_of pairs all))
