-- Where a head ends, whatever bytes follow.
use Rattle.std.proofs.Common.{arith, ◌≡◌, ℕ, suc, ◌+◌, ◌≤◌, ◌<◌, List, [], ◌∷◌, ◌++◌, length, drop, get_or, Option, Some, None, sym, ap, ◌∙◌, drop-cons}
use Rattle.std.proofs.lemmas.List.{drop-append-le}
use Rattle.wire.specs.declared.place.ScanState.{ScanState}
use Rattle.wire.specs.Heads.{end_from, end_or, place_after}

same_end : {k m : ℕ} → Some k ≡ Some m → k ≡ m
same_end is = cc

-- ---- it stays

more_by : (o : Option ScanState) (n m : ℕ) (prefix whole : ScanState → Option ℕ) → ((q : ScanState) → prefix q ≡ Some m → whole q ≡ Some m) → end_or n o prefix ≡ Some m → end_or n o whole ≡ Some m
more_by None n m prefix whole later h = h
more_by (Some q) n m prefix whole later h = later q h

pub end_more : (p : ScanState) (n : ℕ) (bytes more : List ℕ) (m : ℕ) → end_from p n bytes ≡ Some m → end_from p n (bytes ++ more) ≡ Some m
end_more p n [] more m h = absurd cc
end_more p n (b ∷ bytes) more m h =
    more_by (place_after p b) (n + 1) m (λ q. end_from q (n + 1) bytes) (λ q. end_from q (n + 1) (bytes ++ more)) (λ q e. end_more q (n + 1) bytes more m e) h

-- ---- it lies within

within_by : (o : Option ScanState) (n m top : ℕ) (found : ScanState → Option ℕ) → n ≤ top → ((q : ScanState) → found q ≡ Some m → m ≤ top) → end_or n o found ≡ Some m → m ≤ top
within_by None n m top found low later h = let is : n ≡ m = same_end h in omega (arith, low, is)
within_by (Some q) n m top found low later h = later q h

pub end_within : (p : ScanState) (n : ℕ) (bytes : List ℕ) (m : ℕ) → end_from p n bytes ≡ Some m → m ≤ n + length bytes
end_within p n [] m h = absurd cc
end_within p n (b ∷ bytes) m h =
    within_by (place_after p b) (n + 1) m (n + length (b ∷ bytes)) (λ q. end_from q (n + 1) bytes) (omega arith)
    (λ q e. let low = end_within q (n + 1) bytes m e in omega (arith, low)) h

-- ---- byte by byte

next_byte : (n d : ℕ) (bytes more : List ℕ) → n < length bytes → drop n (bytes ++ more) ≡ get_or bytes n d ∷ drop (n + 1) (bytes ++ more)
next_byte n d bytes more lt =
    let one : suc n ≡ n + 1 = omega arith in
    drop-append-le n bytes more (omega (arith, lt))
    ∙ ap (λ (xs : List ℕ). xs ++ more) (drop-cons bytes n d lt)
    ∙ ap (λ (xs : List ℕ). get_or bytes n d ∷ xs) (sym (drop-append-le (suc n) bytes more (omega (arith, lt))) ∙ ap (λ (k : ℕ). drop k (bytes ++ more)) one)

-- a byte that doesn't end the head
pub goes_on : (p q : ScanState) (n b d : ℕ) (bytes more : List ℕ) → n < length bytes → b ≡ get_or bytes n d → place_after p b ≡ Some q
    → end_from p n (drop n (bytes ++ more)) ≡ end_from q (n + 1) (drop (n + 1) (bytes ++ more))
goes_on p q n b d bytes more lt is next =
    ap (end_from p n) (next_byte n d bytes more lt)
    ∙ ap (λ (o : Option ScanState). end_or (n + 1) o (λ r. end_from r (n + 1) (drop (n + 1) (bytes ++ more)))) (ap (place_after p) (sym is) ∙ next)

-- a byte that ends it
pub ends_here : (p : ScanState) (n b d : ℕ) (bytes more : List ℕ) → n < length bytes → b ≡ get_or bytes n d → place_after p b ≡ None
    → end_from p n (drop n (bytes ++ more)) ≡ Some (n + 1)
ends_here p n b d bytes more lt is last =
    ap (end_from p n) (next_byte n d bytes more lt)
    ∙ ap (λ (o : Option ScanState). end_or (n + 1) o (λ r. end_from r (n + 1) (drop (n + 1) (bytes ++ more)))) (ap (place_after p) (sym is) ∙ last)
