-- Pieces that are read, and bytes that are written in turn.
use Rattle.std.proofs.Common.{◌≡◌, ◌≤◌, ◌∙◌, ◌+◌, ◌-◌, ℕ, true, List, [], ◌∷◌, ◌++◌, length, take, drop, Option, Result, Ok, Err, ap, refl, subst, sym, arith, take-append-drop, take-add}
use Rattle.std.specs.Prelude.{◌==◌, IsErrAnd, MatchResult}
use Rattle.std.specs.Io.KnownBytes.{Appends, Consumes, Keeps}
use Rattle.std.proofs.KnownBytes.{Appends-trans, Consumes-kept, Consumes-nil}
use Rattle.std.proofs.lemmas.List.{take_rest, length-drop}

empty_is : (piece : List ℕ) → (length piece == 0) ≡ true → piece ≡ []
empty_is [] is = refl
empty_is (n ∷ ns) is = grind (arith)

-- a read that gave nothing
pub reads_none : (a b : Option (List ℕ)) (piece : List ℕ) → Consumes a b piece → (length piece == 0) ≡ true → Consumes a b []
reads_none a b piece read none = subst (Consumes a b) (empty_is piece none) read

-- an error, where no byte left the reader
pub none_left : {T E : Type 0} (P : T → Type 0) (Q : E → Type 0) (r : Result T E) (a b : Option (List ℕ)) → IsErrAnd r Q → Keeps a b → MatchResult r P (λ _. Consumes a b [])
none_left P Q (Ok x) a b is keeps = absurd is
none_left P Q (Err e) a b is keeps = Consumes-kept a a b [] (Consumes-nil a) keeps

-- ---- a prefix of the bytes

-- what a writer got of the rest comes behind the prefix that it has
pub prefix_grows : (a b c : Option (List ℕ)) (bytes rest : List ℕ) (count n : ℕ) → count ≤ length bytes → rest ≡ take (length bytes - count) (drop count bytes) → n ≤ length rest
    → Appends a b (take count bytes) → Appends b c (take n rest) → (count + n ≤ length bytes) × Appends a c (take (count + n) bytes)
prefix_grows a b c bytes rest count n in_bytes is in_rest before written =
    let left : rest ≡ drop count bytes = is ∙ take_rest bytes count in
    let fits : n ≤ length bytes - count = subst (λ k. n ≤ k) (ap length left ∙ length-drop count bytes) in_rest in
    let joined : take (count + n) bytes ≡ take count bytes ++ take n rest = take-add count n bytes ∙ ap (λ l. take count bytes ++ take n l) (sym left) in
    (omega (arith, in_bytes, fits), subst (Appends a c) (sym joined) (Appends-trans a b c (take count bytes) (take n rest) before written))

-- a prefix, and the rest behind it
pub prefix_of : (a b : Option (List ℕ)) (bytes : List ℕ) (n : ℕ) → Appends a b (take n bytes) → (emitted : List ℕ) × (rest : List ℕ) × (bytes ≡ emitted ++ rest) × Appends a b emitted
prefix_of a b bytes n written = (take n bytes, drop n bytes, sym (take-append-drop n bytes), written)
