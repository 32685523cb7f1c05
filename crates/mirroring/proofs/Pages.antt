-- How many pages a list has, each but the last of so many objects.
use Rattle.std.proofs.Common.{◌≡◌, ◌<◌, ◌≤◌, ◌+◌, ◌*◌, ℕ, zero, suc, Bool, true, false, inl, inr, List, [], ◌∷◌, ◌++◌, length, Option, Some, None, is_some, refl, ap, subst, ◌∙◌, arith, length-append, suc-mul}
use Rattle.std.proofs.Math.Dec.{leb}
use Rattle.std.proofs.Math.Nat.{mul-le-mul_right, zero-mul}
use Rattle.std.proofs.lemmas.Bool.{leb-false, leb-true}
use Rattle.std.proofs.lemmas.List.{length-map}
use Rattle.std.specs.FinMap as fin
use Rattle.indexer.specs.Objects.{Stored}
use Rattle.decoder.specs.Wanted.{Wanted}
use Rattle.reflector.specs.Client.{Objects, by_place, place_in}
use Rattle.reflector.specs.ListLaws.{ArePages, IsLastPageOr}
use Rattle.mirroring.specs.Syncs.{AreFew, AreFull}

one_page : (m k n size pages : ℕ) → n ≡ m + k → pages ≡ zero → m + suc pages * size ≤ n + size
one_page m k n size pages is none =
    let a : suc pages * size ≡ pages * size + size = suc-mul pages size in
    let b : pages * size ≡ zero * size = ap (λ (j : ℕ). j * size) none in
    ended m k n size (suc pages * size) (pages * size) (zero * size) is a b (zero-mul size)
  where
    ended : (m k n size x y z : ℕ) → n ≡ m + k → x ≡ y + size → y ≡ z → z ≡ zero → m + x ≤ n + size
    ended m k n size x y z is a b e = omega (arith, is, a, b, e)

one_more : (m k n size pages : ℕ) → (m + k) + pages * size ≤ n + size → size ≤ k → m + suc pages * size ≤ n + size
one_more m k n size pages is le = goes m k n size (suc pages * size) (pages * size) is le (suc-mul pages size)
  where
    goes : (m k n size x y : ℕ) → (m + k) + y ≤ n + size → size ≤ k → x ≡ y + size → m + x ≤ n + size
    goes m k n size x y is le a = omega (arith, is, le, a)

clash : (w x y n size : ℕ) → w ≡ y + size → w ≤ x → zero + x ≤ n + size → n < y → (P : Type 0) → P
clash w x y n size a b d e P = absurd (omega (arith, a, b, d, e))

module _ (wanted : Wanted) (o : Objects) (r size : ℕ) where
  -- the objects of all pages but the last are among the list's
  hold : (bodies : List (List ℕ)) (earlier : List Stored) → ArePages wanted o r earlier bodies → AreFull wanted size bodies → length earlier + length bodies * size ≤ fin.len o + size
  hold [] earlier is full = absurd is
  hold (body ∷ bodies) earlier is full = go is.0.token refl is.3 (λ pages. hold bodies (earlier ++ is.0.objects) pages full.1)
    where
      go : (token : Option (List ℕ)) → is.0.token ≡ token → IsLastPageOr o (earlier ++ is.0.objects) token bodies (ArePages wanted o r (earlier ++ is.0.objects) bodies)
          → (ArePages wanted o r (earlier ++ is.0.objects) bodies → length (earlier ++ is.0.objects) + length bodies * size ≤ fin.len o + size) → length earlier + suc (length bodies) * size ≤ fin.len o + size
      go None e last others =
          let a : fin.len o ≡ length (fin.entries o) = fin.len-entries o in
          let b : length (fin.entries o) ≡ length (by_place (earlier ++ is.0.objects)) = ap length last.1 in
          let d : length (by_place (earlier ++ is.0.objects)) ≡ length (earlier ++ is.0.objects) = length-map (earlier ++ is.0.objects) (λ s. (place_in s, s)) in
          let f : length (earlier ++ is.0.objects) ≡ length earlier + length is.0.objects = length-append earlier is.0.objects in
          one_page (length earlier) (length is.0.objects) (fin.len o) size (length bodies) (a ∙ b ∙ d ∙ f) (ap length last.0)
      go (Some token) e pages others =
          one_more (length earlier) (length is.0.objects) (fin.len o) size (length bodies) (subst (λ (n : ℕ). n + length bodies * size ≤ fin.len o + size) (length-append earlier is.0.objects) (others pages))
          (full.0 is.0 is.1 (ap is_some e))

pub few : (wanted : Wanted) (o : Objects) (r turns : ℕ) (bodies : List (List ℕ)) → ArePages wanted o r [] bodies → AreFew wanted o bodies turns → length bodies ≤ turns
few wanted o r turns bodies pages (inl is) = is
few wanted o r turns bodies pages (inr (size, full, less)) = go (leb (suc turns) (length bodies)) refl
  where
    go : (b : Bool) → leb (suc turns) (length bodies) ≡ b → length bodies ≤ turns
    go false e = let a : length bodies < suc turns = leb-false (suc turns) (length bodies) e in omega arith
    go true e = clash (suc turns * size) (length bodies * size) (turns * size) (fin.len o) size (suc-mul turns size) (mul-le-mul_right size (leb-true (suc turns) (length bodies) e)) (hold wanted o r size bodies [] pages full) less _
