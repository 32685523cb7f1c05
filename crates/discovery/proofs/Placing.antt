-- A name put in its place.
use Rattle.std.proofs.Common.{◌≡◌, ℕ, suc, ◌+◌, ◌≤◌, Bool, true, false, cond, not, ltb, List, [], ◌∷◌, length, map, Some, None, unwrap_or, Bor, Ordering, Less, Equal, Greater, nat_cmp, refl, ap, arith}
use Rattle.std.proofs.lemmas.Bool.{ltb-false}
use Rattle.std.proofs.lemmas.List.Sums.{prefix_len-le-length}
use Rattle.std.specs.Cmp.Lexicographic.{slice_cmp}
use Rattle.std.specs.List.{position_or_len, insert}
use Rattle.std.specs.Ordering.{is_ge}
use Rattle.schema.specs.KeyNames.{put_name}

abbrev Name : Type 0
Name = Bor (List ℕ)

abbrev pub is_past : Name → Name → Bool
is_past name n = is_ge (slice_cmp nat_cmp n.now name.now)

abbrev pub texts_of : List Name → List (List ℕ)
texts_of ns = map (λ n. n.now) ns

unwrapped : (b : Bool) (n l : ℕ) → n ≤ l → ltb n l ≡ b → unwrap_or (cond b (Some n) None) l ≡ n
unwrapped true n l le is = refl
unwrapped false n l le is = let ge = ltb-false n l is in omega arith

pub place_is : (p : Name → Bool) (ns : List Name) → unwrap_or (cond (ltb (position_or_len p ns) (length ns)) (Some (position_or_len p ns)) None) (length ns) ≡ position_or_len p ns
place_is p ns = unwrapped _ (position_or_len p ns) (length ns) (prefix_len-le-length (λ n. not (p n)) ns) refl

put_next : (name n : Name) (ns : List Name) (o : Ordering) → slice_cmp nat_cmp n.now name.now ≡ o
    → texts_of (insert ns (position_or_len (is_past name) ns) name) ≡ put_name name.now (texts_of ns)
    → texts_of (insert (n ∷ ns) (position_or_len (is_past name) (n ∷ ns)) name) ≡ put_name name.now (texts_of (n ∷ ns))
put_next name n ns Less is later =
    let next : 1 + position_or_len (is_past name) ns ≡ suc (position_or_len (is_past name) ns) = omega arith in
    rw (is, next) (ap (λ ts. n.now ∷ ts) later)
put_next name n ns Equal is later = rw is refl
put_next name n ns Greater is later = rw is refl

pub put_in_place : (name : Name) (ns : List Name) → texts_of (insert ns (position_or_len (is_past name) ns) name) ≡ put_name name.now (texts_of ns)
put_in_place name [] = refl
put_in_place name (n ∷ ns) = put_next name n ns _ refl (put_in_place name ns)
