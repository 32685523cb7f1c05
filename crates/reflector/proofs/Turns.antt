-- One turn of the merge of two lists, and its end.
use Rattle.std.proofs.Common.{◌≡◌, ◌+◌, ◌≤◌, suc, T, Bool, true, false, List, [], ◌∷◌, ◌++◌, map, length, Ordering, Less, Equal, Greater, Some, None, refl, sym, ap, ap₂, subst, ◌∙◌, append_assoc, append-nil, arith}
use Rattle.std.proofs.lemmas.List.{length-map}
use Rattle.std.specs.FinMap.Entries.{is_sorted}
use Rattle.indexer.specs.Objects.{place_cmp, Shared, shared_of}
use Rattle.indexer.specs.declared.object.ObjectKey.{ObjectKey}
use Rattle.reflector.specs.BetweenViews.{between, first_order, first_notices, new_left, old_left}
use Rattle.reflector.specs.Client.{Notice, by_place, place_in}
use Rattle.reflector.specs.Views.{held_seen}
use Rattle.reflector.proofs.Between.{snd, fst, step, old_first, new_first, nothing_emitted}
use Rattle.reflector.proofs.Keyed.{Entries}

some_is : (o p : Ordering) → Some o ≡ Some p → o ≡ p
some_is o p e = cc

-- what is told of the first place, and of what is left then, is told of all
turn : (o : Ordering) (xs ys : Entries) → first_order xs ys ≡ Some o → T (is_sorted place_cmp xs) → T (is_sorted place_cmp ys) → first_notices o xs ys ++ between (old_left o xs) (new_left o ys) ≡ between xs ys
turn o [] [] is h k = absurd cc
turn o [] (y ∷ ys) is h k =
    subst (λ (p : Ordering). first_notices p [] (y ∷ ys) ++ between (old_left p []) (new_left p (y ∷ ys)) ≡ between [] (y ∷ ys)) (some_is Greater o is) (sym (new_first y [] ys tt (fst _ _ k)))
turn o (x ∷ xs) [] is h k =
    subst (λ (p : Ordering). first_notices p (x ∷ xs) [] ++ between (old_left p (x ∷ xs)) (new_left p []) ≡ between (x ∷ xs) []) (some_is Less o is) (sym (old_first x xs [] (fst _ _ h) tt))
turn o (x ∷ xs) (y ∷ ys) is h k = step o x y xs ys (sym (some_is (place_cmp x.0 y.0) o is)) h k

over : (xs ys : Entries) → first_order xs ys ≡ None → between xs ys ≡ []
over [] [] is = nothing_emitted
over [] (y ∷ ys) is = absurd cc
over (x ∷ xs) [] is = absurd cc
over (x ∷ xs) (y ∷ ys) is = absurd cc

-- where nothing is left, all is told
pub is_over : (xs ys : Entries) (emitted all : List Notice) → first_order xs ys ≡ None → emitted ++ between xs ys ≡ all → emitted ≡ all
is_over xs ys emitted all is so_far = sym (append-nil emitted) ∙ ap (λ r. emitted ++ r) (sym (over xs ys is)) ∙ so_far

truth : (b : Bool) → T b → b ≡ true
truth true h = refl
truth false h = absurd h

behind : (xs : Entries) → is_sorted place_cmp xs ≡ true → is_sorted place_cmp (old_left Less xs) ≡ true
behind [] h = h
behind (x ∷ xs) h = truth _ (snd _ _ (subst T (sym h) tt))

pub old_sorted : (o : Ordering) (xs : Entries) → is_sorted place_cmp xs ≡ true → is_sorted place_cmp (old_left o xs) ≡ true
old_sorted Less xs h = behind xs h
old_sorted Equal xs h = behind xs h
old_sorted Greater xs h = h

pub new_sorted : (o : Ordering) (ys : Entries) → is_sorted place_cmp ys ≡ true → is_sorted place_cmp (new_left o ys) ≡ true
new_sorted Less ys h = h
new_sorted Equal ys h = behind ys h
new_sorted Greater ys h = behind ys h

-- fewer are left
fewer : (o : Ordering) (xs ys : Entries) → first_order xs ys ≡ Some o → suc (length (old_left o xs) + length (new_left o ys)) ≤ length xs + length ys
fewer o [] [] is = absurd cc
fewer Less [] (y ∷ ys) is = absurd cc
fewer Equal [] (y ∷ ys) is = absurd cc
fewer Greater [] (y ∷ ys) is = omega arith
fewer Less (x ∷ xs) [] is = omega arith
fewer Equal (x ∷ xs) [] is = absurd cc
fewer Greater (x ∷ xs) [] is = absurd cc
fewer Less (x ∷ xs) (y ∷ ys) is = omega arith
fewer Equal (x ∷ xs) (y ∷ ys) is = omega arith
fewer Greater (x ∷ xs) (y ∷ ys) is = omega arith

listed_length : (ys : List Shared) → length (by_place (map shared_of ys)) ≡ length ys
listed_length ys = length-map (map shared_of ys) (λ o. (place_in o, o)) ∙ length-map ys shared_of

pub fewer_left : (o : Ordering) (old old_now : List (ObjectKey × Shared)) (new new_now : List Shared) → first_order (map held_seen old) (by_place (map shared_of new)) ≡ Some o
    → map held_seen old_now ≡ old_left o (map held_seen old) → by_place (map shared_of new_now) ≡ new_left o (by_place (map shared_of new)) → suc (length old_now + length new_now) ≤ length old + length new
fewer_left o old old_now new new_now is old_is new_is =
    let left = fewer o (map held_seen old) (by_place (map shared_of new)) is in
    let olds : length (old_left o (map held_seen old)) ≡ length old_now = ap length (sym old_is) ∙ length-map old_now held_seen in
    let response : length (new_left o (by_place (map shared_of new))) ≡ length new_now = ap length (sym new_is) ∙ listed_length new_now in
    let was : length (map held_seen old) ≡ length old = length-map old held_seen in
    let is_new : length (by_place (map shared_of new)) ≡ length new = listed_length new in
    omega (arith, left, olds, response, was, is_new)

pub goes_on : (o : Ordering) (old old_now : List (ObjectKey × Shared)) (new new_now : List Shared) (emitted emitted_now some all : List Notice) → first_order (map held_seen old) (by_place (map shared_of new)) ≡ Some o
    → some ≡ first_notices o (map held_seen old) (by_place (map shared_of new)) → map held_seen old_now ≡ old_left o (map held_seen old) → by_place (map shared_of new_now) ≡ new_left o (by_place (map shared_of new))
    → is_sorted place_cmp (map held_seen old) ≡ true → is_sorted place_cmp (by_place (map shared_of new)) ≡ true → emitted_now ≡ emitted ++ some
    → emitted ++ between (map held_seen old) (by_place (map shared_of new)) ≡ all → emitted_now ++ between (map held_seen old_now) (by_place (map shared_of new_now)) ≡ all
goes_on o old old_now new new_now emitted emitted_now some all is some_is_first old_is new_is old_sorted_is new_sorted_is notifies so_far =
    let xs : Entries = map held_seen old in
    let ys : Entries = by_place (map shared_of new) in
    ap (λ t. t ++ between (map held_seen old_now) (by_place (map shared_of new_now))) (notifies ∙ ap (λ ns. emitted ++ ns) some_is_first)
    ∙ append_assoc emitted (first_notices o xs ys) (between (map held_seen old_now) (by_place (map shared_of new_now)))
    ∙ ap (λ r. emitted ++ r) (ap₂ (λ us vs. first_notices o xs ys ++ between us vs) old_is new_is ∙ turn o xs ys is (subst T (sym old_sorted_is) tt) (subst T (sym new_sorted_is) tt))
    ∙ so_far
