-- What is under a key after several changes, as truth values.
use Rattle.std.proofs.Common.{◌≡◌, Bool, true, false, cond, not, ◌&&◌, ◌||◌, refl}

-- one more of the keys to take, which isn't to be kept
pub takes_more : (u m e n s : Bool) → (e && not n) ≡ false → ((u && not ((m && n) && s)) && not (e && s)) ≡ (u && not (((m || e) && n) && s))
takes_more false m e n s h = refl
takes_more true true true true true h = refl
takes_more true true true true false h = refl
takes_more true true true false s h = absurd cc
takes_more true true false true true h = refl
takes_more true true false true false h = refl
takes_more true true false false s h = refl
takes_more true false true true true h = refl
takes_more true false true true false h = refl
takes_more true false true false s h = absurd cc
takes_more true false false n s h = refl

-- one more that is to be kept
pub keeps_more : (u m e n s : Bool) → (e && n) ≡ false → (u && not ((m && n) && s)) ≡ (u && not (((m || e) && n) && s))
keeps_more false m e n s h = refl
keeps_more true true e n s h = refl
keeps_more true false true true s h = absurd cc
keeps_more true false true false s h = refl
keeps_more true false false n s h = refl

-- one more of the keys to add, which it hadn't
pub adds_more : (u m e n s : Bool) → (e && not n) ≡ false → ((u || ((m && n) && s)) || (e && s)) ≡ (u || (((m || e) && n) && s))
adds_more true m e n s h = refl
adds_more false true e true true h = refl
adds_more false true true true false h = refl
adds_more false true false true false h = refl
adds_more false true true false s h = absurd cc
adds_more false true false false s h = refl
adds_more false false true true s h = refl
adds_more false false true false s h = absurd cc
adds_more false false false n s h = refl

-- one more that it had
pub skips_more : (u m e n s : Bool) → (e && n) ≡ false → (u || ((m && n) && s)) ≡ (u || (((m || e) && n) && s))
skips_more true m e n s h = refl
skips_more false true e n s h = refl
skips_more false false true true s h = absurd cc
skips_more false false true false s h = refl
skips_more false false false n s h = refl

-- of what is added, that which was added so far
pub some_of : (all took n : Bool) → took ≡ (all && took) → (took && n) ≡ ((all && n) && took)
some_of true true true h = refl
some_of true true false h = refl
some_of true false true h = refl
some_of true false false h = refl
some_of false true n h = absurd cc
some_of false false n h = refl

-- added under the new keys, and taken from those that are no longer wanted
pub moved : (u m n s : Bool) → (s ≡ true → u ≡ m) → ((u || ((n && not m) && s)) && not ((m && not n) && s)) ≡ cond s n u
moved u m n true h = rw (h refl) (go m n)
  where
    go : (m n : Bool) → ((m || ((n && not m) && true)) && not ((m && not n) && true)) ≡ n
    go true true = refl
    go true false = refl
    go false true = refl
    go false false = refl
moved u m n false h = go u (n && not m) (m && not n)
  where
    go : (u x y : Bool) → ((u || (x && false)) && not (y && false)) ≡ u
    go true x true = refl
    go true x false = refl
    go false true y = refl
    go false false y = refl

-- some were added, and those that weren't there before are taken back
pub taken_back : (u m n part s : Bool) → (s ≡ true → u ≡ m) → ((u || (((n && not m) && part) && s)) && not ((n && not m) && s)) ≡ u
taken_back u m n part true h = rw (h refl) (go m n part)
  where
    go : (m n part : Bool) → ((m || (((n && not m) && part) && true)) && not ((n && not m) && true)) ≡ m
    go true true part = refl
    go true false part = refl
    go false true true = refl
    go false true false = refl
    go false false part = refl
taken_back u m n part false h = go u ((n && not m) && part) (n && not m)
  where
    go : (u x y : Bool) → ((u || (x && false)) && not (y && false)) ≡ u
    go true x true = refl
    go true x false = refl
    go false true y = refl
    go false false y = refl

-- all that it had is taken
pub taken_out : (u m s : Bool) → (s ≡ true → u ≡ m) → (u && not ((m && not false) && s)) ≡ cond s false u
taken_out u m true h = rw (h refl) (go m)
  where
    go : (m : Bool) → (m && not ((m && true) && true)) ≡ false
    go true = refl
    go false = refl
taken_out u m false h = go u (m && true)
  where
    go : (u x : Bool) → (u && not (x && false)) ≡ u
    go true true = refl
    go true false = refl
    go false x = refl
