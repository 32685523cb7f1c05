-- Ids that rise: some of them are left out, or one more comes behind them.
use Rattle.std.proofs.Common.{◌≡◌, ◌<◌, ℕ, ◌+◌, map, Bool, true, false, List, [], ◌∷◌, ◌++◌, refl, sym, ap, ap₂, subst, ◌∙◌, append_assoc, append-nil, arith, Option, Some, Result, Ok, Err}
use Rattle.std.specs.Prelude.{◌&&◌, nat_lt, if◌then◌else◌, MatchOption}
use Rattle.std.specs.List.{list_all}
use Rattle.std.specs.Result.{is_ok}
use Rattle.std.proofs.lemmas.Bool.{lt-ltb, ltb-true}
use Rattle.std.proofs.lemmas.List.Folds.{list_all-append}
use Rattle.serving.specs.Rising.{are_rising}
use Rattle.serving.specs.ServerViews.{with_kept}
use Rattle.serving.proofs.Keeping.{kept_none, kept_one, no_watches}

both : (a b : Bool) → (a && b) ≡ true → (a ≡ true) × (b ≡ true)
both true true e = (refl, refl)
both true false e = absurd cc
both false b e = absurd cc

joined : (a b : Bool) → a ≡ true → b ≡ true → (a && b) ≡ true
joined a b x y = ap₂ (λ (p q : Bool). p && q) x y

less_all : (p : ℕ → Bool) (xs ys zs : List ℕ) → list_all p (xs ++ (ys ++ zs)) ≡ true → list_all p (xs ++ zs) ≡ true
less_all p xs ys zs all =
    let one = both (list_all p xs) (list_all p (ys ++ zs)) (sym (list_all-append p xs (ys ++ zs)) ∙ all) in
    let two = both (list_all p ys) (list_all p zs) (sym (list_all-append p ys zs) ∙ one.1) in
    list_all-append p xs zs ∙ joined (list_all p xs) (list_all p zs) one.0 two.1

behind : (ys zs : List ℕ) → are_rising (ys ++ zs) ≡ true → are_rising zs ≡ true
behind [] zs rise = rise
behind (y ∷ ys) zs rise = behind ys zs (both (list_all (nat_lt y) (ys ++ zs)) (are_rising (ys ++ zs)) rise).1

pub less_rise : (xs ys zs : List ℕ) → are_rising (xs ++ (ys ++ zs)) ≡ true → are_rising (xs ++ zs) ≡ true
less_rise [] ys zs rise = behind ys zs rise
less_rise (x ∷ xs) ys zs rise =
    let parts = both (list_all (nat_lt x) (xs ++ (ys ++ zs))) (are_rising (xs ++ (ys ++ zs))) rise in
    joined (list_all (nat_lt x) (xs ++ zs)) (are_rising (xs ++ zs)) (less_all (nat_lt x) xs ys zs parts.0) (less_rise xs ys zs parts.1)

pub more_rise : (xs : List ℕ) (n m : ℕ) → n < m → are_rising (xs ++ n ∷ []) ≡ true → are_rising (xs ++ n ∷ m ∷ []) ≡ true
more_rise [] n m lt rise = rw (lt-ltb n m lt) refl
more_rise (x ∷ xs) n m lt rise =
    let parts = both (list_all (nat_lt x) (xs ++ n ∷ [])) (are_rising (xs ++ n ∷ [])) rise in
    let all = both (list_all (nat_lt x) xs) (list_all (nat_lt x) (n ∷ [])) (sym (list_all-append (nat_lt x) xs (n ∷ [])) ∙ parts.0) in
    let below : x < n = ltb-true x n (both (nat_lt x n) true all.1).0 in
    let far : x < m = omega (arith, below, lt) in
    joined (list_all (nat_lt x) (xs ++ n ∷ m ∷ [])) (are_rising (xs ++ n ∷ m ∷ []))
    (list_all-append (nat_lt x) xs (n ∷ m ∷ []) ∙ joined (list_all (nat_lt x) xs) (list_all (nat_lt x) (n ∷ m ∷ [])) all.0 (rw (lt-ltb x n below, lt-ltb x m far) refl))
    (more_rise xs n m lt parts.1)

-- ---- the watches of a server, behind which the next id comes

next_rise : (xs : List ℕ) (n : ℕ) → are_rising (xs ++ n ∷ []) ≡ true → are_rising (xs ++ n ∷ (n + 1) ∷ []) ≡ true
next_rise xs n rise = more_rise xs n (n + 1) (omega arith) rise

-- before a connection of the next id is settled
pub next_opens : (xs : List ℕ) (old id : ℕ) → id ≡ old + 1 → are_rising (xs ++ (old + 1) ∷ []) ≡ true → are_rising (xs ++ id ∷ (id + 1) ∷ []) ≡ true
next_opens xs old id is rise = next_rise xs id (subst (λ (k : ℕ). are_rising (xs ++ k ∷ []) ≡ true) (sym is) rise)

pub without_one : (xs : List ℕ) (id : ℕ) (more : List ℕ) → are_rising (xs ++ id ∷ more) ≡ true → are_rising (xs ++ more) ≡ true
without_one xs id more rise = less_rise xs (id ∷ []) more rise

-- whether it is kept or not
pub kept_rise : (kept : Bool) (ids xs : List ℕ) (id : ℕ) (more : List ℕ) → xs ≡ with_kept kept id ids → are_rising (ids ++ id ∷ more) ≡ true → are_rising (xs ++ more) ≡ true
kept_rise true ids xs id more is rise =
    subst (λ (ys : List ℕ). are_rising (ys ++ more) ≡ true) (sym is) (subst (λ (ys : List ℕ). are_rising ys ≡ true) (sym (append_assoc ids (id ∷ []) more)) rise)
kept_rise false ids xs id more is rise = subst (λ (ys : List ℕ). are_rising (ys ++ more) ≡ true) (sym is) (without_one ids id more rise)

-- these alone
pub all_rise : (xs : List ℕ) (more : List ℕ) → are_rising (xs ++ more) ≡ true → are_rising xs ≡ true
all_rise xs more rise =
    subst (λ (ys : List ℕ). are_rising ys ≡ true) (append-nil xs) (less_rise xs more [] (subst (λ (ys : List ℕ). are_rising (xs ++ ys) ≡ true) (sym (append-nil more)) rise))

-- before one of those that are left is settled
pub left_out_rise : (xs : List ℕ) (id : ℕ) (rest more : List ℕ) → are_rising (xs ++ id ∷ (rest ++ more)) ≡ true → are_rising (xs ++ id ∷ more) ≡ true
left_out_rise xs id rest more rise =
    subst (λ (ys : List ℕ). are_rising ys ≡ true) (append_assoc xs (id ∷ []) more)
    (less_rise (xs ++ id ∷ []) rest more (subst (λ (ys : List ℕ). are_rising ys ≡ true) (sym (append_assoc xs (id ∷ []) (rest ++ more))) rise))

-- ---- over the streams of watches

pub alone_rises : {W : Type 0} (ws : List (ℕ × W)) (n : ℕ) → ws ≡ [] → are_rising (map (λ w. w.0) ws ++ n ∷ []) ≡ true
alone_rises ws n none = ap (λ (ids : List ℕ). are_rising (ids ++ n ∷ [])) (no_watches ws none)

-- what is left begins with this one
pub first_left : {W : Type 0} (kept ws rest : List (ℕ × W)) (w : ℕ × W) (n : ℕ) → ws ≡ w ∷ rest → are_rising (map (λ v. v.0) kept ++ (map (λ v. v.0) ws ++ n ∷ [])) ≡ true
    → are_rising (map (λ v. v.0) kept ++ w.0 ∷ (map (λ v. v.0) rest ++ n ∷ [])) ≡ true
first_left {W} kept ws rest w n is rise = subst (λ (vs : List (ℕ × W)). are_rising (map (λ v. v.0) kept ++ (map (λ v. v.0) vs ++ n ∷ [])) ≡ true) is rise

-- before it is settled, and after
pub settles_rise : {W : Type 0} (kept ws rest : List (ℕ × W)) (w : ℕ × W) (n : ℕ) → ws ≡ w ∷ rest → are_rising (map (λ v. v.0) kept ++ (map (λ v. v.0) ws ++ n ∷ [])) ≡ true
    → are_rising (map (λ v. v.0) kept ++ w.0 ∷ n ∷ []) ≡ true
settles_rise kept ws rest w n is rise = left_out_rise (map (λ v. v.0) kept) w.0 (map (λ v. v.0) rest) (n ∷ []) (first_left kept ws rest w n is rise)

pub settled_rise : {W : Type 0} (kept ws rest : List (ℕ × W)) (w : ℕ × W) (n m : ℕ) (k : Bool) (ids : List ℕ) → ws ≡ w ∷ rest → ids ≡ with_kept k w.0 (map (λ v. v.0) kept) → m ≡ n
    → are_rising (map (λ v. v.0) kept ++ (map (λ v. v.0) ws ++ n ∷ [])) ≡ true → are_rising (ids ++ (map (λ v. v.0) rest ++ m ∷ [])) ≡ true
settled_rise kept ws rest w n m k ids is kept_is same rise =
    subst (λ (x : ℕ). are_rising (ids ++ (map (λ v. v.0) rest ++ x ∷ [])) ≡ true) (sym same)
    (kept_rise k (map (λ v. v.0) kept) ids w.0 (map (λ v. v.0) rest ++ n ∷ []) kept_is (first_left kept ws rest w n is rise))

pub begins_rise : {W : Type 0} (fresh left all : List (ℕ × W)) (n : ℕ) → fresh ≡ [] → left ≡ all → are_rising (map (λ v. v.0) all ++ n ∷ []) ≡ true
    → are_rising (map (λ v. v.0) fresh ++ (map (λ v. v.0) left ++ n ∷ [])) ≡ true
begins_rise {W} fresh left all n none is rise =
    subst (λ (vs : List (ℕ × W)). are_rising (map (λ v. v.0) vs ++ (map (λ v. v.0) left ++ n ∷ [])) ≡ true) (sym none)
    (subst (λ (vs : List (ℕ × W)). are_rising (map (λ v. v.0) vs ++ n ∷ []) ≡ true) (sym is) rise)

-- what a match of an option says of this one
pub some_of : {A : Type 0} (P : Type 0) (Q : A → Type 0) (r : Option A) (x : A) → r ≡ Some x → MatchOption r P Q → Q x
some_of {A} P Q r x is said = subst (λ (o : Option A). MatchOption o P Q) is said

-- whether its stream was pushed or not
pub pushed_rise : {A E W : Type 0} (r : Result A E) (old new : List (ℕ × W)) (w : ℕ × W) (n : ℕ) → new ≡ (if is_ok r then old ++ w ∷ [] else old)
    → are_rising (map (λ v. v.0) old ++ w.0 ∷ n ∷ []) ≡ true → are_rising (map (λ v. v.0) new ++ n ∷ []) ≡ true
pushed_rise {A} {E} {W} (Ok a) old new w n is rise = kept_rise true (map (λ v. v.0) old) (map (λ v. v.0) new) w.0 (n ∷ []) (kept_one {A = A} {E = E} {W = W} (Ok a) old new w refl is) rise
pushed_rise {A} {E} {W} (Err e) old new w n is rise = kept_rise false (map (λ v. v.0) old) (map (λ v. v.0) new) w.0 (n ∷ []) (kept_none {A = A} {E = E} {W = W} (Err e) old new w refl is) rise
