-- Objects by types: those of each type stand together, in the order of the types' numbers.
use Rattle.std.proofs.Common.{◌≡◌, ◌<◌, ◌≤◌, ℕ, suc, Bool, true, false, cond, T, ◌&&◌, ◌==◌, [], ◌∷◌, ◌++◌, refl, sym, ap, ◌∙◌, Some, None, Less, Equal, Greater, arith, filter, is_eq, is_lt, is_some, ltb-true, ltb-false, le-ltb, lt-ltb, eqb-true, true≢false}
use Rattle.std.proofs.lemmas.Bool.{eqb-false}
use Rattle.std.specs.Prelude.{nat_lt}
use Rattle.std.specs.Ordering.{ordering_then}
use Rattle.std.specs.List.{AllByRecursion}
use Rattle.std.specs.FinMap as fin
use Rattle.std.specs.FinMap.{is_sorted}
use Rattle.std.specs.Cmp.{tied_itself}
use Rattle.std.specs.FinMap.Entries.{below_all, find}
use Rattle.history.specs.History.{Key, Object, Objects, is_same_key, key_cmp, text_cmp}
use Rattle.history.specs.Page.{is_past, is_within, listed}
use Rattle.history.proofs.Keys.{key_cmp_total, tied}
use Rattle.history.proofs.Selecting.{Entries, fst, not_below, snd}

abbrev pub is_before : ℕ → Key × Object → Bool
is_before n e = nat_lt e.0.kind n

-- the objects of the types before this number
abbrev pub of_types_before : ℕ → Objects → Entries
of_types_before n s = filter (is_before n) (fin.entries s)

-- the key that comes first is of no later type
kinds_rise : (x k : Key) → T (is_lt (key_cmp x k)) → x.kind ≤ k.kind
kinds_rise x k h = go (nat_lt x.kind k.kind) refl (x.kind == k.kind) refl h
  where
    go : (a : Bool) → nat_lt x.kind k.kind ≡ a → (b : Bool) → (x.kind == k.kind) ≡ b
        → T (is_lt (ordering_then (cond a Less (cond b Equal Greater)) (ordering_then (text_cmp x.namespace k.namespace) (text_cmp x.name k.name)))) → x.kind ≤ k.kind
    go true is b tied below = let lt : x.kind < k.kind = ltb-true _ _ is in omega arith
    go false is true tied below = let same : x.kind ≡ k.kind = eqb-true _ _ tied in omega arith
    go false is false tied below = absurd below

-- past the first object of a type there is none of those before
none_before : (n : ℕ) (x : Key) (es : Entries) → n ≤ x.kind → T (below_all key_cmp x es) → filter (is_before n) es ≡ []
none_before n x [] above h = refl
none_before n x (e ∷ es) above h =
    let rise : x.kind ≤ e.0.kind = kinds_rise x e.0 (fst _ _ h) in
    let past : n ≤ e.0.kind = omega arith in
    ap (λ b. cond b (e ∷ filter (is_before n) es) (filter (is_before n) es)) (le-ltb _ _ past) ∙ none_before n x es above (snd _ _ h)

-- the objects of one more type
abbrev of_type : ℕ → Key × Object → Bool
of_type n e = is_within n None e.0 && is_past None e.0

more_types : (n : ℕ) (es : Entries) → T (is_sorted key_cmp es) → filter (is_before (suc n)) es ≡ filter (is_before n) es ++ filter (of_type n) es
more_types n [] h = refl
more_types n (e ∷ es) h = go (nat_lt e.0.kind n) refl (e.0.kind == n) refl (nat_lt e.0.kind (suc n)) refl (more_types n es (snd _ _ h))
  where
    go : (a : Bool) → nat_lt e.0.kind n ≡ a → (b : Bool) → (e.0.kind == n) ≡ b → (c : Bool) → nat_lt e.0.kind (suc n) ≡ c
        → filter (is_before (suc n)) es ≡ filter (is_before n) es ++ filter (of_type n) es
        → cond c (e ∷ filter (is_before (suc n)) es) (filter (is_before (suc n)) es)
        ≡ cond a (e ∷ filter (is_before n) es) (filter (is_before n) es) ++ cond ((b && true) && true) (e ∷ filter (of_type n) es) (filter (of_type n) es)
    go true a true b c d rest = let lt : e.0.kind < n = ltb-true _ _ a in let same : e.0.kind ≡ n = eqb-true _ _ b in absurd (omega arith)
    go true a false b true c rest = ap (λ l. e ∷ l) rest
    go true a false b false c rest = let lt : e.0.kind < n = ltb-true _ _ a in let le : suc n ≤ e.0.kind = ltb-false _ _ c in absurd (omega arith)
    go false a true b true c rest =
        let same : e.0.kind ≡ n = eqb-true _ _ b in
        let none = none_before n e.0 es (omega arith) (fst _ _ h) in
        ap (λ l. e ∷ l) (rest ∙ ap (λ l. l ++ filter (of_type n) es) none) ∙ sym (ap (λ l. l ++ e ∷ filter (of_type n) es) none)
    go false a true b false c rest = let same : e.0.kind ≡ n = eqb-true _ _ b in let le : suc n ≤ e.0.kind = ltb-false _ _ c in absurd (omega arith)
    go false a false b true c rest =
        let le : n ≤ e.0.kind = ltb-false _ _ a in
        let lt : e.0.kind < suc n = ltb-true _ _ c in
        let other : e.0.kind ≡ n → ⊥ = eqb-false _ _ b in absurd (other (omega arith))
    go false a false b false c rest = rest

pub one_more_type : (n : ℕ) (s : Objects) → of_types_before (suc n) s ≡ of_types_before n s ++ listed n None None s
one_more_type n s = more_types n (fin.entries s) (fin.entries_sorted s)

pub no_type : (s : Objects) → of_types_before 0 s ≡ []
no_type s = go (fin.entries s)
  where
    go : (es : Entries) → filter (is_before 0) es ≡ []
    go [] = refl
    go (e ∷ es) = ap (λ b. cond b (e ∷ filter (is_before 0) es) (filter (is_before 0) es)) (le-ltb e.0.kind 0 (omega arith)) ∙ go es

-- all of them, where each type is before the number
pub all_types : (n : ℕ) (es : Entries) → AllByRecursion (λ e. e.0.kind < n) es → filter (is_before n) es ≡ es
all_types n [] all = refl
all_types n (e ∷ es) all = ap (λ b. cond b (e ∷ filter (is_before n) es) (filter (is_before n) es)) (lt-ltb _ _ all.0) ∙ ap (λ l. e ∷ l) (all_types n es all.1)

-- ---- what is said of all objects

module _ (P : Key × Object → Type 0) where
  found_all : (es : Entries) → T (is_sorted key_cmp es) → ((k : Key) (o : Object) → find key_cmp k es ≡ Some o → P (k, o)) → AllByRecursion P es
  found_all [] h all = tt
  found_all (e ∷ es) h all = (
    all e.0 e.1 (ap (λ r. cond (is_eq r) (Some e.1) (find key_cmp e.0 es)) (tied_itself key_cmp_total e.0)),
    found_all es (snd _ _ h) (λ k o there. all k o (later k o there (is_same_key k e.0) refl)),
  )
    where
      later : (k : Key) (o : Object) → find key_cmp k es ≡ Some o → (b : Bool) → is_same_key k e.0 ≡ b → cond b (Some e.1) (find key_cmp k es) ≡ Some o
      later k o there true same = absurd (true≢false (sym (ap is_some (sym (not_below e.0 es (fst _ _ h)) ∙ ap (λ q. find key_cmp q es) (sym (tied k e.0 same)) ∙ there))))
      later k o there false same = there

  pub all_entries : (s : Objects) → ((k : Key) (o : Object) → fin.get s k ≡ Some o → P (k, o)) → AllByRecursion P (fin.entries s)
  all_entries s all = found_all (fin.entries s) (fin.entries_sorted s) (λ k o there. all k o (fin.get-entries s k ∙ there))
