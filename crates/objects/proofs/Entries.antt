-- Lists of entries: the others of a manager, and a manager's place.
use Rattle.std.proofs.Common.{◌≡◌, ℕ, suc, ◌+◌, ◌<◌, Bool, true, false, not, cond, List, [], ◌∷◌, ◌++◌, length, map, take, drop, get_or, is_some, refl, sym, ap, ap₂, ◌∙◌, Ordering, Less, Equal, Greater, arith, drop-cons, add-one, append-nil, is_eq, ◌≤◌, zero, IsTrue, ◌↔◌, ◌==◌, true≢false, T, ◌&&◌, subst}
use Rattle.std.specs.FinMap as fin
use Rattle.std.specs.Prelude.{filter}
use Rattle.std.specs.Ordering.{match_ordering}
use Rattle.std.specs.FinSet as set
use Rattle.std.proofs.lemmas.List.{take_more, map-append, length-map, take-map, drop-map}
use Rattle.std.specs.List.{list_all, insert}
use Rattle.std.specs.FinMap.{is_sorted, put}
use Rattle.std.specs.FinMap.Entries.{below_all}
use Rattle.fieldpath.specs.Paths.{path_cmp}
use Rattle.pathmap.specs.Beside.{is_empty}
use Rattle.pathmap.specs.Contents.{PathSet}
use Rattle.objects.specs.Owners.{Manager, HavePaths, is_same, less, others, with_owner, taken_over, manager_cmp}
use Rattle.objects.specs.Managers.{pair, pairs}
use Rattle.objects.specs.Ranks.{rank}
use Rattle.objects.specs.declared.managers.Entry.{Entry}
use Rattle.objects.proofs.Orders.{manager_total, manager_antisymmetric}

abbrev pub Pairs : Type 0
Pairs = List (Manager × PathSet)

-- ---- truth values
both : (a b : Bool) → T a → T b → T (a && b)
both true b p q = q
both false b p q = p

pub fst : (a b : Bool) → T (a && b) → T a
fst true b p = tt
fst false b p = p

pub snd : (a b : Bool) → T (a && b) → T b
snd true b p = p
snd false b p = absurd p

-- whether an entry is another manager's
abbrev pub is_other : Manager → Manager × PathSet → Bool
is_other m e = not (is_same m e.0)

pub filter-append : {A : Type 0} (p : A → Bool) (xs ys : List A) → filter p (xs ++ ys) ≡ filter p xs ++ filter p ys
filter-append p [] ys = refl
filter-append p (x ∷ xs) ys = by_test (p x) (filter-append p xs ys)
  where
    by_test : (b : Bool) → filter p (xs ++ ys) ≡ filter p xs ++ filter p ys → cond b (x ∷ filter p (xs ++ ys)) (filter p (xs ++ ys)) ≡ cond b (x ∷ filter p xs) (filter p xs) ++ filter p ys
    by_test true later = ap (λ l. x ∷ l) later
    by_test false later = later

pub less-append : (s : PathSet) (xs ys : Pairs) → less s (xs ++ ys) ≡ less s xs ++ less s ys
less-append s xs ys = ap (filter (λ e. not (is_empty e.1))) (map-append (λ e. (e.0, set.difference e.1 s)) xs ys) ∙ filter-append (λ e. not (is_empty e.1)) _ _

pub one_more : (m : Manager) (es : List Entry) (i : ℕ) (e : Entry) → i < length es → e ≡ get_or es i e → filter (is_other m) (pairs (take (i + 1) es)) ≡ filter (is_other m) (pairs (take i es)) ++ filter (is_other m) (pair e ∷ [])
one_more m es i e lt is =
    ap (λ l. filter (is_other m) (pairs l)) (take_more es i e lt ∙ ap (λ x. take i es ++ x ∷ []) (sym is))
    ∙ ap (filter (is_other m)) (map-append pair (take i es) (e ∷ [])) ∙ filter-append (is_other m) (pairs (take i es)) (pair e ∷ [])

pub next : (es : List Entry) (i : ℕ) (e : Entry) → i < length es → e ≡ get_or es i e → pairs (drop i es) ≡ pair e ∷ pairs (drop (i + 1) es)
next es i e lt is = ap pairs (drop-cons es i e lt ∙ ap₂ (λ x n. x ∷ drop n es) (sym is) (sym (add-one i)))

-- ---- the others less some paths, one entry more
module _ (s : PathSet) (m : Manager) (es : List Entry) (i : ℕ) (e : Entry) (lt : i < length es) (is : e ≡ get_or es i e) where
  taken : less s (filter (is_other m) (pairs (take (i + 1) es))) ≡ less s (filter (is_other m) (pairs (take i es))) ++ less s (filter (is_other m) (pair e ∷ []))
  taken = ap (less s) (one_more m es i e lt is) ∙ less-append s (filter (is_other m) (pairs (take i es))) _

  -- the manager's own entry is passed over
  pub less_same : is_same m (pair e).0 ≡ true → less s (filter (is_other m) (pairs (take (i + 1) es))) ≡ less s (filter (is_other m) (pairs (take i es)))
  less_same same = taken ∙ ap (λ b. less s (filter (is_other m) (pairs (take i es))) ++ less s (cond (not b) (pair e ∷ []) [])) same ∙ append-nil _

  pub less_empty : is_same m (pair e).0 ≡ false → is_empty (set.difference e.paths s) ≡ true → less s (filter (is_other m) (pairs (take (i + 1) es))) ≡ less s (filter (is_other m) (pairs (take i es)))
  less_empty same none =
      taken ∙ ap (λ b. less s (filter (is_other m) (pairs (take i es))) ++ less s (cond (not b) (pair e ∷ []) [])) same
      ∙ ap (λ b. less s (filter (is_other m) (pairs (take i es))) ++ cond (not b) (((pair e).0, set.difference e.paths s) ∷ []) []) none ∙ append-nil _

  pub less_some : is_same m (pair e).0 ≡ false → is_empty (set.difference e.paths s) ≡ false
      → less s (filter (is_other m) (pairs (take (i + 1) es))) ≡ less s (filter (is_other m) (pairs (take i es))) ++ ((pair e).0, set.difference e.paths s) ∷ []
  less_some same some =
      taken ∙ ap (λ b. less s (filter (is_other m) (pairs (take i es))) ++ less s (cond (not b) (pair e ∷ []) [])) same
      ∙ ap (λ b. less s (filter (is_other m) (pairs (take i es))) ++ cond (not b) (((pair e).0, set.difference e.paths s) ∷ []) []) some

pub not_zero : (n : ℕ) → (suc n == 0) ≡ false
not_zero n = grind arith

-- emptiness by its two words
pub empty_is : (s : PathSet) (b : Bool) → (IsTrue b ↔ (s ≡ set.empty)) → is_empty s ≡ b
empty_is s true h = ap is_empty (h.0 refl) ∙ ap (λ n. n == 0) (set.len-empty path_cmp)
empty_is s false h = by_len (set.len s) refl
  where
    by_len : (n : ℕ) → set.len s ≡ n → (set.len s == 0) ≡ false
    by_len zero is = absurd (true≢false (sym (h.1 (set.empty_of_len s is))))
    by_len (suc n) is = ap (λ k. k == 0) is ∙ not_zero n

pub entries-empty : fin.entries {X = PathSet} (fin.empty {R = manager_cmp}) ≡ []
entries-empty = none (fin.entries fin.empty) (sym (fin.len-entries fin.empty) ∙ fin.len-empty manager_cmp PathSet)
  where
    none : (es : Pairs) → length es ≡ 0 → es ≡ []
    none [] e = refl
    none (x ∷ es) e = absurd (omega arith)

pub none_have_paths : HavePaths (fin.from_entries {R = manager_cmp} [])
none_have_paths m paths is = absurd (true≢false (sym (ap is_some (sym (fin.get-from_entries manager_total [] m) ∙ is))))

-- ---- order

module _ {X Y : Type 0} where
  below-map : (f : Manager × X → Y) (k : Manager) (es : List (Manager × X)) → T (below_all manager_cmp k es) → T (below_all manager_cmp k (map (λ e. (e.0, f e)) es))
  below-map f k [] h = tt
  below-map f k (e ∷ es) h = both _ _ (fst _ _ h) (below-map f k es (snd _ _ h))

  -- other values under the same keys
  pub is_sorted-map : (f : Manager × X → Y) (es : List (Manager × X)) → T (is_sorted manager_cmp es) → T (is_sorted manager_cmp (map (λ e. (e.0, f e)) es))
  is_sorted-map f [] h = tt
  is_sorted-map f (e ∷ es) h = both _ _ (below-map f e.0 es (fst _ _ h)) (is_sorted-map f es (snd _ _ h))

module _ {X : Type 0} where
  below-filter : (p : Manager × X → Bool) (k : Manager) (es : List (Manager × X)) → T (below_all manager_cmp k es) → T (below_all manager_cmp k (filter p es))
  below-filter p k [] h = tt
  below-filter p k (e ∷ es) h =
      let rest = below-filter p k es (snd _ _ h) in
      elim (p e) as (λ b. T (below_all manager_cmp k (cond b (e ∷ filter p es) (filter p es)))) [ true ↦ both _ _ (fst _ _ h) rest | false ↦ rest ]

  pub is_sorted-filter : (p : Manager × X → Bool) (es : List (Manager × X)) → T (is_sorted manager_cmp es) → T (is_sorted manager_cmp (filter p es))
  is_sorted-filter p [] h = tt
  is_sorted-filter p (e ∷ es) h =
      let rest = is_sorted-filter p es (snd _ _ h) in
      elim (p e) as (λ b. T (is_sorted manager_cmp (cond b (e ∷ filter p es) (filter p es)))) [ true ↦ both _ _ (below-filter p e.0 es (fst _ _ h)) rest | false ↦ rest ]

  -- a sorted list is the entries of its map
  pub entries-sorted : (es : List (Manager × X)) → T (is_sorted manager_cmp es) → fin.entries (fin.from_entries {R = manager_cmp} es) ≡ es
  entries-sorted es h =
      ap fin.entries (fin.same_map manager_total manager_antisymmetric (fin.from_entries {R = manager_cmp} es) (fin.from_sorted es) (λ q. fin.get-from_entries manager_total es q ∙ sym (fin.get-from_sorted manager_cmp es q h)))
      ∙ fin.entries-from_sorted manager_cmp es h

  -- a map is made of its entries
  pub from-entries : (m : fin.FinMap manager_cmp X) → fin.from_entries (fin.entries m) ≡ m
  from-entries m = fin.same_entries_map _ _ (entries-sorted (fin.entries m) (fin.entries_sorted m))

-- ---- a manager that has no entry

abbrev pub all_other : Manager → Pairs → Bool
all_other m es = list_all (is_other m) es

all-filter : {A : Type 0} (p : A → Bool) (xs : List A) → T (list_all p (filter p xs))
all-filter p [] = tt
all-filter p (x ∷ xs) = by_test (p x) refl (all-filter p xs)
  where
    by_test : (b : Bool) → p x ≡ b → T (list_all p (filter p xs)) → T (list_all p (cond b (x ∷ filter p xs) (filter p xs)))
    by_test true is later = both _ _ (subst T (sym is) tt) later
    by_test false is later = later

-- what passes one test still does among those that pass another
all-filtered : {A : Type 0} (p q : A → Bool) (xs : List A) → T (list_all p xs) → T (list_all p (filter q xs))
all-filtered p q [] h = tt
all-filtered p q (x ∷ xs) h =
    let rest = all-filtered p q xs (snd _ _ h) in elim (q x) as (λ b. T (list_all p (cond b (x ∷ filter q xs) (filter q xs)))) [ true ↦ both _ _ (fst _ _ h) rest | false ↦ rest ]

all-keyed : (m : Manager) (s : PathSet) (es : Pairs) → T (all_other m es) → T (all_other m (map (λ e. (e.0, set.difference e.1 s)) es))
all-keyed m s [] h = tt
all-keyed m s (e ∷ es) h = both _ _ (fst _ _ h) (all-keyed m s es (snd _ _ h))

-- none of the others, less some paths, is the manager's
pub others_apart : (m : Manager) (s : PathSet) (es : Pairs) → T (all_other m (less s (filter (is_other m) es)))
others_apart m s es = all-filtered (is_other m) (λ e. not (is_empty e.1)) _ (all-keyed m s (filter (is_other m) es) (all-filter (is_other m) es))

pub others_sorted : (m : Manager) (s : PathSet) (es : Pairs) → T (is_sorted manager_cmp es) → T (is_sorted manager_cmp (less s (filter (is_other m) es)))
others_sorted m s es h = is_sorted-filter {X = PathSet} (λ e. not (is_empty e.1)) (map (λ e. (e.0, set.difference e.1 s)) (filter (is_other m) es)) (is_sorted-map (λ e. set.difference e.1 s) (filter (is_other m) es) (is_sorted-filter (is_other m) es h))

-- the rank is the place at which an entry is put
pub put_rank : (m : Manager) (s : PathSet) (es : Pairs) → T (all_other m es) → insert es (rank m es) (m, s) ≡ put manager_cmp m s es
put_rank m s [] h = refl
put_rank m s (e ∷ es) h = by_order (manager_cmp m e.0) refl (put_rank m s es (snd _ _ h))
  where
    by_order : (o : Ordering) → manager_cmp m e.0 ≡ o → insert es (rank m es) (m, s) ≡ put manager_cmp m s es
        → insert (e ∷ es) (match_ordering o 0 0 (suc (rank m es))) (m, s) ≡ match_ordering o ((m, s) ∷ e ∷ es) ((e.0, s) ∷ es) (e ∷ put manager_cmp m s es)
    by_order Less is later = refl
    by_order Equal is later = absurd (subst T (ap (λ o. not (is_eq o)) is) (fst _ _ h))
    by_order Greater is later = ap (λ l. e ∷ l) later

pub rank_within : (m : Manager) (es : Pairs) → rank m es ≤ length es
rank_within m [] = omega arith
rank_within m (e ∷ es) = by_order (manager_cmp m e.0) (rank_within m es)
  where
    by_order : (o : Ordering) → rank m es ≤ length es → match_ordering o 0 0 (suc (rank m es)) ≤ suc (length es)
    by_order Less later = omega arith
    by_order Equal later = omega arith
    by_order Greater later = omega (arith, later)

pub length-pairs : (es : List Entry) → length (pairs es) ≡ length es
length-pairs es = length-map es pair

pub pairs-insert : (es : List Entry) (i : ℕ) (e : Entry) → pairs (insert es i e) ≡ insert (pairs es) i (pair e)
pairs-insert es i e = map-append pair (take i es) (e ∷ drop i es) ∙ ap₂ (λ xs ys. xs ++ pair e ∷ ys) (sym (take-map pair i es)) (sym (drop-map pair i es))

-- ---- the two ways in which the manager's entry comes in
pub owners_with : (w : fin.FinMap manager_cmp PathSet) (m : Manager) (lost mine : PathSet) (l es : Pairs) → l ≡ less lost (filter (is_other m) (fin.entries w)) → es ≡ insert l (rank m l) (m, mine)
    → es ≡ fin.entries (fin.insert (fin.from_entries {R = manager_cmp} (less lost (filter (is_other m) (fin.entries w)))) m mine)
owners_with w m lost mine l es is put_in =
    let sorted = others_sorted m lost (fin.entries w) (fin.entries_sorted w) in
    let base = less lost (filter (is_other m) (fin.entries w)) in
    put_in ∙ ap (λ x. insert x (rank m x) (m, mine)) is ∙ put_rank m mine base (others_apart m lost (fin.entries w))
    ∙ sym (fin.entries-insert manager_total (fin.from_entries base) m mine ∙ ap (put manager_cmp m mine) (entries-sorted base sorted))

pub owners_left : (w : fin.FinMap manager_cmp PathSet) (m : Manager) (lost mine : PathSet) (l es : Pairs) → l ≡ less lost (filter (is_other m) (fin.entries w)) → es ≡ l → is_empty mine ≡ true
    → es ≡ fin.entries (taken_over w m lost mine)
unfolding taken_over with_owner others
owners_left w m lost mine l es is same none =
    let base = less lost (filter (is_other m) (fin.entries w)) in
    same ∙ is ∙ sym (ap (λ b. fin.entries (cond b (fin.from_entries {R = manager_cmp} base) (fin.insert (fin.from_entries base) m mine))) none ∙ entries-sorted base (others_sorted m lost (fin.entries w) (fin.entries_sorted w)))

pub owners_more : (w : fin.FinMap manager_cmp PathSet) (m : Manager) (lost mine : PathSet) (l es : Pairs) → l ≡ less lost (filter (is_other m) (fin.entries w)) → es ≡ insert l (rank m l) (m, mine) → is_empty mine ≡ false
    → es ≡ fin.entries (taken_over w m lost mine)
unfolding taken_over with_owner others
owners_more w m lost mine l es is put_in some =
    let base = less lost (filter (is_other m) (fin.entries w)) in
    owners_with w m lost mine l es is put_in ∙ sym (ap (λ b. fin.entries (cond b (fin.from_entries {R = manager_cmp} base) (fin.insert (fin.from_entries base) m mine))) some)
