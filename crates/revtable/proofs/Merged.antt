-- The changes of the rows of changes are those changes.
use Rattle.std.proofs.Common.{◌≡◌, ℕ, suc, zero, ◌<◌, Bool, true, false, cond, not, List, [], ◌∷◌, ◌++◌, map, filter, refl, sym, ap, ap₂, subst, ◌∙◌, Option, Some, None, arith, true≢false, is_some, is_gt, is_lt, IsPermutation, IsSorted, Less, Equal, Greater, Ordering, append_assoc}
use Rattle.std.proofs.Common.{add-one}
use Rattle.std.specs.Prelude.{is_none}
use Rattle.std.specs.Ordering.{ordering_reverse}
use Rattle.std.specs.Cmp.{IsTotalOrder, nat_cmp_total, on_total}
use Rattle.std.specs.List.{AllByRecursion, flat_map}
use Rattle.std.specs.FinMap as fin
use Rattle.std.proofs.lemmas.Cmp.{upto}
use Rattle.std.proofs.lemmas.Bool.Decides.{nat_tests}
use Rattle.std.proofs.lemmas.List.Sorted.{IsPermutation-refl, IsPermutation-sym, IsPermutation-trans, IsPermutation-cons, IsPermutation-middle, IsPermutation-append_left, IsPermutation-append_right, IsPermutation-append_comm, IsPermutation-filter_both}
use Rattle.sqlite.specs.Tree.{IsAscending}
use Rattle.sqlite_keyed.specs.Lists.{insert_sorted, sort_by}
use Rattle.sqlite_keyed.proofs.ListLemmas.{IsPermutation-same, filter-filter, all_weaker}
use Rattle.sqlite_keyed.proofs.SortLemmas.{sorted_unique, IsPermutation-sort_by}
use Rattle.history.specs.History.{Key, Objects, Change, IsRising, is_same_key, key_cmp, left_by, object_by, put_or_remove}
use Rattle.history.specs.Whole.{AreThere}
use Rattle.history.proofs.Keys.{get-put_or_remove, tied}
use Rattle.history.proofs.Revisions.{all_above}
use Rattle.revtable.specs.Spans.{Span, by_revision, changes_in, deletion_by, made_by, next_of, span_until, spans_of, spans_until}
use Rattle.revtable.proofs.Nexts.{key_itself, made_until, next-cons}

-- ---- a list that is sorted

module _ {X : Type 0} (cmp : X → X → Ordering) (total : IsTotalOrder cmp) where
  abbrev AtMost : X → X → Type 0
  AtMost a b = is_gt (cmp a b) ≡ false

  not_above : (o : Ordering) → is_gt o ≡ true → is_gt (ordering_reverse o) ≡ false
  not_above Less e = absurd (true≢false (sym e))
  not_above Equal e = absurd (true≢false (sym e))
  not_above Greater e = refl

  not_below : (o : Ordering) → is_gt o ≡ false → is_lt (ordering_reverse o) ≡ false
  not_below Less e = refl
  not_below Equal e = refl
  not_below Greater e = absurd (true≢false e)

  all-insert : (P : X → Type 0) (new : X) (xs : List X) → P new → AllByRecursion P xs → AllByRecursion P (insert_sorted cmp new xs)
  all-insert P new [] h all = (h, tt)
  all-insert P new (x ∷ xs) h all = go (is_gt (cmp new x)) (all-insert P new xs h all.1)
    where
      go : (b : Bool) → AllByRecursion P (insert_sorted cmp new xs) → AllByRecursion P (cond b (x ∷ insert_sorted cmp new xs) (new ∷ x ∷ xs))
      go true more = (all.0, more)
      go false more = (h, all)

  up-insert : (new : X) (xs : List X) → IsAscending AtMost xs → IsAscending AtMost (insert_sorted cmp new xs)
  up-insert new [] up = (tt, tt)
  up-insert new (x ∷ xs) up = go (is_gt (cmp new x)) refl (up-insert new xs up.1)
    where
      go : (b : Bool) → is_gt (cmp new x) ≡ b → IsAscending AtMost (insert_sorted cmp new xs) → IsAscending AtMost (cond b (x ∷ insert_sorted cmp new xs) (new ∷ x ∷ xs))
      go true e more = (all-insert (AtMost x) new xs (ap is_gt (total.antisymm x new) ∙ not_above (cmp new x) e) up.0, more)
      go false e more = ((e, all_weaker (AtMost x) (AtMost new) (λ y. upto total new x y e) xs up.0), up)

  up-sort_by : (xs : List X) → IsAscending AtMost (sort_by cmp xs)
  up-sort_by [] = tt
  up-sort_by (x ∷ xs) = up-insert x (sort_by cmp xs) (up-sort_by xs)

  sorted_from_up : (xs : List X) → IsAscending AtMost xs → IsSorted cmp xs
  sorted_from_up [] up k d low high = absurd (omega arith)
  sorted_from_up (x ∷ []) up k d low high = absurd (omega arith)
  sorted_from_up (x ∷ y ∷ ys) up zero d low high = ap is_lt (total.antisymm y x) ∙ not_below (cmp x y) up.0.0
  sorted_from_up (x ∷ y ∷ ys) up (suc k) d low high = rw add-one (rw add-one at (sorted_from_up (y ∷ ys) up.1 k d (omega arith) (omega arith)))

  pub sorted-sort_by : (xs : List X) → IsSorted cmp (sort_by cmp xs)
  sorted-sort_by xs = sorted_from_up (sort_by cmp xs) (up-sort_by xs)

pub by_revision_total : IsTotalOrder by_revision
by_revision_total = on_total (λ (c : Change). c.revision) nat_cmp_total

lower : (a b : Change) → a.revision < b.revision → by_revision a b ≡ Less
lower a b lt = grind (arith, nat_tests)

pub rising_up : (lo top : ℕ) (cs : List Change) → IsRising lo cs top → IsAscending (λ a b. by_revision a b ≡ Less) cs
rising_up lo top [] rise = tt
rising_up lo top (c ∷ cs) rise = (all_weaker (λ d. c.revision < d.revision) (λ d. by_revision c d ≡ Less) (λ d. lower c d) cs (all_above c.revision top cs rise.1), rising_up c.revision top cs rise.1)

-- ---- the first deletion of each key that no change of the key comes before

abbrev first_deletion : Option Change → List Change
first_deletion None = []
first_deletion (Some n) = cond (is_none n.body) (n ∷ []) []

abbrev apart : Key → List Change → List Change
apart k = filter (λ d. not (is_same_key k d.key))

abbrev of_key : Key → List Change → List Change
of_key k = filter (λ d. is_same_key k d.key)

abbrev firsts_by : Change → Option (List ℕ) → List Change → List Change
firsts_by c None hs = c ∷ hs
firsts_by c (Some b) hs = hs

abbrev first_deletions : List Change → List Change
first_deletions [] = []
first_deletions (c ∷ cs) = firsts_by c c.body (apart c.key (first_deletions cs))

none_of : (k : Key) (hs : List Change) → of_key k (apart k hs) ≡ []
none_of k [] = refl
none_of k (h ∷ hs) = go (is_same_key k h.key) refl (none_of k hs)
  where
    go : (b : Bool) → is_same_key k h.key ≡ b → of_key k (apart k hs) ≡ [] → of_key k (cond (not b) (h ∷ apart k hs) (apart k hs)) ≡ []
    go true e more = more
    go false e more = ap (λ b. cond b (h ∷ of_key k (apart k hs)) (of_key k (apart k hs))) e ∙ more

others_too : (k q : Key) (hs : List Change) → is_same_key k q ≡ false → of_key k (apart q hs) ≡ of_key k hs
others_too k q hs e = filter-filter (λ d. is_same_key k d.key) (λ d. not (is_same_key q d.key)) (λ d here. go d here (is_same_key q d.key) refl) hs
  where
    go : (d : Change) → is_same_key k d.key ≡ true → (b : Bool) → is_same_key q d.key ≡ b → not b ≡ true
    go d here true there = absurd (true≢false (sym (key_itself k) ∙ ap (is_same_key k) (tied k d.key here ∙ sym (tied q d.key there)) ∙ e))
    go d here false there = refl

pub firsts_of : (k : Key) (cs : List Change) → of_key k (first_deletions cs) ≡ first_deletion (next_of k cs)
firsts_of k [] = refl
firsts_of k (d ∷ cs) = go (is_same_key k d.key) refl d.body refl (firsts_of k cs) ∙ ap first_deletion (sym (next-cons k d cs))
  where
    rest : is_same_key k d.key ≡ true → of_key k (apart d.key (first_deletions cs)) ≡ []
    rest e = ap (λ q. of_key k (apart q (first_deletions cs))) (sym (tied k d.key e)) ∙ none_of k (first_deletions cs)

    go : (s : Bool) → is_same_key k d.key ≡ s → (b : Option (List ℕ)) → d.body ≡ b → of_key k (first_deletions cs) ≡ first_deletion (next_of k cs)
        → of_key k (firsts_by d b (apart d.key (first_deletions cs))) ≡ first_deletion (cond s (Some d) (next_of k cs))
    go true e None is more = ap (λ t. cond t (d ∷ of_key k (apart d.key (first_deletions cs))) (of_key k (apart d.key (first_deletions cs)))) e ∙ ap (λ l. d ∷ l) (rest e) ∙ ap (λ b. cond (is_none b) (d ∷ []) []) (sym is)
    go true e (Some b) is more = rest e ∙ ap (λ o. cond (is_none o) (d ∷ []) []) (sym is)
    go false e None is more = ap (λ t. cond t (d ∷ of_key k (apart d.key (first_deletions cs))) (of_key k (apart d.key (first_deletions cs)))) e ∙ others_too k d.key (first_deletions cs) e ∙ more
    go false e (Some b) is more = others_too k d.key (first_deletions cs) e ∙ more

-- where nothing stands under a key, its next change is no deletion
pub no_deletion : (s : Objects) (k : Key) (cs : List Change) → AreThere s cs → fin.contains_key s k ≡ false → first_deletion (next_of k cs) ≡ []
no_deletion s k [] there none = refl
no_deletion s k (d ∷ cs) there none = ap first_deletion (next-cons k d cs) ∙ go (is_same_key k d.key) refl d.body refl (no_deletion (put_or_remove s d.key (left_by d)) k cs there.1)
  where
    go : (b : Bool) → is_same_key k d.key ≡ b → (o : Option (List ℕ)) → d.body ≡ o
        → (fin.contains_key (put_or_remove s d.key (left_by d)) k ≡ false → first_deletion (next_of k cs) ≡ []) → first_deletion (cond b (Some d) (next_of k cs)) ≡ []
    go true e None is more = absurd (true≢false (sym (there.0 is) ∙ ap (fin.contains_key s) (sym (tied k d.key e)) ∙ none))
    go true e (Some b) is more = ap (λ o. cond (is_none o) (d ∷ []) []) is
    go false e o is more = more (ap is_some (get-put_or_remove s d.key (left_by d) k ∙ ap (λ b. cond b (left_by d) (fin.get s k)) e) ∙ none)

-- ---- the changes are those that the rows began with, those that they ended with, and these

next_key : (k : Key) (cs : List Change) (n : Change) → next_of k cs ≡ Some n → is_same_key k n.key ≡ true
next_key k [] n e = absurd cc
next_key k (d ∷ cs) n e = go (is_same_key k d.key) refl (sym (next-cons k d cs) ∙ e) (λ h. next_key k cs n h)
  where
    same_change : ◌≡◌ {A = Option Change} (Some d) (Some n) → d ≡ n
    same_change e = cc

    go : (b : Bool) → is_same_key k d.key ≡ b → cond b (Some d) (next_of k cs) ≡ Some n → (next_of k cs ≡ Some n → is_same_key k n.key ≡ true) → is_same_key k n.key ≡ true
    go true h is more = subst (λ (x : Change). is_same_key k x.key ≡ true) (same_change is) h
    go false h is more = more is

ends_with : (k : Key) (r : ℕ) (body : List ℕ) (n : Option Change) → ((x : Change) → n ≡ Some x → is_same_key k x.key ≡ true) → deletion_by (span_until k r body n) ≡ first_deletion n
ends_with k r body None same = refl
ends_with k r body (Some n) same = go n.body refl
  where
    go : (b : Option (List ℕ)) → n.body ≡ b → deletion_by (record { first = r; key = k; ended = Some n.revision; gone = is_none b; body = body }) ≡ cond (is_none b) (n ∷ []) []
    go None e = ap (λ q. record { revision = n.revision; key = q; body = None } ∷ []) (tied k n.key (same n refl)) ∙ ap (λ b. record { revision = n.revision; key = n.key; body = b } ∷ []) (sym e)
    go (Some b) e = refl

abbrev both : List Span → List Change
both spans = map made_by spans ++ flat_map deletion_by spans

shuffled : (m f e h : List Change) → IsPermutation ((m ++ e) ++ (f ++ h)) ((m ++ (f ++ e)) ++ h)
shuffled m f e h =
    IsPermutation-trans _ _ _ (IsPermutation-same _ _ (append_assoc m e (f ++ h) ∙ ap (λ l. m ++ l) (sym (append_assoc e f h))))
    (IsPermutation-trans _ _ _ (IsPermutation-append_right m _ _ (IsPermutation-append_left h _ _ (IsPermutation-append_comm e f)))
    (IsPermutation-same _ _ (sym (append_assoc m (f ++ e) h))))

none_left : (p : Change → Bool) (xs : List Change) → filter p xs ≡ [] → filter (λ x. not (p x)) xs ≡ xs
none_left p [] e = refl
none_left p (x ∷ xs) e = go (p x) e (none_left p xs)
  where
    go : (b : Bool) → cond b (x ∷ filter p xs) (filter p xs) ≡ [] → (filter p xs ≡ [] → filter (λ y. not (p y)) xs ≡ xs) → cond (not b) (x ∷ filter (λ y. not (p y)) xs) (filter (λ y. not (p y)) xs) ≡ x ∷ xs
    go true none more = absurd cc
    go false none more = ap (λ l. x ∷ l) (more none)

changes_are : (s : Objects) (cs : List Change) → AreThere s cs → IsPermutation cs (both (spans_of cs) ++ first_deletions cs)
changes_are s [] there = IsPermutation-refl []
changes_are s (c ∷ cs) there = go c.body refl (changes_are (put_or_remove s c.key (left_by c)) cs there.1)
  where
    ss : List Span
    ss = spans_of cs

    hs : List Change
    hs = first_deletions cs

    gone : c.body ≡ None → apart c.key hs ≡ hs
    gone none = none_left (λ d. is_same_key c.key d.key) hs (firsts_of c.key cs ∙ no_deletion (put_or_remove s c.key (left_by c)) c.key cs there.1
        (ap is_some (get-put_or_remove s c.key (left_by c) c.key ∙ ap₂ (λ b o. cond b o (fin.get s c.key)) (key_itself c.key) (ap (object_by c.revision) none))))

    go : (b : Option (List ℕ)) → c.body ≡ b → IsPermutation cs (both ss ++ hs) → IsPermutation (c ∷ cs) (both (spans_until c.key c.revision b (next_of c.key cs) ++ ss) ++ firsts_by c b (apart c.key hs))
    go None e more =
        IsPermutation-trans _ _ _ (IsPermutation-cons c _ _ more)
        (IsPermutation-trans _ _ _ (IsPermutation-sym _ _ (IsPermutation-middle (both ss) c hs)) (IsPermutation-same _ _ (ap (λ l. both ss ++ c ∷ l) (sym (gone e)))))
    go (Some body) e more =
        let n = next_of c.key cs in
        let x = span_until c.key c.revision body n in
        let f = of_key c.key hs in
        let ends : deletion_by x ≡ f = ends_with c.key c.revision body n (λ d is. next_key c.key cs d is) ∙ sym (firsts_of c.key cs) in
        let parted : IsPermutation (both ss ++ hs) (both ss ++ (f ++ apart c.key hs)) = IsPermutation-append_right (both ss) _ _ (IsPermutation-filter_both (λ d. is_same_key c.key d.key) (λ d. not (is_same_key c.key d.key)) (λ d. refl) hs) in
        let all : IsPermutation cs ((map made_by ss ++ (f ++ flat_map deletion_by ss)) ++ apart c.key hs) =
        IsPermutation-trans _ _ _ more (IsPermutation-trans _ _ _ parted (shuffled (map made_by ss) f (flat_map deletion_by ss) (apart c.key hs))) in
        IsPermutation-trans _ _ _ (IsPermutation-cons c _ _ all)
        (IsPermutation-same _ _ (ap₂ (λ y l. (y ∷ map made_by ss ++ (l ++ flat_map deletion_by ss)) ++ apart c.key hs) (sym (made_until c body n e)) (sym ends)))

none_first : (cs : List Change) → ((k : Key) → of_key k cs ≡ []) → cs ≡ []
none_first [] h = refl
none_first (c ∷ cs) h = absurd (let e = ap (λ b. cond b (c ∷ of_key c.key cs) (of_key c.key cs)) (sym (key_itself c.key)) ∙ h c.key in cc)

append-none : (xs : List Change) → xs ++ [] ≡ xs
append-none [] = refl
append-none (x ∷ xs) = ap (λ l. x ∷ l) (append-none xs)

-- the changes are those that the rows began and ended with
pub changes_of_rows : (cs : List Change) → AreThere fin.empty cs → IsPermutation cs (both (spans_of cs))
changes_of_rows cs there =
    let none = none_first (first_deletions cs) (λ k. firsts_of k cs ∙ no_deletion fin.empty k cs there (ap is_some (fin.get-empty key_cmp k))) in
    IsPermutation-trans _ _ _ (changes_are fin.empty cs there) (IsPermutation-same _ _ (ap (λ l. both (spans_of cs) ++ l) none ∙ append-none (both (spans_of cs))))

pub changes_back : (lo top : ℕ) (cs : List Change) → IsRising lo cs top → AreThere fin.empty cs → changes_in (spans_of cs) ≡ cs
changes_back lo top cs rise there =
    sorted_unique by_revision by_revision_total cs (changes_in (spans_of cs)) (rising_up lo top cs rise)
    (IsPermutation-trans _ _ _ (changes_of_rows cs there) (IsPermutation-sym _ _ (IsPermutation-sort_by by_revision by_revision_total (both (spans_of cs)))))
    (sorted-sort_by by_revision by_revision_total (both (spans_of cs)))
