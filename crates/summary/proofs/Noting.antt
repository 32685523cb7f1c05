-- What is summed up, after a notice.
use Rattle.std.proofs.Common.{◌≡◌, ℕ, zero, suc, ◌+◌, ◌-◌, ◌<◌, ◌≤◌, ◌^◌, Bool, true, false, cond, List, [], ◌∷◌, length, filter, Option, Some, None, is_some, add-one, refl, sym, ap, ap₂, ◌∙◌, arith}
use Rattle.std.specs.Cmp.Lexicographic.{nat_list_cmp_total}
use Rattle.std.specs.FinMap as fin
use Rattle.std.specs.Ordering.{eq_by_cmp}
use Rattle.indexer.specs.Objects.{Stored}
use Rattle.reflector.specs.Client.{Objects, Notice, added, updated, deleted}
use Rattle.reflector.specs.ReplayLaws.{with_notice, OldSideMatches}
use Rattle.summary.specs.Counts.{value_of, is_value, has, is_labelled, how_many, count, total, Counts, counts_of, some_if_any, Summed, summed_of, one_if, counted}
use Rattle.summary.specs.Steps.{more, one_more, with_one_more, with_left, less_one, with_one_less, with_value, without_value, noted}
use Rattle.summary.proofs.ByValue.{text_cmp, text_antisymmetric, ties, same_key, counts_get}
use Rattle.summary.proofs.HowMany.{none_counted, notice_counted}

-- these are the counts
abbrev Says : Counts → (List ℕ → ℕ) → Type 0
Says m c = (q : List ℕ) → fin.get m q ≡ some_if_any (c q)

-- ---- one more

counts_with : Counts → Option (List ℕ) → Counts
counts_with m None = m
counts_with m (Some v) = with_one_more m v

small : (n : ℕ) → n < 2 ^ 64 - 1 → more n ≡ n + 1
small n lt = omega (arith, lt)

some_next : (n : ℕ) → Some (n + 1) ≡ some_if_any (n + 1)
some_next n = rw add-one refl

next_one : (n : ℕ) → n < 2 ^ 64 - 1 → Some (one_more (some_if_any n)) ≡ some_if_any (n + 1)
next_one zero lt = refl
next_one (suc n) lt = ap Some (small (suc n) lt) ∙ some_next (suc n)

no_more : (n : ℕ) → some_if_any n ≡ some_if_any (n + 0)
no_more n = ap some_if_any (omega arith)

says_with : (m : Counts) (c : List ℕ → ℕ) (o : Option (List ℕ)) → Says m c → ((q : List ℕ) → c q < 2 ^ 64 - 1) → Says (counts_with m o) (λ q. c q + one_if (is_value q o))
unfolding counts_with
says_with m c None says fits q = says q ∙ no_more (c q)
says_with m c (Some v) says fits q =
    fin.get-insert nat_list_cmp_total m v (one_more (fin.get m v)) q ∙ ap (λ o. cond (eq_by_cmp text_cmp q v) (Some (one_more o)) (fin.get m q)) (says v)
    ∙ go (eq_by_cmp text_cmp q v) refl ∙ ap (λ t. some_if_any (c q + one_if t)) (ties v q)
  where
    go : (t : Bool) → eq_by_cmp text_cmp q v ≡ t → cond t (Some (one_more (some_if_any (c v)))) (fin.get m q) ≡ some_if_any (c q + one_if t)
    go true is = next_one (c v) (fits v) ∙ ap (λ w. some_if_any (c w + 1)) (same_key v q is)
    go false is = says q ∙ no_more (c q)

-- ---- one less

counts_without : Counts → Option (List ℕ) → Counts
counts_without m None = m
counts_without m (Some v) = with_one_less m v

abbrev fewer : Option ℕ → Option ℕ
fewer None = None
fewer (Some n) = some_if_any (n - 1)

get_left : (m : Counts) (v q : List ℕ) (k : ℕ) → fin.get (with_left m v k) q ≡ cond (eq_by_cmp text_cmp q v) (some_if_any k) (fin.get m q)
get_left m v q zero = fin.get-remove nat_list_cmp_total m v q
get_left m v q (suc k) = fin.get-insert nat_list_cmp_total m v (suc k) q

get_less : (m : Counts) (v q : List ℕ) (o : Option ℕ) → fin.get m v ≡ o → fin.get (less_one m v o) q ≡ cond (eq_by_cmp text_cmp q v) (fewer o) (fin.get m q)
get_less m v q None is = go (eq_by_cmp text_cmp q v) refl
  where
    go : (t : Bool) → eq_by_cmp text_cmp q v ≡ t → fin.get m q ≡ cond t None (fin.get m q)
    go true e = ap (fin.get m) (sym (same_key v q e)) ∙ is
    go false e = refl
get_less m v q (Some n) is = get_left m v q (n - 1)

one_fewer : (n : ℕ) → fewer (some_if_any n) ≡ some_if_any (n - 1)
one_fewer zero = refl
one_fewer (suc n) = refl

no_fewer : (n : ℕ) → some_if_any n ≡ some_if_any (n - 0)
no_fewer n = ap some_if_any (omega arith)

says_without : (m : Counts) (c : List ℕ → ℕ) (o : Option (List ℕ)) → Says m c → Says (counts_without m o) (λ q. c q - one_if (is_value q o))
unfolding counts_without
says_without m c None says q = says q ∙ no_fewer (c q)
says_without m c (Some v) says q =
    get_less m v q (fin.get m v) refl ∙ ap (λ o. cond (eq_by_cmp text_cmp q v) (fewer o) (fin.get m q)) (says v)
    ∙ go (eq_by_cmp text_cmp q v) refl ∙ ap (λ t. some_if_any (c q - one_if t)) (ties v q)
  where
    go : (t : Bool) → eq_by_cmp text_cmp q v ≡ t → cond t (fewer (some_if_any (c v))) (fin.get m q) ≡ some_if_any (c q - one_if t)
    go true is = one_fewer (c v) ∙ ap (λ w. some_if_any (c w - 1)) (same_key v q is)
    go false is = says q ∙ no_fewer (c q)

-- ---- the whole summary

abbrev made : List ℕ → Counts → ℕ → Summed
made label counts total = record { label = label; counts = counts; total = total }

total_with : ℕ → Option (List ℕ) → ℕ
total_with n None = n
total_with n (Some v) = more n

total_without : ℕ → Option (List ℕ) → ℕ
total_without n None = n
total_without n (Some v) = n - 1

with_is : (label : List ℕ) (m : Counts) (n : ℕ) (o : Option (List ℕ)) → with_value (made label m n) o ≡ made label (counts_with m o) (total_with n o)
unfolding counts_with total_with
with_is label m n None = refl
with_is label m n (Some v) = refl

without_is : (label : List ℕ) (m : Counts) (n : ℕ) (o : Option (List ℕ)) → without_value (made label m n) o ≡ made label (counts_without m o) (total_without n o)
unfolding counts_without total_without
without_is label m n None = refl
without_is label m n (Some v) = refl

total_more : (n : ℕ) (o : Option (List ℕ)) → n < 2 ^ 64 - 1 → total_with n o ≡ n + one_if (is_some o)
unfolding total_with
total_more n None lt = omega arith
total_more n (Some v) lt = small n lt

total_fewer : (n : ℕ) (o : Option (List ℕ)) → total_without n o ≡ n - one_if (is_some o)
unfolding total_without
total_fewer n None = omega arith
total_fewer n (Some v) = refl

at_most : {A : Type 0} (p : A → Bool) (xs : List A) → length (filter p xs) ≤ length xs
at_most p [] = omega arith
at_most p (x ∷ xs) = go (p x) (at_most p xs)
  where
    go : (b : Bool) → length (filter p xs) ≤ length xs → length (cond b (x ∷ filter p xs) (filter p xs)) ≤ suc (length xs)
    go true h = omega (arith, h)
    go false h = omega (arith, h)

module _ (label : List ℕ) (o : Objects) (n : Notice) (old : OldSideMatches o n) (lt : fin.len o < 2 ^ 63) where
  fits : (test : Stored → Bool) → how_many test o < 2 ^ 64 - 1
  fits test =
      let all : fin.len o ≡ length (fin.entries o) = fin.len-entries o in
      omega (arith, lt, all, at_most (λ e. test e.1) (fin.entries o))

  -- these are the counts of the objects after the notice
  same_counts : (m : Counts) → Says m (λ q. counted (has label q) (count label q o) n) → m ≡ counts_of label (with_notice o n)
  same_counts m says = fin.same_map nat_list_cmp_total text_antisymmetric m (counts_of label (with_notice o n)) (λ q.
      says q ∙ ap some_if_any (sym (notice_counted (has label q) o n old)) ∙ sym (counts_get label q (with_notice o n)))

  same_total : (t : ℕ) → t ≡ counted (is_labelled label) (total label o) n → t ≡ total label (with_notice o n)
  same_total t is = is ∙ sym (notice_counted (is_labelled label) o n old)

  both : (m : Counts) (t : ℕ) → Says m (λ q. counted (has label q) (count label q o) n) → t ≡ counted (is_labelled label) (total label o) n → made label m t ≡ summed_of label (with_notice o n)
  both m t says is = ap₂ (λ m t. made label m t) (same_counts m says) (same_total t is)

pub summed_noted : (label : List ℕ) (o : Objects) (n : Notice) → OldSideMatches o n → fin.len o < 2 ^ 63 → noted (summed_of label o) n ≡ summed_of label (with_notice o n)
summed_noted label o (added new) old lt =
    let m = counts_of label o in
    let v = value_of label new in
    with_is label m (total label o) v
    ∙ both label o (added new) old lt (counts_with m v) (total_with (total label o) v) (says_with m (λ q. count label q o) v (λ q. counts_get label q o) (λ q. fits label o (added new) old lt (has label q))) (total_more (total label o) v (fits label o (added new) old lt (is_labelled label)))
summed_noted label o (updated was new) old lt =
    let m = counts_of label o in
    let t = total label o in
    let v = value_of label new in
    let w = value_of label was in
    let more_says = says_with m (λ q. count label q o) v (λ q. counts_get label q o) (λ q. fits label o (updated was new) old lt (has label q)) in
    ap (λ (s : Summed). without_value s (value_of s.label was)) (with_is label m t v)
    ∙ without_is label (counts_with m v) (total_with t v) w
    ∙ both label o (updated was new) old lt (counts_without (counts_with m v) w) (total_without (total_with t v) w)
    (says_without (counts_with m v) (λ q. count label q o + one_if (has label q new)) w more_says)
    (total_fewer (total_with t v) w ∙ ap (λ k. k - one_if (is_some w)) (total_more t v (fits label o (updated was new) old lt (is_labelled label))))
summed_noted label o (deleted was) old lt =
    let m = counts_of label o in
    let w = value_of label was in
    without_is label m (total label o) w
    ∙ both label o (deleted was) old lt (counts_without m w) (total_without (total label o) w) (says_without m (λ q. count label q o) w (λ q. counts_get label q o)) (total_fewer (total label o) w)

-- ---- nothing

pub none_summed : (label : List ℕ) (m : Counts) → ((q : List ℕ) → fin.get m q ≡ None) → made label m 0 ≡ summed_of label fin.empty
none_summed label m none = ap₂ (λ m t. made label m t)
    (fin.same_map nat_list_cmp_total text_antisymmetric m (counts_of label fin.empty) (λ q. none q ∙ ap some_if_any (sym (none_counted (has label q))) ∙ sym (counts_get label q fin.empty)))
    (sym (none_counted (is_labelled label)))
