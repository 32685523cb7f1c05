-- That two states are one exactly where they are equal.
use Rattle.std.proofs.Common.{◌≡◌, Bool, true, false, not, ◌&&◌, List, [], ◌∷◌, length, Option, Some, None, is_some, refl, sym, ap, ap₂, ◌∙◌, true≢false, ◌↔◌}
use Rattle.std.specs.FinMap as fin
use Rattle.std.specs.FinSet as set
use Rattle.std.specs.FinMap.{int_cmp-IsAntisymmetric}
use Rattle.std.specs.Ordering.{int_cmp, is_eq}
use Rattle.std.specs.Cmp.{Equal-is, tied_itself, int_cmp_total}
use Rattle.std.specs.Cmp.Lexicographic.{bytes_decides}
use Rattle.fieldpath.specs.Paths.{PathTexts}
use Rattle.pathmap.specs.Contents.{LeafValue, text, whole, truth, plain, mark, Content, PathSet}
use Rattle.pathmap.specs.Beside.{same_leaf_value, same_value, changed, is_unchanged, is_within}
use Rattle.pathmap.proofs.Contents.{path_cmp_total, same}
use Rattle.pathmap.proofs.Sets.{same_paths, contains-changed, has_no_path, without_path, within_at}
use Rattle.objects.specs.Owners.{Manager, is_same}
use Rattle.objects.specs.State.{State}
use Rattle.objects.specs.Managers.{pairs}
use Rattle.objects.specs.declared.managers.Entry.{Entry}
use Rattle.ownership.specs.Sameness.{same_entry, same_entries, same_content, same_state}
use Rattle.objects.proofs.Entries.{length-pairs}
use Rattle.objects.proofs.Within.{left_true, right_true, both_true, none_left, same_manager-is, same_manager-itself}

-- ---- values
pub same_leaf_value-is : (v w : LeafValue) → same_leaf_value v w ≡ true → v ≡ w
same_leaf_value-is (text s) (text t) e = ap text ((bytes_decides s t).0 e)
same_leaf_value-is (whole n) (whole m) e = ap whole (int_cmp-IsAntisymmetric n m ((Equal-is (int_cmp n m)).0 e))
same_leaf_value-is (truth true) (truth true) e = refl
same_leaf_value-is (truth true) (truth false) e = absurd (true≢false (sym e))
same_leaf_value-is (truth false) (truth true) e = absurd (true≢false (sym e))
same_leaf_value-is (truth false) (truth false) e = refl
same_leaf_value-is (plain s) (plain t) e = ap plain ((bytes_decides s t).0 e)
same_leaf_value-is mark mark e = refl
same_leaf_value-is _ _ e = absurd (true≢false (sym e))

pub same_leaf_value-itself : (v : LeafValue) → same_leaf_value v v ≡ true
same_leaf_value-itself (text s) = (bytes_decides s s).1 refl
same_leaf_value-itself (whole n) = ap is_eq (tied_itself int_cmp_total n)
same_leaf_value-itself (truth true) = refl
same_leaf_value-itself (truth false) = refl
same_leaf_value-itself (plain s) = (bytes_decides s s).1 refl
same_leaf_value-itself mark = refl

pub same_value-is : (a b : Option LeafValue) → same_value a b ≡ true → a ≡ b
same_value-is None None e = refl
same_value-is None (Some w) e = absurd (true≢false (sym e))
same_value-is (Some v) None e = absurd (true≢false (sym e))
same_value-is (Some v) (Some w) e = ap Some (same_leaf_value-is v w e)

pub same_value-itself : (a : Option LeafValue) → same_value a a ≡ true
same_value-itself None = refl
same_value-itself (Some v) = same_leaf_value-itself v

-- ---- contents
unchanged_both : (a b : Option LeafValue) → (is_some a && not (same_value a b)) ≡ false → (is_some b && not (same_value b a)) ≡ false → a ≡ b
unchanged_both None None e f = refl
unchanged_both None (Some w) e f = absurd (true≢false f)
unchanged_both (Some v) None e f = absurd (true≢false e)
unchanged_both (Some v) (Some w) e f = ap Some (same_leaf_value-is v w (none_left (same_leaf_value v w) e))

unchanged_at : (c d : Content) → is_unchanged c d ≡ true → (q : PathTexts) → (is_some (fin.get c q) && not (same_value (fin.get c q) (fin.get d q))) ≡ false
unchanged_at c d e q = sym (contains-changed c d q) ∙ has_no_path (changed c d) e q

pub same_content-is : (c d : Content) → same_content c d ≡ true → c ≡ d
same_content-is c d e = same c d (λ q. unchanged_both (fin.get c q) (fin.get d q) (unchanged_at c d (left_true (is_unchanged c d) _ e) q) (unchanged_at d c (right_true (is_unchanged c d) _ e) q))

itself_unchanged : (a : Option LeafValue) → (is_some a && not (same_value a a)) ≡ false
itself_unchanged None = refl
itself_unchanged (Some v) = ap not (same_leaf_value-itself v)

pub unchanged-itself : (c : Content) → is_unchanged c c ≡ true
unchanged-itself c = without_path (changed c c) (λ q. contains-changed c c q ∙ itself_unchanged (fin.get c q))

-- ---- entries
within_both : (a b : Bool) → (a && not b) ≡ false → (b && not a) ≡ false → a ≡ b
within_both true true e f = refl
within_both true false e f = absurd (true≢false e)
within_both false true e f = absurd (true≢false f)
within_both false false e f = refl

pub within_both_ways : (s t : PathSet) → (is_within s t && is_within t s) ≡ true → s ≡ t
within_both_ways s t e =
    same_paths s t (λ q. within_both (set.contains s q) (set.contains t q) (within_at s t (left_true (is_within s t) (is_within t s) e) q) (within_at t s (right_true (is_within s t) (is_within t s) e) q))

itself_within : (b : Bool) → (b && not b) ≡ false
itself_within true = refl
itself_within false = refl

within-itself : (s : PathSet) → is_within s s ≡ true
within-itself s = without_path (set.difference s s) (λ q. set.contains-difference path_cmp_total s s q ∙ itself_within (set.contains s q))

pub same_entry-is : (e f : Manager × PathSet) → same_entry e f ≡ true → e ≡ f
same_entry-is e f h =
    let managers = same_manager-is e.0 f.0 (left_true (is_same e.0 f.0) _ h) in
    let paths = within_both_ways e.1 f.1 (right_true (is_same e.0 f.0) _ h) in
    λ i. (managers i, paths i)

pub same_entries-is : (es fs : List (Manager × PathSet)) → same_entries es fs ≡ true → es ≡ fs
same_entries-is [] [] h = refl
same_entries-is [] (f ∷ fs) h = absurd (true≢false (sym h))
same_entries-is (e ∷ es) [] h = absurd (true≢false (sym h))
same_entries-is (e ∷ es) (f ∷ fs) h = ap₂ (λ x xs. x ∷ xs) (same_entry-is e f (left_true (same_entry e f) _ h)) (same_entries-is es fs (right_true (same_entry e f) _ h))

pub same_entries-itself : (es : List (Manager × PathSet)) → same_entries es es ≡ true
same_entries-itself [] = refl
same_entries-itself (e ∷ es) = both_true _ _ (both_true _ _ (same_manager-itself e.0) (both_true _ _ (within-itself e.1) (within-itself e.1))) (same_entries-itself es)

-- ---- states
pub same_state-is : (a b : State) → same_state a b ≡ true → a ≡ b
unfolding same_state
same_state-is a b h =
    let contents = same_content-is a.content b.content (left_true (same_content a.content b.content) _ h) in
    let owners = fin.same_entries_map a.owners b.owners (same_entries-is (fin.entries a.owners) (fin.entries b.owners) (right_true (same_content a.content b.content) _ h)) in
    λ i. record { content = contents i; owners = owners i }

pub same_state-itself : (a : State) → same_state a a ≡ true
unfolding same_state
same_state-itself a = both_true _ _ (both_true _ _ (unchanged-itself a.content) (unchanged-itself a.content)) (same_entries-itself (fin.entries a.owners))

-- the test is true exactly where the states are equal
pub same_state-decides : (a b : State) → (same_state a b ≡ true) ↔ (a ≡ b)
same_state-decides a b = (same_state-is a b, λ e. ap (same_state a) (sym e) ∙ same_state-itself a)

-- ---- a test, from what its steps gave
pub lengths_differ : (es fs : List Entry) → ¬ (length es ≡ length fs) → false ≡ same_entries (pairs es) (pairs fs)
lengths_differ es fs apart = by_test (same_entries (pairs es) (pairs fs)) refl
  where
    by_test : (b : Bool) → same_entries (pairs es) (pairs fs) ≡ b → false ≡ b
    by_test true is = absurd (apart (sym (length-pairs es) ∙ ap length (same_entries-is (pairs es) (pairs fs) is) ∙ length-pairs fs))
    by_test false is = refl

module _ (a b : State) (r : Bool) where
  pub both_same : (es fs : List (Manager × PathSet)) → same_content a.content b.content ≡ true → r ≡ same_entries es fs → es ≡ fin.entries a.owners → fs ≡ fin.entries b.owners → r ≡ same_state a b
  unfolding same_state
  both_same es fs contents is mine theirs = is ∙ ap₂ same_entries mine theirs ∙ ap (λ x. x && same_entries (fin.entries a.owners) (fin.entries b.owners)) (sym contents)

  pub contents_differ : r ≡ same_content a.content b.content → r ≡ false → r ≡ same_state a b
  unfolding same_state
  contents_differ is other = other ∙ ap (λ x. x && same_entries (fin.entries a.owners) (fin.entries b.owners)) (sym other ∙ is)

  pub decided : r ≡ same_state a b → (r ≡ true) ↔ (a ≡ b)
  decided is = (λ t. (same_state-decides a b).0 (sym is ∙ t), λ e. is ∙ (same_state-decides a b).1 e)
