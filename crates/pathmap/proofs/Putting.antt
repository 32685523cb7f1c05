-- A content put under a name among children.
use Rattle.std.proofs.Common.{◌≡◌, ℕ, zero, suc, ◌+◌, length, get_or, insert, arith, Bool, true, false, cond, is_eq, is_lt, nat_cmp, List, [], ◌∷◌, ◌++◌, map, Option, Some, None, is_some, String, Global, string_bytes, refl, sym, ap, ap₂, ◌∙◌, true≢false, Ordering, Less, Equal, Greater}
use Rattle.std.specs.Prelude.{slice_set}
use Rattle.std.specs.Cmp.{tied_itself}
use Rattle.std.specs.Cmp.Lexicographic.{slice_cmp}
use Rattle.std.specs.FinMap as fin
use Rattle.std.specs.List.Sorted.{IsStrictlySortedBy}
use Rattle.std.specs.Ordering.{eq_by_cmp, ordering_then}
use Rattle.std.specs.Str.{bytes_eq}
use Rattle.std.proofs.lemmas.Cmp.{nat_list_cmp_total}
use Rattle.std.proofs.lemmas.Map.Keys.{sorted_head, sorted_tail}
use Rattle.std.proofs.lemmas.Slice.Eq.{bytes_eq-Decides}
use Rattle.fieldpath.specs.Paths.{PathTexts, path_cmp}
use Rattle.pathmap.specs.Contents.{LeafValue, Content, nothing, over, gather}
use Rattle.pathmap.specs.Cuts.{index_from}
use Rattle.pathmap.specs.Levels.{at_top, leaf_value, has_path, IsRising, AreChildren, child_of}
use Rattle.pathmap.specs.Maps.{content_or_nothing, contents_in}
use Rattle.pathmap.specs.Merged.{prefix_of, back_of, left_of, join_on}
use Rattle.pathmap.specs.Puts.{put_in}
use Rattle.pathmap.specs.declared.held.PathValue.{PathValue}
use Rattle.pathmap.proofs.Contents.{path_cmp_total, same}
use Rattle.pathmap.proofs.Cutting.{index_high, number}
use Rattle.pathmap.proofs.Heads.{one_path}
use Rattle.pathmap.proofs.Levels.{get-level-below, get-level-gather, get-level-top}
use Rattle.pathmap.proofs.Merging.{Above, child-merged, joined, merged_children}
use Rattle.pathmap.proofs.Trees.{ties}

abbrev Named : Type 0
Named = List (List ℕ × Content)

rising_one : (f : List ℕ) (c : Content) → IsRising ((f, c) ∷ [])
unfolding IsStrictlySortedBy
rising_one f c = (tt, tt)

join_first : (f : List ℕ) (c : Content) (bs : Named) → join_on (λ x y. x) f c bs ≡ c
join_first f c [] = refl
join_first f c (b ∷ bs) = by_test (bytes_eq b.0 f)
  where
    by_test : (t : Bool) → cond t c c ≡ c
    by_test true = refl
    by_test false = refl

-- the list that is walked once
pub put_is : (f : List ℕ) (c : Content) (cs : Named) → put_in f c cs ≡ prefix_of f cs ++ (f, c) ∷ left_of f (back_of f cs)
put_is f c cs = ap (λ m. prefix_of f cs ++ (let first : List ℕ × Content = (f, m) in first ∷ left_of f (back_of f cs))) (join_first f c (back_of f cs))

-- ---- where one has the name

put_first : (f : List ℕ) (m : Content) (x : List ℕ × Content) (cs : Named) → x.0 ≡ f → (f, m) ∷ cs ≡ prefix_of f (x ∷ cs) ++ (f, m) ∷ left_of f (back_of f (x ∷ cs))
put_first f m x cs is =
    sym (ap (λ b. cond b (x ∷ prefix_of f cs) [] ++ (let first : List ℕ × Content = (f, m) in first ∷ left_of f (cond b (back_of f cs) (x ∷ cs)))) not_less
    ∙ ap (λ b. (let first : List ℕ × Content = (f, m) in first ∷ cond b cs (x ∷ cs))) ((bytes_eq-Decides x.0 f).1 is))
  where
    not_less : is_lt (slice_cmp nat_cmp x.0 f) ≡ false
    not_less = ap (λ k. is_lt (slice_cmp nat_cmp k f)) is ∙ ap is_lt (tied_itself nat_list_cmp_total f)

-- one that has the name is not before the head of a list that rises
later_less : (f : List ℕ) (x : List ℕ × Content) (k p : ℕ) (cs : Named) → IsRising (x ∷ cs) → index_from k f cs ≡ Some p → slice_cmp nat_cmp x.0 f ≡ Less
later_less f x k p cs rises at = member k cs (sorted_head (slice_cmp nat_cmp) x.0 (map (λ c. c.0) cs) rises) at
  where
    member : (k : ℕ) (cs : Named) → Above x.0 cs → index_from k f cs ≡ Some p → slice_cmp nat_cmp x.0 f ≡ Less
    member k [] above at = absurd (true≢false (ap is_some (sym at)))
    member k (c ∷ cs) above at = by_name (member (k + 1) cs above.1) (bytes_eq c.0 f) refl at
      where
        by_name : (index_from (k + 1) f cs ≡ Some p → slice_cmp nat_cmp x.0 f ≡ Less) → (b : Bool) → bytes_eq c.0 f ≡ b → cond b (Some k) (index_from (k + 1) f cs) ≡ Some p → slice_cmp nat_cmp x.0 f ≡ Less
        by_name later true is h = ap (slice_cmp nat_cmp x.0) (sym ((bytes_eq-Decides c.0 f).0 is)) ∙ above.0
        by_name later false is h = later h

put_later : (f : List ℕ) (m : Content) (x : List ℕ × Content) (cs : Named) → slice_cmp nat_cmp x.0 f ≡ Less
    → x ∷ (prefix_of f cs ++ (f, m) ∷ left_of f (back_of f cs)) ≡ prefix_of f (x ∷ cs) ++ (f, m) ∷ left_of f (back_of f (x ∷ cs))
put_later f m x cs less = sym (ap (λ b. cond b (x ∷ prefix_of f cs) [] ++ (let first : List ℕ × Content = (f, m) in first ∷ left_of f (cond b (back_of f cs) (x ∷ cs)))) (ap is_lt less))

set_prefix : (f : List ℕ) (xs : List (String Global × Content)) (k i : ℕ) (e : String Global × Content) (m : Content) → IsRising (contents_in xs) → index_from k f (contents_in xs) ≡ Some (k + i) → e ≡ get_or xs i e
    → contents_in (slice_set xs i (e.0, m)) ≡ prefix_of f (contents_in xs) ++ (f, m) ∷ left_of f (back_of f (contents_in xs))
set_prefix f [] k i e m rises at is = absurd (true≢false (ap is_some (sym at)))
set_prefix f (x ∷ xs) k zero e m rises at is = by_name (bytes_eq (string_bytes x.0) f) refl at
  where
    by_name : (b : Bool) → bytes_eq (string_bytes x.0) f ≡ b → cond b (Some k) (index_from (k + 1) f (contents_in xs)) ≡ Some (k + 0)
        → (let first : List ℕ × Content = (string_bytes e.0, m) in first ∷ contents_in xs) ≡ prefix_of f (contents_in (x ∷ xs)) ++ (f, m) ∷ left_of f (back_of f (contents_in (x ∷ xs)))
    by_name true has h =
        let name = (bytes_eq-Decides (string_bytes x.0) f).0 has in
        ap (λ n. (let first : List ℕ × Content = (n, m) in first ∷ contents_in xs)) (ap (λ y. string_bytes y.0) is ∙ name) ∙ put_first f m (string_bytes x.0, x.1) (contents_in xs) name
    by_name false has h = let le = index_high (k + 1) f (contents_in xs) (k + 0) h in absurd (omega (arith, le))
set_prefix f (x ∷ xs) k (suc i) e m rises at is =
    by_name (λ h. set_prefix f xs (k + 1) i e m (sorted_tail (slice_cmp nat_cmp) (string_bytes x.0) (map (λ c. c.0) (contents_in xs)) rises) h is) (bytes_eq (string_bytes x.0) f) at
  where
    further : k + suc i ≡ k + 1 + i
    further = omega arith

    by_name : (index_from (k + 1) f (contents_in xs) ≡ Some (k + 1 + i) → contents_in (slice_set xs i (e.0, m)) ≡ prefix_of f (contents_in xs) ++ (f, m) ∷ left_of f (back_of f (contents_in xs))) → (b : Bool)
        → cond b (Some k) (index_from (k + 1) f (contents_in xs)) ≡ Some (k + suc i)
        → (let first : List ℕ × Content = (string_bytes x.0, x.1) in first ∷ contents_in (slice_set xs i (e.0, m))) ≡ prefix_of f (contents_in (x ∷ xs)) ++ (f, m) ∷ left_of f (back_of f (contents_in (x ∷ xs)))
    by_name later true h = let one = ap number h in absurd (omega (arith, one))
    by_name later false h =
        ap (λ l. (let first : List ℕ × Content = (string_bytes x.0, x.1) in first ∷ l)) (later (h ∙ ap (λ n. Some n) further))
        ∙ put_later f m (string_bytes x.0, x.1) (contents_in xs) (later_less f (string_bytes x.0, x.1) (k + 1) (k + suc i) (contents_in xs) rises h)

-- what stood there
pub child_get : (f : List ℕ) (xs : List (String Global × Content)) (k i : ℕ) (e : String Global × Content) → index_from k f (contents_in xs) ≡ Some (k + i) → e ≡ get_or xs i e → child_of f (contents_in xs) ≡ Some e.1
child_get f [] k i e at is = absurd (true≢false (ap is_some (sym at)))
child_get f (x ∷ xs) k zero e at is = by_name (bytes_eq (string_bytes x.0) f) at
  where
    by_name : (b : Bool) → cond b (Some k) (index_from (k + 1) f (contents_in xs)) ≡ Some (k + 0) → cond b (Some x.1) (child_of f (contents_in xs)) ≡ Some e.1
    by_name true h = ap (λ y. Some y.1) (sym is)
    by_name false h = let le = index_high (k + 1) f (contents_in xs) (k + 0) h in absurd (omega (arith, le))
child_get f (x ∷ xs) k (suc i) e at is = by_name (λ h. child_get f xs (k + 1) i e h is) (bytes_eq (string_bytes x.0) f) at
  where
    further : k + suc i ≡ k + 1 + i
    further = omega arith

    by_name : (index_from (k + 1) f (contents_in xs) ≡ Some (k + 1 + i) → child_of f (contents_in xs) ≡ Some e.1) → (b : Bool) → cond b (Some k) (index_from (k + 1) f (contents_in xs)) ≡ Some (k + suc i)
        → cond b (Some x.1) (child_of f (contents_in xs)) ≡ Some e.1
    by_name later true h = let one = ap number h in absurd (omega (arith, one))
    by_name later false h = later (h ∙ ap (λ n. Some n) further)

-- one that has the name
pub present : (k : ℕ) (f : List ℕ) (cs : Named) (n : ℕ) → index_from k f cs ≡ Some n → is_some (child_of f cs) ≡ true
present k f [] n at = absurd (true≢false (ap is_some (sym at)))
present k f (c ∷ cs) n at = by_name (present (k + 1) f cs n) (bytes_eq c.0 f) at
  where
    by_name : (index_from (k + 1) f cs ≡ Some n → is_some (child_of f cs) ≡ true) → (b : Bool) → cond b (Some k) (index_from (k + 1) f cs) ≡ Some n → is_some (cond b (Some c.1) (child_of f cs)) ≡ true
    by_name later true h = refl
    by_name later false h = later h

-- a content written at the place of its name
pub put_at : (f : List ℕ) (xs : List (String Global × Content)) (i : ℕ) (e : String Global × Content) (m : Content) (p : PathTexts) (v : LeafValue) → IsRising (contents_in xs) → index_from 0 f (contents_in xs) ≡ Some i → e ≡ get_or xs i e
    → m ≡ fin.insert e.1 p v → contents_in (slice_set xs i (e.0, m)) ≡ put_in f (fin.insert (content_or_nothing (child_of f (contents_in xs))) p v) (contents_in xs)
put_at f xs i e m p v rises at is made =
    set_prefix f xs 0 i e m rises (at ∙ ap (λ n. Some n) from_none) is ∙ sym (put_is f m (contents_in xs))
    ∙ ap (λ c. put_in f c (contents_in xs)) (made ∙ ap (λ o. fin.insert (content_or_nothing o) p v) (sym (child_get f xs 0 i e (at ∙ ap (λ n. Some n) from_none) is)))
  where
    from_none : i ≡ 0 + i
    from_none = omega arith

-- ---- where no one has it

pub absent : (k : ℕ) (f : List ℕ) (cs : Named) → index_from k f cs ≡ None → (child_of f cs ≡ None) × (left_of f (back_of f cs) ≡ back_of f cs)
absent k f [] e = (refl, refl)
absent k f (c ∷ cs) e = by_name (absent (k + 1) f cs) (bytes_eq c.0 f) refl e
  where
    by_order : left_of f (back_of f cs) ≡ back_of f cs → bytes_eq c.0 f ≡ false → (t : Bool) → left_of f (cond t (back_of f cs) (c ∷ cs)) ≡ cond t (back_of f cs) (c ∷ cs)
    by_order later other true = later
    by_order later other false = ap (λ b. cond b cs (c ∷ cs)) other

    by_name : (index_from (k + 1) f cs ≡ None → (child_of f cs ≡ None) × (left_of f (back_of f cs) ≡ back_of f cs)) → (b : Bool) → bytes_eq c.0 f ≡ b → cond b (Some k) (index_from (k + 1) f cs) ≡ None
        → (cond b (Some c.1) (child_of f cs) ≡ None) × (left_of f (back_of f (c ∷ cs)) ≡ back_of f (c ∷ cs))
    by_name later true is h = absurd (true≢false (ap is_some h))
    by_name later false is h = let done = later h in (done.0, by_order done.1 is (is_lt (slice_cmp nat_cmp c.0 f)))

-- one more in its place
pub insert_prefix : (f : List ℕ) (xs : List (String Global × Content)) (y : String Global × Content) → contents_in (insert xs (length (prefix_of f (contents_in xs))) y) ≡ prefix_of f (contents_in xs) ++ (string_bytes y.0, y.1) ∷ back_of f (contents_in xs)
insert_prefix f [] y = refl
insert_prefix f (x ∷ xs) y = by_order (insert_prefix f xs y) (is_lt (slice_cmp nat_cmp (string_bytes x.0) f))
  where
    by_order : contents_in (insert xs (length (prefix_of f (contents_in xs))) y) ≡ prefix_of f (contents_in xs) ++ (string_bytes y.0, y.1) ∷ back_of f (contents_in xs) → (t : Bool)
        → contents_in (insert (x ∷ xs) (length (cond t ((string_bytes x.0, x.1) ∷ prefix_of f (contents_in xs)) [])) y)
        ≡ cond t ((string_bytes x.0, x.1) ∷ prefix_of f (contents_in xs)) [] ++ (string_bytes y.0, y.1) ∷ cond t (back_of f (contents_in xs)) ((string_bytes x.0, x.1) ∷ contents_in xs)
    by_order later true = ap (λ l. (let first : List ℕ × Content = (string_bytes x.0, x.1) in first ∷ l)) later
    by_order later false = refl

-- a new child
pub put_new : (f : List ℕ) (xs : List (String Global × Content)) (i : ℕ) (n : String Global) (m : Content) → index_from 0 f (contents_in xs) ≡ None → i ≡ length (prefix_of f (contents_in xs)) → string_bytes n ≡ f
    → contents_in (insert xs i (n, m)) ≡ put_in f m (contents_in xs)
put_new f xs i n m at place named =
    ap (λ k. contents_in (insert xs k (n, m))) place ∙ insert_prefix f xs (n, m)
    ∙ ap₂ (λ k l. prefix_of f (contents_in xs) ++ (let first : List ℕ × Content = (k, m) in first ∷ l)) named (sym (absent 0 f (contents_in xs) at).1) ∙ sym (put_is f m (contents_in xs))

-- a new child that has one path
pub insert_new : (f : List ℕ) (xs : List (String Global × Content)) (i : ℕ) (n : String Global) (m none : Content) (p : PathTexts) (v : LeafValue) → index_from 0 f (contents_in xs) ≡ None → i ≡ length (prefix_of f (contents_in xs)) → string_bytes n ≡ f
    → none ≡ nothing → m ≡ fin.insert none p v → contents_in (insert xs i (n, m)) ≡ put_in f (fin.insert (content_or_nothing (child_of f (contents_in xs))) p v) (contents_in xs)
insert_new f xs i n m none p v at place named bare made =
    put_new f xs i n m at place named ∙ ap (λ c. put_in f c (contents_in xs)) (made ∙ ap (λ c. fin.insert c p v) (bare ∙ sym (ap content_or_nothing (absent 0 f (contents_in xs) at).0)))

-- ---- a level with one path more

pub inserted_path : (c : Content) (p : PathTexts) (v : LeafValue) → has_path (fin.insert c p v) ≡ true
inserted_path c p v = one_path (fin.insert c p v) p (ap is_some (fin.get-insert path_cmp_total c p v p) ∙ ap (λ o. is_some (cond (is_eq o) (Some v) (fin.get c p))) (tied_itself path_cmp_total p))

pub put_children : (f : List ℕ) (c : Content) (cs : Named) → has_path c ≡ true → AreChildren cs → AreChildren (put_in f c cs)
put_children f c cs full kept = merged_children (λ x y. x) (λ x y has. has) ((f, c) ∷ []) cs (rising_one f c, (full, tt)) kept

pub child-put : (f g : List ℕ) (c : Content) (cs : Named) → IsRising cs → child_of g (put_in f c cs) ≡ cond (bytes_eq f g) (Some c) (child_of g cs)
child-put f g c cs rises = child-merged (λ x y. x) g ((f, c) ∷ []) cs (rising_one f c) rises ∙ by_name (bytes_eq f g)
  where
    by_child : (o : Option Content) → joined (λ x y. x) (Some c) o ≡ Some c
    by_child None = refl
    by_child (Some d) = refl

    by_name : (b : Bool) → joined (λ x y. x) (cond b (Some c) None) (child_of g cs) ≡ cond b (Some c) (child_of g cs)
    by_name true = by_child (child_of g cs)
    by_name false = refl

-- at the empty path
pub insert-top : (old : Option PathValue) (h : PathValue) (cs : Named) → over (at_top (Some h)) (gather cs) ≡ fin.insert (over (at_top old) (gather cs)) [] (leaf_value h)
insert-top old h cs = same (over (at_top (Some h)) (gather cs)) (fin.insert (over (at_top old) (gather cs)) [] (leaf_value h)) by_path
  where
    by_path : (q : PathTexts) → fin.get (over (at_top (Some h)) (gather cs)) q ≡ fin.get (fin.insert (over (at_top old) (gather cs)) [] (leaf_value h)) q
    by_path [] = get-level-top (Some h) cs ∙ sym (fin.get-insert path_cmp_total (over (at_top old) (gather cs)) [] (leaf_value h) [])
    by_path (g ∷ q) = get-level-gather (Some h) cs g q ∙ sym (get-level-gather old cs g q) ∙ sym (fin.get-insert path_cmp_total (over (at_top old) (gather cs)) [] (leaf_value h) (g ∷ q))

-- below an element
pub insert-below : (h : Option PathValue) (f : List ℕ) (p : PathTexts) (v : LeafValue) (cs : Named) → AreChildren cs
    → over (at_top h) (gather (put_in f (fin.insert (content_or_nothing (child_of f cs)) p v) cs)) ≡ fin.insert (over (at_top h) (gather cs)) (f ∷ p) v
insert-below h f p v cs kept = same (over (at_top h) (gather (put_in f (fin.insert (content_or_nothing (child_of f cs)) p v) cs))) (fin.insert (over (at_top h) (gather cs)) (f ∷ p) v) by_path
  where
    by_order : (g : List ℕ) (q : PathTexts) (o : Ordering) → slice_cmp nat_cmp g f ≡ o → (b : Bool) → bytes_eq f g ≡ b
        → fin.get (content_or_nothing (cond b (Some (fin.insert (content_or_nothing (child_of f cs)) p v)) (child_of g cs))) q ≡ cond (is_eq (ordering_then o (path_cmp q p))) (Some v) (fin.get (content_or_nothing (child_of g cs)) q)
    by_order g q Equal e true is =
        fin.get-insert path_cmp_total (content_or_nothing (child_of f cs)) p v q ∙ ap (λ k. cond (eq_by_cmp path_cmp q p) (Some v) (fin.get (content_or_nothing (child_of k cs)) q)) ((bytes_eq-Decides f g).0 is)
    by_order g q Equal e false is = absurd (true≢false (sym ((bytes_eq-Decides f g).1 (sym (ties g f (ap is_eq e)))) ∙ is))
    by_order g q Less e true is = absurd (true≢false (ap is_eq (sym (tied_itself nat_list_cmp_total g) ∙ ap (slice_cmp nat_cmp g) (sym ((bytes_eq-Decides f g).0 is)) ∙ e)))
    by_order g q Less e false is = refl
    by_order g q Greater e true is = absurd (true≢false (ap is_eq (sym (tied_itself nat_list_cmp_total g) ∙ ap (slice_cmp nat_cmp g) (sym ((bytes_eq-Decides f g).0 is)) ∙ e)))
    by_order g q Greater e false is = refl

    by_path : (q : PathTexts) → fin.get (over (at_top h) (gather (put_in f (fin.insert (content_or_nothing (child_of f cs)) p v) cs))) q ≡ fin.get (fin.insert (over (at_top h) (gather cs)) (f ∷ p) v) q
    by_path [] = get-level-top h (put_in f (fin.insert (content_or_nothing (child_of f cs)) p v) cs) ∙ sym (get-level-top h cs) ∙ sym (fin.get-insert path_cmp_total (over (at_top h) (gather cs)) (f ∷ p) v [])
    by_path (g ∷ q) =
        get-level-below h (put_in f (fin.insert (content_or_nothing (child_of f cs)) p v) cs) (put_children f (fin.insert (content_or_nothing (child_of f cs)) p v) cs (inserted_path (content_or_nothing (child_of f cs)) p v) kept).0 g q
        ∙ ap (λ o. fin.get (content_or_nothing o) q) (child-put f g (fin.insert (content_or_nothing (child_of f cs)) p v) cs kept.0) ∙ by_order g q (slice_cmp nat_cmp g f) refl (bytes_eq f g) refl
        ∙ ap (cond (eq_by_cmp path_cmp (g ∷ q) (f ∷ p)) (Some v)) (sym (get-level-below h cs kept.0 g q)) ∙ sym (fin.get-insert path_cmp_total (over (at_top h) (gather cs)) (f ∷ p) v (g ∷ q))
