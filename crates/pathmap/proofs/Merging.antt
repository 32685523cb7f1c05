-- Two lists of children, walked side by side, are children again: at each name, what both have there, joined.
use Rattle.std.proofs.Common.{◌≡◌, ℕ, Bool, true, false, cond, is_eq, is_lt, nat_cmp, List, [], ◌∷◌, ◌++◌, map, Option, Some, None, is_some, refl, sym, ap, ap₂, subst, ◌∙◌, Ordering, Less, Equal, Greater, true≢false}
use Rattle.std.specs.Cmp.{tied_itself}
use Rattle.std.specs.Cmp.Lexicographic.{slice_cmp}
use Rattle.std.specs.FinMap as fin
use Rattle.std.specs.List.{AllByRecursion}
use Rattle.std.specs.List.Sorted.{IsStrictlySortedBy}
use Rattle.std.specs.Ordering.{ordering_reverse}
use Rattle.std.specs.Str.{bytes_eq}
use Rattle.std.proofs.lemmas.Cmp.{nat_list_cmp_total}
use Rattle.std.proofs.lemmas.Map.Keys.{sorted_head, sorted_tail}
use Rattle.std.proofs.lemmas.Slice.Eq.{bytes_eq-Decides}
use Rattle.fieldpath.specs.Paths.{PathTexts}
use Rattle.pathmap.specs.Contents.{Content, over, gather}
use Rattle.pathmap.specs.Levels.{has_path, IsRising, AreFull, AreChildren, child_of}
use Rattle.pathmap.specs.Maps.{content_or_nothing}
use Rattle.pathmap.specs.Merged.{first_of, prefix_of, back_of, join_on, left_of, merged}
use Rattle.pathmap.specs.Sizes.{left_some}
use Rattle.pathmap.proofs.Contents.{same, either, either-cond, either-None, get-nothing, get-over}
use Rattle.pathmap.proofs.Heads.{some_path, one_path}
use Rattle.pathmap.proofs.Levels.{get-child, get-gather-top}
use Rattle.pathmap.proofs.Trees.{ties}

abbrev Named : Type 0
Named = List (List ℕ × Content)

abbrev cmp : List ℕ → List ℕ → Ordering
cmp = slice_cmp nat_cmp

abbrev names_of : Named → List (List ℕ)
names_of = map (λ c. c.0)

-- each name is above this one
abbrev pub Above : List ℕ → Named → Type 0
Above f cs = AllByRecursion (λ z. cmp f z ≡ Less) (names_of cs)

pub rising_more : (c : List ℕ × Content) (cs : Named) → Above c.0 cs → IsRising cs → IsRising (c ∷ cs)
unfolding IsStrictlySortedBy
rising_more c cs above rises = (above, rises)

head_of : (c : List ℕ × Content) (cs : Named) → IsRising (c ∷ cs) → Above c.0 cs
head_of c cs rises = sorted_head cmp c.0 (names_of cs) rises

tail_of : (c : List ℕ × Content) (cs : Named) → IsRising (c ∷ cs) → IsRising cs
tail_of c cs rises = sorted_tail cmp c.0 (names_of cs) rises

pub after_all : (y f : List ℕ) (cs : Named) → cmp y f ≡ Less → Above f cs → Above y cs
after_all y f [] lt h = tt
after_all y f (c ∷ cs) lt h = (nat_list_cmp_total.trans y f c.0 lt h.0, after_all y f cs lt h.1)

pub less_is : (o : Ordering) → is_lt o ≡ true → o ≡ Less
less_is Less e = refl
less_is Equal e = absurd (true≢false (sym e))
less_is Greater e = absurd (true≢false (sym e))

reversed : (f g : List ℕ) (o : Ordering) → cmp g f ≡ o → cmp f g ≡ ordering_reverse o
reversed f g o e = nat_list_cmp_total.antisymm f g ∙ ap ordering_reverse e

-- names that are apart don't tie
apart_less : (f g : List ℕ) → cmp f g ≡ Less → (b : Bool) → bytes_eq f g ≡ b → b ≡ false
apart_less f g lt false is = refl
apart_less f g lt true is = absurd (true≢false (ap is_eq (sym (tied_itself nat_list_cmp_total f) ∙ ap (cmp f) ((bytes_eq-Decides f g).0 is) ∙ lt)))

apart_greater : (f g : List ℕ) → cmp g f ≡ Less → (b : Bool) → bytes_eq f g ≡ b → b ≡ false
apart_greater f g lt false is = refl
apart_greater f g lt true is = absurd (true≢false (ap is_eq (sym (tied_itself nat_list_cmp_total g) ∙ ap (cmp g) (sym ((bytes_eq-Decides f g).0 is)) ∙ lt)))

pub equal_is : (f g : List ℕ) → cmp f g ≡ Equal → bytes_eq f g ≡ true
equal_is f g e = (bytes_eq-Decides f g).1 (ties f g (ap is_eq e))

-- ---- what has a name

pub child_above : (g : List ℕ) (cs : Named) → Above g cs → child_of g cs ≡ None
child_above g [] above = refl
child_above g (c ∷ cs) above = ap (λ b. cond b (Some c.1) (child_of g cs)) (apart_greater c.0 g above.0 (bytes_eq c.0 g) refl) ∙ child_above g cs above.1

child-append : (g : List ℕ) (xs ys : Named) → child_of g (xs ++ ys) ≡ either (child_of g xs) (child_of g ys)
child-append g [] ys = refl
child-append g (x ∷ xs) ys = ap (cond (bytes_eq x.0 g) (Some x.1)) (child-append g xs ys) ∙ sym (either-cond (bytes_eq x.0 g) x.1 (child_of g xs) (child_of g ys))

prefix_none : (f g : List ℕ) (ms : Named) → is_lt (cmp g f) ≡ false → child_of g (prefix_of f ms) ≡ None
prefix_none f g [] not_less = refl
prefix_none f g (m ∷ ms) not_less = by_test (prefix_none f g ms not_less) (is_lt (cmp m.0 f)) refl
  where
    apart : is_lt (cmp m.0 f) ≡ true → (b : Bool) → bytes_eq m.0 g ≡ b → b ≡ false
    apart lt false is = refl
    apart lt true is = absurd (true≢false (sym lt ∙ ap (λ k. is_lt (cmp k f)) ((bytes_eq-Decides m.0 g).0 is) ∙ not_less))

    by_test : child_of g (prefix_of f ms) ≡ None → (b : Bool) → is_lt (cmp m.0 f) ≡ b → child_of g (cond b (m ∷ prefix_of f ms) []) ≡ None
    by_test later true lt = ap (λ b. cond b (Some m.1) (child_of g (prefix_of f ms))) (apart lt (bytes_eq m.0 g) refl) ∙ later
    by_test later false lt = refl

-- a name that isn't below another is above what is below that
above_prefix : (g f : List ℕ) (m : List ℕ × Content) (ms : Named) → cmp g f ≡ Less → is_lt (cmp m.0 f) ≡ false → Above m.0 ms → Above g (m ∷ ms)
above_prefix g f m ms lt not_less above = by_order (cmp f m.0) refl
  where
    by_order : (o : Ordering) → cmp f m.0 ≡ o → Above g (m ∷ ms)
    by_order Less e = let first = nat_list_cmp_total.trans g f m.0 lt e in (first, after_all g m.0 ms first above)
    by_order Equal e = let first = subst (λ k. cmp g k ≡ Less) (ties f m.0 (ap is_eq e)) lt in (first, after_all g m.0 ms first above)
    by_order Greater e = absurd (true≢false (sym (ap is_lt (reversed m.0 f Greater e)) ∙ not_less))

prefix_same : (f g : List ℕ) (ms : Named) → IsRising ms → cmp g f ≡ Less → child_of g (prefix_of f ms) ≡ child_of g ms
prefix_same f g [] rises lt = refl
prefix_same f g (m ∷ ms) rises lt = by_test (prefix_same f g ms (tail_of m ms rises) lt) (is_lt (cmp m.0 f)) refl
  where
    by_test : child_of g (prefix_of f ms) ≡ child_of g ms → (b : Bool) → is_lt (cmp m.0 f) ≡ b → child_of g (cond b (m ∷ prefix_of f ms) []) ≡ child_of g (m ∷ ms)
    by_test later true is = ap (cond (bytes_eq m.0 g) (Some m.1)) later
    by_test later false is = sym (child_above g (m ∷ ms) (above_prefix g f m ms lt is (head_of m ms rises)))

back_same : (f g : List ℕ) (ms : Named) → is_lt (cmp g f) ≡ false → child_of g (back_of f ms) ≡ child_of g ms
back_same f g [] not_less = refl
back_same f g (m ∷ ms) not_less = by_test (back_same f g ms not_less) (is_lt (cmp m.0 f)) refl
  where
    apart : is_lt (cmp m.0 f) ≡ true → (b : Bool) → bytes_eq m.0 g ≡ b → b ≡ false
    apart lt false is = refl
    apart lt true is = absurd (true≢false (sym lt ∙ ap (λ k. is_lt (cmp k f)) ((bytes_eq-Decides m.0 g).0 is) ∙ not_less))

    by_test : child_of g (back_of f ms) ≡ child_of g ms → (b : Bool) → is_lt (cmp m.0 f) ≡ b → child_of g (cond b (back_of f ms) (m ∷ ms)) ≡ child_of g (m ∷ ms)
    by_test later true lt = later ∙ sym (ap (λ b. cond b (Some m.1) (child_of g ms)) (apart lt (bytes_eq m.0 g) refl))
    by_test later false lt = refl

left_same : (f g : List ℕ) (bs : Named) → bytes_eq f g ≡ false → child_of g (left_of f bs) ≡ child_of g bs
left_same f g [] other = refl
left_same f g (b ∷ bs) other = by_test (bytes_eq b.0 f) refl
  where
    by_test : (t : Bool) → bytes_eq b.0 f ≡ t → child_of g (cond t bs (b ∷ bs)) ≡ child_of g (b ∷ bs)
    by_test true is = sym (ap (λ t. cond t (Some b.1) (child_of g bs)) (ap (λ k. bytes_eq k g) ((bytes_eq-Decides b.0 f).0 is) ∙ other))
    by_test false is = refl

-- what is left behind a name keeps what has a name above it
pub left_keeps : (f g : List ℕ) (ms : Named) → cmp f g ≡ Less → child_of g (left_of f (back_of f ms)) ≡ child_of g ms
left_keeps f g ms lt = left_same f g (back_of f ms) (apart_less f g lt (bytes_eq f g) refl) ∙ back_same f g ms (ap is_lt (reversed g f Less lt))

left_above : (f : List ℕ) (ms : Named) → IsRising ms → Above f (left_of f (back_of f ms))
left_above f [] rises = tt
left_above f (m ∷ ms) rises = by_test (left_above f ms (tail_of m ms rises)) (is_lt (cmp m.0 f)) refl
  where
    by_name : is_lt (cmp m.0 f) ≡ false → (b : Bool) → bytes_eq m.0 f ≡ b → Above f (cond b ms (m ∷ ms))
    by_name not_less true is = subst (λ k. Above k ms) ((bytes_eq-Decides m.0 f).0 is) (head_of m ms rises)
    by_name not_less false is = by_order (cmp f m.0) refl
      where
        by_order : (o : Ordering) → cmp f m.0 ≡ o → Above f (m ∷ ms)
        by_order Less e = (e, after_all f m.0 ms e (head_of m ms rises))
        by_order Equal e = absurd (true≢false (sym ((bytes_eq-Decides m.0 f).1 (sym (ties f m.0 (ap is_eq e)))) ∙ is))
        by_order Greater e = absurd (true≢false (sym (ap is_lt (reversed m.0 f Greater e)) ∙ not_less))

    by_test : Above f (left_of f (back_of f ms)) → (b : Bool) → is_lt (cmp m.0 f) ≡ b → Above f (left_of f (cond b (back_of f ms) (m ∷ ms)))
    by_test later true lt = later
    by_test later false lt = by_name lt (bytes_eq m.0 f) refl

back_rises : (f : List ℕ) (ms : Named) → IsRising ms → IsRising (back_of f ms)
back_rises f [] rises = rises
back_rises f (m ∷ ms) rises = by_test (back_rises f ms (tail_of m ms rises)) (is_lt (cmp m.0 f))
  where
    by_test : IsRising (back_of f ms) → (b : Bool) → IsRising (cond b (back_of f ms) (m ∷ ms))
    by_test later true = later
    by_test later false = rises

left_rises : (f : List ℕ) (bs : Named) → IsRising bs → IsRising (left_of f bs)
left_rises f [] rises = rises
left_rises f (b ∷ bs) rises = by_test (bytes_eq b.0 f)
  where
    by_test : (t : Bool) → IsRising (cond t bs (b ∷ bs))
    by_test true = tail_of b bs rises
    by_test false = rises

pub passed_rises : (f : List ℕ) (ms : Named) → IsRising ms → IsRising (left_of f (back_of f ms))
passed_rises f ms rises = left_rises f (back_of f ms) (back_rises f ms rises)

-- from a name on, what has it is in front
pub first_back : (f : List ℕ) (ms : Named) → IsRising ms → first_of f (back_of f ms) ≡ child_of f ms
first_back f [] rises = refl
first_back f (m ∷ ms) rises = by_test (first_back f ms (tail_of m ms rises)) (is_lt (cmp m.0 f)) refl
  where
    by_order : is_lt (cmp m.0 f) ≡ false → bytes_eq m.0 f ≡ false → (o : Ordering) → cmp f m.0 ≡ o → None ≡ child_of f ms
    by_order not_less is Less e = sym (child_above f ms (after_all f m.0 ms e (head_of m ms rises)))
    by_order not_less is Equal e = absurd (true≢false (sym ((bytes_eq-Decides m.0 f).1 (sym (ties f m.0 (ap is_eq e)))) ∙ is))
    by_order not_less is Greater e = absurd (true≢false (sym (ap is_lt (reversed m.0 f Greater e)) ∙ not_less))

    by_name : is_lt (cmp m.0 f) ≡ false → (b : Bool) → bytes_eq m.0 f ≡ b → cond b (Some m.1) None ≡ cond b (Some m.1) (child_of f ms)
    by_name not_less true is = refl
    by_name not_less false is = by_order not_less is (cmp f m.0) refl

    by_test : first_of f (back_of f ms) ≡ child_of f ms → (b : Bool) → is_lt (cmp m.0 f) ≡ b → first_of f (cond b (back_of f ms) (m ∷ ms)) ≡ child_of f (m ∷ ms)
    by_test later true lt = later ∙ sym (ap (λ b. cond b (Some m.1) (child_of f ms)) (apart_less m.0 f (less_is (cmp m.0 f) lt) (bytes_eq m.0 f) refl))
    by_test later false lt = by_name lt (bytes_eq m.0 f) refl

-- ---- the merged list

above-append : (k : List ℕ) (xs ys : Named) → Above k xs → Above k ys → Above k (xs ++ ys)
above-append k [] ys a b = b
above-append k (x ∷ xs) ys a b = (a.0, above-append k xs ys a.1 b)

above-prefix : (k f : List ℕ) (ms : Named) → Above k ms → Above k (prefix_of f ms)
above-prefix k f [] a = tt
above-prefix k f (m ∷ ms) a = by_test (above-prefix k f ms a.1) (is_lt (cmp m.0 f))
  where
    by_test : Above k (prefix_of f ms) → (b : Bool) → Above k (cond b (m ∷ prefix_of f ms) [])
    by_test later true = (a.0, later)
    by_test later false = tt

above-back : (k f : List ℕ) (ms : Named) → Above k ms → Above k (back_of f ms)
above-back k f [] a = tt
above-back k f (m ∷ ms) a = by_test (above-back k f ms a.1) (is_lt (cmp m.0 f))
  where
    by_test : Above k (back_of f ms) → (b : Bool) → Above k (cond b (back_of f ms) (m ∷ ms))
    by_test later true = later
    by_test later false = a

above-left : (k f : List ℕ) (bs : Named) → Above k bs → Above k (left_of f bs)
above-left k f [] a = tt
above-left k f (b ∷ bs) a = by_test (bytes_eq b.0 f)
  where
    by_test : (t : Bool) → Above k (cond t bs (b ∷ bs))
    by_test true = a.1
    by_test false = a

prefix_then : (f : List ℕ) (x : Content) (rest ms : Named) → IsRising ms → Above f rest → IsRising rest → IsRising (prefix_of f ms ++ (f, x) ∷ rest)
prefix_then f x rest [] rises above later = rising_more (f, x) rest above later
prefix_then f x rest (m ∷ ms) rises above later = by_test (prefix_then f x rest ms (tail_of m ms rises) above later) (is_lt (cmp m.0 f)) refl
  where
    by_test : IsRising (prefix_of f ms ++ (f, x) ∷ rest) → (b : Bool) → is_lt (cmp m.0 f) ≡ b → IsRising (cond b (m ∷ prefix_of f ms) [] ++ (f, x) ∷ rest)
    by_test others true is =
        let lt = less_is (cmp m.0 f) is in
        rising_more m (prefix_of f ms ++ (f, x) ∷ rest) (above-append m.0 (prefix_of f ms) ((f, x) ∷ rest) (above-prefix m.0 f ms (head_of m ms rises)) (lt, after_all m.0 f rest lt above)) others
    by_test others false is = rising_more (f, x) rest above later

full-append : (xs ys : Named) → AreFull xs → AreFull ys → AreFull (xs ++ ys)
full-append [] ys a b = b
full-append (x ∷ xs) ys a b = (a.0, full-append xs ys a.1 b)

full-prefix : (f : List ℕ) (ms : Named) → AreFull ms → AreFull (prefix_of f ms)
full-prefix f [] a = tt
full-prefix f (m ∷ ms) a = by_test (full-prefix f ms a.1) (is_lt (cmp m.0 f))
  where
    by_test : AreFull (prefix_of f ms) → (b : Bool) → AreFull (cond b (m ∷ prefix_of f ms) [])
    by_test later true = (a.0, later)
    by_test later false = tt

full-back : (f : List ℕ) (ms : Named) → AreFull ms → AreFull (back_of f ms)
full-back f [] a = tt
full-back f (m ∷ ms) a = by_test (full-back f ms a.1) (is_lt (cmp m.0 f))
  where
    by_test : AreFull (back_of f ms) → (b : Bool) → AreFull (cond b (back_of f ms) (m ∷ ms))
    by_test later true = later
    by_test later false = a

full-left : (f : List ℕ) (bs : Named) → AreFull bs → AreFull (left_of f bs)
full-left f [] a = tt
full-left f (b ∷ bs) a = by_test (bytes_eq b.0 f)
  where
    by_test : (t : Bool) → AreFull (cond t bs (b ∷ bs))
    by_test true = a.1
    by_test false = a

-- what both have, joined
abbrev pub joined : (Content → Content → Content) → Option Content → Option Content → Option Content
joined j None m = m
joined j (Some c) None = Some c
joined j (Some c) (Some d) = Some (j c d)

joined-None : (j : Content → Content → Content) (o : Option Content) → joined j o None ≡ o
joined-None j None = refl
joined-None j (Some c) = refl

module _ (j : Content → Content → Content) where
  joins : (f : List ℕ) (c : Content) (ms : Named) → IsRising ms → Some (join_on j f c (back_of f ms)) ≡ joined j (Some c) (child_of f ms)
  joins f c [] rises = refl
  joins f c (m ∷ ms) rises = by_test (joins f c ms (tail_of m ms rises)) (is_lt (cmp m.0 f)) refl
    where
      by_name : is_lt (cmp m.0 f) ≡ false → (b : Bool) → bytes_eq m.0 f ≡ b → Some (cond b (j c m.1) c) ≡ joined j (Some c) (cond b (Some m.1) (child_of f ms))
      by_name not_less true is = refl
      by_name not_less false is = by_order (cmp f m.0) refl
        where
          by_order : (o : Ordering) → cmp f m.0 ≡ o → Some c ≡ joined j (Some c) (child_of f ms)
          by_order Less e = ap (joined j (Some c)) (sym (child_above f ms (after_all f m.0 ms e (head_of m ms rises))))
          by_order Equal e = absurd (true≢false (sym ((bytes_eq-Decides m.0 f).1 (sym (ties f m.0 (ap is_eq e)))) ∙ is))
          by_order Greater e = absurd (true≢false (sym (ap is_lt (reversed m.0 f Greater e)) ∙ not_less))

      apart : is_lt (cmp m.0 f) ≡ true → (b : Bool) → bytes_eq m.0 f ≡ b → b ≡ false
      apart lt b is = apart_less m.0 f (less_is (cmp m.0 f) lt) b is

      by_test : Some (join_on j f c (back_of f ms)) ≡ joined j (Some c) (child_of f ms) → (b : Bool) → is_lt (cmp m.0 f) ≡ b
          → Some (join_on j f c (cond b (back_of f ms) (m ∷ ms))) ≡ joined j (Some c) (cond (bytes_eq m.0 f) (Some m.1) (child_of f ms))
      by_test later true lt = later ∙ sym (ap (λ b. joined j (Some c) (cond b (Some m.1) (child_of f ms))) (apart lt (bytes_eq m.0 f) refl))
      by_test later false lt = by_name lt (bytes_eq m.0 f) refl

  pub child-merged : (g : List ℕ) (ts ms : Named) → IsRising ts → IsRising ms → child_of g (merged j ts ms) ≡ joined j (child_of g ts) (child_of g ms)
  child-merged g [] ms rises rises_ms = refl
  child-merged g (t ∷ ts) ms rises rises_ms =
      child-append g (prefix_of t.0 ms) ((t.0, join_on j t.0 t.1 (back_of t.0 ms)) ∷ merged j ts (left_of t.0 (back_of t.0 ms)))
      ∙ by_order (child-merged g ts (left_of t.0 (back_of t.0 ms)) (tail_of t ts rises) (left_rises t.0 (back_of t.0 ms) (back_rises t.0 ms rises_ms))) (cmp t.0 g) refl
    where
      by_order : child_of g (merged j ts (left_of t.0 (back_of t.0 ms))) ≡ joined j (child_of g ts) (child_of g (left_of t.0 (back_of t.0 ms))) → (o : Ordering) → cmp t.0 g ≡ o
          → either (child_of g (prefix_of t.0 ms)) (cond (bytes_eq t.0 g) (Some (join_on j t.0 t.1 (back_of t.0 ms))) (child_of g (merged j ts (left_of t.0 (back_of t.0 ms))))) ≡ joined j (cond (bytes_eq t.0 g) (Some t.1) (child_of g ts)) (child_of g ms)
      by_order later Less e =
          let other = apart_less t.0 g e (bytes_eq t.0 g) refl in
          let not_less = ap is_lt (reversed g t.0 Less e) in
          ap₂ (λ o b. either o (cond b (Some (join_on j t.0 t.1 (back_of t.0 ms))) (child_of g (merged j ts (left_of t.0 (back_of t.0 ms)))))) (prefix_none t.0 g ms not_less) other
          ∙ later ∙ ap (joined j (child_of g ts)) (left_same t.0 g (back_of t.0 ms) other ∙ back_same t.0 g ms not_less)
          ∙ sym (ap (λ b. joined j (cond b (Some t.1) (child_of g ts)) (child_of g ms)) other)
      by_order later Equal e =
          let is = ties t.0 g (ap is_eq e) in
          let not_less = ap is_lt (reversed g t.0 Equal e) in
          ap₂ (λ o b. either o (cond b (Some (join_on j t.0 t.1 (back_of t.0 ms))) (child_of g (merged j ts (left_of t.0 (back_of t.0 ms)))))) (prefix_none t.0 g ms not_less) (equal_is t.0 g e)
          ∙ joins t.0 t.1 ms rises_ms ∙ ap (λ k. joined j (Some t.1) (child_of k ms)) is
          ∙ sym (ap (λ b. joined j (cond b (Some t.1) (child_of g ts)) (child_of g ms)) (equal_is t.0 g e))
      by_order later Greater e =
          let lt = reversed g t.0 Greater e in
          let other = apart_greater t.0 g lt (bytes_eq t.0 g) refl in
          let none = child_above g ts (after_all g t.0 ts lt (head_of t ts rises)) in
          let none_left = child_above g (left_of t.0 (back_of t.0 ms)) (after_all g t.0 (left_of t.0 (back_of t.0 ms)) lt (left_above t.0 ms rises_ms)) in
          ap₂ (λ o b. either o (cond b (Some (join_on j t.0 t.1 (back_of t.0 ms))) (child_of g (merged j ts (left_of t.0 (back_of t.0 ms)))))) (prefix_same t.0 g ms rises_ms lt) other
          ∙ ap (either (child_of g ms)) (later ∙ ap₂ (joined j) none none_left) ∙ either-None (child_of g ms)
          ∙ sym (ap (λ b. joined j (cond b (Some t.1) (child_of g ts)) (child_of g ms)) other ∙ ap (λ o. joined j o (child_of g ms)) none)

  above-merged : (k : List ℕ) (ts ms : Named) → Above k ts → Above k ms → Above k (merged j ts ms)
  above-merged k [] ms a b = b
  above-merged k (t ∷ ts) ms a b =
      above-append k (prefix_of t.0 ms) ((t.0, join_on j t.0 t.1 (back_of t.0 ms)) ∷ merged j ts (left_of t.0 (back_of t.0 ms))) (above-prefix k t.0 ms b)
      (a.0, above-merged k ts (left_of t.0 (back_of t.0 ms)) a.1 (above-left k t.0 (back_of t.0 ms) (above-back k t.0 ms b)))

  merged_rises : (ts ms : Named) → IsRising ts → IsRising ms → IsRising (merged j ts ms)
  merged_rises [] ms rises rises_ms = rises_ms
  merged_rises (t ∷ ts) ms rises rises_ms =
      let left = left_of t.0 (back_of t.0 ms) in
      prefix_then t.0 (join_on j t.0 t.1 (back_of t.0 ms)) (merged j ts left) ms rises_ms (above-merged t.0 ts left (head_of t ts rises) (left_above t.0 ms rises_ms))
      (merged_rises ts left (tail_of t ts rises) (left_rises t.0 (back_of t.0 ms) (back_rises t.0 ms rises_ms)))

  module _ (keeps : (c d : Content) → has_path c ≡ true → has_path (j c d) ≡ true) where
    join_full : (f : List ℕ) (c : Content) (bs : Named) → has_path c ≡ true → has_path (join_on j f c bs) ≡ true
    join_full f c [] has = has
    join_full f c (b ∷ bs) has = by_test (bytes_eq b.0 f)
      where
        by_test : (t : Bool) → has_path (cond t (j c b.1) c) ≡ true
        by_test true = keeps c b.1 has
        by_test false = has

    merged_full : (ts ms : Named) → AreFull ts → AreFull ms → AreFull (merged j ts ms)
    merged_full [] ms a b = b
    merged_full (t ∷ ts) ms a b =
        full-append (prefix_of t.0 ms) ((t.0, join_on j t.0 t.1 (back_of t.0 ms)) ∷ merged j ts (left_of t.0 (back_of t.0 ms))) (full-prefix t.0 ms b)
        (join_full t.0 t.1 (back_of t.0 ms) a.0, merged_full ts (left_of t.0 (back_of t.0 ms)) a.1 (full-left t.0 (back_of t.0 ms) (full-back t.0 ms b)))

    pub merged_children : (ts ms : Named) → AreChildren ts → AreChildren ms → AreChildren (merged j ts ms)
    merged_children ts ms a b = (merged_rises ts ms a.0 b.0, merged_full ts ms a.1 b.1)

-- ---- one content over the other

some_left : (c d : Content) → has_path c ≡ true → has_path (over c d) ≡ true
some_left c d has = let found = some_path c has in one_path (over c d) found.0 (ap is_some (get-over c d found.0) ∙ left_some (fin.get c found.0) (fin.get d found.0) found.1)

get-joined : (q : PathTexts) (a b : Option Content) → fin.get (content_or_nothing (joined over a b)) q ≡ either (fin.get (content_or_nothing a) q) (fin.get (content_or_nothing b) q)
get-joined q None b = sym (ap (λ o. either o (fin.get (content_or_nothing b) q)) (get-nothing q))
get-joined q (Some c) None = sym (ap (either (fin.get c q)) (get-nothing q) ∙ either-None (fin.get c q))
get-joined q (Some c) (Some d) = get-over c d q

module _ (ts ms : Named) (a : AreChildren ts) (b : AreChildren ms) where
  pub over_children : AreChildren (merged over ts ms)
  over_children = merged_children over some_left ts ms a b

  pub gather-merged-over : gather (merged over ts ms) ≡ over (gather ts) (gather ms)
  gather-merged-over = same (gather (merged over ts ms)) (over (gather ts) (gather ms)) by_path
    where
      by_path : (q : PathTexts) → fin.get (gather (merged over ts ms)) q ≡ fin.get (over (gather ts) (gather ms)) q
      by_path [] = get-gather-top (merged over ts ms) ∙ sym (get-over (gather ts) (gather ms) [] ∙ ap₂ either (get-gather-top ts) (get-gather-top ms))
      by_path (g ∷ q) =
          get-child g (merged over ts ms) over_children.0 q ∙ ap (λ o. fin.get (content_or_nothing o) q) (child-merged over g ts ms a.0 b.0) ∙ get-joined q (child_of g ts) (child_of g ms)
          ∙ sym (get-over (gather ts) (gather ms) (g ∷ q) ∙ ap₂ either (get-child g ts a.0 q) (get-child g ms b.0 q))
