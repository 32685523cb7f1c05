-- The first elements of a content: which they are, and that they ascend.
use Rattle.std.proofs.Common.{◌≡◌, ℕ, Bool, true, false, cond, ◌||◌, is_eq, nat_cmp, Ordering, Less, Equal, Greater, List, [], ◌∷◌, Some, is_some, refl, sym, ap, ap₂, ◌∙◌, true≢false}
use Rattle.std.specs.Prelude.{T, ◌&&◌}
use Rattle.std.specs.Cmp.{tied_itself}
use Rattle.std.specs.Cmp.Lexicographic.{slice_cmp}
use Rattle.std.specs.FinMap as fin
use Rattle.std.specs.FinMap.{find, is_sorted}
use Rattle.std.specs.FinMap.Entries.{below_all}
use Rattle.std.specs.List.{AllByRecursion, list_any}
use Rattle.std.specs.List.Sorted.{IsStrictlySortedBy}
use Rattle.std.specs.Ordering.{is_gt, is_lt, ordering_then, ordering_reverse}
use Rattle.std.specs.Str.{bytes_eq}
use Rattle.std.proofs.lemmas.Cmp.{nat_list_cmp_total}
use Rattle.std.proofs.lemmas.Map.Text.{is_eq-slice_cmp}
use Rattle.std.proofs.lemmas.Slice.Eq.{bytes_eq-Decides}
use Rattle.fieldpath.specs.Paths.{PathTexts, path_cmp}
use Rattle.pathmap.specs.Beside.{is_prefix, has_at_or_below}
use Rattle.pathmap.specs.Contents.{LeafValue, Content, nothing, dom}
use Rattle.pathmap.specs.Insides.{tails, inside, heads_of, heads}
use Rattle.pathmap.specs.Levels.{has_path}
use Rattle.pathmap.proofs.Contents.{path_cmp_total, same, get-nothing}
use Rattle.pathmap.proofs.Insides.{get-inside}
use Rattle.pathmap.proofs.Levels.{nothing_path}
use Rattle.pathmap.proofs.Sets.{has_none, passes_some}
use Rattle.pathmap.proofs.Trees.{ties}
pub use Rattle.pathmap.specs.Sizes.{no_path}

abbrev Entries : Type 0
Entries = List (PathTexts × LeafValue)

pub inside-nothing : (f : List ℕ) → inside f nothing ≡ nothing
inside-nothing f = same (inside f nothing) nothing (λ q. get-inside f nothing q ∙ get-nothing (f ∷ q) ∙ sym (get-nothing q))

-- ---- contents that have a path

abbrev is_cons : Entries → Bool
is_cons [] = false
is_cons (e ∷ es) = true

cons_path : (es : Entries) → is_cons es ≡ has_path (fin.from_entries es)
cons_path [] = sym nothing_path
cons_path (e ∷ es) = by_test (has_path (fin.from_entries (e ∷ es))) refl
  where
    found : fin.get (fin.from_entries {R = path_cmp} (e ∷ es)) e.0 ≡ Some e.1
    found = fin.get-from_entries path_cmp_total (e ∷ es) e.0 ∙ ap (λ o. cond (is_eq o) (Some e.1) (find path_cmp e.0 es)) (tied_itself path_cmp_total e.0)

    by_test : (b : Bool) → has_path (fin.from_entries (e ∷ es)) ≡ b → true ≡ b
    by_test true h = refl
    by_test false h = absurd (true≢false (ap is_some (sym found ∙ ap (λ c. fin.get c e.0) (no_path (fin.from_entries (e ∷ es)) h) ∙ get-nothing e.0)))

-- some path of a content that has one
pub some_path : (c : Content) → has_path c ≡ true → (q : PathTexts) × (is_some (fin.get c q) ≡ true)
unfolding has_at_or_below
some_path c has = by_test (has_at_or_below (dom c) []) refl
  where
    by_test : (b : Bool) → has_at_or_below (dom c) [] ≡ b → (q : PathTexts) × (is_some (fin.get c q) ≡ true)
    by_test true h = let found = passes_some (is_prefix []) c h in (found.0, found.1)
    by_test false h = absurd (true≢false (sym has ∙ ap has_path (has_none c h) ∙ nothing_path))

pub one_path : (c : Content) (q : PathTexts) → is_some (fin.get c q) ≡ true → has_path c ≡ true
one_path c q is = by_test (has_path c) refl
  where
    by_test : (b : Bool) → has_path c ≡ b → b ≡ true
    by_test true h = refl
    by_test false h = absurd (true≢false (sym is ∙ ap is_some (ap (λ d. fin.get d q) (no_path c h) ∙ get-nothing q)))

-- ---- the first elements

one_head : (g h : List ℕ) (hs : List (List ℕ)) (b : Bool) → list_any (bytes_eq h) hs ≡ b → list_any (bytes_eq g) (cond b hs (h ∷ hs)) ≡ (bytes_eq g h || list_any (bytes_eq g) hs)
one_head g h hs false is = refl
one_head g h hs true is = by_test (bytes_eq g h) refl
  where
    by_test : (t : Bool) → bytes_eq g h ≡ t → list_any (bytes_eq g) hs ≡ (t || list_any (bytes_eq g) hs)
    by_test true t = ap (λ f. list_any (bytes_eq f) hs) ((bytes_eq-Decides g h).0 t) ∙ is
    by_test false t = refl

more_tail : (b : Bool) (x : PathTexts × LeafValue) (xs : Entries) → (b || is_cons xs) ≡ is_cons (cond b (x ∷ xs) xs)
more_tail true x xs = refl
more_tail false x xs = refl

heads_has : (g : List ℕ) (es : Entries) → list_any (bytes_eq g) (heads_of es) ≡ is_cons (tails g es)
heads_has g [] = refl
heads_has g (([], v) ∷ es) = heads_has g es
heads_has g ((h ∷ t, v) ∷ es) = one_head g h (heads_of es) (list_any (bytes_eq h) (heads_of es)) refl ∙ ap (λ b. bytes_eq g h || b) (heads_has g es) ∙ more_tail (bytes_eq g h) (t, v) (tails g es)

-- an element is a first one exactly if something stands inside it
pub heads-inside : (c : Content) (g : List ℕ) → list_any (bytes_eq g) (heads c) ≡ has_path (inside g c)
unfolding heads inside
heads-inside c g = heads_has g (fin.entries c) ∙ cons_path (tails g (fin.entries c))

-- ---- their order

pub first : (a b : Bool) → T (a && b) → T a
first true b p = tt
first false b p = p

pub second : (a b : Bool) → T (a && b) → T b
second true b p = p
second false b p = absurd p

not_above : (o r : Ordering) → T (is_lt (ordering_then o r)) → is_gt o ≡ false
not_above Less r h = refl
not_above Equal r h = refl
not_above Greater r h = absurd h

above_more : (g k : List ℕ) (hs : List (List ℕ)) (b : Bool) → is_gt (slice_cmp nat_cmp g k) ≡ false → AllByRecursion (λ h. is_gt (slice_cmp nat_cmp g h) ≡ false) hs → AllByRecursion (λ h. is_gt (slice_cmp nat_cmp g h) ≡ false) (cond b hs (k ∷ hs))
above_more g k hs true h hs_above = hs_above
above_more g k hs false h hs_above = (h, hs_above)

heads_above : (g : List ℕ) (rest : PathTexts) (es : Entries) → T (below_all path_cmp (g ∷ rest) es) → AllByRecursion (λ h. is_gt (slice_cmp nat_cmp g h) ≡ false) (heads_of es)
heads_above g rest [] h = tt
heads_above g rest (([], v) ∷ es) h = heads_above g rest es (second (is_lt (path_cmp (g ∷ rest) [])) (below_all path_cmp (g ∷ rest) es) h)
heads_above g rest ((k ∷ t, v) ∷ es) h =
    above_more g k (heads_of es) (list_any (bytes_eq k) (heads_of es))
    (not_above (slice_cmp nat_cmp g k) (path_cmp rest t) (first (is_lt (path_cmp (g ∷ rest) (k ∷ t))) (below_all path_cmp (g ∷ rest) es) h))
    (heads_above g rest es (second (is_lt (path_cmp (g ∷ rest) (k ∷ t))) (below_all path_cmp (g ∷ rest) es) h))

neither : (a b : Bool) → (a || b) ≡ false → (a ≡ false) × (b ≡ false)
neither true b h = absurd (true≢false h)
neither false b h = (refl, h)

below_one : (o : Ordering) → is_gt o ≡ false → is_eq o ≡ false → o ≡ Less
below_one Less g e = refl
below_one Equal g e = absurd (true≢false e)
below_one Greater g e = absurd (true≢false g)

strictly : (g : List ℕ) (hs : List (List ℕ)) → AllByRecursion (λ h. is_gt (slice_cmp nat_cmp g h) ≡ false) hs → list_any (bytes_eq g) hs ≡ false → AllByRecursion (λ h. slice_cmp nat_cmp g h ≡ Less) hs
strictly g [] above none = tt
strictly g (h ∷ hs) above none =
    let apart = neither (bytes_eq g h) (list_any (bytes_eq g) hs) none in (below_one (slice_cmp nat_cmp g h) above.0 (is_eq-slice_cmp g h ∙ apart.0), strictly g hs above.1 apart.1)

abbrev pub Rises : List (List ℕ) → Type 0
Rises hs = IsStrictlySortedBy (slice_cmp nat_cmp) hs

heads_rise : (es : Entries) → T (is_sorted path_cmp es) → Rises (heads_of es)
unfolding IsStrictlySortedBy
heads_rise [] h = tt
heads_rise (([], v) ∷ es) h = heads_rise es (second (below_all path_cmp [] es) (is_sorted path_cmp es) h)
heads_rise ((g ∷ rest, v) ∷ es) h =
    by_test (list_any (bytes_eq g) (heads_of es)) refl (heads_rise es (second (below_all path_cmp (g ∷ rest) es) (is_sorted path_cmp es) h)) (heads_above g rest es (first (below_all path_cmp (g ∷ rest) es) (is_sorted path_cmp es) h))
  where
    by_test : (b : Bool) → list_any (bytes_eq g) (heads_of es) ≡ b → Rises (heads_of es) → AllByRecursion (λ h. is_gt (slice_cmp nat_cmp g h) ≡ false) (heads_of es) → Rises (cond b (heads_of es) (g ∷ heads_of es))
    by_test true is rest above = rest
    by_test false is rest above = (strictly g (heads_of es) above is, rest)

-- ---- one rising list with the same elements

none_above : (g : List ℕ) (hs : List (List ℕ)) → AllByRecursion (λ h. slice_cmp nat_cmp g h ≡ Less) hs → list_any (bytes_eq g) hs ≡ false
none_above g [] all = refl
none_above g (h ∷ hs) all = ap₂ (λ a b. a || b) (sym (is_eq-slice_cmp g h) ∙ ap is_eq all.0) (none_above g hs all.1)

pub all_above : (f g : List ℕ) (hs : List (List ℕ)) → slice_cmp nat_cmp f g ≡ Less → AllByRecursion (λ h. slice_cmp nat_cmp g h ≡ Less) hs → AllByRecursion (λ h. slice_cmp nat_cmp f h ≡ Less) hs
all_above f g [] less all = tt
all_above f g (h ∷ hs) less all = (nat_list_cmp_total.trans f g h less all.0, all_above f g hs less all.1)

pub itself : (g : List ℕ) → bytes_eq g g ≡ true
itself g = (bytes_eq-Decides g g).1 refl

absent_below : (f g : List ℕ) (hs : List (List ℕ)) → slice_cmp nat_cmp f g ≡ Less → AllByRecursion (λ h. slice_cmp nat_cmp g h ≡ Less) hs → list_any (bytes_eq f) (g ∷ hs) ≡ false
absent_below f g hs less all = none_above f (g ∷ hs) (less, all_above f g hs less all)

pub one_rising : (xs ys : List (List ℕ)) → Rises xs → Rises ys → ((g : List ℕ) → list_any (bytes_eq g) xs ≡ list_any (bytes_eq g) ys) → xs ≡ ys
unfolding IsStrictlySortedBy
one_rising [] [] a b is = refl
one_rising [] (y ∷ ys) a b is = absurd (true≢false (sym (is y ∙ ap (λ t. t || list_any (bytes_eq y) ys) (itself y))))
one_rising (x ∷ xs) [] a b is = absurd (true≢false (sym (ap (λ t. t || list_any (bytes_eq x) xs) (itself x)) ∙ is x))
one_rising (x ∷ xs) (y ∷ ys) a b is = by_order (slice_cmp nat_cmp x y) refl (one_rising xs ys a.1 b.1)
  where
    tails_same : x ≡ y → (g : List ℕ) → list_any (bytes_eq g) xs ≡ list_any (bytes_eq g) ys
    tails_same same g = by_test (bytes_eq g x) refl
      where
        by_test : (t : Bool) → bytes_eq g x ≡ t → list_any (bytes_eq g) xs ≡ list_any (bytes_eq g) ys
        by_test true t =
            let here = (bytes_eq-Decides g x).0 t in
            ap (λ f. list_any (bytes_eq f) xs) here ∙ none_above x xs a.0 ∙ sym (ap (λ f. list_any (bytes_eq f) ys) (here ∙ same) ∙ none_above y ys b.0)
        by_test false t = sym (ap (λ u. u || list_any (bytes_eq g) xs) t) ∙ is g ∙ ap (λ u. u || list_any (bytes_eq g) ys) (ap (bytes_eq g) (sym same) ∙ t)

    by_order : (o : Ordering) → slice_cmp nat_cmp x y ≡ o → (((g : List ℕ) → list_any (bytes_eq g) xs ≡ list_any (bytes_eq g) ys) → xs ≡ ys) → x ∷ xs ≡ y ∷ ys
    by_order Less o later = absurd (true≢false (sym (ap (λ t. t || list_any (bytes_eq x) xs) (itself x)) ∙ is x ∙ absent_below x y ys o b.0))
    by_order Equal o later = let same = ties x y (ap is_eq o) in ap₂ (λ z zs. z ∷ zs) same (later (tails_same same))
    by_order Greater o later = absurd (true≢false (sym (ap (λ t. t || list_any (bytes_eq y) ys) (itself y)) ∙ sym (is y) ∙ absent_below y x xs (nat_list_cmp_total.antisymm y x ∙ ap ordering_reverse o) a.0))

pub rising : (c : Content) → Rises (heads c)
unfolding heads
rising c = heads_rise (fin.entries c) (fin.entries_sorted c)

pub heads-nothing : heads nothing ≡ []
heads-nothing = no_head (heads nothing) (λ g. heads-inside nothing g ∙ ap has_path (inside-nothing g) ∙ nothing_path)
  where
    no_head : (hs : List (List ℕ)) → ((g : List ℕ) → list_any (bytes_eq g) hs ≡ false) → hs ≡ []
    no_head [] none = refl
    no_head (h ∷ hs) none = absurd (true≢false (sym (ap (λ t. t || list_any (bytes_eq h) hs) (itself h)) ∙ none h))
