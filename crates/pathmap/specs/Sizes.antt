-- Each content below an element is lower than the whole.
use Rattle.std.specs.Prelude.{◌≡◌, ◌≤◌, ◌<◌, ◌+◌, ◌⊎◌, ℕ, zero, suc, Bool, true, false, List, [], ◌∷◌, length, max, Option, Some, None, is_some, String, string_bytes}
use Rattle.std.specs.declared.alloc.Global.{Global}
use Rattle.std.proofs.lemmas.Bool.{cases_lt}
use Rattle.std.proofs.lemmas.Cmp.{nat_list_cmp_total}
use Rattle.std.proofs.Common.{inl, inr, cond, refl, sym, ap, ◌∙◌, true≢false, arith, is_eq}
use Rattle.std.specs.Cmp.{Equal-is, tied_itself}
use Rattle.std.specs.Ordering.{eq_by_cmp}
use Rattle.std.specs.FinMap as fin
use Rattle.std.specs.FinMap.{find}
use Rattle.fieldpath.specs.Paths.{PathTexts, path_cmp, path_cmp_total}
use Rattle.pathmap.specs.Contents.{LeafValue, Content, nothing, under, over, gather}
use Rattle.pathmap.specs.Levels.{named, has_path, is_more, AreFull, longest, height}
use Rattle.pathmap.specs.Laws.{path_cmp_antisymmetric, either, get-over, get-under}
use denote.Param.Weighed.{most}

zero_of : (n : ℕ) → is_more n ≡ false → n ≡ 0
zero_of zero e = refl
zero_of (suc n) e = absurd (true≢false e)

pub no_path : (c : Content) → has_path c ≡ false → c ≡ nothing
no_path c e = fin.empty_of_len c (zero_of (fin.len c) e)

-- a path of the longest
abbrev pub IsLongest : List (PathTexts × LeafValue) → PathTexts → Type 0
IsLongest es q = (is_some (find path_cmp q es) ≡ true) × (longest es ≡ suc (length q))

some_cond : (b : Bool) (v : LeafValue) (o : Option LeafValue) → is_some o ≡ true → is_some (cond b (Some v) o) ≡ true
some_cond true v o h = refl
some_cond false v o h = h

first_found : (e : PathTexts × LeafValue) (es : List (PathTexts × LeafValue)) → is_some (find path_cmp e.0 (e ∷ es)) ≡ true
first_found e es = ap (λ o. is_some (cond (is_eq o) (Some e.1) (find path_cmp e.0 es))) (tied_itself path_cmp_total e.0)

pub longest_path : (e : PathTexts × LeafValue) (es : List (PathTexts × LeafValue)) → (q : PathTexts) × IsLongest (e ∷ es) q
longest_path e [] = (e.0, (first_found e [], omega arith))
longest_path e (f ∷ es) = by_order (longest_path f es) (cases_lt (suc (length e.0)) (longest (f ∷ es)))
  where
    by_order : ((q : PathTexts) × IsLongest (f ∷ es) q) → (suc (length e.0) < longest (f ∷ es)) ⊎ (longest (f ∷ es) ≤ suc (length e.0)) → (q : PathTexts) × IsLongest (e ∷ f ∷ es) q
    by_order found (inl le) = (found.0, (some_cond (eq_by_cmp path_cmp found.0 e.0) e.1 (find path_cmp found.0 (f ∷ es)) found.1.0, (let is = found.1.1 in omega (arith, is, le))))
    by_order found (inr le) = (e.0, (first_found e (f ∷ es), omega (arith, le)))

pub longest_bound : (q : PathTexts) (es : List (PathTexts × LeafValue)) → is_some (find path_cmp q es) ≡ true → suc (length q) ≤ longest es
longest_bound q [] h = absurd (true≢false (sym h))
longest_bound q (e ∷ es) h = by_tie (longest_bound q es) (eq_by_cmp path_cmp q e.0) refl h
  where
    by_tie : (is_some (find path_cmp q es) ≡ true → suc (length q) ≤ longest es) → (b : Bool) → eq_by_cmp path_cmp q e.0 ≡ b → is_some (cond b (Some e.1) (find path_cmp q es)) ≡ true → suc (length q) ≤ longest (e ∷ es)
    by_tie later true tie is = let alike = ap length (path_cmp_antisymmetric q e.0 ((Equal-is (path_cmp q e.0)).0 tie)) in omega (arith, alike)
    by_tie later false tie is = let le = later is in omega (arith, le)

height_bound : (c : Content) (q : PathTexts) → is_some (fin.get c q) ≡ true → suc (length q) ≤ height c
height_bound c q is = longest_bound q (fin.entries c) (sym (ap is_some (fin.get-entries c q)) ∙ is)

-- a path of the height
abbrev pub IsHighest : Content → PathTexts → Type 0
IsHighest c q = (is_some (fin.get c q) ≡ true) × (height c ≡ suc (length q))

pub highest : (c : Content) → has_path c ≡ true → (q : PathTexts) × IsHighest c q
highest c has = by_list (fin.entries c) (sym (ap is_more (fin.len-entries c)) ∙ has) refl
  where
    by_list : (es : List (PathTexts × LeafValue)) → is_more (length es) ≡ true → fin.entries c ≡ es → (q : PathTexts) × IsHighest c q
    by_list [] h is = absurd (true≢false (sym h))
    by_list (e ∷ es) h is = let found = longest_path e es in (found.0, (ap is_some (fin.get-entries c found.0 ∙ ap (find path_cmp found.0) is) ∙ found.1.0, ap longest is ∙ found.1.1))

-- what has all paths of another is no lower
higher : (c d : Content) → ((q : PathTexts) → is_some (fin.get c q) ≡ true → is_some (fin.get d q) ≡ true) → height c ≤ height d
higher c d more = by_list (fin.entries c) refl
  where
    by_list : (es : List (PathTexts × LeafValue)) → fin.entries c ≡ es → height c ≤ height d
    by_list [] is = let h = ap longest is in omega (arith, h)
    by_list (e ∷ es) is =
        let found = longest_path e es in
        let le = height_bound d found.0 (more found.0 (ap is_some (fin.get-entries c found.0 ∙ ap (find path_cmp found.0) is) ∙ found.1.0)) in
        let h = ap longest is ∙ found.1.1 in
        omega (arith, le, h)

pub left_some : (a b : Option LeafValue) → is_some a ≡ true → is_some (either a b) ≡ true
left_some None b h = absurd (true≢false (sym h))
left_some (Some v) b h = refl

right_some : (a b : Option LeafValue) → is_some b ≡ true → is_some (either a b) ≡ true
right_some None b h = h
right_some (Some v) b h = refl

height-left : (c d : Content) → height c ≤ height (over c d)
height-left c d = higher c (over c d) (λ q is. ap is_some (get-over c d q) ∙ left_some (fin.get c q) (fin.get d q) is)

height-right : (c d : Content) → height d ≤ height (over c d)
height-right c d = higher d (over c d) (λ q is. ap is_some (get-over c d q) ∙ right_some (fin.get c q) (fin.get d q) is)

height-under : (f : List ℕ) (c : Content) → has_path c ≡ true → height c + 1 ≤ height (under f c)
height-under f c has =
    let top = highest c has in
    let at : fin.get (under f c) (f ∷ top.0) ≡ fin.get c top.0 = get-under f c f top.0 ∙ ap (λ o. cond (is_eq o) (fin.get c top.0) None) (tied_itself nat_list_cmp_total f) in
    let le = height_bound (under f c) (f ∷ top.0) (ap is_some at ∙ top.1.0) in
    let h = top.1.1 in
    omega (arith, le, h)

children_lower : (below : List (String Global × Content)) → AreFull (named below) → most (λ m. height m.1 + 1) below ≤ height (gather (named below))
children_lower [] full = omega arith
children_lower (m ∷ ms) full =
    let here = height-under (string_bytes m.0) m.1 full.0 in
    let first = height-left (under (string_bytes m.0) m.1) (gather (named ms)) in
    let later = children_lower ms full.1 in
    let others = height-right (under (string_bytes m.0) m.1) (gather (named ms)) in
    omega (arith, here, first, later, others)

most_le : {X : Type 0} (f g : X → ℕ) → ((x : X) → f x ≤ g x) → (xs : List X) → most f xs ≤ most g xs
most_le f g le [] = omega arith
most_le f g le (x ∷ xs) =
    let first = le x in
    let later = most_le f g le xs in
    omega (arith, first, later)

pub no_more : (n : ℕ) → max 0 (max n 0) ≤ n
no_more n = omega arith

-- whatever measures each child by its height and one more at most
pub lower : (top : Content) (below : List (String Global × Content)) → AreFull (named below) → (f : String Global × Content → ℕ) → ((m : String Global × Content) → f m ≤ height m.1 + 1)
    → max (most f below) 0 ≤ height (over top (gather (named below)))
lower top below full f le =
    let each = most_le f (λ m. height m.1 + 1) le below in
    let all = children_lower below full in
    let over_all = height-right top (gather (named below)) in
    omega (arith, each, all, over_all)
