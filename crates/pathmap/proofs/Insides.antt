-- What stands below an element.
use Rattle.std.proofs.Common.{◌≡◌, ℕ, Bool, true, false, cond, is_eq, nat_cmp, List, [], ◌∷◌, Option, Some, None, refl, sym, ap, ap₂, ◌∙◌, Ordering, Less, Equal, Greater}
use Rattle.std.specs.Cmp.Lexicographic.{slice_cmp}
use Rattle.std.specs.FinMap as fin
use Rattle.std.specs.FinMap.{find}
use Rattle.std.specs.Ordering.{eq_by_cmp, ordering_reverse, ordering_then}
use Rattle.std.specs.Str.{bytes_eq}
use Rattle.std.proofs.lemmas.Cmp.{nat_list_cmp_total}
use Rattle.std.proofs.lemmas.Map.Text.{is_eq-slice_cmp}
use Rattle.fieldpath.specs.Paths.{PathTexts, path_cmp}
use Rattle.pathmap.specs.Contents.{LeafValue, Content, nothing, over, under}
use Rattle.pathmap.specs.Insides.{inside, tail_of, tails}
use Rattle.pathmap.proofs.Contents.{get-nothing, get-over, get-under, over-nothing, path_cmp_total, same, either}

one_tail : (o : Ordering) (b r : Bool) (v : LeafValue) (x : Option LeafValue) → b ≡ is_eq o → (rs : Ordering) → r ≡ is_eq rs → cond b (cond r (Some v) x) x ≡ cond (is_eq (ordering_then o rs)) (Some v) x
one_tail Less b r v x is rs same = rw is refl
one_tail Equal b r v x is rs same = rw (is, same) refl
one_tail Greater b r v x is rs same = rw is refl

find-cond : (b : Bool) (q : PathTexts) (e : PathTexts × LeafValue) (es : List (PathTexts × LeafValue)) → find path_cmp q (cond b (e ∷ es) es) ≡ cond b (cond (eq_by_cmp path_cmp q e.0) (Some e.1) (find path_cmp q es)) (find path_cmp q es)
find-cond true q e es = refl
find-cond false q e es = refl

find-tail_of : (f : List ℕ) (q p : PathTexts) (v : LeafValue) (es : List (PathTexts × LeafValue)) → find path_cmp q (tail_of f p v es) ≡ cond (eq_by_cmp path_cmp (f ∷ q) p) (Some v) (find path_cmp q es)
find-tail_of f q [] v es = refl
find-tail_of f q (g ∷ rest) v es = find-cond (bytes_eq f g) q (rest, v) es
    ∙ one_tail (slice_cmp nat_cmp f g) (bytes_eq f g) (eq_by_cmp path_cmp q rest) v (find path_cmp q es) (sym (is_eq-slice_cmp f g)) (path_cmp q rest) refl

find-tails : (f : List ℕ) (q : PathTexts) (es : List (PathTexts × LeafValue)) → find path_cmp q (tails f es) ≡ find path_cmp (f ∷ q) es
find-tails f q [] = refl
find-tails f q (e ∷ es) = find-tail_of f q e.0 e.1 (tails f es) ∙ ap (cond (eq_by_cmp path_cmp (f ∷ q) e.0) (Some e.1)) (find-tails f q es)

pub get-inside : (f : List ℕ) (c : Content) (q : PathTexts) → fin.get (inside f c) q ≡ fin.get c (f ∷ q)
unfolding inside
get-inside f c q = fin.get-from_entries path_cmp_total (tails f (fin.entries c)) q ∙ find-tails f q (fin.entries c) ∙ sym (fin.get-entries c (f ∷ q))

-- ---- one content over another

pub inside-over : (e : List ℕ) (a b : Content) → inside e (over a b) ≡ over (inside e a) (inside e b)
inside-over e a b =
    same (inside e (over a b)) (over (inside e a) (inside e b)) (λ q. get-inside e (over a b) q ∙ get-over a b (e ∷ q) ∙ sym (get-over (inside e a) (inside e b) q ∙ ap₂ either (get-inside e a q) (get-inside e b q)))

pub inside-under : (e f : List ℕ) (x : Content) (b : Bool) → bytes_eq e f ≡ b → inside e (under f x) ≡ cond b x nothing
inside-under e f x true is = same (inside e (under f x)) x (λ q. get-inside e (under f x) q ∙ get-under f x e q ∙ ap (λ t. cond t (fin.get x q) None) (is_eq-slice_cmp e f ∙ is))
inside-under e f x false is =
    same (inside e (under f x)) nothing (λ q. get-inside e (under f x) q ∙ get-under f x e q ∙ ap (λ t. cond t (fin.get x q) None) (is_eq-slice_cmp e f ∙ is) ∙ sym (get-nothing q))

-- what is put below an element changes nothing at the others
pub inside_others : (c : Content) (f : List ℕ) (m : Content) (g : List ℕ) → bytes_eq g f ≡ false → inside g (over c (under f m)) ≡ inside g c
inside_others c f m g apart = inside-over g c (under f m) ∙ ap (over (inside g c)) (inside-under g f m false apart) ∙ over-nothing (inside g c)

-- nor at one after it
pub inside_after : (f g : List ℕ) (c m : Content) → slice_cmp nat_cmp f g ≡ Less → inside g (over c (under f m)) ≡ inside g c
inside_after f g c m less = inside_others c f m g (sym (is_eq-slice_cmp g f) ∙ ap is_eq (nat_list_cmp_total.antisymm g f ∙ ap ordering_reverse less))
