-- Laws of maps from paths, which the measure of `PathMap` needs too (`size_decreases`).
use Rattle.std.proofs.Common.{◌≡◌, ℕ, Bool, true, false, cond, List, [], ◌∷◌, ◌++◌, map, Option, Some, None, refl, sym, ap, ap₂, ◌∙◌, Ordering, Less, Equal, Greater, is_eq, nat_cmp}
use Rattle.std.specs.Ordering.{eq_by_cmp, ordering_then}
use Rattle.std.specs.Cmp.Lexicographic.{slice_cmp}
use Rattle.std.specs.FinMap as fin
use Rattle.std.specs.FinMap.{find, IsAntisymmetric, nat_cmp-IsAntisymmetric, slice_cmp-IsAntisymmetric}
use Rattle.fieldpath.specs.Paths.{PathTexts, path_cmp, path_cmp_total}
use Rattle.pathmap.specs.Contents.{LeafValue, Content, nothing, here, under, over, gather}

pub path_cmp_antisymmetric : IsAntisymmetric path_cmp
path_cmp_antisymmetric = slice_cmp-IsAntisymmetric (slice_cmp-IsAntisymmetric nat_cmp-IsAntisymmetric)

-- two contents that answer alike are equal
pub same : (c d : Content) → ((q : PathTexts) → fin.get c q ≡ fin.get d q) → c ≡ d
same = fin.same_map path_cmp_total path_cmp_antisymmetric

abbrev pub either : {X : Type 0} → Option X → Option X → Option X
either None b = b
either (Some a) b = Some a

pub either-cond : {X : Type 0} (b : Bool) (x : X) (r s : Option X) → either (cond b (Some x) r) s ≡ cond b (Some x) (either r s)
either-cond true x r s = refl
either-cond false x r s = refl

pub find-both : (q : PathTexts) (es gs : List (PathTexts × LeafValue)) → find path_cmp q (es ++ gs) ≡ either (find path_cmp q es) (find path_cmp q gs)
find-both q [] gs = refl
find-both q (e ∷ es) gs = ap (cond (eq_by_cmp path_cmp q e.0) (Some e.1)) (find-both q es gs) ∙ sym (either-cond (eq_by_cmp path_cmp q e.0) e.1 (find path_cmp q es) (find path_cmp q gs))

pub get-nothing : (q : PathTexts) → fin.get nothing q ≡ None
get-nothing q = fin.get-empty path_cmp q

pub get-over : (c d : Content) (q : PathTexts) → fin.get (over c d) q ≡ either (fin.get c q) (fin.get d q)
unfolding over
get-over c d q = fin.get-from_entries path_cmp_total (fin.entries c ++ fin.entries d) q ∙ find-both q (fin.entries c) (fin.entries d)
    ∙ sym (ap₂ either (fin.get-entries c q) (fin.get-entries d q))

pub either-None : {X : Type 0} (a : Option X) → either a None ≡ a
either-None None = refl
either-None (Some x) = refl

either-either : {X : Type 0} (a b c : Option X) → either (either a b) c ≡ either a (either b c)
either-either None b c = refl
either-either (Some x) b c = refl

pub nothing-over : (c : Content) → over nothing c ≡ c
nothing-over c = same _ _ (λ q. get-over nothing c q ∙ ap (λ a. either a (fin.get c q)) (get-nothing q))

pub over-nothing : (c : Content) → over c nothing ≡ c
over-nothing c = same _ _ (λ q. get-over c nothing q ∙ ap (either (fin.get c q)) (get-nothing q) ∙ either-None (fin.get c q))

pub over-over : (c d e : Content) → over (over c d) e ≡ over c (over d e)
over-over c d e = same _ _ (λ q.
    get-over (over c d) e q ∙ ap (λ a. either a (fin.get e q)) (get-over c d q)
    ∙ either-either (fin.get c q) (fin.get d q) (fin.get e q)
    ∙ sym (get-over c (over d e) q ∙ ap (either (fin.get c q)) (get-over d e q)))

pub gather-both : (xs ys : List (List ℕ × Content)) → gather (xs ++ ys) ≡ over (gather xs) (gather ys)
gather-both [] ys = sym (nothing-over (gather ys))
gather-both (x ∷ xs) ys = ap (over (under x.0 x.1)) (gather-both xs ys) ∙ sym (over-over (under x.0 x.1) (gather xs) (gather ys))

tied_or : (o : Ordering) (r : Ordering) (v : LeafValue) (a : Option LeafValue) → cond (is_eq (ordering_then o r)) (Some v) (cond (is_eq o) a None) ≡ cond (is_eq o) (cond (is_eq r) (Some v) a) None
tied_or Less r v a = refl
tied_or Equal r v a = refl
tied_or Greater r v a = refl

cond-None : (b : Bool) (a : Option LeafValue) → a ≡ None → cond b a None ≡ None
cond-None true a e = e
cond-None false a e = refl

find_under : (f g : List ℕ) (rest : PathTexts) (es : List (PathTexts × LeafValue)) → find path_cmp (g ∷ rest) (map (λ e. (f ∷ e.0, e.1)) es) ≡ cond (is_eq (slice_cmp nat_cmp g f)) (find path_cmp rest es) None
find_under f g rest [] = sym (cond-None (is_eq (slice_cmp nat_cmp g f)) None refl)
find_under f g rest (e ∷ es) = ap (cond (eq_by_cmp path_cmp (g ∷ rest) (f ∷ e.0)) (Some e.1)) (find_under f g rest es) ∙ tied_or (slice_cmp nat_cmp g f) (path_cmp rest e.0) e.1 (find path_cmp rest es)

find_above : (f : List ℕ) (es : List (PathTexts × LeafValue)) → find path_cmp [] (map (λ e. (f ∷ e.0, e.1)) es) ≡ None
find_above f [] = refl
find_above f (e ∷ es) = find_above f es

pub get-under : (f : List ℕ) (c : Content) (g : List ℕ) (rest : PathTexts) → fin.get (under f c) (g ∷ rest) ≡ cond (is_eq (slice_cmp nat_cmp g f)) (fin.get c rest) None
unfolding under
get-under f c g rest = fin.get-from_entries path_cmp_total _ (g ∷ rest) ∙ find_under f g rest (fin.entries c) ∙ ap (λ a. cond (is_eq (slice_cmp nat_cmp g f)) a None) (sym (fin.get-entries c rest))

pub get-under-top : (f : List ℕ) (c : Content) → fin.get (under f c) [] ≡ None
unfolding under
get-under-top f c = fin.get-from_entries path_cmp_total _ [] ∙ find_above f (fin.entries c)

pub get-here-below : (v : LeafValue) (g : List ℕ) (rest : PathTexts) → fin.get (here v) (g ∷ rest) ≡ None
unfolding here
get-here-below v g rest = fin.get-insert path_cmp_total nothing [] v (g ∷ rest) ∙ get-nothing (g ∷ rest)
