-- A content as the parts inside its elements.
use Rattle.std.proofs.Common.{◌≡◌, ℕ, Bool, true, false, cond, ◌||◌, is_eq, nat_cmp, List, [], ◌∷◌, Option, Some, None, refl, sym, ap, ap₂, ◌∙◌}
use Rattle.std.specs.Cmp.Lexicographic.{slice_cmp}
use Rattle.std.specs.FinMap as fin
use Rattle.std.specs.List.{list_any}
use Rattle.std.specs.Str.{bytes_eq}
use Rattle.std.proofs.lemmas.Map.Text.{is_eq-slice_cmp}
use Rattle.fieldpath.specs.Paths.{PathTexts}
use Rattle.pathmap.specs.Contents.{LeafValue, mark, Content, nothing, here, under, over}
use Rattle.pathmap.specs.Insides.{inside, heads}
use Rattle.pathmap.proofs.Contents.{same, either, get-nothing, get-over, get-under, get-under-top, get-here-below}
use Rattle.pathmap.proofs.Levels.{get-here-top}
use Rattle.pathmap.proofs.Trees.{ties}
use Rattle.pathmap.proofs.Heads.{heads-inside, no_path}
use Rattle.pathmap.proofs.Insides.{get-inside}

merged : (t b : Bool) (x : Option LeafValue) → either (cond t x None) (cond b x None) ≡ cond (t || b) x None
merged true true None = refl
merged true true (Some v) = refl
merged true false None = refl
merged true false (Some v) = refl
merged false b x = refl

get-one : (c : Content) (g e : List ℕ) (rest : PathTexts) → cond (is_eq (slice_cmp nat_cmp g e)) (fin.get (inside e c) rest) None ≡ cond (bytes_eq g e) (fin.get c (g ∷ rest)) None
get-one c g e rest = by_test (is_eq (slice_cmp nat_cmp g e)) refl ∙ ap (λ b. cond b (fin.get c (g ∷ rest)) None) (is_eq-slice_cmp g e)
  where
    by_test : (b : Bool) → is_eq (slice_cmp nat_cmp g e) ≡ b → cond b (fin.get (inside e c) rest) None ≡ cond b (fin.get c (g ∷ rest)) None
    by_test true t = get-inside e c rest ∙ ap (λ f. fin.get c (f ∷ rest)) (sym (ties g e t))
    by_test false t = refl

-- below the elements that pass, d has what c has, and nothing below the others
abbrev pub IsPart : (List ℕ → Bool) → Content → Content → Type 0
IsPart p c d = (g : List ℕ) (rest : PathTexts) → fin.get d (g ∷ rest) ≡ cond (p g) (fin.get c (g ∷ rest)) None

one_part : (c d : Content) (p : List ℕ → Bool) (e : List ℕ) → IsPart p c d → IsPart (λ g. bytes_eq g e || p g) c (over (under e (inside e c)) d)
one_part c d p e h g rest =
    get-over (under e (inside e c)) d (g ∷ rest) ∙ ap₂ either (get-under e (inside e c) g rest ∙ get-one c g e rest) (h g rest) ∙ merged (bytes_eq g e) (p g) (fin.get c (g ∷ rest))

one_top : (c d : Content) (e : List ℕ) → fin.get (over (under e c) d) [] ≡ fin.get d []
one_top c d e = get-over (under e c) d [] ∙ ap (λ a. either a (fin.get d [])) (get-under-top e c)

-- the parts, the last one first, over d
abbrev pub with_parts : List (List ℕ) → Content → Content → Content
with_parts [] c d = d
with_parts (e ∷ es) c d = with_parts es c (over (under e (inside e c)) d)

-- the parts, the first one first
abbrev pub parts : List (List ℕ) → Content → Content
parts [] c = nothing
parts (e ∷ es) c = over (under e (inside e c)) (parts es c)

or_turn : (a b c : Bool) → (a || (b || c)) ≡ ((b || a) || c)
or_turn true true c = refl
or_turn true false c = refl
or_turn false true c = refl
or_turn false false c = refl

or_false : (b : Bool) → (b || false) ≡ b
or_false true = refl
or_false false = refl

with_parts_are : (es : List (List ℕ)) (c d : Content) (p : List ℕ → Bool) → IsPart p c d → IsPart (λ g. list_any (bytes_eq g) es || p g) c (with_parts es c d)
with_parts_are [] c d p h g rest = h g rest
with_parts_are (e ∷ es) c d p h g rest =
    with_parts_are es c (over (under e (inside e c)) d) (λ g. bytes_eq g e || p g) (one_part c d p e h) g rest
    ∙ ap (λ b. cond b (fin.get c (g ∷ rest)) None) (or_turn (list_any (bytes_eq g) es) (bytes_eq g e) (p g))

with_parts_top : (es : List (List ℕ)) (c d : Content) → fin.get (with_parts es c d) [] ≡ fin.get d []
with_parts_top [] c d = refl
with_parts_top (e ∷ es) c d = with_parts_top es c (over (under e (inside e c)) d) ∙ one_top (inside e c) d e

parts_are : (es : List (List ℕ)) (c : Content) → IsPart (λ g. list_any (bytes_eq g) es) c (parts es c)
parts_are [] c g rest = get-nothing (g ∷ rest)
parts_are (e ∷ es) c g rest = one_part c (parts es c) (λ g. list_any (bytes_eq g) es) e (parts_are es c) g rest

parts_top : (es : List (List ℕ)) (c : Content) → fin.get (parts es c) [] ≡ None
parts_top [] c = get-nothing []
parts_top (e ∷ es) c = one_top (inside e c) (parts es c) e ∙ parts_top es c

-- nothing stands below any other element
abbrev pub IsAll : List (List ℕ) → Content → Type 0
IsAll es c = (g : List ℕ) (rest : PathTexts) → list_any (bytes_eq g) es ≡ false → fin.get c (g ∷ rest) ≡ None

below_all : (es : List (List ℕ)) (c d : Content) → IsAll es c → IsPart (λ g. list_any (bytes_eq g) es) c d → (g : List ℕ) (rest : PathTexts) → fin.get d (g ∷ rest) ≡ fin.get c (g ∷ rest)
below_all es c d all part g rest = part g rest ∙ by_test (list_any (bytes_eq g) es) refl
  where
    by_test : (b : Bool) → list_any (bytes_eq g) es ≡ b → cond b (fin.get c (g ∷ rest)) None ≡ fin.get c (g ∷ rest)
    by_test true t = refl
    by_test false t = sym (all g rest t)

with_parts_part : (es : List (List ℕ)) (c : Content) → IsPart (λ g. list_any (bytes_eq g) es) c (with_parts es c nothing)
with_parts_part es c g rest = with_parts_are es c nothing (λ _. false) (λ g rest. get-nothing (g ∷ rest)) g rest ∙ ap (λ b. cond b (fin.get c (g ∷ rest)) None) (or_false (list_any (bytes_eq g) es))

-- the parts of all the elements are the content
pub with_parts-all : (es : List (List ℕ)) (c : Content) → fin.get c [] ≡ None → IsAll es c → with_parts es c nothing ≡ c
with_parts-all es c top all = same (with_parts es c nothing) c by_path
  where
    by_path : (q : PathTexts) → fin.get (with_parts es c nothing) q ≡ fin.get c q
    by_path [] = with_parts_top es c nothing ∙ get-nothing [] ∙ sym top
    by_path (g ∷ rest) = below_all es c (with_parts es c nothing) all (with_parts_part es c) g rest

pub parts-all : (es : List (List ℕ)) (c : Content) → fin.get c [] ≡ None → IsAll es c → parts es c ≡ c
parts-all es c top all = same (parts es c) c by_path
  where
    by_path : (q : PathTexts) → fin.get (parts es c) q ≡ fin.get c q
    by_path [] = parts_top es c ∙ sym top
    by_path (g ∷ rest) = below_all es c (parts es c) all (parts_are es c) g rest

-- an item's mark and the parts below it
pub marked_parts-all : (es : List (List ℕ)) (c : Content) → fin.get c [] ≡ Some mark → IsAll es c → over (here mark) (with_parts es c nothing) ≡ c
marked_parts-all es c top all = same (over (here mark) (with_parts es c nothing)) c by_path
  where
    by_path : (q : PathTexts) → fin.get (over (here mark) (with_parts es c nothing)) q ≡ fin.get c q
    by_path [] = get-over (here mark) (with_parts es c nothing) [] ∙ ap (λ a. either a (fin.get (with_parts es c nothing) [])) (get-here-top mark) ∙ sym top
    by_path (g ∷ rest) =
        get-over (here mark) (with_parts es c nothing) (g ∷ rest) ∙ ap (λ a. either a (fin.get (with_parts es c nothing) (g ∷ rest))) (get-here-below mark g rest)
        ∙ below_all es c (with_parts es c nothing) all (with_parts_part es c) g rest

pub heads-all : (c : Content) → IsAll (heads c) c
heads-all c g rest none = sym (get-inside g c rest) ∙ ap (λ d. fin.get d rest) (no_path (inside g c) (sym (heads-inside c g) ∙ none)) ∙ get-nothing rest
