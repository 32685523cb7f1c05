-- A content of marks is its top over what stands inside each first element; and how long its paths are.
use Rattle.std.proofs.Common.{◌≡◌, ℕ, suc, ◌+◌, ◌<◌, ◌≤◌, Bool, true, false, cond, ◌||◌, List, [], ◌∷◌, length, Option, Some, None, is_some, refl, sym, ap, ap₂, ◌∙◌, true≢false, arith}
use Rattle.std.specs.Cmp.{Equal-is}
use Rattle.std.specs.FinMap as fin
use Rattle.std.specs.List.{list_any}
use Rattle.std.specs.Ordering.{eq_by_cmp}
use Rattle.std.specs.Str.{bytes_eq}
use Rattle.std.proofs.lemmas.Map.Text.{is_eq-slice_cmp}
use Rattle.std.proofs.lemmas.Slice.Eq.{bytes_eq-Decides}
use Rattle.fieldpath.specs.Paths.{PathTexts, path_cmp}
use Rattle.pathmap.specs.Contents.{LeafValue, Content, mark, under, over, gather}
use Rattle.pathmap.specs.Insides.{heads, inside}
use Rattle.pathmap.proofs.Contents.{either, either-None, get-here-below, get-nothing, get-over, get-under, get-under-top, path_cmp_antisymmetric, same}
use Rattle.pathmap.proofs.Heads.{heads-inside, no_path}
use Rattle.pathmap.proofs.Insides.{get-inside}
use Rattle.pathmap.proofs.Levels.{get-here-top}
use Rattle.fieldset.specs.FieldsV1.{top}

abbrev pub mark_when : Bool → Option LeafValue
mark_when b = cond b (Some mark) None

-- a mark stands wherever something stands
abbrev pub IsMarks : Content → Type 0
IsMarks c = (p : PathTexts) → fin.get c p ≡ mark_when (is_some (fin.get c p))

pub marks_inside : (c : Content) (g : List ℕ) → IsMarks c → IsMarks (inside g c)
marks_inside c g marks p = get-inside g c p ∙ marks (g ∷ p) ∙ ap (λ o. mark_when (is_some o)) (sym (get-inside g c p))

abbrev pub each_inside : Content → List (List ℕ) → List (List ℕ × Content)
each_inside c [] = []
each_inside c (e ∷ es) = (e, inside e c) ∷ each_inside c es

pub get_top : (b : Bool) → fin.get (top b) [] ≡ mark_when b
get_top true = get-here-top mark
get_top false = get-nothing []

pub get_top_below : (b : Bool) (g : List ℕ) (t : PathTexts) → fin.get (top b) (g ∷ t) ≡ None
get_top_below true g t = get-here-below mark g t
get_top_below false g t = get-nothing (g ∷ t)

either_same : (o : Option LeafValue) (l : Bool) → either o (cond l o None) ≡ o
either_same None true = refl
either_same None false = refl
either_same (Some v) l = refl

get_each_top : (c : Content) (hs : List (List ℕ)) → fin.get (gather (each_inside c hs)) [] ≡ None
get_each_top c [] = get-nothing []
get_each_top c (h ∷ hs) = get-over (under h (inside h c)) (gather (each_inside c hs)) [] ∙ ap₂ either (get-under-top h (inside h c)) (get_each_top c hs)

get_each : (c : Content) (hs : List (List ℕ)) (g : List ℕ) (t : PathTexts) → fin.get (gather (each_inside c hs)) (g ∷ t) ≡ cond (list_any (bytes_eq g) hs) (fin.get c (g ∷ t)) None
get_each c [] g t = get-nothing (g ∷ t)
get_each c (h ∷ hs) g t =
    get-over (under h (inside h c)) (gather (each_inside c hs)) (g ∷ t)
    ∙ ap₂ either (get-under h (inside h c) g t ∙ ap₂ (λ b o. cond b o None) (is_eq-slice_cmp g h) (get-inside h c t)) (get_each c hs g t)
    ∙ by_test (bytes_eq g h) refl (list_any (bytes_eq g) hs)
  where
    by_test : (b : Bool) → bytes_eq g h ≡ b → (l : Bool) → either (cond b (fin.get c (h ∷ t)) None) (cond l (fin.get c (g ∷ t)) None) ≡ cond (b || l) (fin.get c (g ∷ t)) None
    by_test true is l = ap (λ k. either (fin.get c (k ∷ t)) (cond l (fin.get c (g ∷ t)) None)) (sym ((bytes_eq-Decides g h).0 is)) ∙ either_same (fin.get c (g ∷ t)) l
    by_test false is l = refl

pub absent : (c : Content) (g : List ℕ) (t : PathTexts) → list_any (bytes_eq g) (heads c) ≡ false → fin.get c (g ∷ t) ≡ None
absent c g t h = sym (get-inside g c t) ∙ ap (λ d. fin.get d t) (no_path (inside g c) (sym (heads-inside c g) ∙ h)) ∙ get-nothing t

pub split : (c : Content) → IsMarks c → over (top (is_some (fin.get c []))) (gather (each_inside c (heads c))) ≡ c
split c marks = same _ _ by_path
  where
    by_head : (g : List ℕ) (t : PathTexts) (b : Bool) → list_any (bytes_eq g) (heads c) ≡ b → cond b (fin.get c (g ∷ t)) None ≡ fin.get c (g ∷ t)
    by_head g t true h = refl
    by_head g t false h = sym (absent c g t h)

    by_path : (q : PathTexts) → fin.get (over (top (is_some (fin.get c []))) (gather (each_inside c (heads c)))) q ≡ fin.get c q
    by_path [] =
        get-over (top (is_some (fin.get c []))) (gather (each_inside c (heads c))) [] ∙ ap₂ either (get_top (is_some (fin.get c []))) (get_each_top c (heads c)) ∙ either-None (mark_when (is_some (fin.get c [])))
        ∙ sym (marks [])
    by_path (g ∷ t) =
        get-over (top (is_some (fin.get c []))) (gather (each_inside c (heads c))) (g ∷ t) ∙ ap₂ either (get_top_below (is_some (fin.get c [])) g t) (get_each c (heads c) g t)
        ∙ by_head g t (list_any (bytes_eq g) (heads c)) refl

-- ---- how long paths are

abbrev pub IsBounded : ℕ → Content → Type 0
IsBounded n c = (p : PathTexts) → is_some (fin.get c p) ≡ true → length p < n

abbrev pub total : List PathTexts → ℕ
total [] = 0
total (p ∷ ps) = length p + total ps

within : (q : PathTexts) (ps : List PathTexts) → list_any (eq_by_cmp path_cmp q) ps ≡ true → length q ≤ total ps
within q [] h = absurd (true≢false (sym h))
within q (p ∷ ps) h = by_first (within q ps) (eq_by_cmp path_cmp q p) refl h
  where
    by_first : (list_any (eq_by_cmp path_cmp q) ps ≡ true → length q ≤ total ps) → (b : Bool) → eq_by_cmp path_cmp q p ≡ b → (b || list_any (eq_by_cmp path_cmp q) ps) ≡ true → length q ≤ length p + total ps
    by_first later true tie h =
        let as_long : length q ≡ length p = ap length (path_cmp_antisymmetric q p ((Equal-is (path_cmp q p)).0 tie)) in
        omega (arith, as_long)
    by_first later false tie h =
        let shorter : length q ≤ total ps = later h in
        omega (arith, shorter)

pub bounded : (c : Content) → IsBounded (suc (total (fin.keys c))) c
bounded c p is =
    let shorter : length p ≤ total (fin.keys c) = within p (fin.keys c) (sym (fin.contains_key-keys c p) ∙ is) in
    omega (arith, shorter)
