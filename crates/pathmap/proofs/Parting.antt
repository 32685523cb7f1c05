-- The children of a map in a part, and those outside of it.
use Rattle.std.proofs.Common.{◌≡◌, ℕ, Bool, true, false, cond, not, filter, is_eq, nat_cmp, List, [], ◌∷◌, map, Option, None, String, Global, string_bytes, refl, sym, ap, ap₂, ◌∙◌, true≢false, Less}
use Rattle.std.specs.Cmp.Lexicographic.{slice_cmp}
use Rattle.std.specs.FinMap as fin
use Rattle.std.specs.List.{AllByRecursion}
use Rattle.std.proofs.lemmas.Map.Keys.{sorted_head, sorted_tail}
use Rattle.fieldpath.specs.Paths.{PathTexts}
use Rattle.pathmap.specs.Contents.{LeafValue, Content, nothing, over, under, gather}
use Rattle.pathmap.specs.Insides.{inside}
use Rattle.pathmap.specs.Levels.{at_top, has_path, IsRising, AreFull, AreChildren}
use Rattle.pathmap.specs.Maps.{contents_in}
use Rattle.pathmap.specs.Parted.{has, is_in, part_of, rest_of, children_in, children_outside, AreFree}
use Rattle.pathmap.specs.declared.held.PathValue.{PathValue}
use Rattle.pathmap.specs.declared.parts.Part.{Part}
use Rattle.pathmap.proofs.Contents.{path_cmp_antisymmetric, same, either, get-nothing, get-over, get-under, nothing-over, over-nothing, over-over}
use Rattle.pathmap.proofs.Insides.{get-inside, inside_after}
use Rattle.pathmap.proofs.Levels.{get-level-gather, get-level-top, nothing_path}
use Rattle.pathmap.proofs.Merging.{Above, rising_more}
use Rattle.pathmap.proofs.Trees.{ties}

abbrev Named : Type 0
Named = List (List ℕ × Content)

abbrev names_of : Named → List (List ℕ)
names_of = map (λ c. c.0)

-- ---- look-ups in a part

pub get-part : (part : Part) (name : List ℕ) (c : Content) (q : PathTexts) → fin.get (part_of part name c) q ≡ cond (is_in part name q) (fin.get c q) None
unfolding part_of
get-part part name c q = fin.get-retain_keys c (is_in part name) q (λ x t. ap (is_in part name) (sym (path_cmp_antisymmetric q x t)))

pub get-rest : (part : Part) (name : List ℕ) (c : Content) (q : PathTexts) → fin.get (rest_of part name c) q ≡ cond (not (is_in part name q)) (fin.get c q) None
unfolding rest_of
get-rest part name c q = fin.get-retain_keys c (λ p. not (is_in part name p)) q (λ x t. ap (λ p. not (is_in part name p)) (sym (path_cmp_antisymmetric q x t)))

-- ---- children by a test of their names

kept : (b t : Bool) (x rest : Option LeafValue) → (t ≡ true → b ≡ true) → either (cond t x None) (cond b rest None) ≡ cond b (either (cond t x None) rest) None
kept true t x rest h = refl
kept false true x rest h = absurd (true≢false (sym (h refl)))
kept false false x rest h = refl

left : (b t : Bool) (x rest : Option LeafValue) → (t ≡ true → b ≡ false) → cond b rest None ≡ cond b (either (cond t x None) rest) None
left false t x rest h = refl
left true false x rest h = refl
left true true x rest h = absurd (true≢false (h refl))

none_either_way : (b : Bool) → cond b None (let o : Option LeafValue = None in o) ≡ None
none_either_way true = refl
none_either_way false = refl

module _ (w : List ℕ → Bool) where
  abbrev those : Named → Named
  those = filter (λ c. w c.0)

  pub named-those : (xs : List (String Global × Content)) → contents_in (filter (λ x. w (string_bytes x.0)) xs) ≡ those (contents_in xs)
  named-those [] = refl
  named-those (x ∷ xs) = by_test (named-those xs) (w (string_bytes x.0))
    where
      by_test : contents_in (filter (λ x. w (string_bytes x.0)) xs) ≡ those (contents_in xs) → (b : Bool)
          → contents_in (cond b (x ∷ filter (λ x. w (string_bytes x.0)) xs) (filter (λ x. w (string_bytes x.0)) xs)) ≡ cond b ((string_bytes x.0, x.1) ∷ those (contents_in xs)) (those (contents_in xs))
      by_test later true = ap (λ l. (string_bytes x.0, x.1) ∷ l) later
      by_test later false = later

  above_those : (k : List ℕ) (cs : Named) → Above k cs → Above k (those cs)
  above_those k [] above = tt
  above_those k (c ∷ cs) above = by_test (above_those k cs above.1) (w c.0)
    where
      by_test : Above k (those cs) → (b : Bool) → Above k (cond b (c ∷ those cs) (those cs))
      by_test later true = (above.0, later)
      by_test later false = later

  those_rise : (cs : Named) → IsRising cs → IsRising (those cs)
  those_rise [] rises = rises
  those_rise (c ∷ cs) rises = by_test (those_rise cs (sorted_tail (slice_cmp nat_cmp) c.0 (names_of cs) rises)) (w c.0)
    where
      by_test : IsRising (those cs) → (b : Bool) → IsRising (cond b (c ∷ those cs) (those cs))
      by_test later true = rising_more c (those cs) (above_those c.0 cs (sorted_head (slice_cmp nat_cmp) c.0 (names_of cs) rises)) later
      by_test later false = later

  those_full : (cs : Named) → AreFull cs → AreFull (those cs)
  those_full [] full = tt
  those_full (c ∷ cs) full = by_test (those_full cs full.1) (w c.0)
    where
      by_test : AreFull (those cs) → (b : Bool) → AreFull (cond b (c ∷ those cs) (those cs))
      by_test later true = (full.0, later)
      by_test later false = later

  pub those_children : (cs : Named) → AreChildren cs → AreChildren (those cs)
  those_children cs children = (those_rise cs children.0, those_full cs children.1)

  pub get-those : (g : List ℕ) (q : PathTexts) (cs : Named) → fin.get (gather (those cs)) (g ∷ q) ≡ cond (w g) (fin.get (gather cs) (g ∷ q)) None
  get-those g q [] = get-nothing (g ∷ q) ∙ sym (ap (λ o. cond (w g) o None) (get-nothing (g ∷ q)) ∙ none_either_way (w g))
  get-those g q (c ∷ cs) =
      by_test (get-those g q cs) (w c.0) refl
      ∙ sym (ap (λ o. cond (w g) o None) (get-over (under c.0 c.1) (gather cs) (g ∷ q) ∙ ap (λ o. either o (fin.get (gather cs) (g ∷ q))) (get-under c.0 c.1 g q)))
    where
      tied : (b : Bool) → w c.0 ≡ b → is_eq (slice_cmp nat_cmp g c.0) ≡ true → w g ≡ b
      tied b is tie = ap w (ties g c.0 tie) ∙ is

      by_test : fin.get (gather (those cs)) (g ∷ q) ≡ cond (w g) (fin.get (gather cs) (g ∷ q)) None → (b : Bool) → w c.0 ≡ b
          → fin.get (gather (cond b (c ∷ those cs) (those cs))) (g ∷ q) ≡ cond (w g) (either (cond (is_eq (slice_cmp nat_cmp g c.0)) (fin.get c.1 q) None) (fin.get (gather cs) (g ∷ q))) None
      by_test later true is =
          get-over (under c.0 c.1) (gather (those cs)) (g ∷ q) ∙ ap₂ either (get-under c.0 c.1 g q) later
          ∙ kept (w g) (is_eq (slice_cmp nat_cmp g c.0)) (fin.get c.1 q) (fin.get (gather cs) (g ∷ q)) (tied true is)
      by_test later false is = later ∙ left (w g) (is_eq (slice_cmp nat_cmp g c.0)) (fin.get c.1 q) (fin.get (gather cs) (g ∷ q)) (tied false is)

-- ---- one level

module _ (part : Part) (name : List ℕ) where
  -- the children in the part, with nothing at the top
  pub part-level : (h : Option PathValue) (cs : Named) (c : Content) → over (at_top h) (gather cs) ≡ c → over (at_top None) (gather (children_in part name cs)) ≡ part_of part name c
  part-level h cs c view = same (over (at_top None) (gather (children_in part name cs))) (part_of part name c) by_path
    where
      by_path : (q : PathTexts) → fin.get (over (at_top None) (gather (children_in part name cs))) q ≡ fin.get (part_of part name c) q
      by_path [] = get-level-top None (children_in part name cs) ∙ sym (get-part part name c [])
      by_path (g ∷ q) =
          get-level-gather None (children_in part name cs) g q ∙ get-those (has part name) g q cs
          ∙ sym (get-part part name c (g ∷ q) ∙ ap (λ o. cond (has part name g) o None) (ap (λ d. fin.get d (g ∷ q)) (sym view) ∙ get-level-gather h cs g q))

  -- the part, beside what another map has at the top and outside of the part
  pub beside-level : (c d : Content) (h k l : Option PathValue) (ms ts : Named) → over (at_top k) (gather ts) ≡ d → at_top h ≡ at_top k
      → over (at_top l) (gather ms) ≡ over (part_of part name c) (gather (children_outside part name ts)) → over (at_top h) (gather ms) ≡ over (part_of part name c) (rest_of part name d)
  beside-level c d h k l ms ts view top below = same (over (at_top h) (gather ms)) (over (part_of part name c) (rest_of part name d)) by_path
    where
      by_path : (q : PathTexts) → fin.get (over (at_top h) (gather ms)) q ≡ fin.get (over (part_of part name c) (rest_of part name d)) q
      by_path [] =
          ap (λ t. fin.get (over t (gather ms)) []) top ∙ get-level-top k ms
          ∙ sym (get-over (part_of part name c) (rest_of part name d) [] ∙ ap₂ either (get-part part name c []) (get-rest part name d [] ∙ ap (λ x. fin.get x []) (sym view) ∙ get-level-top k ts))
      by_path (g ∷ q) =
          get-level-gather h ms g q ∙ sym (get-level-gather l ms g q) ∙ ap (λ x. fin.get x (g ∷ q)) below ∙ get-over (part_of part name c) (gather (children_outside part name ts)) (g ∷ q)
          ∙ ap (either (fin.get (part_of part name c) (g ∷ q))) (get-those (λ f. not (has part name f)) g q ts)
          ∙ sym (get-over (part_of part name c) (rest_of part name d) (g ∷ q)
          ∙ ap (either (fin.get (part_of part name c) (g ∷ q))) (get-rest part name d (g ∷ q) ∙ ap (λ o. cond (not (has part name g)) o None) (ap (λ x. fin.get x (g ∷ q)) (sym view) ∙ get-level-gather k ts g q)))

  -- nothing of a part stands outside of it
  pub part_free : (c : Content) (cs : Named) → AreFree part name (part_of part name c) cs
  part_free c [] = tt
  part_free c (d ∷ ds) = (
    λ out. same (inside d.0 (part_of part name c)) nothing (λ q. get-inside d.0 (part_of part name c) q ∙ get-part part name c (d.0 ∷ q) ∙ ap (λ b. cond b (fin.get c (d.0 ∷ q)) None) out ∙ sym (get-nothing q)),
    part_free c ds,
  )

  -- ---- copies of those outside, one after another

  pub in_part : (c m : Content) (f : List ℕ) → has part name f ≡ true → c ≡ over c (gather (children_outside part name ((f, m) ∷ [])))
  in_part c m f is = sym (ap (λ b. over c (gather (cond (not b) ((f, m) ∷ []) []))) is ∙ over-nothing c)

  pub put_is : (c new m copy : Content) (f k : List ℕ) (b : Bool) → k ≡ f → copy ≡ m → has part name f ≡ false → b ≡ not (has_path (inside k c)) → new ≡ cond b (over c (under k copy)) c
      → AreFree part name c ((f, m) ∷ []) → new ≡ over c (gather (children_outside part name ((f, m) ∷ [])))
  put_is c new m copy f k b named copied out added put free =
      put ∙ ap (λ x. cond x (over c (under k copy)) c) (added ∙ ap (λ x. not (has_path (inside x c))) named ∙ ap (λ x. not (has_path x)) (free.0 out) ∙ ap not nothing_path)
      ∙ ap₂ (λ x y. over c (under x y)) named copied ∙ sym (ap (λ x. over c (gather (cond (not x) ((f, m) ∷ []) []))) out ∙ ap (over c) (over-nothing (under f m)))

  module _ (c new : Content) (x : List ℕ × Content) (is : new ≡ over c (gather (children_outside part name (x ∷ [])))) where
    stays : (g : List ℕ) → slice_cmp nat_cmp x.0 g ≡ Less → inside g new ≡ inside g c
    stays g less = ap (inside g) is ∙ by_test (has part name x.0)
      where
        by_test : (b : Bool) → inside g (over c (gather (cond (not b) (x ∷ []) []))) ≡ inside g c
        by_test true = ap (inside g) (over-nothing c)
        by_test false = ap (λ a. inside g (over c a)) (over-nothing (under x.0 x.1)) ∙ inside_after x.0 g c x.1 less

    free_then : (ds : Named) → AllByRecursion (λ y. slice_cmp nat_cmp x.0 y ≡ Less) (names_of ds) → AreFree part name c ds → AreFree part name new ds
    free_then [] above free = tt
    free_then (d ∷ ds) above free = (λ out. stays d.0 above.0 ∙ free.0 out, free_then ds above.1 free.1)

    joined : (xs : Named) → over (gather (children_outside part name (x ∷ []))) (gather (children_outside part name xs)) ≡ gather (children_outside part name (x ∷ xs))
    joined xs = by_test (has part name x.0)
      where
        by_test : (b : Bool)
            → over (gather (cond (not b) (x ∷ []) [])) (gather (children_outside part name xs)) ≡ gather (cond (not b) (x ∷ children_outside part name xs) (children_outside part name xs))
        by_test true = nothing-over (gather (children_outside part name xs))
        by_test false = ap (λ a. over a (gather (children_outside part name xs))) (over-nothing (under x.0 x.1))

    put_next : (whole : Content) (xs : Named) → IsRising (x ∷ xs) → AreFree part name c (x ∷ xs) → over c (gather (children_outside part name (x ∷ xs))) ≡ whole
        → AreFree part name new xs × (over new (gather (children_outside part name xs)) ≡ whole)
    put_next whole xs rises free before = (
      free_then xs (sorted_head (slice_cmp nat_cmp) x.0 (names_of xs) rises) free.1,
      ap (λ n. over n (gather (children_outside part name xs))) is ∙ over-over c (gather (children_outside part name (x ∷ []))) (gather (children_outside part name xs)) ∙ ap (over c) (joined xs) ∙ before,
    )

  pub next : (c new whole : Content) (x : List ℕ × Content) (xs : Named) → IsRising (x ∷ xs) → (AreFree part name c (x ∷ []) → new ≡ over c (gather (children_outside part name (x ∷ []))))
      → AreFree part name c (x ∷ xs) × (over c (gather (children_outside part name (x ∷ xs))) ≡ whole) → AreFree part name new xs × (over new (gather (children_outside part name xs)) ≡ whole)
  next c new whole x xs rises put before = put_next c new x (put (before.0.0, tt)) whole xs rises before.0 before.1
