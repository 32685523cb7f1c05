-- The children of a map are what stands inside its first elements, and each is lower than the whole.
use Rattle.std.proofs.Common.{◌≡◌, ◌<◌, ℕ, zero, suc, arith, Bool, true, false, cond, ◌||◌, List, [], ◌∷◌, map, drop, Option, Some, is_some, String, Global, refl, sym, ap, ap₂, subst, ◌∙◌, Less, nat_cmp, true≢false, is_eq}
use Rattle.std.specs.Cmp.{tied_itself}
use Rattle.std.specs.Cmp.Lexicographic.{slice_cmp}
use Rattle.std.specs.FinMap as fin
use Rattle.std.specs.List.{AllByRecursion, list_any}
use Rattle.std.specs.Str.{bytes_eq}
use Rattle.std.proofs.lemmas.Cmp.{nat_list_cmp_total}
use Rattle.std.proofs.lemmas.Map.Keys.{sorted_head, sorted_tail}
use Rattle.std.proofs.lemmas.Slice.Eq.{bytes_eq-Decides}
use Rattle.pathmap.specs.Contents.{Content, over, gather}
use Rattle.pathmap.specs.Insides.{heads, inside}
use Rattle.pathmap.specs.Levels.{at_top, has_path, height, IsRising, AreFull, AreChildren, child_of}
use Rattle.pathmap.specs.Maps.{content_or_nothing, contents_in}
use Rattle.pathmap.specs.declared.held.PathValue.{PathValue}
use Rattle.pathmap.proofs.Contents.{same}
use Rattle.pathmap.proofs.Heads.{heads-inside, itself, one_rising, rising}
use Rattle.pathmap.proofs.Insides.{get-inside}
use Rattle.pathmap.proofs.Levels.{get-level-below, nothing_path}
use Rattle.pathmap.proofs.Sets.{or_true}
pub use Rattle.pathmap.specs.Sizes.{longest_bound, IsHighest, highest}

abbrev pub names_of : List (List ℕ × Content) → List (List ℕ)
names_of = map (λ c. c.0)

pub turned : (a b : List ℕ) (t : Bool) → bytes_eq a b ≡ t → bytes_eq b a ≡ t
turned a b true is = (bytes_eq-Decides b a).1 (sym ((bytes_eq-Decides a b).0 is))
turned a b false is = by_test (bytes_eq b a) refl
  where
    by_test : (t : Bool) → bytes_eq b a ≡ t → bytes_eq b a ≡ false
    by_test true h = absurd (true≢false (sym ((bytes_eq-Decides a b).1 (sym ((bytes_eq-Decides b a).0 h))) ∙ is))
    by_test false h = h

names_full : (g : List ℕ) (cs : List (List ℕ × Content)) → AreFull cs → list_any (bytes_eq g) (names_of cs) ≡ has_path (content_or_nothing (child_of g cs))
names_full g [] full = sym nothing_path
names_full g (c ∷ cs) full = by_test (names_full g cs full.1) (bytes_eq c.0 g) refl
  where
    by_test : list_any (bytes_eq g) (names_of cs) ≡ has_path (content_or_nothing (child_of g cs)) → (b : Bool) → bytes_eq c.0 g ≡ b
        → (bytes_eq g c.0 || list_any (bytes_eq g) (names_of cs)) ≡ has_path (content_or_nothing (cond b (Some c.1) (child_of g cs)))
    by_test later true is = ap (λ b. b || list_any (bytes_eq g) (names_of cs)) (turned c.0 g true is) ∙ sym full.0
    by_test later false is = ap (λ b. b || list_any (bytes_eq g) (names_of cs)) (turned c.0 g false is) ∙ later

-- the one that has a name has a path
pub child_full : (g : List ℕ) (cs : List (List ℕ × Content)) → AreFull cs → is_some (child_of g cs) ≡ has_path (content_or_nothing (child_of g cs))
child_full g [] full = sym nothing_path
child_full g (c ∷ cs) full = by_test (child_full g cs full.1) (bytes_eq c.0 g)
  where
    by_test : is_some (child_of g cs) ≡ has_path (content_or_nothing (child_of g cs)) → (b : Bool) → is_some (cond b (Some c.1) (child_of g cs)) ≡ has_path (content_or_nothing (cond b (Some c.1) (child_of g cs)))
    by_test later true = sym full.0
    by_test later false = later

module _ (h : Option PathValue) (cs : List (List ℕ × Content)) (kept : AreChildren cs) where
  pub inside-level : (g : List ℕ) → inside g (over (at_top h) (gather cs)) ≡ content_or_nothing (child_of g cs)
  inside-level g = same (inside g (over (at_top h) (gather cs))) (content_or_nothing (child_of g cs)) (λ q. get-inside g (over (at_top h) (gather cs)) q ∙ get-level-below h cs kept.0 g q)

  pub heads-level : heads (over (at_top h) (gather cs)) ≡ names_of cs
  heads-level = one_rising (heads (over (at_top h) (gather cs))) (names_of cs) (rising (over (at_top h) (gather cs))) kept.0 (λ g.
      heads-inside (over (at_top h) (gather cs)) g ∙ ap has_path (inside-level g) ∙ sym (names_full g cs kept.1))

-- a list that rises is its names, each with the content that has it
pub by_names : (cs : List (List ℕ × Content)) → IsRising cs → map {B = List ℕ × Content} (λ f. (f, content_or_nothing (child_of f cs))) (names_of cs) ≡ cs
by_names [] rises = refl
by_names (c ∷ cs) rises =
    ap₂ (λ x xs. x ∷ xs) (ap (λ b. (c.0, content_or_nothing (cond b (Some c.1) (child_of c.0 cs)))) ((bytes_eq-Decides c.0 c.0).1 refl))
    (later (names_of cs) (sorted_head (slice_cmp nat_cmp) c.0 (names_of cs) rises) ∙ by_names cs (sorted_tail (slice_cmp nat_cmp) c.0 (names_of cs) rises))
  where
    below : (f : List ℕ) → slice_cmp nat_cmp c.0 f ≡ Less → (b : Bool) → bytes_eq c.0 f ≡ b → b ≡ false
    below f less false is = refl
    below f less true is = absurd (true≢false (ap is_eq (sym (tied_itself nat_list_cmp_total c.0) ∙ ap (slice_cmp nat_cmp c.0) ((bytes_eq-Decides c.0 f).0 is) ∙ less)))

    later : (fs : List (List ℕ)) → AllByRecursion (λ f. slice_cmp nat_cmp c.0 f ≡ Less) fs → map {B = List ℕ × Content} (λ f. (f, content_or_nothing (child_of f (c ∷ cs)))) fs ≡ map {B = List ℕ × Content} (λ f. (f, content_or_nothing (child_of f cs))) fs
    later [] all = refl
    later (f ∷ fs) all = ap₂ (λ x xs. x ∷ xs) (ap (λ b. (f, content_or_nothing (cond b (Some c.1) (child_of f cs)))) (below f all.0 (bytes_eq c.0 f) refl)) (later fs all.1)

-- children are what stands inside each first element, in order
pub children_are : (h : Option PathValue) (cs : List (List ℕ × Content)) → AreChildren cs → cs ≡ map {B = List ℕ × Content} (λ f. (f, inside f (over (at_top h) (gather cs)))) (heads (over (at_top h) (gather cs)))
children_are h cs kept =
    sym (by_names cs kept.0) ∙ sym (each (names_of cs)) ∙ ap (map {B = List ℕ × Content} (λ f. (f, inside f (over (at_top h) (gather cs))))) (sym (heads-level h cs kept))
  where
    each : (fs : List (List ℕ)) → map {B = List ℕ × Content} (λ f. (f, inside f (over (at_top h) (gather cs)))) fs ≡ map {B = List ℕ × Content} (λ f. (f, content_or_nothing (child_of f cs))) fs
    each [] = refl
    each (f ∷ fs) = ap₂ (λ c xs. (f, c) ∷ xs) (inside-level h cs kept f) (each fs)

-- ---- each child is lower than the whole

-- what stands inside each of some elements
abbrev pub insides : Content → List (List ℕ) → List (List ℕ × Content)
insides c = map (λ f. (f, inside f c))

pub inside_lower : (c : Content) (g : List ℕ) → has_path (inside g c) ≡ true → height (inside g c) < height c
inside_lower c g has =
    let top = highest (inside g c) has in
    let le = longest_bound (g ∷ top.0) (fin.entries c) (ap is_some (sym (get-inside g c top.0 ∙ fin.get-entries c (g ∷ top.0))) ∙ top.1.0) in
    let h = top.1.1 in
    omega (arith, le, h)

pub heads_lower : (c : Content) (hs : List (List ℕ)) → ((g : List ℕ) → list_any (bytes_eq g) hs ≡ true → list_any (bytes_eq g) (heads c) ≡ true) → AllByRecursion (λ n. height n.1 < height c) (insides c hs)
heads_lower c [] h = tt
heads_lower c (g ∷ hs) h = (
  inside_lower c g (sym (heads-inside c g) ∙ h g (ap (λ b. b || list_any (bytes_eq g) hs) (itself g))),
  heads_lower c hs (λ k is. h k (ap (λ b. bytes_eq k g || b) is ∙ or_true (bytes_eq k g))),
)

abbrev AreLower : ℕ → List (String Global × Content) → Type 0
AreLower n xs = AllByRecursion (λ x. height x.1 < n) xs

lower_named : (n : ℕ) (xs : List (String Global × Content)) → AllByRecursion (λ x. height x.1 < n) (contents_in xs) → AreLower n xs
lower_named n [] h = tt
lower_named n (x ∷ xs) h = (h.0, lower_named n xs h.1)

lower_drop : (n i : ℕ) (xs : List (String Global × Content)) → AreLower n xs → AreLower n (drop i xs)
lower_drop n zero xs h = h
lower_drop n (suc i) [] h = tt
lower_drop n (suc i) (x ∷ xs) h = lower_drop n i xs h.1

-- a child is lower than the whole
pub child_lower : (c : Content) (xs : List (String Global × Content)) → contents_in xs ≡ insides c (heads c) → (i : ℕ) (e : String Global × Content) (left : List (String Global × Content)) → drop i xs ≡ e ∷ left → height e.1 < height c
child_lower c xs is i e left steps =
    (subst (AreLower (height c)) steps (lower_drop (height c) i xs (lower_named (height c) xs (subst (λ ns. AllByRecursion (λ n. height n.1 < height c) ns) (sym is) (heads_lower c (heads c) (λ g h. h)))))).0
