-- What a map holds at the empty path, and below each element.
use Rattle.std.proofs.Common.{◌≡◌, ◌==◌, eqb-true, String, Global, ℕ, Bool, true, false, cond, is_eq, nat_cmp, List, [], ◌∷◌, map, length, Option, Some, None, is_some, refl, sym, ap, ap₂, ◌∙◌, true≢false, arith, Ordering, Less}
use Rattle.std.specs.Option.{option_map}
use Rattle.std.specs.Cmp.{tied_itself}
use Rattle.std.specs.Cmp.Lexicographic.{slice_cmp}
use Rattle.std.specs.FinMap as fin
use Rattle.std.specs.List.{AllByRecursion}
use Rattle.std.specs.Str.{bytes_eq}
use Rattle.std.proofs.lemmas.Cmp.{nat_list_cmp_total}
use Rattle.std.proofs.lemmas.Map.Keys.{sorted_head, sorted_tail}
use Rattle.std.proofs.lemmas.Map.Text.{is_eq-slice_cmp}
use Rattle.std.proofs.lemmas.Slice.Eq.{bytes_eq-Decides}
use Rattle.fieldpath.specs.Paths.{PathTexts, path_cmp}
use Rattle.pathmap.specs.Contents.{LeafValue, Content, nothing, here, under, over, gather}
use Rattle.pathmap.specs.Levels.{at_top, leaf_value, has_path, is_more, IsRising, AreFull, child_of}
use Rattle.pathmap.specs.Maps.{content_or_nothing, contents_in, either_top}
use Rattle.pathmap.specs.declared.held.PathValue.{PathValue}
use Rattle.pathmap.proofs.Contents.{path_cmp_total, same, either, either-None, get-nothing, get-over, get-under, get-under-top, get-here-below, nothing-over}

abbrev Named : Type 0
Named = List (List ℕ × Content)

abbrev cmp : List ℕ → List ℕ → Ordering
cmp = slice_cmp nat_cmp

pub get-here-top : (v : LeafValue) → fin.get (here v) [] ≡ Some v
unfolding here
get-here-top v = fin.get-insert path_cmp_total nothing [] v []

pub get-gather-top : (cs : Named) → fin.get (gather cs) [] ≡ None
get-gather-top [] = get-nothing []
get-gather-top (c ∷ cs) = get-over (under c.0 c.1) (gather cs) [] ∙ ap₂ either (get-under-top c.0 c.1) (get-gather-top cs)

pub get-at_top-below : (h : Option PathValue) (g : List ℕ) (q : PathTexts) → fin.get (at_top h) (g ∷ q) ≡ None
get-at_top-below None g q = get-nothing (g ∷ q)
get-at_top-below (Some h) g q = get-here-below (leaf_value h) g q

get-at_top-top : (h : Option PathValue) → fin.get (at_top h) [] ≡ option_map leaf_value h
get-at_top-top None = get-nothing []
get-at_top-top (Some h) = get-here-top (leaf_value h)

-- nothing stands below a name that is before all of them
pub outside : (f : List ℕ) (cs : Named) → AllByRecursion (λ y. cmp f y ≡ Less) (map (λ c. c.0) cs) → (q : PathTexts) → fin.get (gather cs) (f ∷ q) ≡ None
outside f [] h q = get-nothing (f ∷ q)
outside f (c ∷ cs) h q =
    get-over (under c.0 c.1) (gather cs) (f ∷ q) ∙ ap (λ a. either a (fin.get (gather cs) (f ∷ q))) (get-under c.0 c.1 f q ∙ ap (λ o. cond (is_eq o) (fin.get c.1 q) None) h.0) ∙ outside f cs h.1 q

-- below a name there is the content that has it
pub get-child : (g : List ℕ) (cs : Named) → IsRising cs → (q : PathTexts) → fin.get (gather cs) (g ∷ q) ≡ fin.get (content_or_nothing (child_of g cs)) q
get-child g [] rising q = get-nothing (g ∷ q) ∙ sym (get-nothing q)
get-child g (c ∷ cs) rising q = get-over (under c.0 c.1) (gather cs) (g ∷ q) ∙ ap (λ a. either a (fin.get (gather cs) (g ∷ q))) (get-under c.0 c.1 g q)
    ∙ by_test (get-child g cs (sorted_tail cmp c.0 (map (λ c. c.0) cs) rising) q) (bytes_eq c.0 g) refl
  where
    turned : (b : Bool) → bytes_eq c.0 g ≡ b → is_eq (cmp g c.0) ≡ b
    turned true is = ap (λ k. is_eq (cmp g k)) ((bytes_eq-Decides c.0 g).0 is) ∙ ap is_eq (tied_itself nat_list_cmp_total g)
    turned false is = by_tie (bytes_eq g c.0) refl
      where
        by_tie : (b : Bool) → bytes_eq g c.0 ≡ b → is_eq (cmp g c.0) ≡ false
        by_tie true t = absurd (true≢false (sym ((bytes_eq-Decides c.0 g).1 (sym ((bytes_eq-Decides g c.0).0 t))) ∙ is))
        by_tie false t = is_eq-slice_cmp g c.0 ∙ t

    by_test : fin.get (gather cs) (g ∷ q) ≡ fin.get (content_or_nothing (child_of g cs)) q → (b : Bool) → bytes_eq c.0 g ≡ b
        → either (cond (is_eq (cmp g c.0)) (fin.get c.1 q) None) (fin.get (gather cs) (g ∷ q)) ≡ fin.get (content_or_nothing (cond b (Some c.1) (child_of g cs))) q
    by_test later true is =
        ap (λ b. either (cond b (fin.get c.1 q) None) (fin.get (gather cs) (g ∷ q))) (turned true is)
        ∙ ap (λ k. either (fin.get c.1 q) (fin.get (gather cs) (k ∷ q))) (sym ((bytes_eq-Decides c.0 g).0 is))
        ∙ ap (either (fin.get c.1 q)) (outside c.0 cs (sorted_head cmp c.0 (map (λ c. c.0) cs) rising) q) ∙ either-None (fin.get c.1 q)
    by_test later false is = ap (λ b. either (cond b (fin.get c.1 q) None) (fin.get (gather cs) (g ∷ q))) (turned false is) ∙ later

module _ (h : Option PathValue) (cs : Named) where
  pub get-level-top : fin.get (over (at_top h) (gather cs)) [] ≡ option_map leaf_value h
  get-level-top = get-over (at_top h) (gather cs) [] ∙ ap (either (fin.get (at_top h) [])) (get-gather-top cs) ∙ either-None (fin.get (at_top h) []) ∙ get-at_top-top h

  pub get-level-gather : (g : List ℕ) (q : PathTexts) → fin.get (over (at_top h) (gather cs)) (g ∷ q) ≡ fin.get (gather cs) (g ∷ q)
  get-level-gather g q = get-over (at_top h) (gather cs) (g ∷ q) ∙ ap (λ a. either a (fin.get (gather cs) (g ∷ q))) (get-at_top-below h g q)

  pub get-level-below : IsRising cs → (g : List ℕ) (q : PathTexts) → fin.get (over (at_top h) (gather cs)) (g ∷ q) ≡ fin.get (content_or_nothing (child_of g cs)) q
  get-level-below rising g q = get-level-gather g q ∙ get-child g cs rising q

pub no_entries : {A : Type 0} (xs : List A) → length xs ≡ 0 → xs ≡ []
no_entries [] e = refl
no_entries (x ∷ xs) e = absurd (omega arith)

-- ---- maps of no path

pub held_some : (h : Option PathValue) → is_some (option_map leaf_value h) ≡ is_some h
held_some None = refl
held_some (Some h) = refl

either-right : {A : Type 0} (a b : Option A) → either a b ≡ None → b ≡ None
either-right None b e = e
either-right (Some a) b e = absurd (true≢false (ap is_some e))

either-left : {A : Type 0} (a b : Option A) → either a b ≡ None → a ≡ None
either-left None b e = refl
either-left (Some a) b e = absurd (true≢false (ap is_some e))

pub nothing_right : (c d : Content) → over c d ≡ nothing → d ≡ nothing
nothing_right c d e = same d nothing (λ q. either-right (fin.get c q) (fin.get d q) (sym (get-over c d q) ∙ ap (λ m. fin.get m q) e ∙ get-nothing q) ∙ sym (get-nothing q))

pub nothing_left : (c d : Content) → over c d ≡ nothing → c ≡ nothing
nothing_left c d e = same c nothing (λ q. either-left (fin.get c q) (fin.get d q) (sym (get-over c d q) ∙ ap (λ m. fin.get m q) e ∙ get-nothing q) ∙ sym (get-nothing q))

pub under_nothing : (f : List ℕ) (c : Content) → under f c ≡ nothing → c ≡ nothing
under_nothing f c e = same c nothing (λ q.
    ap (λ o. cond (is_eq o) (fin.get c q) None) (sym (tied_itself nat_list_cmp_total f)) ∙ sym (get-under f c f q) ∙ ap (λ m. fin.get m (f ∷ q)) e ∙ get-nothing (f ∷ q) ∙ sym (get-nothing q))

none : (b : Bool) → cond b None (let o : Option LeafValue = None in o) ≡ None
none true = refl
none false = refl

pub under-nothing : (f : List ℕ) → under f nothing ≡ nothing
under-nothing f = same (under f nothing) nothing by_path
  where
    by_path : (q : PathTexts) → fin.get (under f nothing) q ≡ fin.get nothing q
    by_path [] = get-under-top f nothing ∙ sym (get-nothing [])
    by_path (g ∷ q) = get-under f nothing g q ∙ ap (λ o. cond (is_eq (slice_cmp nat_cmp g f)) o None) (get-nothing q) ∙ none (is_eq (slice_cmp nat_cmp g f)) ∙ sym (get-nothing (g ∷ q))

pub nothing_path : has_path nothing ≡ false
nothing_path = ap is_more (fin.len-empty path_cmp LeafValue)

pub bare_level : (h : Option PathValue) (cs : Named) → is_some h ≡ false → cs ≡ [] → over (at_top h) (gather cs) ≡ nothing
bare_level None cs top no_child = nothing-over (gather cs) ∙ ap gather no_child
bare_level (Some h) cs top no_child = absurd (true≢false top)

pub bare_held : (h : Option PathValue) (cs : Named) → over (at_top h) (gather cs) ≡ nothing → is_some h ≡ false
bare_held h cs e = sym (held_some h) ∙ ap is_some (sym (get-level-top h cs) ∙ ap (λ c. fin.get c []) e ∙ get-nothing [])

pub bare_below : (h : Option PathValue) (cs : Named) → AreFull cs → over (at_top h) (gather cs) ≡ nothing → cs ≡ []
bare_below h [] full e = refl
bare_below h (c ∷ cs) full e =
    absurd (true≢false (sym full.0 ∙ ap has_path (under_nothing c.0 c.1 (nothing_left (under c.0 c.1) (gather cs) (nothing_right (at_top h) (gather (c ∷ cs)) e))) ∙ nothing_path))

-- ---- one level over another

over_top : (t m : Option PathValue) → fin.get (either_top t m) [] ≡ either (fin.get (at_top t) []) (fin.get (at_top m) [])
over_top None m = sym (ap (λ a. either a (fin.get (at_top m) [])) (get-nothing []))
over_top (Some t) m = get-here-top (leaf_value t) ∙ sym (ap (λ a. either a (fin.get (at_top m) [])) (get-here-top (leaf_value t)))

below_either : (t m : Option PathValue) (g : List ℕ) (q : PathTexts) → fin.get (either_top t m) (g ∷ q) ≡ None
below_either None m g q = get-at_top-below m g q
below_either (Some t) m g q = get-at_top-below (Some t) g q

module _ (t m : Option PathValue) (ts ms : Named) where
  level_by : (q : PathTexts) → fin.get (over (either_top t m) (over (gather ts) (gather ms))) q ≡ fin.get (over (over (at_top t) (gather ts)) (over (at_top m) (gather ms))) q
  level_by [] =
      get-over (either_top t m) (over (gather ts) (gather ms)) []
      ∙ ap₂ either (over_top t m) (get-over (gather ts) (gather ms) [] ∙ ap₂ either (get-gather-top ts) (get-gather-top ms))
      ∙ either-None (either (fin.get (at_top t) []) (fin.get (at_top m) []))
      ∙ sym (get-over (over (at_top t) (gather ts)) (over (at_top m) (gather ms)) []
      ∙ ap₂ either (get-over (at_top t) (gather ts) [] ∙ ap (either (fin.get (at_top t) [])) (get-gather-top ts) ∙ either-None (fin.get (at_top t) []))
      (get-over (at_top m) (gather ms) [] ∙ ap (either (fin.get (at_top m) [])) (get-gather-top ms) ∙ either-None (fin.get (at_top m) [])))
  level_by (g ∷ q) =
      get-over (either_top t m) (over (gather ts) (gather ms)) (g ∷ q)
      ∙ ap₂ either (below_either t m g q) (get-over (gather ts) (gather ms) (g ∷ q))
      ∙ sym (get-over (over (at_top t) (gather ts)) (over (at_top m) (gather ms)) (g ∷ q)
      ∙ ap₂ either (get-over (at_top t) (gather ts) (g ∷ q) ∙ ap (λ a. either a (fin.get (gather ts) (g ∷ q))) (get-at_top-below t g q))
      (get-over (at_top m) (gather ms) (g ∷ q) ∙ ap (λ a. either a (fin.get (gather ms) (g ∷ q))) (get-at_top-below m g q)))

  pub level : over (either_top t m) (over (gather ts) (gather ms)) ≡ over (over (at_top t) (gather ts)) (over (at_top m) (gather ms))
  level = same _ _ level_by

-- ---- no children

pub none_of : {X : Type 0} (xs : List X) → (length xs == 0) ≡ true → xs ≡ []
none_of xs is = no_entries xs (eqb-true (length xs) 0 is)

pub unnamed : (xs : List (String Global × Content)) → contents_in xs ≡ [] → xs ≡ []
unnamed [] e = refl
unnamed (x ∷ xs) e = let long = ap length e in absurd (omega (arith, long))
