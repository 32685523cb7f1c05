-- What a rule picks at the empty path, and below an element.
use Rattle.std.proofs.Common.{◌≡◌, ℕ, Bool, true, false, cond, not, ◌&&◌, nat_cmp, List, [], ◌∷◌, ◌++◌, map, Option, Some, None, is_some, refl, sym, ap, ap₂, subst, ◌∙◌, true≢false}
use Rattle.std.specs.Cmp.{both_ways}
use Rattle.std.specs.Cmp.Lexicographic.{slice_cmp}
use Rattle.std.specs.Option.{option_map}
use Rattle.std.specs.FinMap as fin
use Rattle.std.specs.FinSet as set
use Rattle.std.specs.Str.{bytes_eq}
use Rattle.std.proofs.lemmas.List.{append_assoc}
use Rattle.std.proofs.lemmas.Map.Keys.{sorted_head, sorted_tail}
use Rattle.std.proofs.lemmas.Slice.Eq.{bytes_eq-Decides}
use Rattle.fieldpath.specs.Paths.{PathTexts}
use Rattle.pathmap.specs.Contents.{LeafValue, mark, Content, PathSet, nothing, over, gather, dom, marked}
use Rattle.pathmap.specs.Beside.{same_value, has_at_or_below, is_empty}
use Rattle.pathmap.specs.Insides.{inside}
use Rattle.pathmap.specs.Levels.{at_top, leaf_value, has_path, IsRising, AreFull, AreChildren, child_of}
use Rattle.pathmap.specs.Maps.{content_or_nothing}
use Rattle.pathmap.specs.Picks.{kept, no_child, picked, picked_in, picks, picks_alone, picks_some}
use Rattle.pathmap.specs.declared.held.PathValue.{PathValue}
use Rattle.pathmap.specs.declared.pick.Rule.{Rule}
use Rattle.pathmap.specs.declared.pick.Rule.TheVariants.{Absent, Present, Changed, Clear}
use Rattle.pathmap.proofs.Contents.{path_cmp_total, same, get-nothing}
use Rattle.pathmap.proofs.Heads.{no_path}
use Rattle.pathmap.proofs.Insides.{get-inside}
use Rattle.pathmap.proofs.Levels.{get-level-top, get-level-below, bare_below, bare_level, held_some, nothing_path}
use Rattle.pathmap.specs.Merged.{back_of, first_of, left_of}
use Rattle.pathmap.proofs.Merging.{Above, child_above, first_back, left_keeps, rising_more}
use Rattle.pathmap.proofs.Order.{get-marked, is_marked}
use Rattle.pathmap.proofs.Sets.{same_paths, contains-dom, contains-changed, contains-clear_of, has_no_path, without_path, IsBelow, has_below-at, has_none, nothing-has}

pub twice : (b : Bool) → b ≡ not (not b)
twice true = refl
twice false = refl

-- what stands at the top of one level
pub top_is : (h : Option PathValue) (cs : List (List ℕ × Content)) (d : Content) → over (at_top h) (gather cs) ≡ d → fin.get d [] ≡ option_map leaf_value h
top_is h cs d view = ap (λ m. fin.get m []) (sym view) ∙ get-level-top h cs

pub picks-Absent : (h : Option PathValue) (cs : List (List ℕ × Content)) (d : Content) → over (at_top h) (gather cs) ≡ d → (r : Bool) → is_some h ≡ not r → r ≡ not (is_some (fin.get d []))
picks-Absent h cs d view r is = twice r ∙ ap not (sym (ap is_some (top_is h cs d view) ∙ held_some h ∙ is))

pub picks-Present : (h : Option PathValue) (cs : List (List ℕ × Content)) (d : Content) → over (at_top h) (gather cs) ≡ d → (r : Bool) → r ≡ is_some h → r ≡ is_some (fin.get d [])
picks-Present h cs d view r is = is ∙ sym (ap is_some (top_is h cs d view) ∙ held_some h)

pub picks-Changed : (h : Option PathValue) (cs : List (List ℕ × Content)) (d : Content) → over (at_top h) (gather cs) ≡ d → (mine : PathValue) (theirs : Option PathValue) → h ≡ theirs
    → not (same_value (Some (leaf_value mine)) (option_map leaf_value theirs)) ≡ not (same_value (Some (leaf_value mine)) (fin.get d []))
picks-Changed h cs d view mine theirs is = ap (λ o. not (same_value (Some (leaf_value mine)) o)) (sym (top_is h cs d view ∙ ap (option_map leaf_value) is))

pub picks-Clear : (n : Content) (r : Bool) → (r ≡ true → n ≡ nothing) → (n ≡ nothing → r ≡ true) → r ≡ not (has_at_or_below (dom n) [])
picks-Clear n true bare back = ap not (sym (ap (λ c. has_at_or_below (dom c) []) (bare refl) ∙ nothing-has))
picks-Clear n false bare back = ap not (by_answer (has_at_or_below (dom n) []) refl)
  where
    by_answer : (b : Bool) → has_at_or_below (dom n) [] ≡ b → true ≡ b
    by_answer true h = refl
    by_answer false h = absurd (true≢false (sym (back (has_none n h))))

pub picks-nothing : (rule : Rule) (v : LeafValue) → picks rule v nothing ≡ picks_alone rule
picks-nothing Absent v = ap (λ o. not (is_some o)) (get-nothing [])
picks-nothing Present v = ap is_some (get-nothing [])
picks-nothing Changed v = ap (λ o. not (same_value (Some v) o)) (get-nothing [])
picks-nothing Clear v = ap not nothing-has

-- ---- path by path

-- whether the rule picks p, where o stands, beside d
abbrev pub decides : Rule → Option LeafValue → Content → PathTexts → Bool
decides Absent o d p = is_some o && not (is_some (fin.get d p))
decides Present o d p = is_some o && is_some (fin.get d p)
decides Changed o d p = is_some o && not (same_value o (fin.get d p))
decides Clear o d p = is_some o && not (has_at_or_below (dom d) p)

pub contains-picked : (rule : Rule) (c d : Content) (p : PathTexts) → set.contains (picked rule c d) p ≡ decides rule (fin.get c p) d p
contains-picked Absent c d p = set.contains-difference path_cmp_total (dom c) (dom d) p ∙ ap₂ (λ a b. a && not b) (contains-dom c p) (contains-dom d p)
contains-picked Present c d p = set.contains-intersection path_cmp_total (dom c) (dom d) p ∙ ap₂ (λ a b. a && b) (contains-dom c p) (contains-dom d p)
contains-picked Changed c d p = contains-changed c d p
contains-picked Clear c d p = contains-clear_of (dom c) (dom d) p ∙ ap (λ b. b && not (has_at_or_below (dom d) p)) (contains-dom c p)

pub decides-top : (rule : Rule) (o : Option LeafValue) (d : Content) → decides rule o d [] ≡ picks_some rule o d
decides-top Absent None d = refl
decides-top Absent (Some v) d = refl
decides-top Present None d = refl
decides-top Present (Some v) d = refl
decides-top Changed None d = refl
decides-top Changed (Some v) d = refl
decides-top Clear None d = refl
decides-top Clear (Some v) d = refl

pub decides-none : (rule : Rule) (d : Content) (p : PathTexts) → decides rule None d p ≡ false
decides-none Absent d p = refl
decides-none Present d p = refl
decides-none Changed d p = refl
decides-none Clear d p = refl

pub decides-below : (rule : Rule) (g : List ℕ) (o : Option LeafValue) (d j : Content) → IsBelow g d j → (q : PathTexts) → decides rule o d (g ∷ q) ≡ decides rule o j q
decides-below Absent g o d j theirs q = ap (λ a. is_some o && not (is_some a)) (sym (theirs q))
decides-below Present g o d j theirs q = ap (λ a. is_some o && is_some a) (sym (theirs q))
decides-below Changed g o d j theirs q = ap (λ a. is_some o && not (same_value o a)) (sym (theirs q))
decides-below Clear g o d j theirs q = ap (λ b. is_some o && not b) (has_below-at g d j theirs q)

-- ---- children, one after another

abbrev Named : Type 0
Named = List (List ℕ × Content)

get-picked : (rule : Rule) (c d : Content) (q : PathTexts) → fin.get (marked (picked rule c d)) q ≡ cond (decides rule (fin.get c q) d q) (Some mark) None
get-picked rule c d q = get-marked (picked rule c d) q ∙ ap (λ b. cond b (Some mark) None) (contains-picked rule c d q)

-- one that is kept stands before the others
pub kept-before : (f : List ℕ) (c : Content) (cs : Named) → kept f c [] ++ cs ≡ kept f c cs
kept-before f c cs = by_path (has_path c)
  where
    by_path : (b : Bool) → cond b ((f, c) ∷ []) [] ++ cs ≡ cond b ((f, c) ∷ cs) cs
    by_path true = refl
    by_path false = refl

module _ (rule : Rule) (ds : Named) where
  -- what has a name beside
  abbrev beside : List ℕ → Content
  beside f = content_or_nothing (child_of f ds)

  picked_above : (k : List ℕ) (cs : Named) → Above k cs → Above k (picked_in rule ds cs)
  picked_above k [] above = tt
  picked_above k (c ∷ cs) above = by_path (picked_above k cs above.1) (has_path (marked (picked rule c.1 (beside c.0))))
    where
      by_path : Above k (picked_in rule ds cs) → (b : Bool) → Above k (cond b ((c.0, marked (picked rule c.1 (beside c.0))) ∷ picked_in rule ds cs) (picked_in rule ds cs))
      by_path later true = (above.0, later)
      by_path later false = later

  picked_rises : (cs : Named) → IsRising cs → IsRising (picked_in rule ds cs)
  picked_rises [] rises = rises
  picked_rises (c ∷ cs) rises =
      by_path (picked_rises cs (sorted_tail (slice_cmp nat_cmp) c.0 (map (λ c. c.0) cs) rises)) (has_path (marked (picked rule c.1 (beside c.0))))
    where
      by_path : IsRising (picked_in rule ds cs) → (b : Bool) → IsRising (cond b ((c.0, marked (picked rule c.1 (beside c.0))) ∷ picked_in rule ds cs) (picked_in rule ds cs))
      by_path later true = rising_more (c.0, marked (picked rule c.1 (beside c.0))) (picked_in rule ds cs) (picked_above c.0 cs (sorted_head (slice_cmp nat_cmp) c.0 (map (λ c. c.0) cs) rises)) later
      by_path later false = later

  picked_full : (cs : Named) → AreFull (picked_in rule ds cs)
  picked_full [] = tt
  picked_full (c ∷ cs) = by_path (picked_full cs) (has_path (marked (picked rule c.1 (beside c.0)))) refl
    where
      by_path : AreFull (picked_in rule ds cs) → (b : Bool) → has_path (marked (picked rule c.1 (beside c.0))) ≡ b → AreFull (cond b ((c.0, marked (picked rule c.1 (beside c.0))) ∷ picked_in rule ds cs) (picked_in rule ds cs))
      by_path later true is = (is, later)
      by_path later false is = later

  pub picked_children : (cs : Named) → IsRising cs → AreChildren (picked_in rule ds cs)
  picked_children cs rises = (picked_rises cs rises, picked_full cs)

  abbrev mark_at : List ℕ → Option Content → PathTexts → Option LeafValue
  mark_at g o q = cond (decides rule (fin.get (content_or_nothing o) q) (beside g) q) (Some mark) None

  mark_none : (g : List ℕ) (q : PathTexts) → mark_at g None q ≡ None
  mark_none g q = ap (λ b. cond b (Some mark) None) (ap (λ o. decides rule o (beside g) q) (get-nothing q) ∙ decides-none rule (beside g) q)

  child-picked : (g : List ℕ) (q : PathTexts) (cs : Named) → IsRising cs → fin.get (content_or_nothing (child_of g (picked_in rule ds cs))) q ≡ mark_at g (child_of g cs) q
  child-picked g q [] rises = get-nothing q ∙ sym (mark_none g q)
  child-picked g q (c ∷ cs) rises = by_path (child-picked g q cs (sorted_tail (slice_cmp nat_cmp) c.0 (map (λ c. c.0) cs) rises)) (has_path (marked (picked rule c.1 (beside c.0)))) refl
    where
      one : bytes_eq c.0 g ≡ true → fin.get (marked (picked rule c.1 (beside c.0))) q ≡ mark_at g (Some c.1) q
      one is = get-picked rule c.1 (beside c.0) q ∙ ap (λ k. cond (decides rule (fin.get c.1 q) (beside k) q) (Some mark) None) ((bytes_eq-Decides c.0 g).0 is)

      absent : bytes_eq c.0 g ≡ true → child_of g cs ≡ None
      absent is = child_above g cs (subst (λ k. Above k cs) ((bytes_eq-Decides c.0 g).0 is) (sorted_head (slice_cmp nat_cmp) c.0 (map (λ c. c.0) cs) rises))

      kept_one : fin.get (content_or_nothing (child_of g (picked_in rule ds cs))) q ≡ mark_at g (child_of g cs) q → (t : Bool) → bytes_eq c.0 g ≡ t
          → fin.get (content_or_nothing (cond t (Some (marked (picked rule c.1 (beside c.0)))) (child_of g (picked_in rule ds cs)))) q ≡ mark_at g (cond t (Some c.1) (child_of g cs)) q
      kept_one later true is = one is
      kept_one later false is = later

      left_one : (marked (picked rule c.1 (beside c.0))) ≡ nothing → fin.get (content_or_nothing (child_of g (picked_in rule ds cs))) q ≡ mark_at g (child_of g cs) q → (t : Bool) → bytes_eq c.0 g ≡ t
          → fin.get (content_or_nothing (child_of g (picked_in rule ds cs))) q ≡ mark_at g (cond t (Some c.1) (child_of g cs)) q
      left_one none later true is = later ∙ ap (λ o. mark_at g o q) (absent is) ∙ mark_none g q ∙ sym (sym (one is) ∙ ap (λ m. fin.get m q) none ∙ get-nothing q)
      left_one none later false is = later

      by_path : fin.get (content_or_nothing (child_of g (picked_in rule ds cs))) q ≡ mark_at g (child_of g cs) q → (b : Bool) → has_path (marked (picked rule c.1 (beside c.0))) ≡ b
          → fin.get (content_or_nothing (child_of g (cond b ((c.0, (marked (picked rule c.1 (beside c.0)))) ∷ picked_in rule ds cs) (picked_in rule ds cs)))) q ≡ mark_at g (cond (bytes_eq c.0 g) (Some c.1) (child_of g cs)) q
      by_path later true is = kept_one later (bytes_eq c.0 g) refl
      by_path later false is = left_one (no_path (marked (picked rule c.1 (beside c.0))) is) later (bytes_eq c.0 g) refl

  pub picks_level : (d : Content) → ((f : List ℕ) → beside f ≡ inside f d) → (h m : Option PathValue) (cs : Named) → IsRising cs → option_map leaf_value m ≡ cond (picks_some rule (option_map leaf_value h) d) (Some mark) None
      → over (at_top m) (gather (picked_in rule ds cs)) ≡ marked (picked rule (over (at_top h) (gather cs)) d)
  picks_level d insides h m cs rises top = same (over (at_top m) (gather (picked_in rule ds cs))) (marked (picked rule (over (at_top h) (gather cs)) d)) by_path
    where
      by_path : (q : PathTexts) → fin.get (over (at_top m) (gather (picked_in rule ds cs))) q ≡ fin.get (marked (picked rule (over (at_top h) (gather cs)) d)) q
      by_path [] =
          get-level-top m (picked_in rule ds cs) ∙ top
          ∙ sym (get-picked rule (over (at_top h) (gather cs)) d [] ∙ ap (λ b. cond b (Some mark) None) (ap (λ o. decides rule o d []) (get-level-top h cs) ∙ decides-top rule (option_map leaf_value h) d))
      by_path (g ∷ q) =
          get-level-below m (picked_in rule ds cs) (picked_rises cs rises) g q ∙ child-picked g q cs rises
          ∙ sym (get-picked rule (over (at_top h) (gather cs)) d (g ∷ q) ∙ ap (λ b. cond b (Some mark) None) (ap (λ o. decides rule o d (g ∷ q)) (get-level-below h cs rises g q)
          ∙ decides-below rule g (fin.get (content_or_nothing (child_of g cs)) q) d (beside g) (λ r. ap (λ j. fin.get j r) (insides g) ∙ get-inside g d r) q))

pub minus_nothing : (c : Content) → set.difference (dom c) (dom nothing) ≡ dom c
minus_nothing c = same_paths (set.difference (dom c) (dom nothing)) (dom c) (λ p.
    set.contains-difference path_cmp_total (dom c) (dom nothing) p ∙ ap (λ b. set.contains (dom c) p && not b) (contains-dom nothing p ∙ ap is_some (get-nothing p)) ∙ and_true (set.contains (dom c) p))
  where
    and_true : (b : Bool) → (b && true) ≡ b
    and_true true = refl
    and_true false = refl

-- names above one that is passed are picked beside what is left as beside all
passed_same : (rule : Rule) (f : List ℕ) (ds cs : Named) → Above f cs → picked_in rule (left_of f (back_of f ds)) cs ≡ picked_in rule ds cs
passed_same rule f ds [] above = refl
passed_same rule f ds (c ∷ cs) above = ap₂ (λ o l. kept c.0 (marked (picked rule c.1 (content_or_nothing o))) l) (left_keeps f c.0 ds above.0) (passed_same rule f ds cs above.1)

-- one child more
pub picks_more : (rule : Rule) (e : List ℕ × Content) (left cs rest next old new : Named) (o : Option Content) (made : Content) → cs ≡ e ∷ left → IsRising cs → IsRising rest → o ≡ first_of e.0 (back_of e.0 rest)
    → next ≡ left_of e.0 (back_of e.0 rest) → made ≡ marked (picked rule e.1 (content_or_nothing o)) → new ≡ old ++ kept e.0 made [] → new ++ picked_in rule next left ≡ old ++ picked_in rule rest cs
picks_more rule e left cs rest next old new o made steps rises rises_rest first others is put =
    ap₂ (λ l m. l ++ picked_in rule m left) put others ∙ append_assoc old (kept e.0 made []) (picked_in rule (left_of e.0 (back_of e.0 rest)) left)
    ∙ ap (λ l. old ++ l) (kept-before e.0 made (picked_in rule (left_of e.0 (back_of e.0 rest)) left)
    ∙ ap₂ (λ m l. kept e.0 m l) (is ∙ ap (λ p. marked (picked rule e.1 (content_or_nothing p))) (first ∙ first_back e.0 rest rises_rest)) (passed_same rule e.0 rest left (sorted_head (slice_cmp nat_cmp) e.0 (map (λ c. c.0) left) (subst IsRising steps rises))))
    ∙ ap (λ l. old ++ picked_in rule rest l) (sym steps)

pub kept-bare : (f : List ℕ) (c : Content) (cs : List (List ℕ × Content)) → c ≡ nothing → kept f c cs ≡ cs
kept-bare f c cs none = ap (λ b. cond b ((f, c) ∷ cs) cs) (ap has_path none ∙ nothing_path)

pub kept-full : (f : List ℕ) (c : Content) (cs : List (List ℕ × Content)) → (c ≡ nothing → ⊥) → kept f c cs ≡ (f, c) ∷ cs
kept-full f c cs some = by_path (has_path c) refl
  where
    by_path : (b : Bool) → has_path c ≡ b → cond b ((f, c) ∷ cs) cs ≡ (f, c) ∷ cs
    by_path true is = refl
    by_path false is = absurd (some (no_path c is))

-- ---- whether nothing is picked

marked_none : (s : PathSet) → is_empty s ≡ true → marked s ≡ nothing
marked_none s none = same (marked s) nothing (λ q. get-marked s q ∙ ap (λ b. cond b (Some mark) None) (has_no_path s none q) ∙ sym (get-nothing q))

none_marked : (s : PathSet) → marked s ≡ nothing → is_empty s ≡ true
none_marked s none = without_path s (λ q. sym (is_marked s q) ∙ ap (λ c. is_some (fin.get c q)) none ∙ ap is_some (get-nothing q))

-- a top that is picked is something
pub top_picked : (rule : Rule) (c d : Content) → picks_some rule (fin.get c []) d ≡ true → is_empty (picked rule c d) ≡ false
top_picked rule c d is = by_test (is_empty (picked rule c d)) refl
  where
    by_test : (b : Bool) → is_empty (picked rule c d) ≡ b → b ≡ false
    by_test true none = absurd (true≢false (sym (contains-picked rule c d [] ∙ decides-top rule (fin.get c []) d ∙ is) ∙ has_no_path (picked rule c d) none []))
    by_test false some = refl

no_child-is : (cs : Named) → no_child cs ≡ true → cs ≡ []
no_child-is [] none = refl
no_child-is (c ∷ cs) none = absurd (true≢false (sym none))

-- below a top that isn't, nothing is picked exactly where of each child nothing is
pub none_below : (rule : Rule) (ds : Named) (d : Content) → ((f : List ℕ) → beside rule ds f ≡ inside f d) → (h : Option PathValue) (cs : Named) → IsRising cs → picks_some rule (option_map leaf_value h) d ≡ false
    → no_child (picked_in rule ds cs) ≡ is_empty (picked rule (over (at_top h) (gather cs)) d)
none_below rule ds d insides h cs rises off =
    let ps = picked_in rule ds cs in
    let s = picked rule (over (at_top h) (gather cs)) d in
    let bare : Option PathValue = None in
    let level : over (at_top bare) (gather ps) ≡ marked s = picks_level rule ds d insides h bare cs rises (sym (ap (λ b. cond b (Some mark) None) off)) in
    both_ways (no_child ps) (is_empty s) (λ none. none_marked s (sym level ∙ bare_level bare ps refl (no_child-is ps none)))
    (λ none. ap no_child (bare_below bare ps (picked_children rule ds cs rises).1 (level ∙ marked_none s none)))

module _ (rule : Rule) (e : List ℕ × Content) (left cs rest next : Named) (o : Option Content) (steps : cs ≡ e ∷ left) (rises : IsRising cs) (rises_rest : IsRising rest) (first : o ≡ first_of e.0 (back_of e.0 rest))
    (others : next ≡ left_of e.0 (back_of e.0 rest)) where
  abbrev chosen : PathSet
  chosen = picked rule e.1 (content_or_nothing o)

  one_child : kept e.0 (marked chosen) [] ++ picked_in rule next left ≡ picked_in rule rest cs
  one_child = picks_more rule e left cs rest next [] (kept e.0 (marked chosen) []) o (marked chosen) steps rises rises_rest first others refl refl

  -- a child of which nothing is picked
  pub none_more : is_empty chosen ≡ true → picked_in rule next left ≡ picked_in rule rest cs
  none_more none = sym (ap (λ l. l ++ picked_in rule next left) (kept-bare e.0 (marked chosen) [] (marked_none chosen none))) ∙ one_child

  -- and one of which something is
  pub some_more : is_empty chosen ≡ false → no_child (picked_in rule rest cs) ≡ false
  some_more some = ap no_child (sym one_child ∙ ap (λ l. l ++ picked_in rule next left) (kept-full e.0 (marked chosen) [] (λ none. true≢false (sym (none_marked chosen none) ∙ some))))
