-- A content without the paths at or below those of a set, level by level.
use Rattle.std.proofs.Common.{◌≡◌, ℕ, zero, suc, ◌+◌, ◌≤◌, get_or, arith, Bool, true, false, cond, not, ◌||◌, filter, nat_cmp, List, [], ◌∷◌, map, Option, Some, None, is_some, String, Global, string_bytes, refl, sym, ap, ap₂, subst, ◌∙◌, true≢false}
use Rattle.std.specs.Cmp.Lexicographic.{slice_cmp}
use Rattle.std.specs.FinMap as fin
use Rattle.std.specs.List.Sorted.{IsStrictlySortedBy}
use Rattle.std.specs.Prelude.{slice_set}
use Rattle.std.specs.Str.{bytes_eq}
use Rattle.std.proofs.lemmas.Map.Keys.{sorted_head, sorted_tail}
use Rattle.std.proofs.lemmas.Slice.Eq.{bytes_eq-Decides}
use Rattle.fieldpath.specs.Paths.{PathTexts}
use Rattle.pathmap.specs.Contents.{LeafValue, Content, nothing, over, gather, dom}
use Rattle.pathmap.specs.Beside.{is_prefix, has_at_or_above, without}
use Rattle.pathmap.specs.Cuts.{cut_at, cut_each, full_in, index_from}
use Rattle.pathmap.specs.Levels.{at_top, has_path, IsRising, AreFull, AreChildren, child_of}
use Rattle.pathmap.specs.Maps.{content_or_nothing, contents_in}
use Rattle.pathmap.specs.declared.held.PathValue.{PathValue}
use Rattle.pathmap.proofs.Contents.{same, get-nothing, nothing-over}
use Rattle.pathmap.proofs.Heads.{no_path}
use Rattle.pathmap.proofs.Levels.{get-child, get-gather-top, get-level-gather, get-level-top, nothing_path}
use Rattle.pathmap.proofs.Merging.{Above, child_above, rising_more}
use Rattle.pathmap.proofs.Sets.{get-without, has_above-at, has_above-top, passes_one, passes_some}

abbrev Named : Type 0
Named = List (List ℕ × Content)

abbrev names_of : Named → List (List ℕ)
names_of = map (λ c. c.0)

cond-None : (b : Bool) (o : Option LeafValue) → o ≡ None → cond b None o ≡ None
cond-None true o e = refl
cond-None false o e = e

-- a path of the set takes all below it
pub without_all : (c s : Content) → is_some (fin.get s []) ≡ true → without c (dom s) ≡ nothing
unfolding has_at_or_above
without_all c s is = same (without c (dom s)) nothing (λ q. get-without c (dom s) q ∙ ap (λ b. cond b None (fin.get c q)) (above q) ∙ sym (get-nothing q))
  where
    above : (q : PathTexts) → has_at_or_above (dom s) q ≡ true
    above q = passes_one (λ p. is_prefix p q) s [] is refl

pub nothing-above : (q : PathTexts) → has_at_or_above (dom nothing) q ≡ false
unfolding has_at_or_above
nothing-above q = by_answer (has_at_or_above (dom nothing) q) refl
  where
    by_answer : (b : Bool) → has_at_or_above (dom nothing) q ≡ b → b ≡ false
    by_answer true h = let found = passes_some (λ p. is_prefix p q) nothing h in absurd (true≢false (sym found.1 ∙ ap is_some (get-nothing found.0)))
    by_answer false h = refl

pub nothing-without : (s : Content) → without nothing (dom s) ≡ nothing
nothing-without s = same (without nothing (dom s)) nothing (λ q. get-without nothing (dom s) q ∙ cond-None (has_at_or_above (dom s) q) (fin.get nothing q) (get-nothing q) ∙ sym (get-nothing q))

-- a level at whose top the set has none
pub without-level : (h : Option PathValue) (es ms : Named) (s : Content) → is_some (fin.get s []) ≡ false → gather ms ≡ without (gather es) (dom s) → over (at_top h) (gather ms) ≡ without (over (at_top h) (gather es)) (dom s)
without-level h es ms s top below = same (over (at_top h) (gather ms)) (without (over (at_top h) (gather es)) (dom s)) by_path
  where
    by_path : (q : PathTexts) → fin.get (over (at_top h) (gather ms)) q ≡ fin.get (without (over (at_top h) (gather es)) (dom s)) q
    by_path [] =
        get-level-top h ms ∙ sym (get-level-top h es) ∙ sym (get-without (over (at_top h) (gather es)) (dom s) [] ∙ ap (λ b. cond b None (fin.get (over (at_top h) (gather es)) [])) (has_above-top s ∙ top))
    by_path (g ∷ q) =
        get-level-gather h ms g q ∙ ap (λ c. fin.get c (g ∷ q)) below ∙ get-without (gather es) (dom s) (g ∷ q) ∙ ap (cond (has_at_or_above (dom s) (g ∷ q)) None) (sym (get-level-gather h es g q))
        ∙ sym (get-without (over (at_top h) (gather es)) (dom s) (g ∷ q))

-- what stands below, where nothing stands at the top
pub no_top : (h : Option PathValue) (cs : Named) (d : Content) → over (at_top h) (gather cs) ≡ d → is_some h ≡ false → gather cs ≡ d
no_top None cs d view is = sym (nothing-over (gather cs)) ∙ view
no_top (Some h) cs d view is = absurd (true≢false is)

-- ---- children, one after another

pub names-cut : (f : List ℕ) (s : Content) (cs : Named) → names_of (cut_at f s cs) ≡ names_of cs
names-cut f s [] = refl
names-cut f s (c ∷ cs) = by_test (names-cut f s cs) (bytes_eq c.0 f)
  where
    by_test : names_of (cut_at f s cs) ≡ names_of cs → (b : Bool) → names_of (cond b ((c.0, without c.1 (dom s)) ∷ cs) (c ∷ cut_at f s cs)) ≡ names_of (c ∷ cs)
    by_test later true = refl
    by_test later false = ap (λ l. c.0 ∷ l) later

names-each : (ss cs : Named) → names_of (cut_each ss cs) ≡ names_of cs
names-each [] cs = refl
names-each (s ∷ ss) cs = names-each ss (cut_at s.0 s.1 cs) ∙ names-cut s.0 s.1 cs

each_rises : (ss cs : Named) → IsRising cs → IsRising (cut_each ss cs)
each_rises ss cs rises = subst (IsStrictlySortedBy (slice_cmp nat_cmp)) (sym (names-each ss cs)) rises

apart : (a b g : List ℕ) → bytes_eq a b ≡ false → bytes_eq a g ≡ true → (t : Bool) → bytes_eq b g ≡ t → t ≡ false
apart a b g other is false h = refl
apart a b g other is true h = absurd (true≢false (sym ((bytes_eq-Decides a b).1 ((bytes_eq-Decides a g).0 is ∙ sym ((bytes_eq-Decides b g).0 h))) ∙ other))

module _ (f : List ℕ) (s : Content) (g : List ℕ) where
  abbrev less : Content → Content
  less c = cond (bytes_eq f g) (without c (dom s)) c

  less-nothing : less nothing ≡ nothing
  less-nothing = by_test (bytes_eq f g)
    where
      by_test : (b : Bool) → cond b (without nothing (dom s)) nothing ≡ nothing
      by_test true = nothing-without s
      by_test false = refl

  child-cut : (cs : Named) → content_or_nothing (child_of g (cut_at f s cs)) ≡ less (content_or_nothing (child_of g cs))
  child-cut [] = sym less-nothing
  child-cut (c ∷ cs) = by_name (child-cut cs) (bytes_eq c.0 f) refl
    where
      this : bytes_eq c.0 f ≡ true → (t : Bool) → bytes_eq c.0 g ≡ t
          → content_or_nothing (cond t (Some (without c.1 (dom s))) (child_of g cs)) ≡ less (content_or_nothing (cond t (Some c.1) (child_of g cs)))
      this is true h = sym (ap (λ b. cond b (without c.1 (dom s)) c.1) (ap (λ k. bytes_eq k g) (sym ((bytes_eq-Decides c.0 f).0 is)) ∙ h))
      this is false h = sym (ap (λ b. cond b (without (content_or_nothing (child_of g cs)) (dom s)) (content_or_nothing (child_of g cs))) (ap (λ k. bytes_eq k g) (sym ((bytes_eq-Decides c.0 f).0 is)) ∙ h))

      other : bytes_eq c.0 f ≡ false → content_or_nothing (child_of g (cut_at f s cs)) ≡ less (content_or_nothing (child_of g cs)) → (t : Bool) → bytes_eq c.0 g ≡ t
          → content_or_nothing (cond t (Some c.1) (child_of g (cut_at f s cs))) ≡ less (content_or_nothing (cond t (Some c.1) (child_of g cs)))
      other is later true h = sym (ap (λ b. cond b (without c.1 (dom s)) c.1) (apart c.0 f g is h (bytes_eq f g) refl))
      other is later false h = later

      by_name : content_or_nothing (child_of g (cut_at f s cs)) ≡ less (content_or_nothing (child_of g cs)) → (b : Bool) → bytes_eq c.0 f ≡ b
          → content_or_nothing (child_of g (cond b ((c.0, without c.1 (dom s)) ∷ cs) (c ∷ cut_at f s cs))) ≡ less (content_or_nothing (cond (bytes_eq c.0 g) (Some c.1) (child_of g cs)))
      by_name later true is = this is (bytes_eq c.0 g) refl
      by_name later false is = other is later (bytes_eq c.0 g) refl

get-each : (g : List ℕ) (q : PathTexts) (ss cs : Named) → IsRising ss
    → fin.get (content_or_nothing (child_of g (cut_each ss cs))) q ≡ cond (has_at_or_above (dom (content_or_nothing (child_of g ss))) q) None (fin.get (content_or_nothing (child_of g cs)) q)
get-each g q [] cs rises = sym (ap (λ b. cond b None (fin.get (content_or_nothing (child_of g cs)) q)) (nothing-above q))
get-each g q (s ∷ ss) cs rises =
    get-each g q ss (cut_at s.0 s.1 cs) (sorted_tail (slice_cmp nat_cmp) s.0 (names_of ss) rises)
    ∙ ap (λ c. cond (has_at_or_above (dom (content_or_nothing (child_of g ss))) q) None (fin.get c q)) (child-cut s.0 s.1 g cs) ∙ by_name (bytes_eq s.0 g) refl
  where
    by_name : (t : Bool) → bytes_eq s.0 g ≡ t
        → cond (has_at_or_above (dom (content_or_nothing (child_of g ss))) q) None (fin.get (cond t (without (content_or_nothing (child_of g cs)) (dom s.1)) (content_or_nothing (child_of g cs))) q)
        ≡ cond (has_at_or_above (dom (content_or_nothing (cond t (Some s.1) (child_of g ss)))) q) None (fin.get (content_or_nothing (child_of g cs)) q)
    by_name true is =
        ap (λ o. cond (has_at_or_above (dom (content_or_nothing o)) q) None (fin.get (without (content_or_nothing (child_of g cs)) (dom s.1)) q))
        (child_above g ss (subst (λ k. Above k ss) ((bytes_eq-Decides s.0 g).0 is) (sorted_head (slice_cmp nat_cmp) s.0 (names_of ss) rises)))
        ∙ ap (λ b. cond b None (fin.get (without (content_or_nothing (child_of g cs)) (dom s.1)) q)) (nothing-above q) ∙ get-without (content_or_nothing (child_of g cs)) (dom s.1) q
    by_name false is = refl

-- ---- those that have a path

above_full : (k : List ℕ) (cs : Named) → Above k cs → Above k (full_in cs)
above_full k [] above = tt
above_full k (c ∷ cs) above = by_path (above_full k cs above.1) (has_path c.1)
  where
    by_path : Above k (full_in cs) → (b : Bool) → Above k (cond b (c ∷ full_in cs) (full_in cs))
    by_path later true = (above.0, later)
    by_path later false = later

full_rises : (cs : Named) → IsRising cs → IsRising (full_in cs)
full_rises [] rises = rises
full_rises (c ∷ cs) rises = by_path (full_rises cs (sorted_tail (slice_cmp nat_cmp) c.0 (names_of cs) rises)) (has_path c.1)
  where
    by_path : IsRising (full_in cs) → (b : Bool) → IsRising (cond b (c ∷ full_in cs) (full_in cs))
    by_path later true = rising_more c (full_in cs) (above_full c.0 cs (sorted_head (slice_cmp nat_cmp) c.0 (names_of cs) rises)) later
    by_path later false = later

full_full : (cs : Named) → AreFull (full_in cs)
full_full [] = tt
full_full (c ∷ cs) = by_path (full_full cs) (has_path c.1) refl
  where
    by_path : AreFull (full_in cs) → (b : Bool) → has_path c.1 ≡ b → AreFull (cond b (c ∷ full_in cs) (full_in cs))
    by_path later true is = (is, later)
    by_path later false is = later

child-full : (g : List ℕ) (cs : Named) → IsRising cs → content_or_nothing (child_of g (full_in cs)) ≡ content_or_nothing (child_of g cs)
child-full g [] rises = refl
child-full g (c ∷ cs) rises = by_path (child-full g cs (sorted_tail (slice_cmp nat_cmp) c.0 (names_of cs) rises)) (has_path c.1) refl
  where
    kept : content_or_nothing (child_of g (full_in cs)) ≡ content_or_nothing (child_of g cs) → (t : Bool) → content_or_nothing (cond t (Some c.1) (child_of g (full_in cs))) ≡ content_or_nothing (cond t (Some c.1) (child_of g cs))
    kept later true = refl
    kept later false = later

    left : c.1 ≡ nothing → content_or_nothing (child_of g (full_in cs)) ≡ content_or_nothing (child_of g cs) → (t : Bool) → bytes_eq c.0 g ≡ t
        → content_or_nothing (child_of g (full_in cs)) ≡ content_or_nothing (cond t (Some c.1) (child_of g cs))
    left none later true is =
        later ∙ ap content_or_nothing (child_above g cs (subst (λ k. Above k cs) ((bytes_eq-Decides c.0 g).0 is) (sorted_head (slice_cmp nat_cmp) c.0 (names_of cs) rises))) ∙ sym none
    left none later false is = later

    by_path : content_or_nothing (child_of g (full_in cs)) ≡ content_or_nothing (child_of g cs) → (b : Bool) → has_path c.1 ≡ b
        → content_or_nothing (child_of g (cond b (c ∷ full_in cs) (full_in cs))) ≡ content_or_nothing (cond (bytes_eq c.0 g) (Some c.1) (child_of g cs))
    by_path later true is = kept later (bytes_eq c.0 g)
    by_path later false is = left (no_path c.1 is) later (bytes_eq c.0 g) refl

pub cut_children : (ss cs : Named) → IsRising cs → AreChildren (full_in (cut_each ss cs))
cut_children ss cs rises = (full_rises (cut_each ss cs) (each_rises ss cs rises), full_full (cut_each ss cs))

pub gather-cut : (ss cs : Named) → IsRising ss → IsRising cs → gather (full_in (cut_each ss cs)) ≡ without (gather cs) (dom (gather ss))
gather-cut ss cs rises_ss rises = same (gather (full_in (cut_each ss cs))) (without (gather cs) (dom (gather ss))) by_path
  where
    by_path : (q : PathTexts) → fin.get (gather (full_in (cut_each ss cs))) q ≡ fin.get (without (gather cs) (dom (gather ss))) q
    by_path [] = get-gather-top (full_in (cut_each ss cs)) ∙ sym (get-without (gather cs) (dom (gather ss)) [] ∙ cond-None (has_at_or_above (dom (gather ss)) []) (fin.get (gather cs) []) (get-gather-top cs))
    by_path (g ∷ q) =
        get-child g (full_in (cut_each ss cs)) (full_rises (cut_each ss cs) (each_rises ss cs rises)) q ∙ ap (λ c. fin.get c q) (child-full g (cut_each ss cs) (each_rises ss cs rises)) ∙ get-each g q ss cs rises_ss
        ∙ sym (get-without (gather cs) (dom (gather ss)) (g ∷ q)
        ∙ ap₂ (λ b o. cond b None o) (has_above-at g (gather ss) (content_or_nothing (child_of g ss)) (λ p. sym (get-child g ss rises_ss p)) q
        ∙ ap (λ o. is_some o || has_at_or_above (dom (content_or_nothing (child_of g ss))) q) (get-gather-top ss)) (get-child g cs rises q))

-- ---- over the vector

pub full_of : (c : Content) (r : Bool) → (r ≡ true → c ≡ nothing) → (c ≡ nothing → r ≡ true) → not r ≡ has_path c
full_of c true bare back = sym (ap has_path (bare refl) ∙ nothing_path)
full_of c false bare back = by_path (has_path c) refl
  where
    by_path : (b : Bool) → has_path c ≡ b → true ≡ b
    by_path true is = refl
    by_path false is = sym (back (no_path c is))

pub filter-full : (xs : List (String Global × Content)) → contents_in (filter (λ x. has_path x.1) xs) ≡ full_in (contents_in xs)
filter-full [] = refl
filter-full (x ∷ xs) = by_path (filter-full xs) (has_path x.1)
  where
    by_path : contents_in (filter (λ x. has_path x.1) xs) ≡ full_in (contents_in xs) → (b : Bool)
        → contents_in (cond b (x ∷ filter (λ x. has_path x.1) xs) (filter (λ x. has_path x.1) xs)) ≡ cond b ((string_bytes x.0, x.1) ∷ full_in (contents_in xs)) (full_in (contents_in xs))
    by_path later true = ap (λ l. (string_bytes x.0, x.1) ∷ l) later
    by_path later false = later

-- ---- one place of the vector

abbrev pub number : Option ℕ → ℕ
number None = 0
number (Some n) = n

pub index_high : (k : ℕ) (f : List ℕ) (cs : Named) (p : ℕ) → index_from k f cs ≡ Some p → k ≤ p
index_high k f [] p e = absurd (true≢false (ap is_some (sym e)))
index_high k f (c ∷ cs) p e = by_name (index_high (k + 1) f cs p) (bytes_eq c.0 f) e
  where
    by_name : (index_from (k + 1) f cs ≡ Some p → k + 1 ≤ p) → (b : Bool) → cond b (Some k) (index_from (k + 1) f cs) ≡ Some p → k ≤ p
    by_name later true h = let is = ap number h in omega (arith, is)
    by_name later false h = let le = later h in omega (arith, le)

-- where no one has the name
pub uncut : (k : ℕ) (f : List ℕ) (s : Content) (cs : Named) → index_from k f cs ≡ None → cut_at f s cs ≡ cs
uncut k f s [] e = refl
uncut k f s (c ∷ cs) e = by_name (uncut (k + 1) f s cs) (bytes_eq c.0 f) e
  where
    by_name : (index_from (k + 1) f cs ≡ None → cut_at f s cs ≡ cs) → (b : Bool) → cond b (Some k) (index_from (k + 1) f cs) ≡ None → cond b ((c.0, without c.1 (dom s)) ∷ cs) (c ∷ cut_at f s cs) ≡ c ∷ cs
    by_name later true h = absurd (true≢false (ap is_some h))
    by_name later false h = ap (λ l. c ∷ l) (later h)

pub set_cut : (f : List ℕ) (s : Content) (xs : List (String Global × Content)) (k i : ℕ) (e : String Global × Content) (m : Content) → index_from k f (contents_in xs) ≡ Some (k + i) → e ≡ get_or xs i e → m ≡ without e.1 (dom s)
    → contents_in (slice_set xs i (e.0, m)) ≡ cut_at f s (contents_in xs)
set_cut f s [] k i e m at is made = absurd (true≢false (ap is_some (sym at)))
set_cut f s (x ∷ xs) k zero e m at is made = by_name (bytes_eq (string_bytes x.0) f) at
  where
    by_name : (b : Bool) → cond b (Some k) (index_from (k + 1) f (contents_in xs)) ≡ Some (k + 0)
        → (let first : List ℕ × Content = (string_bytes e.0, m) in first ∷ contents_in xs) ≡ cond b ((string_bytes x.0, without x.1 (dom s)) ∷ contents_in xs) ((string_bytes x.0, x.1) ∷ cut_at f s (contents_in xs))
    by_name true h = ap₂ (λ n c. (let first : List ℕ × Content = (n, c) in first ∷ contents_in xs)) (ap (λ y. string_bytes y.0) is) (made ∙ ap (λ y. without y.1 (dom s)) is)
    by_name false h = let le = index_high (k + 1) f (contents_in xs) (k + 0) h in absurd (omega (arith, le))
set_cut f s (x ∷ xs) k (suc i) e m at is made = by_name (set_cut f s xs (k + 1) i e m) (bytes_eq (string_bytes x.0) f) at
  where
    further : k + suc i ≡ k + 1 + i
    further = omega arith

    by_name : (index_from (k + 1) f (contents_in xs) ≡ Some (k + 1 + i) → e ≡ get_or xs i e → m ≡ without e.1 (dom s) → contents_in (slice_set xs i (e.0, m)) ≡ cut_at f s (contents_in xs)) → (b : Bool)
        → cond b (Some k) (index_from (k + 1) f (contents_in xs)) ≡ Some (k + suc i)
        → (let first : List ℕ × Content = (string_bytes x.0, x.1) in first ∷ contents_in (slice_set xs i (e.0, m)))
        ≡ cond b ((string_bytes x.0, without x.1 (dom s)) ∷ contents_in xs) ((string_bytes x.0, x.1) ∷ cut_at f s (contents_in xs))
    by_name later true h = let one = ap number h in absurd (omega (arith, one))
    by_name later false h = ap (λ l. (let first : List ℕ × Content = (string_bytes x.0, x.1) in first ∷ l)) (later (h ∙ ap (λ n. Some n) further) is made)
