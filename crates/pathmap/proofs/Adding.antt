-- One child more among those that ascend.
use Rattle.std.proofs.Common.{◌≡◌, ℕ, Bool, true, false, cond, not, List, ◌∷◌, [], Option, Some, None, is_some, Ok, Err, IfOk, OnErr, refl, sym, subst, ap, ap₂, ◌∙◌, true≢false, IsTrue, ◌↔◌}
use Rattle.std.specs.FinMap as fin
use Rattle.std.specs.Str.{bytes_eq}
use Rattle.std.specs.declared.alloc.AllocError.{AllocError}
use Rattle.std.specs.declared.result.Result.{Result}
use Rattle.std.proofs.lemmas.Map.Text.{is_eq-slice_cmp}
use Rattle.std.proofs.lemmas.Slice.Eq.{bytes_eq-Decides}
use Rattle.fieldpath.specs.Paths.{PathTexts}
use Rattle.pathmap.specs.Contents.{Content, gather, here, mark, nothing, over, under}
use Rattle.pathmap.specs.Insides.{inside}
use Rattle.pathmap.specs.Levels.{at_top, AreChildren, IsRising, child_of, has_path}
use Rattle.pathmap.specs.Maps.{content_or_nothing}
use Rattle.pathmap.specs.Puts.{put_in}
use Rattle.pathmap.specs.declared.held.PathValue.{PathValue}
use Rattle.pathmap.proofs.Children.{child_full, inside-level, turned}
use Rattle.pathmap.proofs.Contents.{either, either-None, get-nothing, get-over, get-under, get-under-top, over-nothing, over-over, same}
use Rattle.pathmap.proofs.Heads.{no_path}
use Rattle.pathmap.proofs.Levels.{get-child, get-gather-top, get-here-top, get-level-gather, nothing_path, under-nothing}
use Rattle.pathmap.proofs.Putting.{child-put, put_children}

abbrev Named : Type 0
Named = List (List ℕ × Content)

-- a child put under a name that none has
gather-put : (f : List ℕ) (c : Content) (cs : Named) → AreChildren cs → has_path c ≡ true → child_of f cs ≡ None → gather (put_in f c cs) ≡ over (gather cs) (under f c)
gather-put f c cs kept full none = same (gather (put_in f c cs)) (over (gather cs) (under f c)) by_path
  where
    by_name : (g : List ℕ) (q : PathTexts) (b : Bool) → bytes_eq f g ≡ b
        → fin.get (content_or_nothing (cond b (Some c) (child_of g cs))) q ≡ either (fin.get (content_or_nothing (child_of g cs)) q) (cond (bytes_eq g f) (fin.get c q) None)
    by_name g q true is =
        sym (ap₂ (λ o b. either (fin.get (content_or_nothing o) q) (cond b (fin.get c q) None)) (ap (λ k. child_of k cs) (sym ((bytes_eq-Decides f g).0 is)) ∙ none) (turned f g true is)
        ∙ ap (λ o. either o (fin.get c q)) (get-nothing q))
    by_name g q false is =
        sym (ap (λ b. either (fin.get (content_or_nothing (child_of g cs)) q) (cond b (fin.get c q) None)) (turned f g false is) ∙ either-None (fin.get (content_or_nothing (child_of g cs)) q))

    by_path : (q : PathTexts) → fin.get (gather (put_in f c cs)) q ≡ fin.get (over (gather cs) (under f c)) q
    by_path [] = get-gather-top (put_in f c cs) ∙ sym (get-over (gather cs) (under f c) [] ∙ ap₂ either (get-gather-top cs) (get-under-top f c))
    by_path (g ∷ q) =
        get-child g (put_in f c cs) (put_children f c cs full kept).0 q ∙ ap (λ o. fin.get (content_or_nothing o) q) (child-put f g c cs kept.0) ∙ by_name g q (bytes_eq f g) refl
        ∙ sym (get-over (gather cs) (under f c) (g ∷ q) ∙ ap₂ either (get-child g cs kept.0 q) (get-under f c g q ∙ ap (λ b. cond b (fin.get c q) None) (is_eq-slice_cmp g f)))

level-put : (h : Option PathValue) (f : List ℕ) (c : Content) (cs : Named) → AreChildren cs → has_path c ≡ true → child_of f cs ≡ None
    → over (at_top h) (gather (put_in f c cs)) ≡ over (over (at_top h) (gather cs)) (under f c)
level-put h f c cs kept full none = ap (over (at_top h)) (gather-put f c cs kept full none) ∙ sym (over-over (at_top h) (gather cs) (under f c))

-- a child is there exactly if something stands inside its name
pub inside_there : (h : Option PathValue) (cs : Named) → AreChildren cs → (f : List ℕ) → is_some (child_of f cs) ≡ has_path (inside f (over (at_top h) (gather cs)))
inside_there h cs kept f = child_full f cs kept.1 ∙ sym (ap has_path (inside-level h cs kept f))

-- ---- a map that may have no path

pub bare_path : (b : Bool) (c : Content) → IsTrue b ↔ (c ≡ nothing) → not b ≡ has_path c
bare_path true c is = sym (ap has_path (is.0 refl) ∙ nothing_path)
bare_path false c is = by_test (has_path c) refl
  where
    by_test : (t : Bool) → has_path c ≡ t → true ≡ has_path c
    by_test true h = sym h
    by_test false h = absurd (true≢false (sym (is.1 (no_path c h))))

pub nothing_put : (b : Bool) (c d : Content) (f : List ℕ) → d ≡ nothing → c ≡ cond b (over c (under f d)) c
nothing_put true c d f none = sym (ap (λ x. over c (under f x)) none ∙ ap (over c) (under-nothing f) ∙ over-nothing c)
nothing_put false c d f none = refl

-- ---- a mark at the empty path

pub mark_put : (h : Option PathValue) (cs : Named) → over (here mark) (gather cs) ≡ over (here mark) (over (at_top h) (gather cs))
mark_put h cs = same (over (here mark) (gather cs)) (over (here mark) (over (at_top h) (gather cs))) by_path
  where
    level : Content
    level = over (at_top h) (gather cs)

    by_path : (q : PathTexts) → fin.get (over (here mark) (gather cs)) q ≡ fin.get (over (here mark) level) q
    by_path [] = get-over (here mark) (gather cs) [] ∙ ap (λ o. either o (fin.get (gather cs) [])) (get-here-top mark) ∙ sym (get-over (here mark) level [] ∙ ap (λ o. either o (fin.get level [])) (get-here-top mark))
    by_path (g ∷ q) = get-over (here mark) (gather cs) (g ∷ q) ∙ ap (either (fin.get (here mark) (g ∷ q))) (sym (get-level-gather h cs g q)) ∙ sym (get-over (here mark) level (g ∷ q))

-- ---- after a call that puts it unless one has its name

none_there : (o : Option Content) → true ≡ not (is_some o) → o ≡ None
none_there None is = refl
none_there (Some c) is = absurd (true≢false is)

-- what such a call says of children that rise
abbrev pub Added : Result Bool AllocError → List ℕ → Named → Type 0
Added r f cs = IfOk r (λ b. IsRising cs → b ≡ not (is_some (child_of f cs)))

abbrev pub Put : Result Bool AllocError → List ℕ → Content → Named → Named → Type 0
Put r f m cs new = IfOk r (λ b. IsRising cs → new ≡ cond b (put_in f m cs) cs)

module _ (f : List ℕ) (m : Content) (cs new : Named) (kept : AreChildren cs) (full : has_path m ≡ true) where
  pub children_after : (r : Result Bool AllocError) → Put r f m cs new → OnErr r (new ≡ cs) → AreChildren new
  children_after (Ok true) put err = subst AreChildren (sym (put kept.0)) (put_children f m cs full kept)
  children_after (Ok false) put err = subst AreChildren (sym (put kept.0)) kept
  children_after (Err e) put err = subst AreChildren (sym err) kept

  pub level_after : (h : Option PathValue) (r : Result Bool AllocError) → Added r f cs → Put r f m cs new → IfOk r (λ b. over (at_top h) (gather new) ≡ cond b (over (over (at_top h) (gather cs)) (under f m)) (over (at_top h) (gather cs)))
  level_after h (Ok true) added put = ap (λ l. over (at_top h) (gather l)) (put kept.0) ∙ level-put h f m cs kept full (none_there (child_of f cs) (added kept.0))
  level_after h (Ok false) added put = ap (λ l. over (at_top h) (gather l)) (put kept.0)
  level_after h (Err e) added put = tt

pub if_ok : {A : Type 0} (P Q : A → Type 0) → ((x : A) → P x → Q x) → (r : Result A AllocError) → IfOk r P → IfOk r Q
if_ok P Q more (Ok x) p = more x p
if_ok P Q more (Err e) p = tt
