-- The old sides of notices are what stood at their places, and replayed they leave objects that were read.
use Rattle.std.proofs.Common.{◌≡◌, ℕ, Bool, true, false, true≢false, cond, ◌||◌, List, [], ◌∷◌, ◌++◌, map, refl, sym, ap, subst, ◌∙◌, Option, Some, None, is_some, option_map, T, flat_map}
use Rattle.std.specs.Prelude.{⊤}
use Rattle.std.specs.List.{list_any}
use Rattle.std.specs.Str.{bytes_eq}
use Rattle.std.specs.Ordering.{eq_by_cmp}
use Rattle.std.specs.FinMap as fin
use Rattle.std.specs.FinMap.Entries.{find, is_some-find, below_all, is_sorted}
use Rattle.indexer.specs.Objects.{Place, place_cmp, Stored}
use Rattle.decoder.specs.OwnTexts.{IsItsText, AreTheirTexts}
use Rattle.decoder.specs.Wanted.{Wanted}
use Rattle.decoder.proofs.OwnTexts.{same_text}
use Rattle.reflector.specs.Client.{Objects, place_in, by_place, Notice, updated, notice_of, differences}
use Rattle.reflector.specs.ReplayLaws.{with_notice, replayed, AreAlike, AreUnderKey, OldSidesMatch, MatchTheirTexts}
use Rattle.reflector.proofs.Between.{fst, snd, itself, find_low}
use Rattle.reflector.proofs.Keyed.{place_antisymmetric}
use Rattle.reflector.proofs.Places.{place_total, same_place}
use Rattle.reflector.proofs.Replays.{replayed-append, some_is, list_under_key}

-- ---- old sides

pub old-append : (o : Objects) (xs ys : List Notice) → OldSidesMatch o xs → OldSidesMatch (replayed o xs) ys → OldSidesMatch o (xs ++ ys)
old-append o [] ys first others = others
old-append o (x ∷ xs) ys first others = (first.0, old-append (with_notice o x) xs ys first.1 others)

apart : (p q : Place) (es : List (Place × Stored)) → T (below_all place_cmp p es) → list_any (eq_by_cmp place_cmp q) (map (λ e. e.0) es) ≡ true → eq_by_cmp place_cmp q p ≡ false
apart p q es low among = by_test (eq_by_cmp place_cmp q p) refl
  where
    by_test : (t : Bool) → eq_by_cmp place_cmp q p ≡ t → t ≡ false
    by_test true e = absurd (true≢false (sym among ∙ sym (is_some-find place_cmp q es) ∙ ap is_some (find_low p q es low e)))
    by_test false e = refl

or_later : (a b : Bool) → b ≡ true → (a || b) ≡ true
or_later true b h = refl
or_later false b h = h

module _ (before now : Objects) (under_key_before : AreUnderKey before) (under_key_now : AreUnderKey now) where
  abbrev emitted_at : Place → List Notice
  emitted_at p = notice_of (fin.get before p) (fin.get now p)

  one_old : (o : Objects) (p : Place) → fin.get o p ≡ fin.get before p → OldSidesMatch o (emitted_at p)
  one_old o p same = go (fin.get before p) (fin.get now p) refl refl
    where
      both_there : (s n : Stored) → fin.get before p ≡ Some s → fin.get now p ≡ Some n → (t : Bool) → OldSidesMatch o (cond t [] (updated s n ∷ []))
      both_there s n a b true = tt
      both_there s n a b false = (ap (fin.get o) (under_key_now p n b) ∙ same ∙ a, tt)

      go : (x y : Option Stored) → fin.get before p ≡ x → fin.get now p ≡ y → OldSidesMatch o (notice_of x y)
      go None None a b = tt
      go None (Some n) a b = (ap (fin.get o) (under_key_now p n b) ∙ same ∙ a, tt)
      go (Some s) None a b = (ap (fin.get o) (under_key_before p s a) ∙ same ∙ a, tt)
      go (Some s) (Some n) a b = both_there s n a b (bytes_eq s.text n.text)

  elsewhere : (o : Objects) (p q : Place) → eq_by_cmp place_cmp q p ≡ false → fin.get (replayed o (emitted_at p)) q ≡ fin.get o q
  elsewhere o p q other = go (fin.get before p) (fin.get now p) refl refl
    where
      put_there : (n : Stored) → fin.get now p ≡ Some n → fin.get (fin.insert o (place_in n) n) q ≡ fin.get o q
      put_there n b =
          fin.get-insert place_total o (place_in n) n q ∙ ap (λ z. cond (eq_by_cmp place_cmp q z) (Some n) (fin.get o q)) (under_key_now p n b) ∙ ap (λ (t : Bool). cond t (Some n) (fin.get o q)) other

      both_there : (s n : Stored) → fin.get now p ≡ Some n → (t : Bool) → fin.get (replayed o (cond t [] (updated s n ∷ []))) q ≡ fin.get o q
      both_there s n b true = refl
      both_there s n b false = put_there n b

      go : (x y : Option Stored) → fin.get before p ≡ x → fin.get now p ≡ y → fin.get (replayed o (notice_of x y)) q ≡ fin.get o q
      go None None a b = refl
      go None (Some n) a b = put_there n b
      go (Some s) None a b =
          fin.get-remove place_total o (place_in s) q ∙ ap (λ z. cond (eq_by_cmp place_cmp q z) None (fin.get o q)) (under_key_before p s a) ∙ ap (λ (t : Bool). cond t None (fin.get o q)) other
      go (Some s) (Some n) a b = both_there s n b (bytes_eq s.text n.text)

  -- place after place, in order, so that none is told twice
  all_old : (es : List (Place × Stored)) (o : Objects) → T (is_sorted place_cmp es) → ((q : Place) → list_any (eq_by_cmp place_cmp q) (map (λ e. e.0) es) ≡ true → fin.get o q ≡ fin.get before q)
      → OldSidesMatch o (flat_map emitted_at (map (λ e. e.0) es))
  all_old [] o sorted same = tt
  all_old (e ∷ es) o sorted same =
      old-append o (emitted_at e.0) (flat_map emitted_at (map (λ e. e.0) es))
      (one_old o e.0 (same e.0 (ap (λ (t : Bool). t || list_any (eq_by_cmp place_cmp e.0) (map (λ e. e.0) es)) (itself e.0))))
      (all_old es (replayed o (emitted_at e.0)) (snd _ _ sorted) (λ q among.
      elsewhere o e.0 q (apart e.0 q es (fst _ _ sorted) among) ∙ same q (or_later (eq_by_cmp place_cmp q e.0) (list_any (eq_by_cmp place_cmp q) (map (λ e. e.0) es)) among)))

  pub differences_old : OldSidesMatch before (differences before now)
  differences_old =
      let both : Objects = fin.from_entries {R = place_cmp} (fin.entries before ++ fin.entries now) in
      all_old (fin.entries both) before (fin.entries_sorted both) (λ q among. refl)

-- ---- what was read

module _ (wanted : Wanted) where
  pub under_key : (o : Objects) → MatchTheirTexts wanted o → AreUnderKey o
  under_key o read p s is = (read p s is).0

  -- objects with the same texts are the same
  pub same_objects : (o q : Objects) → MatchTheirTexts wanted o → MatchTheirTexts wanted q → AreAlike o q → o ≡ q
  same_objects o q first second alike = fin.same_map place_total place_antisymmetric o q (λ p. go p (fin.get o p) (fin.get q p) refl refl (alike p))
    where
      go : (p : Place) (x y : Option Stored) → fin.get o p ≡ x → fin.get q p ≡ y → option_map (λ s. s.text) x ≡ option_map (λ s. s.text) y → x ≡ y
      go p None None a b texts = refl
      go p None (Some t) a b texts = absurd cc
      go p (Some s) None a b texts = absurd cc
      go p (Some s) (Some t) a b texts = ap Some (same_text wanted s t (first p s a).1 (second p t b).1 (text_is s.text t.text texts))
        where
          text_is : (x y : List ℕ) → Some x ≡ Some y → x ≡ y
          text_is x y e = cc

  pub empty_read : MatchTheirTexts wanted fin.empty
  empty_read p s is = none_there (fin.get fin.empty p) (fin.get-empty place_cmp p) is
    where
      none_there : (x : Option Stored) → x ≡ None → x ≡ Some s → (place_in s ≡ p) × IsItsText wanted s
      none_there x none some = absurd cc

  pub insert_read : (o : Objects) (s : Stored) → MatchTheirTexts wanted o → IsItsText wanted s → MatchTheirTexts wanted (fin.insert o (place_in s) s)
  insert_read o s read own q t is = go (eq_by_cmp place_cmp q (place_in s)) refl (sym (fin.get-insert place_total o (place_in s) s q) ∙ is)
    where
      go : (u : Bool) → eq_by_cmp place_cmp q (place_in s) ≡ u → cond u (Some s) (fin.get o q) ≡ Some t → (place_in t ≡ q) × IsItsText wanted t
      go true e same = (ap place_in (sym (some_is s t same)) ∙ sym (same_place q (place_in s) e), subst (IsItsText wanted) (some_is s t same) own)
      go false e same = read q t same

  pub remove_read : (o : Objects) (p : Place) → MatchTheirTexts wanted o → MatchTheirTexts wanted (fin.remove o p)
  remove_read o p read q t is = go (eq_by_cmp place_cmp q p) (sym (fin.get-remove place_total o p q) ∙ is)
    where
      go : (u : Bool) → cond u None (fin.get o q) ≡ Some t → (place_in t ≡ q) × IsItsText wanted t
      go true same = absurd cc
      go false same = read q t same

  abbrev pub SomeIsRead : Option Stored → Type 0
  SomeIsRead None = ⊤
  SomeIsRead (Some s) = IsItsText wanted s

  pub notice_read : (o : Objects) (x y : Option Stored) → MatchTheirTexts wanted o → SomeIsRead y → MatchTheirTexts wanted (replayed o (notice_of x y))
  notice_read o None None read own = read
  notice_read o None (Some n) read own = insert_read o n read own
  notice_read o (Some s) None read own = remove_read o (place_in s) read
  notice_read o (Some s) (Some n) read own = go (bytes_eq s.text n.text)
    where
      go : (t : Bool) → MatchTheirTexts wanted (replayed o (cond t [] (updated s n ∷ [])))
      go true = read
      go false = insert_read o n read own

  there_read : (o : Objects) (p : Place) → MatchTheirTexts wanted o → SomeIsRead (fin.get o p)
  there_read o p read = go (fin.get o p) refl
    where
      go : (x : Option Stored) → fin.get o p ≡ x → SomeIsRead x
      go None is = tt
      go (Some s) is = (read p s is).1

  places_read : (before now : Objects) → MatchTheirTexts wanted now → (ps : List Place) (o : Objects) → MatchTheirTexts wanted o → MatchTheirTexts wanted (replayed o (flat_map (λ p. notice_of (fin.get before p) (fin.get now p)) ps))
  places_read before now after [] o read = read
  places_read before now after (p ∷ ps) o read =
      subst (MatchTheirTexts wanted) (sym (replayed-append o (notice_of (fin.get before p) (fin.get now p)) (flat_map (λ p. notice_of (fin.get before p) (fin.get now p)) ps)))
      (places_read before now after ps (replayed o (notice_of (fin.get before p) (fin.get now p))) (notice_read o (fin.get before p) (fin.get now p) read (there_read now p after)))

  pub differences_read : (before now : Objects) → MatchTheirTexts wanted before → MatchTheirTexts wanted now → MatchTheirTexts wanted (replayed before (differences before now))
  differences_read before now first second = places_read before now second (fin.keys (fin.from_entries {R = place_cmp} (fin.entries before ++ fin.entries now))) before first

  found_read : (all : List Stored) (q : Place) (t : Stored) → AreTheirTexts wanted all → find place_cmp q (by_place all) ≡ Some t → IsItsText wanted t
  found_read [] q t own is = absurd cc
  found_read (s ∷ all) q t own is = go (eq_by_cmp place_cmp q (place_in s)) own.0 (λ h. found_read all q t own.1 h) is
    where
      go : (u : Bool) → IsItsText wanted s → (find place_cmp q (by_place all) ≡ Some t → IsItsText wanted t) → cond u (Some s) (find place_cmp q (by_place all)) ≡ Some t → IsItsText wanted t
      go true first others same = subst (IsItsText wanted) (some_is s t same) first
      go false first others same = others same

  pub list_read : (all : List Stored) → T (is_sorted place_cmp (by_place all)) → AreTheirTexts wanted all → MatchTheirTexts wanted (fin.from_sorted {R = place_cmp} (by_place all))
  list_read all sorted own p s is = (list_under_key all sorted p s is, found_read all p s own (sym (fin.get-from_sorted place_cmp (by_place all) p sorted) ∙ is))

  pub texts-append : (xs ys : List Stored) → AreTheirTexts wanted xs → AreTheirTexts wanted ys → AreTheirTexts wanted (xs ++ ys)
  texts-append [] ys first others = others
  texts-append (x ∷ xs) ys first others = (first.0, texts-append xs ys first.1 others)
