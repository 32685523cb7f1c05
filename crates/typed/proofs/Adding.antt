-- What stands inside each element once one content more was put below one.
use Rattle.std.proofs.Common.{◌≡◌, ℕ, Bool, true, false, ◌||◌, List, [], ◌∷◌, is_some, refl, ap, ap₂, ◌∙◌}
use Rattle.std.specs.FinMap as fin
use Rattle.std.specs.List.{list_any}
use Rattle.std.specs.Str.{bytes_eq}
use Rattle.std.proofs.lemmas.Slice.Eq.{bytes_eq-Decides}
use Rattle.pathmap.specs.Contents.{Content, here, mark, over, under}
use Rattle.pathmap.specs.Insides.{inside}
use Rattle.pathmap.specs.Levels.{has_path}
use Rattle.pathmap.proofs.Contents.{either, get-over, nothing-over}
use Rattle.pathmap.proofs.Heads.{itself, no_path, one_path}
use Rattle.pathmap.proofs.Insides.{inside-over, inside-under, inside_others}
use Rattle.pathmap.proofs.Levels.{get-here-top}
use Rattle.typed.specs.Steps.{AreSeen}

module _ (c : Content) (f : List ℕ) (m : Content) where
  inside_it : has_path (inside f c) ≡ false → inside f (over c (under f m)) ≡ m
  inside_it free = inside-over f c (under f m) ∙ ap₂ over (no_path (inside f c) free) (inside-under f f m true (itself f)) ∙ nothing-over m

  -- one element more that has something below it
  pub seen_more : (seen : List (List ℕ)) → AreSeen seen c → has_path (inside f c) ≡ false → has_path m ≡ true → AreSeen (f ∷ seen) (over c (under f m))
  seen_more seen before free full = λ g. by_name g (bytes_eq g f) refl
    where
      by_name : (g : List ℕ) (b : Bool) → bytes_eq g f ≡ b → has_path (inside g (over c (under f m))) ≡ (b || list_any (bytes_eq g) seen)
      by_name g true is = ap (λ h. has_path (inside h (over c (under f m)))) ((bytes_eq-Decides g f).0 is) ∙ ap has_path (inside_it free) ∙ full
      by_name g false is = ap has_path (inside_others c f m g is) ∙ before g

pub mark_full : (c : Content) → has_path (over (here mark) c) ≡ true
mark_full c = one_path (over (here mark) c) [] (ap is_some (get-over (here mark) c []) ∙ ap (λ o. is_some (either o (fin.get c []))) (get-here-top mark))
