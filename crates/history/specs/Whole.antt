-- A history of which nothing is forgotten: every change since it began, each of the next revision.
use Rattle.std.specs.Prelude.{◌≡◌, ℕ, suc, ◌≤◌, true, List, [], ◌∷◌, None}
use Rattle.std.specs.FinMap as fin
use Rattle.history.specs.History.{Objects, Change, History, last_revision, left_by, put_or_remove}

-- each change is of the revision after the one before it
abbrev pub IsGapless : ℕ → List Change → ℕ → Type 0
IsGapless first [] top = first ≡ top
IsGapless first (c ∷ cs) top = (c.revision ≡ suc first) × IsGapless (suc first) cs top

-- each deletion is of an object that is there
abbrev pub AreThere : Objects → List Change → Type 0
AreThere s [] = Unit {0}
AreThere s (c ∷ cs) = (c.body ≡ None → fin.contains_key s c.key ≡ true) × AreThere (put_or_remove s c.key (left_by c)) cs

-- it began without an object at revision `first`
pub record IsWhole (first : ℕ) (h : History) : Type 0 where
  pub begun : 1 ≤ first
  pub gapless : IsGapless first h.changes h.current
  pub there : AreThere fin.empty h.changes
  pub after : first ≤ h.compacted
  pub low : h.compacted ≤ h.current
  pub high : h.current ≤ last_revision
