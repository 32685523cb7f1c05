-- Notices, replayed on the objects before them.
use Rattle.std.specs.Prelude.{◌≡◌, ℕ, List, [], ◌∷◌, ◌++◌, Option, Some, None, option_map, ⊤}
use Rattle.std.specs.FinMap as fin
use Rattle.indexer.specs.Objects.{Place, Stored}
use Rattle.decoder.specs.OwnTexts.{IsItsText, AreTheirTexts}
use Rattle.decoder.specs.Wanted.{Wanted}
use Rattle.reflector.specs.Client.{Objects, place_in, Notice, added, updated, deleted, SyncPhase, first, next, streaming, Client, kept}

abbrev pub with_notice : Objects → Notice → Objects
with_notice o (added new) = fin.insert o (place_in new) new
with_notice o (updated old new) = fin.insert o (place_in new) new
with_notice o (deleted old) = fin.remove o (place_in old)

abbrev pub replayed : Objects → List Notice → Objects
replayed o [] = o
replayed o (n ∷ ns) = replayed (with_notice o n) ns

-- the text of the object at a place, from which all else of it is read
abbrev pub text_at : Objects → Place → Option (List ℕ)
text_at o p = option_map (λ s. s.text) (fin.get o p)

abbrev pub AreAlike : Objects → Objects → Type 0
AreAlike o q = (p : Place) → text_at o p ≡ text_at q p

-- each object stands at its own namespace and name
abbrev pub AreUnderKey : Objects → Type 0
AreUnderKey o = (p : Place) (s : Stored) → fin.get o p ≡ Some s → place_in s ≡ p

-- the notices since then, replayed on the objects of then, give the objects of now
pub record Notifies (before now : Client) : Type 0 where
  pub since : List Notice
  pub waiting : now.notices ≡ before.notices ++ since
  pub replay : AreAlike (replayed (kept before.cache) since) (kept now.cache)
  pub under_key : AreUnderKey (kept now.cache)

-- ---- exactly

-- the notice's old side is what stood at its place
abbrev pub OldSideMatches : Objects → Notice → Type 0
OldSideMatches o (added new) = fin.get o (place_in new) ≡ None
OldSideMatches o (updated old new) = fin.get o (place_in new) ≡ Some old
OldSideMatches o (deleted old) = fin.get o (place_in old) ≡ Some old

-- each one's is, of the objects after those before it
abbrev pub OldSidesMatch : Objects → List Notice → Type 0
OldSidesMatch o [] = ⊤
OldSidesMatch o (n ∷ ns) = OldSideMatches o n × OldSidesMatch (with_notice o n) ns

-- each object stands at its own namespace and name, and is what its text says
abbrev pub MatchTheirTexts : Wanted → Objects → Type 0
MatchTheirTexts wanted o = (p : Place) (s : Stored) → fin.get o p ≡ Some s → (place_in s ≡ p) × IsItsText wanted s

-- what is set aside
abbrev pub paged_list_in : SyncPhase → List Stored
paged_list_in first = []
paged_list_in (next revision token paged_list) = paged_list
paged_list_in streaming = []

-- each object that the client keeps, and each of its paged list, is as its text says
pub record AllMatchTheirTexts (wanted : Wanted) (c : Client) : Type 0 where
  pub objects : MatchTheirTexts wanted (kept c.cache)
  pub paged_list : AreTheirTexts wanted (paged_list_in c.sync)

-- the notices since then, replayed on the objects of then, are the objects of now, and what was replaced or deleted is
-- what stood there
pub record NotifiesSince (wanted : Wanted) (before now : Client) : Type 0 where
  pub since : List Notice
  pub waiting : now.notices ≡ before.notices ++ since
  pub replay : replayed (kept before.cache) since ≡ kept now.cache
  pub old : OldSidesMatch (kept before.cache) since
  pub has_read : AllMatchTheirTexts wanted now

-- the waiting notices lead from these objects to those of now
abbrev pub LeadFrom : Objects → Client → Type 0
LeadFrom o c = OldSidesMatch o c.notices × (replayed o c.notices ≡ kept c.cache)
