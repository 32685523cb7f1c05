-- The lines of a watch's turn, as a client gets them.
use Rattle.std.specs.Prelude.{◌≡◌, ℕ, List, map}
use Rattle.std.specs.List.{All}
use Rattle.wireclient.specs.LineLaws.{HasNoFeed, with_feed}

-- each is a text without a line feed, and then its line feed
abbrev pub AreLines : List (List ℕ) → Type 0
AreLines lines = (texts : List (List ℕ)) × All HasNoFeed texts × (lines ≡ map with_feed texts)
