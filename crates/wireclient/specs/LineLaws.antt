-- The lines of a watch, each with its line feed.
use Rattle.std.specs.Prelude.{◌≡◌, ◌<◌, ◌==◌, ℕ, false, List, [], ◌∷◌, ◌++◌, length, take}
use Rattle.std.specs.List.{flat_map, list_any}
use Rattle.wireclient.specs.Reply.{max_line}

abbrev pub HasNoFeed : List ℕ → Type 0
HasNoFeed text = list_any (λ b. b == 10) text ≡ false

-- what stands before a line feed
pub record IsLine (text : List ℕ) : Type 0 where
  pub one : HasNoFeed text
  pub fits : length text < max_line

-- bytes that begin with a line that is too long: as many as a line with its line feed may have, none of them a line feed, and one more
pub record BeginsTooLong (bytes : List ℕ) : Type 0 where
  pub one : HasNoFeed (take max_line bytes)
  pub long : max_line < length bytes

abbrev pub with_feed : List ℕ → List ℕ
with_feed text = text ++ 10 ∷ []

-- each line with its line feed
abbrev pub print_lines : List (List ℕ) → List ℕ
print_lines lines = flat_map with_feed lines
