-- What was written of a watch, said by the changes that it saw.
use Rattle.std.specs.Prelude.{◌≡◌, ℕ, ◌≤◌, Bool, List, [], ◌∷◌, ◌++◌, map}
use Rattle.history.specs.History.{Change}
use Rattle.history.specs.Seen.{Selection, seen_changes}
use Rattle.watchline.specs.Lines.{bookmark_line, error_line, line_of}
use Rattle.requests.specs.ReplyBytes.{chunks}

-- a piece of it: the changes up to this revision; a bookmark, of an API version and a kind; that changes below this revision are forgotten
pub data Piece : Type 0 where
  changes : ℕ → Piece
  bookmark : List ℕ → List ℕ → Piece
  expiry : ℕ → Piece

-- where a watch that stood at a revision stands behind a piece
abbrev pub position_behind : ℕ → Piece → ℕ
position_behind p (changes q) = q
position_behind p (bookmark api_version kind) = p
position_behind p (expiry compacted) = p

-- the lines of a piece: of each change that is seen behind where the watch stood one, in order; a bookmark says where it stands
abbrev pub piece_lines : Selection → List Change → ℕ → Piece → List (List ℕ)
piece_lines wanted all p (changes q) = map line_of (seen_changes wanted all p q)
piece_lines wanted all p (bookmark api_version kind) = bookmark_line api_version kind p ∷ []
piece_lines wanted all p (expiry compacted) = error_line p compacted ∷ []

abbrev pub lines_from : Selection → List Change → ℕ → List Piece → List (List ℕ)
lines_from wanted all p [] = []
lines_from wanted all p (x ∷ xs) = piece_lines wanted all p x ++ lines_from wanted all (position_behind p x) xs

-- no piece goes back, none goes past this revision, and nothing follows where changes are forgotten
abbrev pub AreInOrder : ℕ → ℕ → List Piece → Type 0
AreInOrder top p [] = p ≤ top
AreInOrder top p (changes q ∷ xs) = (p ≤ q) × AreInOrder top q xs
AreInOrder top p (bookmark api_version kind ∷ xs) = AreInOrder top p xs
AreInOrder top p (expiry compacted ∷ xs) = (p ≤ top) × (xs ≡ [])

-- what was written since a watch stood at a revision: such pieces, of this history, and the end where nothing follows
abbrev pub IsWrittenFrom : Selection → List Change → ℕ → ℕ → List ℕ → Type 0
IsWrittenFrom wanted all top p bytes = (pieces : List Piece) × (has_ended : Bool) × AreInOrder top p pieces × (bytes ≡ chunks (lines_from wanted all p pieces) has_ended)
