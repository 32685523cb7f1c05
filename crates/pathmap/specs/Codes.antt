-- Contents have a code, so that they can be what a type is seen as.
use Rattle.std.specs.Prelude.{◌≡◌, refl, ℕ, ℤ, Bool, true, false, List, Option, Some, None}
use Rattle.std.specs.Coded.{Coded, code_by, coded_ℕ, coded_ℤ, coded_bool, coded_list, coded_option, coded×}
use Rattle.std.specs.FinMap as fin
use Rattle.std.specs.FinSet as set
use Rattle.pathmap.specs.Contents.{LeafValue, text, whole, truth, plain, mark, Content, PathSet}
use Rattle.fieldpath.specs.Paths.{PathTexts}

-- a text and whether it is plain, a number, a truth value, or none of them
abbrev pub Pieces : Type 0
Pieces = Option (List ℕ × Bool) × (Option ℤ × Option Bool)

abbrev pub pieces : LeafValue → Pieces
pieces (text s) = (Some (s, false), (None, None))
pieces (plain s) = (Some (s, true), (None, None))
pieces (whole n) = (None, (Some n, None))
pieces (truth b) = (None, (None, Some b))
pieces mark = (None, (None, None))

abbrev pub from_pieces : Pieces → LeafValue
from_pieces (Some (s, false), rest) = text s
from_pieces (Some (s, true), rest) = plain s
from_pieces (None, (Some n, b)) = whole n
from_pieces (None, (None, Some b)) = truth b
from_pieces (None, (None, None)) = mark

pub from_pieces-pieces : (v : LeafValue) → from_pieces (pieces v) ≡ v
from_pieces-pieces (text s) = refl
from_pieces-pieces (plain s) = refl
from_pieces-pieces (whole n) = refl
from_pieces-pieces (truth b) = refl
from_pieces-pieces mark = refl

abbrev pub coded_leaf_value : Coded LeafValue
coded_leaf_value = code_by Pieces (coded× (coded_option (coded× (coded_list coded_ℕ) coded_bool)) (coded× (coded_option coded_ℤ) (coded_option coded_bool))) pieces from_pieces from_pieces-pieces

abbrev pub coded_path : Coded PathTexts
coded_path = coded_list (coded_list coded_ℕ)

abbrev pub coded_content : Coded Content
coded_content = fin.code coded_path coded_leaf_value

abbrev pub coded_paths : Coded PathSet
coded_paths = set.code coded_path
