-- Contents: finite maps from paths to what stands there.
-- Server-Side Apply, "Field management": fields are owned by path, items of associative lists by their keys.
use Rattle.std.specs.Prelude.{ℕ, ℤ, Bool, List, [], ◌∷◌, ◌++◌, map}
use Rattle.std.specs.FinMap as fin
use Rattle.std.specs.FinSet as set
use Rattle.fieldpath.specs.Paths.{PathTexts, path_cmp}

-- what stands at a path: a scalar, an atomic value (as its compact JSON text), or the mark of a list item
pub data LeafValue : Type 0 where
  text : List ℕ → LeafValue
  whole : ℤ → LeafValue
  truth : Bool → LeafValue
  plain : List ℕ → LeafValue
  mark : LeafValue

abbrev pub Content : Type 0
Content = fin.FinMap path_cmp LeafValue

abbrev pub PathSet : Type 0
PathSet = set.FinSet path_cmp

abbrev pub nothing : Content
nothing = fin.empty

-- a value alone, at the empty path
unfoldable pub here : LeafValue → Content
here v = fin.insert fin.empty [] v

-- every path with one more element in front
unfoldable pub under : List ℕ → Content → Content
under f c = fin.from_entries (map (λ e. (f ∷ e.0, e.1)) (fin.entries c))

-- the first map's value where it has one, else the second's
unfoldable pub over : Content → Content → Content
over c d = fin.from_entries (fin.entries c ++ fin.entries d)

-- each content under its element
abbrev pub gather : List (List ℕ × Content) → Content
gather [] = nothing
gather (c ∷ cs) = over (under c.0 c.1) (gather cs)

-- the paths that have a value
unfoldable pub dom : Content → PathSet
dom c = set.from_list (map (λ e. e.0) (fin.entries c))

-- the content that has a mark at each path of a set
unfoldable pub marked : PathSet → Content
marked s = fin.from_entries (map (λ p. (p, mark)) (set.items s))

-- the paths of a set, in order
abbrev pub in_order : PathSet → List PathTexts
in_order s = fin.keys (marked s)
