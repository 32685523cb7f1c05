-- The content that a map holds.
use Rattle.std.specs.Prelude.{ℕ, List, Option, Some, None, String}
use Rattle.std.specs.declared.alloc.Global.{Global}
use Rattle.pathmap.specs.Contents.{LeafValue, Content, nothing}
use Rattle.pathmap.specs.Levels as levels
use Rattle.pathmap.specs.declared.held.PathValue.{PathValue}
use Rattle.pathmap.specs.declared.pathmap.PathMap.{PathMap}

abbrev pub leaf_value : PathValue → LeafValue
leaf_value = levels.leaf_value

abbrev pub at_top : Option PathValue → Content
at_top = levels.at_top

-- a map is seen as its content
abbrev pub content : PathMap → Content
content n = n

abbrev pub contents_in : List (String Global × PathMap) → List (List ℕ × Content)
contents_in = levels.named

abbrev pub content_or_nothing : Option PathMap → Content
content_or_nothing None = nothing
content_or_nothing (Some n) = n

-- the first, or else the second
abbrev pub either_top : Option PathValue → Option PathValue → Content
either_top None mine = at_top mine
either_top (Some h) mine = at_top (Some h)
