-- The paths of one content that are picked beside another content.
use Rattle.std.specs.Prelude.{ℕ, Bool, true, false, not, List, [], ◌∷◌, if◌then◌else◌, Option, Some, None, is_some}
use Rattle.std.specs.FinMap as fin
use Rattle.std.specs.FinSet as set
use Rattle.pathmap.specs.Contents.{LeafValue, Content, PathSet, dom, marked}
use Rattle.pathmap.specs.Beside.{same_value, changed, has_at_or_below, clear_of}
use Rattle.pathmap.specs.Levels.{has_path, child_of}
use Rattle.pathmap.specs.Maps.{content_or_nothing}
use Rattle.pathmap.specs.declared.pick.Rule.{Rule}
use Rattle.pathmap.specs.declared.pick.Rule.TheVariants.{Absent, Present, Changed, Clear}

-- the paths of c that d lacks; that d has too; that d lacks or has another value at; at or below which d has none
abbrev pub picked : Rule → Content → Content → PathSet
picked Absent c d = set.difference (dom c) (dom d)
picked Present c d = set.intersection (dom c) (dom d)
picked Changed c d = changed c d
picked Clear c d = clear_of (dom c) (dom d)

-- whether the rule picks the empty path, where v stands, beside d
abbrev pub picks : Rule → LeafValue → Content → Bool
picks Absent v d = not (is_some (fin.get d []))
picks Present v d = is_some (fin.get d [])
picks Changed v d = not (same_value (Some v) (fin.get d []))
picks Clear v d = not (has_at_or_below (dom d) [])

abbrev pub picks_some : Rule → Option LeafValue → Content → Bool
picks_some rule None d = false
picks_some rule (Some v) d = picks rule v d

-- whether the rule picks a path beside a map that has none
abbrev pub picks_alone : Rule → Bool
picks_alone Absent = true
picks_alone Present = false
picks_alone Changed = true
picks_alone Clear = true

-- a content under its name, unless it has no path
abbrev pub kept : List ℕ → Content → List (List ℕ × Content) → List (List ℕ × Content)
kept f c cs = if has_path c then (f, c) ∷ cs else cs

-- below each name a mark at each path that the rule picks, beside what has that name in ds
abbrev pub picked_in : Rule → List (List ℕ × Content) → List (List ℕ × Content) → List (List ℕ × Content)
picked_in rule ds [] = []
picked_in rule ds (c ∷ cs) = kept c.0 (marked (picked rule c.1 (content_or_nothing (child_of c.0 ds)))) (picked_in rule ds cs)

-- whether there is no child
abbrev pub no_child : List (List ℕ × Content) → Bool
no_child [] = true
no_child (c ∷ cs) = false
