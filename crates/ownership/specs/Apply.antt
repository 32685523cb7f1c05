-- Apply (Server-Side Apply, "Field management", "Conflicts", "Transferring ownership").
use Rattle.std.specs.Prelude.{Bool, true, false, List, [], ◌∷◌, ◌++◌, map, if◌then◌else◌}
use Rattle.std.specs.FinSet as set
use Rattle.fieldpath.specs.Paths.{PathTexts}
use Rattle.pathmap.specs.Contents.{Content, PathSet, over, dom, in_order}
use Rattle.pathmap.specs.Beside.{changed, clear_of, without}
use Rattle.objects.specs.Owners.{Manager, owned_by, others, taken_over}
use Rattle.objects.specs.State.{State}

-- a path, and the manager who owns it
abbrev pub Conflict : Type 0
Conflict = PathTexts × Manager

abbrev pub conflicts_with : PathSet → List (Manager × PathSet) → List Conflict
conflicts_with s [] = []
conflicts_with s (e ∷ es) = map (λ p. (p, e.0)) (in_order (set.intersection e.1 s)) ++ conflicts_with s es

-- the paths that another manager owns and to which the body gives another value (an owned path has one already), by manager, then path
unfoldable pub conflicts : State → Content → Manager → List Conflict
conflicts live body m = conflicts_with (changed body live.content) (others live.owners m)

-- these paths and those of the entries
abbrev pub all_paths : PathSet → List (Manager × PathSet) → PathSet
all_paths s [] = s
all_paths s (e ∷ es) = all_paths (set.union e.1 s) es

-- those of these paths at or below which no entry has one
abbrev pub clear_of_all : PathSet → List (Manager × PathSet) → PathSet
clear_of_all s [] = s
clear_of_all s (e ∷ es) = clear_of_all (clear_of s e.1) es

-- the paths that the manager owned, at or below which neither another manager nor the body has one
unfoldable pub dropped : State → Content → Manager → PathSet
dropped live body m = clear_of (owned_by live.owners m) (all_paths (dom body) (others live.owners m))

-- the body over what was there, less what is dropped; the manager owns what the body has, and the others lose what it changed
unfoldable pub applied : State → Content → Manager → State
applied live body m = record {
  content = without (over body live.content) (dropped live body m);
  owners = taken_over live.owners m (changed body live.content) (dom body);
}

-- whether an apply is refused
abbrev pub is_refused : List Conflict → Bool → Bool
is_refused [] force = false
is_refused (c ∷ cs) force = if force then false else true
