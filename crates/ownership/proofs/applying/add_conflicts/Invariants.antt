use Rattle.std.proofs.Common.{◌≡◌, ◌++◌, map}
use Rattle.std.specs.FinSet as set
use Rattle.pathmap.specs.Contents.{in_order}
use Rattle.objects.specs.Managers.{manager_view}
use Rattle.ownership.specs.Results.{conflict_of}
use Rattle.ownership.proofs.applying.add_conflicts.Given as goal

-- those so far and those of the paths that are left
abbrev pub invariant-loop-path : goal.invariant-loop-path
invariant-loop-path l =
    map conflict_of l.all.items ++ map (λ p. (p, manager_view l.entry.manager)) l.path-iterator.rest.items
    ≡ map conflict_of l.fn.all.items ++ map (λ p. (p, manager_view l.entry.manager)) (in_order (set.intersection l.entry.paths l.changed))
