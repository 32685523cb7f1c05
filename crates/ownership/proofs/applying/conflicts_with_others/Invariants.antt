use Rattle.std.proofs.Common.{◌≡◌, ◌++◌, drop, map}
use Rattle.std.specs.Prelude.{filter}
use Rattle.ownership.specs.Apply.{conflicts_with}
use Rattle.objects.specs.Managers.{pairs, manager_view}
use Rattle.ownership.specs.Results.{conflict_of}
use Rattle.objects.proofs.Entries.{is_other}
use Rattle.ownership.proofs.applying.conflicts_with_others.Given as goal

-- the conflicts so far, and those with the entries that are left
abbrev pub invariant-loop-entry : goal.invariant-loop-entry
invariant-loop-entry l =
    map conflict_of l.all.items ++ conflicts_with l.changed (filter (is_other (manager_view l.manager)) (pairs (drop l.entry-index l.entries)))
    ≡ conflicts_with l.changed (filter (is_other (manager_view l.manager)) (pairs l.entries))
