use Rattle.std.proofs.Common.{◌≡◌, ℕ, Bool, List}
use Rattle.std.specs.Prelude.{is_some}
use Rattle.std.specs.BTreeMap.{get}
use Rattle.std.specs.List.Sorted.{IsStrictlySortedBy}
use Rattle.std.specs.Ordering.{nat_cmp}
use Rattle.api_types.specs.TypesFile.{ServedShape}
use Rattle.history.specs.History.{History}
use Rattle.verbs.specs.Views.{ApiRepresents}
use Rattle.httpedge.specs.Connections.{Connections}
use Rattle.httpedge.specs.ConnectionViews.{Lists, found_in}
use Rattle.httpedge.specs.TickViews.{ConnectionsRepresent}
use Rattle.httpedge.proofs.Ticked.{ToldSoFar}
use Rattle.httpedge.proofs.ticking.tick_all.Given as goal

abbrev pub invariant-loop-id : goal.invariant-loop-id
invariant-loop-id l =
    IsStrictlySortedBy nat_cmp l.id-iterator × ((q : ℕ) → is_some (get nat_cmp l.held q) ≡ is_some (get nat_cmp l.fn.held q))
    × ((types : List ServedShape) (m : History) (before : Connections) (had_ended cut : ℕ → Bool) → ApiRepresents l.api types m → ConnectionsRepresent types (found_in l.fn.held had_ended cut) before → Lists l.ids before
    → (after : Connections) × ConnectionsRepresent types (found_in l.held had_ended cut) after × ToldSoFar types l.ms before l.ids.keys l.id-iterator after l.changes.items l.some_ran_out)
