use Rattle.std.proofs.Common.{List, take}
use Rattle.api_types.specs.TypesFile.{ServedShape}
use Rattle.history.specs.History.{History}
use Rattle.verbs.specs.Views.{ApiRepresents}
use Rattle.server_program.specs.Creations.{CreatesAll}
use Rattle.server_program.proofs.Creating.{texts}
use Rattle.server_program.proofs.creations.create_all.Given as goal

abbrev pub invariant-loop-index : goal.invariant-loop-index
invariant-loop-index l = (types : List ServedShape) (m : History) → ApiRepresents l.initial.api types m → CreatesAll types m (texts (take l.index l.lines)) l.api
