use Rattle.std.proofs.Common.{rules}
use Rattle.api_types.specs.Served.{served}
use Rattle.history.specs.Read.{entry_of}
use Rattle.verbs.specs.GatheredViews.{old_types}
use Rattle.verbs.proofs.Gathering.{readable_entry}
use Rattle.verbs.proofs.retyping.Retyper.carried.Goals as goal

pub returns-in_err-stored-clause-readable : goal.returns-in_err-stored-clause-readable
returns-in_err-stored-clause-readable c = λ readable is.
    c.read_stored.ensures.readable (readable_entry (old_types c.args.self) (entry_of c.args.entry.now) (served c.in-Some.served.now) c.in-Some.ensures.found readable) (search rules)
