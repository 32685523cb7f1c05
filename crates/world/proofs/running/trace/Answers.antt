use Rattle.std.proofs.Common.{◌∙◌}
use Rattle.world.proofs.running.trace.Goals as goal

pub returns-clause-traces : goal.returns-clause-traces
returns-clause-traces g c = λ task o w indexes names rs represents shown.
    record { written = c.in_ok-written.ensures w.hub represents.hub; requested = c.in_ok-requested.ensures.items ∙ c.deref.ensures.value ∙ represents.requested; reports = shown }
