use Rattle.std.proofs.Common.{◌∙◌, refl}
use Rattle.serving.proofs.Counting.{one_less}
use Rattle.serving.proofs.Joining.{reaches_none, reaches_one, reaches_then, reaches_tidied, rounds_more, rounds_none}
use Rattle.serving.proofs.listening.serve_all.Goals as goal

pub returns-in_err-start-clause-reaches : goal.returns-in_err-start-clause-reaches
returns-in_err-start-clause-reaches g c = reaches_none _

pub connections-init : goal.connections-init
connections-init g c = (reaches_none _, refl, rounds_none _ _, refl)

pub returns-in_err-elapsed-clause-reaches : goal.returns-in_err-elapsed-clause-reaches
returns-in_err-elapsed-clause-reaches g c = reaches_one _ _ _ c.connections.invariant.0 c.serve_one.ensures.served

pub connections-preserved : goal.connections-preserved
connections-preserved g c =
    let same = c.serve_one.ensures.limits ∙ c.connections.invariant.1 in (
      reaches_then _ _ _ (reaches_one _ _ _ c.connections.invariant.0 c.serve_one.ensures.served) (reaches_tidied _ _ _ _ _ _ c.tidy.ensures.tidies),
      c.tidy.ensures.limits ∙ same,
      rounds_more _ _ _ _ _ _ _ _ same c.connections.invariant.2 c.serve_one.ensures.served c.tidy.ensures.tidies,
      one_less c.connections.left c.serve_one.result _ _ _ _ c.connections.invariant.3 c.serve_one.ensures.next c.tidy.ensures.next c.serve_one.ensures.few c.if-left-eq0.false,
    )
