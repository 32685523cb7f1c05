use Rattle.std.proofs.Common.{sym, ◌∙◌}
use Rattle.wireclient.proofs.Checking.{framed_above, framed_so, unframed}
use Rattle.wireclient.proofs.head.framed_by_length.Goals as goal

pub returns-then-not-is_length : goal.returns-then-not-is_length
returns-then-not-is_length c = unframed c.args.value.now (sym c.is_length.ensures ∙ c.if-not-is_length.true)

pub returns-in-Some : goal.returns-in-Some
returns-in-Some c = framed_so c.args.value.now c.in-Some.length (sym c.is_length.ensures ∙ c.if-not-is_length.false) c.in-Some.ensures.0 c.in-Some.ensures.1

pub returns-in-None : goal.returns-in-None
returns-in-None c = framed_above c.args.value.now (sym c.is_length.ensures ∙ c.if-not-is_length.false) c.in-None.ensures
