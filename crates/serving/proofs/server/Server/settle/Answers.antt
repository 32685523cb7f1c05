use Rattle.std.proofs.Common.{◌+◌, sym}
use Rattle.serving.proofs.Keeping.{kept_none, kept_one}
use Rattle.serving.proofs.Joining.{serves_gone, serves_none}
use Rattle.serving.proofs.Rising.{pushed_rise}
use Rattle.serving.proofs.server.Server.settle.Goals as goal

pub returns-then-is_err-clause-serves : goal.returns-then-is_err-clause-serves
returns-then-is_err-clause-serves g c = serves_none _ _

pub returns-then-is_err-2-clause-serves : goal.returns-then-is_err-2-clause-serves
returns-then-is_err-2-clause-serves g c = serves_gone _ _ _ c.leave.ensures

pub returns-clause-serves : goal.returns-clause-serves
returns-clause-serves g c = serves_none _ _

pub returns-then-is_err-2-clause-watches : goal.returns-then-is_err-2-clause-watches
returns-then-is_err-2-clause-watches g c = kept_none c.push.result _ _ _ (sym c.if-is_err-2.ensures.value) c.push.ensures.items

pub returns-clause-watches : goal.returns-clause-watches
returns-clause-watches g c = kept_one c.push.result _ _ _ (sym c.if-is_err-2.ensures.value) c.push.ensures.items

pub invariant_of-self-else-is_err-2 : goal.invariant_of-self-else-is_err-2
invariant_of-self-else-is_err-2 g c = record { in_order = pushed_rise c.push.result c.args.self.now.watches.items _ _ (c.args.self.now.highest + 1) c.push.ensures.items c.requires }

pub invariant_of-self : goal.invariant_of-self
invariant_of-self g c = record { in_order = pushed_rise c.push.result c.args.self.now.watches.items _ _ (c.args.self.now.highest + 1) c.push.ensures.items c.requires }
