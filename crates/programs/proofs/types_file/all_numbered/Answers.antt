use Rattle.std.proofs.Common.{sym, ◌∙◌}
use Rattle.std.proofs.lemmas.List.{nil_from_length}
use Rattle.programs.proofs.Refusals.{none_left, one_numbered}
use Rattle.programs.proofs.types_file.all_numbered.Goals as goal

pub loop-reported-preserved : goal.loop-reported-preserved
loop-reported-preserved c =
    one_numbered c.args.all.items c.loop-reported.reported-iterator.rest.items c.next.new.self.rest.items c.in-Some.reported c.loop-reported.refusals.items c.push.new.self.items c.in-Some-located.refusal c.in-Some.ensures.steps.0
    c.in_ok-push.ensures.items c.in-Some-located.ensures c.loop-reported.invariant

pub returns : goal.returns
returns c =
    let rest = c.loop-reported.reported-iterator.rest in
    none_left c.args.all.items rest.items c.loop-reported.refusals.items (nil_from_length rest.items (sym rest.ok.0 ∙ c.in-None.ensures.steps.0)) c.loop-reported.invariant
