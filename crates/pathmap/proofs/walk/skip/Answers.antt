use Rattle.std.proofs.Common.{string_bytes, sym, ◌∙◌}
use Rattle.pathmap.proofs.Prefixes.{none_at_all, none_before, others}
use Rattle.pathmap.proofs.walk.skip.Goals as goal

pub returns-in_default : goal.returns-in_default
returns-in_default c = λ rises. none_at_all (string_bytes c.args.name.now) c.args.rest.now c.in_default.ensures.cases

pub returns-then-is_before : goal.returns-then-is_before
returns-then-is_before c = λ rises. others (string_bytes c.args.name.now) c.args.rest.now c.place_of.result (c.place_of.ensures.count rises)

pub returns : goal.returns
returns c = λ rises. none_before (string_bytes c.args.name.now) c.in-Some.first.now c.args.rest.now _ c.in-Some.ensures.cases.0 (sym c.is_before.ensures ∙ c.if-is_before.false)
