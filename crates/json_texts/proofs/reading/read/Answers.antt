use Rattle.std.proofs.Common.{rules, sym, ◌∙◌}
use Rattle.json.specs.Value.{value_view}
use Rattle.json_texts.proofs.Ordered.{in_order-is, no_value, not_in_order}
use Rattle.json_texts.proofs.reading.read.Goals as goal

pub returns-then-is_ordered-clause-value : goal.returns-then-is_ordered-clause-value
returns-then-is_ordered-clause-value c = in_order-is c.args.text.now (value_view c.in-Ok.value) c.in-Ok.ensures.ok (sym c.is_ordered.ensures ∙ c.if-is_ordered.true)

pub returns-in-Ok-clause-value : goal.returns-in-Ok-clause-value
returns-in-Ok-clause-value c = not_in_order c.args.text.now (value_view c.in-Ok.value) c.in-Ok.ensures.ok (sym c.is_ordered.ensures ∙ c.if-is_ordered.false)

pub returns-in-Invalid-clause-value : goal.returns-in-Invalid-clause-value
returns-in-Invalid-clause-value c = no_value c.args.text.now (c.parse.ensures.invalid (search rules))
