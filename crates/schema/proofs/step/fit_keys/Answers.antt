use Rattle.std.proofs.Common.{length, sym, ◌∙◌}
use Rattle.schema.specs.Shape.{fields_in}
use Rattle.schema.proofs.KeyNames.{as_many, fit_sorted, not_as_many}
use Rattle.schema.proofs.step.fit_keys.Goals as goal

pub returns-then-keys-names : goal.returns-then-keys-names
returns-then-keys-names c =
    c.fit_each.ensures
    ∙ sym (fit_sorted (fields_in c.args.fields.now) c.args.names.now c.fields-keys.result.now c.args.keys.now c.fields-keys.ensures.fields c.fields-keys.ensures.ascend
    ∙ as_many (length c.fields-keys.result.now) (length c.args.names.now) _ c.if-keys-names.true)

pub returns-else-keys-names : goal.returns-else-keys-names
returns-else-keys-names c =
    sym (fit_sorted (fields_in c.args.fields.now) c.args.names.now c.fields-keys.result.now c.args.keys.now c.fields-keys.ensures.fields c.fields-keys.ensures.ascend
    ∙ not_as_many (length c.fields-keys.result.now) (length c.args.names.now) _ c.if-keys-names.false)
