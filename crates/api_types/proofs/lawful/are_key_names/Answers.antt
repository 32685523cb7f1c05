use Rattle.std.proofs.Common.{◌&&◌, sym, ap, ◌∙◌}
use Rattle.fieldpath.specs.Scalars.{ascend}
use Rattle.schema.specs.KeyNames.{names_in}
use Rattle.schema.proofs.KeyNames.{some_named}
use Rattle.api_types.proofs.lawful.are_key_names.Goals as goal

pub returns-then-not-is_empty : goal.returns-then-not-is_empty
returns-then-not-is_empty c =
    c.names_differ.ensures ∙ sym (ap (λ b. b && ascend (names_in c.args.names.now)) (some_named c.args.names.now (sym c.is_empty.ensures ∙ c.if-not-is_empty.true)))
