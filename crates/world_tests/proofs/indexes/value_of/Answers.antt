use Rattle.std.proofs.Common.{◌∙◌, Some, ap, sym, option_map, string_bytes}
use Rattle.world_tests.proofs.Labels.{label_at}
use Rattle.world_tests.proofs.indexes.value_of.Goals as goal

pub returns-in-Some : goal.returns-in-Some
returns-in-Some c = ap (λ s. Some s) c.as_str.ensures.value ∙ ap (option_map string_bytes) c.in-Some.ensures.value ∙ sym (label_at c.args.labels.now c.args.label.now)

pub returns-in-None : goal.returns-in-None
returns-in-None c = ap (option_map string_bytes) c.in-None.ensures.value ∙ sym (label_at c.args.labels.now c.args.label.now)
