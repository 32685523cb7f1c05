use Rattle.std.proofs.Common.{◌∙◌, Some, ap, sym, option_map, string_bytes}
use Rattle.summary.proofs.Tally.{label_at}
use Rattle.client_tests.proofs.informers.boxed.value_of.Goals as goal

pub returns-in-Some : goal.returns-in-Some
returns-in-Some c = ap (λ s. Some s) c.as_str.ensures.value ∙ ap (option_map string_bytes) c.in-Some.ensures.value ∙ sym (label_at c.args.object.now.labels c.args.label.now)

pub returns-in-None : goal.returns-in-None
returns-in-None c = ap (option_map string_bytes) c.in-None.ensures.value ∙ sym (label_at c.args.object.now.labels c.args.label.now)
