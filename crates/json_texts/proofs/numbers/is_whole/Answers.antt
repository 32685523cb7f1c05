use Rattle.std.proofs.Common.{◌∙◌}
use Rattle.serde_json.specs.Read.{number_of}
use Rattle.json_texts.proofs.Whole.{some-whole}
use Rattle.json_texts.proofs.numbers.is_whole.Goals as goal

pub returns : goal.returns
returns c = c.is_some.ensures ∙ some-whole c.whole_number.result (number_of c.args.text.now) c.whole_number.ensures
