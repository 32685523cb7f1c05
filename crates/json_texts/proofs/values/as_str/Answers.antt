use Rattle.std.proofs.Common.{◌∙◌}
use Rattle.json.specs.Value.{value_view}
use Rattle.json_texts.proofs.Seen.{as_str-data}
use Rattle.json_texts.proofs.values.as_str.Goals as goal

pub returns : goal.returns
returns c = c.as_str.ensures ∙ as_str-data (value_view c.args.value.now)
