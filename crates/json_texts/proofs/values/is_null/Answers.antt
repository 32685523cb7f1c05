use Rattle.std.proofs.Common.{◌∙◌}
use Rattle.json.specs.Value.{value_view}
use Rattle.json_texts.proofs.Seen.{is_null-data}
use Rattle.json_texts.proofs.values.is_null.Goals as goal

pub returns : goal.returns
returns c = c.is_null.ensures ∙ is_null-data (value_view c.args.value.now) c.requires
