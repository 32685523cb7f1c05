use Rattle.std.proofs.Common.{◌∙◌}
use Rattle.api_validation.proofs.Entries.{no_list}
use Rattle.api_validation.proofs.options.is_no_list.Goals as goal

pub returns : goal.returns
returns c = c.is_empty.ensures ∙ no_list c.args.items.now
