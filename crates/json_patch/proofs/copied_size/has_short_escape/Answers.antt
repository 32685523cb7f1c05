use Rattle.json_patch.proofs.Sizes.{short_escape}
use Rattle.json_patch.proofs.copied_size.has_short_escape.Goals as goal

pub returns : goal.returns
returns c = short_escape c.args.byte
