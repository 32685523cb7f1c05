use Rattle.fieldpath.proofs.Texts.{rest-strip}
use Rattle.fieldpath.proofs.elem.rest_after.Goals as goal

pub returns : goal.returns
returns c = rest-strip c.args.prefix.now c.args.text.now c.strip_prefix.result c.strip_prefix.ensures.cases
