use Rattle.std.proofs.Common.{◌∙◌}
use Rattle.wireclient.proofs.Lengthened.{first_feed}
use Rattle.wireclient.proofs.taking.before_line_feed.Goals as goal

pub returns : goal.returns
returns c = c.unwrap_or.ensures ∙ first_feed c.args.piece.now c.memchr.result c.memchr.ensures
