use Rattle.wireclient.proofs.Lengthened.{takes_body}
use Rattle.wireclient.proofs.taking.take_body.Goals as goal

pub returns : goal.returns
returns c = takes_body c.args.left c.before_last-count.result c.args.bytes.items c.args.piece.now c.extend_from_slice.new.self.items c.before_last-count.ensures c.in_ok-extend_from_slice.ensures.items
