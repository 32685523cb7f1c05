use Rattle.std.proofs.Common.{ap, arith}
use Rattle.history.specs.Seen.{selected}
use Rattle.history.proofs.Following.{seen_at-kept, seen_at-push, seen_changes-kept, seen_changes-push, seen_in_view}
use Rattle.history.proofs.Views.{view_states}
use Rattle.history.proofs.seen_laws.seen_stays.Goals as goal

pub returns : goal.returns
returns c = record {
  at_write = λ wanted h k body r le. seen_at-push wanted h.changes _ r (omega arith);
  after_write = λ wanted h k body r q low high. seen_changes-push wanted h.changes _ r q (omega arith) (omega arith);
  at_kept = λ wanted h c r is le. seen_at-kept wanted h.changes c r h.current is.rising le;
  after_kept = λ wanted h c r q is le. seen_changes-kept wanted h.changes c r q h.current is.rising le;
  at_view = λ wanted h r is le. ap (selected wanted) (view_states h r is le);
  after_view = seen_in_view;
}
