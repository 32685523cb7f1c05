use Rattle.std.proofs.Common.{refl}
use Rattle.revstore.proofs.Latest.{before_current, next_latest, waits_last}
use Rattle.revstore.proofs.window.ChangeWindow.push.Goals as goal

pub returns-clause-ok : goal.returns-clause-ok
returns-clause-ok c = λ h is next are before. (
  next_latest h c.args.self.now _ c.args.change is next are refl c.in_ok-push.ensures.items refl (before_current h c.args.change next before),
  waits_last c.args.self.now.latest.items _ c.args.self.now.written c.args.change are.written c.in_ok-push.ensures.items,
)
