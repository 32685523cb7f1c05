use Rattle.polling.proofs.Leading.{any_none, any_same, any_then, talks_reach, unasked_any}
use Rattle.polling.proofs.peers.Peers.look.Goals as goal

pub returns-in_default : goal.returns-in_default
returns-in_default g c = any_none _

pub returns : goal.returns
returns g c =
    any_then _ _ _ (talks_reach _ _ _ _ _ _ _ c.look-next.ensures.2) (any_then _ _ _ (any_same _ _ c.list_watch-next.ensures) (unasked_any _ _ c.follow.ensures))
