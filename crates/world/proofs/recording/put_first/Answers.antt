use Rattle.std.proofs.Common.{sym}
use Rattle.std.specs.BTreeMap.{get}
use Rattle.std.specs.Ordering.{nat_cmp}
use Rattle.world.proofs.Kept.{put_new, put_none}
use Rattle.world.proofs.recording.put_first.Goals as goal

pub returns-in_ok-insert : goal.returns-in_ok-insert
returns-in_ok-insert g c = λ q. put_new (get nat_cmp c.args.values.now) _ c.args.value c.args.id q (sym c.if-not-contains_key.ensures) (c.in_ok-insert.ensures.updates.0 q)

pub returns-else-not-contains_key : goal.returns-else-not-contains_key
returns-else-not-contains_key g c = λ q. put_none (get nat_cmp c.args.values.now) c.args.value c.args.id q (sym c.if-not-contains_key.ensures)
