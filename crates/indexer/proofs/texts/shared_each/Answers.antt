use Rattle.std.proofs.Common.{map, string_bytes}
use Rattle.std.specs.Rc.{rc_str_bytes}
use Rattle.indexer.proofs.Pushes.{one_taken}
use Rattle.indexer.proofs.texts.shared_each.Goals as goal

pub loop-text-preserved : goal.loop-text-preserved
loop-text-preserved c =
    one_taken rc_str_bytes string_bytes c.loop-text.all.items c.push.new.self.items c.in_ok-shared.field-0 c.loop-text.text-iterator.rest.items c.next.new.self.rest.items c.in-Some.text
    (map string_bytes c.args.texts.items) c.in-Some.ensures.steps.0 c.in_ok-push.ensures.items c.in_ok-shared.ensures c.loop-text.invariant
