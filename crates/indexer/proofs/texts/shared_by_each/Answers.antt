use Rattle.std.proofs.Common.{map, string_bytes}
use Rattle.indexer.specs.Objects.{texts_of}
use Rattle.indexer.specs.Texts.{bytes_in}
use Rattle.indexer.proofs.Pushes.{one_taken}
use Rattle.indexer.proofs.texts.shared_by_each.Goals as goal

pub loop-texts-preserved : goal.loop-texts-preserved
loop-texts-preserved c =
    one_taken bytes_in (λ w. map string_bytes w.items) c.loop-texts.all.items c.push.new.self.items c.in_ok-shared_in.field-0 c.loop-texts.texts-iterator.rest.items c.next.new.self.rest.items c.in-Some.texts
    (texts_of c.args.keys.items) c.in-Some.ensures.steps.0 c.in_ok-push.ensures.items c.in_ok-shared_in.ensures c.loop-texts.invariant
