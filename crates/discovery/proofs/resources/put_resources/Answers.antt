use Rattle.std.proofs.Common.{map, refl}
use Rattle.std.proofs.lemmas.Result.{on_ok_weaker}
use Rattle.api_types.specs.ServedViews.{served}
use Rattle.discovery.specs.Documents.{add_resources, items_by}
use Rattle.discovery.proofs.Loops.{items_end, items_next}
use Rattle.discovery.proofs.resources.put_resources.Goals as goal

pub loop-one-preserved : goal.loop-one-preserved
loop-one-preserved c =
    items_next (λ ys. items_by (add_resources (served c.args.of.now)) (map served ys)) c.args.types.now c.args.writer.now c.loop-one.one-index (add_resources (served c.args.of.now) (served c.one-item.result))
    c.one-item.result refl c.loop-one-test.true c.one-item.is c.loop-one.writer c.add_resources.new.writer c.loop-one.invariant c.in_ok-add_resources.ensures

pub returns : goal.returns
returns c =
    on_ok_weaker c.put.result
    (λ ended. items_end (λ ys. items_by (add_resources (served c.args.of.now)) (map served ys)) c.args.types.now c.args.writer.now c.loop-one.one-index refl c.loop-one-test.false c.loop-one.writer c.put.new.writer c.loop-one.invariant ended)
    c.put.ensures
