use Rattle.std.proofs.Common.{map, refl}
use Rattle.std.proofs.lemmas.Result.{on_ok_weaker}
use Rattle.api_types.specs.ServedViews.{served}
use Rattle.discovery.specs.Documents.{add_group, items_by}
use Rattle.discovery.proofs.Loops.{items_end, items_next}
use Rattle.discovery.proofs.groups.put_groups.Goals as goal

pub loop-of-preserved : goal.loop-of-preserved
loop-of-preserved c =
    items_next (λ ys. items_by (add_group (map served c.args.types.now)) (map (λ t. served t.now) ys)) c.args.groups.now c.args.writer.now c.loop-of.of-index (add_group (map served c.args.types.now) (served c.of-item.result.now))
    c.of-item.result refl c.loop-of-test.true c.of-item.is c.loop-of.writer c.add_group.new.writer c.loop-of.invariant c.in_ok-add_group.ensures

pub returns : goal.returns
returns c =
    on_ok_weaker c.put.result
    (λ ended. items_end (λ ys. items_by (add_group (map served c.args.types.now)) (map (λ t. served t.now) ys)) c.args.groups.now c.args.writer.now c.loop-of.of-index refl c.loop-of-test.false c.loop-of.writer c.put.new.writer c.loop-of.invariant ended)
    c.put.ensures
