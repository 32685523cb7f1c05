use Rattle.std.proofs.Common.{map, refl}
use Rattle.std.proofs.lemmas.Result.{on_ok_weaker}
use Rattle.api_types.specs.ServedViews.{served}
use Rattle.discovery.specs.Documents.{members_by}
use Rattle.discovery.specs.OpenApi.{add_path}
use Rattle.discovery.proofs.Loops.{members_end, members_next}
use Rattle.discovery.proofs.operations.put_paths.Goals as goal

pub loop-one-preserved : goal.loop-one-preserved
loop-one-preserved c =
    members_next (λ ys. members_by (add_path (served c.args.of.now)) (map served ys)) c.args.types.now c.args.writer.now c.loop-one.one-index (add_path (served c.args.of.now) (served c.one-item.result)) c.one-item.result refl
    c.loop-one-test.true c.one-item.is c.loop-one.writer c.add_path.new.writer c.loop-one.invariant c.in_ok-add_path.ensures

pub returns : goal.returns
returns c =
    on_ok_weaker c.put.result
    (λ ended. members_end (λ ys. members_by (add_path (served c.args.of.now)) (map served ys)) c.args.types.now c.args.writer.now c.loop-one.one-index refl c.loop-one-test.false c.loop-one.writer c.put.new.writer c.loop-one.invariant ended)
    c.put.ensures
