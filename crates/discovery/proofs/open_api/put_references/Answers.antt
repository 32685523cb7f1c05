use Rattle.std.proofs.Common.{map, refl}
use Rattle.std.proofs.lemmas.Result.{on_ok_weaker}
use Rattle.api_types.specs.ServedViews.{served}
use Rattle.discovery.specs.Documents.{members_by}
use Rattle.discovery.specs.OpenApi.{add_reference}
use Rattle.discovery.proofs.Loops.{members_end, members_next}
use Rattle.discovery.proofs.open_api.put_references.Goals as goal

pub loop-one-preserved : goal.loop-one-preserved
loop-one-preserved c =
    members_next (λ ys. members_by add_reference (map (λ t. served t.now) ys)) c.args.versions.now c.args.writer.now c.loop-one.one-index (add_reference (served c.one-item.result.now)) c.one-item.result refl
    c.loop-one-test.true c.one-item.is c.loop-one.writer c.add_reference.new.writer c.loop-one.invariant c.in_ok-add_reference.ensures

pub returns : goal.returns
returns c =
    on_ok_weaker c.put.result
    (λ ended. members_end (λ ys. members_by add_reference (map (λ t. served t.now) ys)) c.args.versions.now c.args.writer.now c.loop-one.one-index refl c.loop-one-test.false c.loop-one.writer c.put.new.writer c.loop-one.invariant ended)
    c.put.ensures
