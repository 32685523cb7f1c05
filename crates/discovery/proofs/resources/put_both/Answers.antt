use Rattle.json.specs.Json.{item}
use Rattle.std.proofs.lemmas.Result.{on_ok_weaker}
use Rattle.api_types.specs.ServedViews.{served}
use Rattle.discovery.specs.Documents.{add_status, object_resource}
use Rattle.discovery.proofs.Appended.{item_added, items_then}
use Rattle.discovery.proofs.resources.put_both.Goals as goal

pub returns : goal.returns
returns c =
    let t = served c.args.one.now in
    let w0 = c.args.writer.now in
    let w1 = c.put_object_resource.new.writer in
    on_ok_weaker c.add_status.result
    (λ told. items_then (item (object_resource t)) (add_status t) w0 w1 c.add_status.new.writer (item_added (object_resource t) w0 w1 c.in_ok-put_object_resource.ensures) told) c.add_status.ensures
