use Rattle.std.proofs.Common.{◌≡◌, ◌∙◌, ap, subst, sym, codes, ◌==◌}
use Rattle.std.specs.Result.{OnOk}
use Rattle.serde_json.specs.Data.{put}
use Rattle.serde_json.specs.View.{members_view}
use Rattle.serde_json.proofs.Views.{view-Array}
use Rattle.api_request.proofs.Statuses.{some_causes_in}
use Rattle.api_request.proofs.details.put_causes.Goals as goal

pub returns : goal.returns
returns c =
    let vs = c.args.causes.items in
    let ms = members_view c.args.members.now.entries in
    let o = c.args.causes.ok in
    subst (λ m. OnOk c.put.result (members_view c.put.new.map.entries ≡ m))
    (ap (λ d. put (codes "causes") d ms) (view-Array c.args.causes) ∙ some_causes_in vs ms (ap (λ n. n == 0) (sym o.0) ∙ sym c.is_empty.ensures ∙ c.if-is_empty.false))
    c.put.ensures.ok
