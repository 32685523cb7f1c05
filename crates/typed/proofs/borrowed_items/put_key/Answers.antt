use Rattle.std.proofs.Common.{ap, ◌∙◌}
use Rattle.std.proofs.lemmas.Result.{on_ok_weaker}
use Rattle.serde_json.specs.Data.{put}
use Rattle.serde_json.specs.View.{members_view}
use Rattle.typed.specs.Reading.{put_some}
use Rattle.typed.proofs.borrowed_items.put_key.Goals as goal

pub returns-in_ok-to_value-in-Some : goal.returns-in_ok-to_value-in-Some
returns-in_ok-to_value-in-Some c =
    let old = members_view c.args.keys.now.entries in
    on_ok_weaker c.put.result (λ e. e ∙ ap (λ d. put c.args.name.now d old) c.in_ok-to_value-in-Some.ensures ∙ ap (λ o. put_some c.args.name.now o old) c.in-Some.ensures.value) c.put.ensures.ok
