use Rattle.std.proofs.Common.{option_map, unwrap_or, ap, ◌∙◌}
use Rattle.serde_json.specs.Data.{null, put}
use Rattle.serde_json.specs.View.{view, members_view}
use Rattle.serde_json.proofs.Views.{view-lookup}
use Rattle.json_patch.proofs.Putting.{view-Null, put-set_value}
use Rattle.json_patch.proofs.members.take_value.Goals as goal

pub returns-in-Some-clause-value : goal.returns-in-Some-clause-value
returns-in-Some-clause-value c =
    ap view c.take.ensures.taken
    ∙ ap (λ o. unwrap_or o null) (ap (option_map view) c.in-Some.ensures.value ∙ view-lookup c.args.name.now c.args.members.now.entries)

pub returns-in-Some-clause-left : goal.returns-in-Some-clause-left
returns-in-Some-clause-left c = λ d.
    ap (λ es. put c.args.name.now d (members_view es)) ((c.get_mut.follows.holds c.take.new.self).0)
    ∙ put-set_value c.args.name.now c.take.new.self d c.args.members.now.entries c.in-Some.ensures.ordered

pub returns-in-None-clause-value : goal.returns-in-None-clause-value
returns-in-None-clause-value c =
    view-Null
    ∙ ap (λ o. unwrap_or o null) (ap (option_map view) c.in-None.ensures.value ∙ view-lookup c.args.name.now c.args.members.now.entries)
