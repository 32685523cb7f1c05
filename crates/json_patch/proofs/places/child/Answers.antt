use Rattle.std.proofs.Common.{ap, ◌∙◌}
use Rattle.serde_json.specs.View.{view, items_view}
use Rattle.serde_json.proofs.Views.{view-Array}
use Rattle.json_patch.proofs.Children.{at-child}
use Rattle.json_patch.proofs.places.child.Goals as goal

pub returns-in_ok-index-in-Array : goal.returns-in_ok-index-in-Array
returns-in_ok-index-in-Array c =
    c.get.ensures
    ∙ at-child c.args.token.now c.in_ok-index-in-Array.field-0 (items_view c.in-Array.field-0.items) (view c.args.value.now) (ap view c.in-Array.is ∙ view-Array c.in-Array.field-0) c.in_ok-index-in-Array.ensures
