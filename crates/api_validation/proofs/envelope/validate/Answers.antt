use Rattle.std.proofs.Common.{ap, ◌∙◌}
use Rattle.serde_json.specs.View.{members_view, view}
use Rattle.serde_json.proofs.Views.{view-Object}
use Rattle.api_validation.specs.Views.{expected_of}
use Rattle.api_validation.proofs.Rests.{object_seen}
use Rattle.api_validation.proofs.envelope.validate.Goals as goal

pub returns-in-Object : goal.returns-in-Object
returns-in-Object c =
    object_seen (expected_of c.args.expected) (view c.args.body.now) (members_view c.in-Object.top.entries) c.validate_object.result (ap view c.in-Object.is ∙ view-Object c.in-Object.top) c.requires.json c.validate_object.ensures
