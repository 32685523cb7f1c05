use Rattle.std.proofs.Common.{sym, ◌∙◌}
use Rattle.serde_json.specs.View.{members_view}
use Rattle.api_types.specs.Views.{form_view}
use Rattle.api_types.proofs.FaultPlaces.{misfit_here}
use Rattle.api_types.proofs.locate.form_fault.Goals as goal

pub returns : goal.returns
returns c =
    let there = c.in_ok-here.ensures in
    (there.1, misfit_here c.args.depth (members_view c.args.schema.now.entries) (form_view c.in-Ok.form) c.in_ok-here.field-0.fault c.if-depth-ne1.false c.in-Ok.ensures.form (sym c.is_of_type.ensures ∙ c.if-is_of_type.false) there.0)
