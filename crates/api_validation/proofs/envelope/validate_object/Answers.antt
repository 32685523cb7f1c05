use Rattle.std.proofs.Common.{ap, option_map, sym, ◌∙◌}
use Rattle.serde_json.specs.View.{members_view}
use Rattle.api_validation.specs.Envelope.{metadata_in}
use Rattle.api_validation.specs.Views.{expected_of}
use Rattle.api_validation.proofs.Rests.{object_by}
use Rattle.api_validation.proofs.envelope.validate_object.Goals as goal

pub returns : goal.returns
returns c =
    let top = members_view c.args.top.now.entries in
    object_by (expected_of c.args.expected) top (option_map (λ m. members_view m.now.entries) c.in_ok-metadata.metadata) tt c.validate_metadata.result c.in_ok-validate_kind.ensures
    (ap metadata_in (sym c.member.ensures) ∙ c.in_ok-metadata.ensures) (c.validate_metadata.ensures top)
