use Rattle.std.proofs.Common.{◌≡◌, Some, codes, option_and_then, option_map, sym, ap, ◌∙◌}
use Rattle.serde_json.specs.Find.{as_object, get_member}
use Rattle.serde_json.specs.View.{members_view, view}
use Rattle.api_types.proofs.FaultPlaces.{in_schema}
use Rattle.api_types.proofs.locate.find_in_schema.Goals as goal

pub returns-in-Some-member : goal.returns-in-Some-member
returns-in-Some-member c =
    let there : as_object (view c.args.value.now) ≡ Some (members_view c.in-Some.members.now.entries) = sym c.as_object.ensures ∙ ap (option_map (λ m. members_view m.now.entries)) c.in-Some.is in
    let schema : get_member (codes "schema") (members_view c.in-Some.members.now.entries) ≡ Some (view c.in-Some-member.schema.now) = sym c.member.ensures ∙ ap (option_map (λ v. view v.now)) c.in-Some-member.is in
    in_schema (λ v. v.items) (view c.args.value.now) (view c.in-Some-member.schema.now) c.find.result (ap (option_and_then (get_member (codes "schema"))) there ∙ schema) c.find.ensures
