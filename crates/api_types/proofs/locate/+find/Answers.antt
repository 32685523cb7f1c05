use Rattle.std.proofs.Common.{◌≡◌, IfSome, Some, string_bytes, ap, subst, ◌∙◌}
use Rattle.serde_json.specs.Data.{object}
use Rattle.serde_json.specs.Find.{get_member}
use Rattle.serde_json.specs.View.{members_view, view}
use Rattle.api_types.specs.FaultPlaces.{behind}
use Rattle.api_types.proofs.FaultPlaces.{property_behind}
use Rattle.api_types.proofs.locate.+find.Goals as goal

pub find_behind-returns : goal.find_behind-returns
find_behind-returns t c ms h =
    c.all_behind.ensures c.args.depth ms (view c.in-Some.value.now) (subst (λ o. IfSome o (λ v. behind c.args.step ms ≡ Some (view v.now))) c.in-Some.is h) c.in_ok-inner.ensures

pub find_in_properties-loop-name-preserved-in-loop-name : goal.find_in_properties-loop-name-preserved-in-loop-name
find_in_properties-loop-name-preserved-in-loop-name t c ms is =
    let ps = members_view c.args.properties.now.entries in
    let there =
    property_behind c.member-value.result (λ v. view v.now) c.in_ok-clone.field-0 (string_bytes c.in-Some.name.now) ms ps is c.in_ok-clone.ensures.cases
    (c.member-value.ensures ∙ ap (λ n. get_member n ps) c.as_str-then-depth-gt1.ensures.value) in
    c.in_ok-found.ensures.broken c.args.depth (object ms) (c.loop-name.invariant ms is) (c.in_ok-find_behind.ensures ms there)

pub find_in_parts-returns : goal.find_in_parts-returns
find_in_parts-returns t c =
    let ms = members_view c.args.schema.now.entries in
    let fields = c.in_ok-joined.ensures.broken c.args.depth (object ms) c.in_ok-fields.ensures (c.in_ok-values.ensures ms c.schema_at-values.ensures) in
    c.joined-2.ensures.broken c.args.depth (object ms) fields (c.in_ok-items.ensures ms c.schema_at.ensures)
