use Rattle.std.proofs.Common.{◌≡◌, [], drop, map}
use Rattle.serde_json.specs.Data.{object}
use Rattle.serde_json.specs.View.{items_view, members_view, view}
use Rattle.schema.specs.Shape.{fields_in, kind_of, shape}
use Rattle.typed.specs.Faults.{below}
use Rattle.typed.specs.Reading.{plain_item, plain_items, plain_members, plain_of, plain_of_field}
use Rattle.typed.proofs.Plains.{IsPlainSoFar, items_after}
use Rattle.typed.proofs.plain.+plain.Given as goal

-- what is left gives what all give
abbrev pub invariant-plain_field-loop-known : goal.invariant-plain_field-loop-known
invariant-plain_field-loop-known l = plain_of_field (fields_in (drop l.known-index l.fields)) l.name (view l.value) ≡ plain_of_field (fields_in l.fields) l.name (view l.value)

abbrev pub invariant-plain_fields-loop-name : goal.invariant-plain_fields-loop-name
invariant-plain_fields-loop-name l =
    IsPlainSoFar (λ k e. plain_of_field (fields_in l.fields) k e) (plain_members (λ k e. plain_of_field (fields_in l.fields) k e) (members_view l.members.entries)) (members_view l.plain.entries) l.name-iterator

abbrev pub invariant-plain_list-loop-place : goal.invariant-plain_list-loop-place
invariant-plain_list-loop-place l =
    let inner = plain_item (kind_of l.kind) (λ e. plain_of (shape l.inner) e) (λ ms. plain_of (shape l.inner) (object ms)) in
    below [] (items_after (map view l.plain.items)) (plain_items inner l.place (items_view (drop l.place l.items))) ≡ plain_items inner 0 (items_view l.items)

abbrev pub invariant-plain_values-loop-name : goal.invariant-plain_values-loop-name
invariant-plain_values-loop-name l =
    IsPlainSoFar (λ k e. plain_of (shape l.inner) e) (plain_members (λ k e. plain_of (shape l.inner) e) (members_view l.members.entries)) (members_view l.plain.entries) l.name-iterator
