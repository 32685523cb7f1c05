use Rattle.std.proofs.Common.{◌≡◌, [], drop}
use Rattle.serde_json.specs.View.{items_view, members_view, view}
use Rattle.pathmap.specs.Maps.{content}
use Rattle.schema.specs.KeyNames.{names_in}
use Rattle.schema.specs.Shape.{fields_in, shape}
use Rattle.typed.specs.Reading.{beside_keys, content_of, content_of_field, content_of_item, items_at, keyed_item, members_at}
use Rattle.typed.proofs.Listed.{AreItemsSoFar}
use Rattle.typed.proofs.Members.{AreMembersSoFar}
use Rattle.typed.proofs.read.+read.Given as goal

-- what is left gives what all give
abbrev pub invariant-read_field-loop-known : goal.invariant-read_field-loop-known
invariant-read_field-loop-known l = content_of_field (fields_in (drop l.known-index l.fields)) l.name (view l.value) ≡ content_of_field (fields_in l.fields) l.name (view l.value)

abbrev pub invariant-read_values-loop-name : goal.invariant-read_values-loop-name
invariant-read_values-loop-name l = AreMembersSoFar (λ k e. content_of (shape l.inner) e) (members_at (λ k e. content_of (shape l.inner) e) (members_view l.members.entries)) (content l.map) l.name-iterator

abbrev pub invariant-read_struct-loop-name : goal.invariant-read_struct-loop-name
invariant-read_struct-loop-name l =
    let inner = beside_keys (names_in l.names) (λ k e. content_of_field (fields_in l.fields) k e) in
    AreMembersSoFar inner (members_at inner (members_view l.members.entries)) (content l.map) l.name-iterator

abbrev pub invariant-read_list-loop-place : goal.invariant-read_list-loop-place
invariant-read_list-loop-place l =
    let inner = keyed_item (names_in l.names) (λ ms. content_of_item (shape l.inner) (names_in l.names) ms) in
    AreItemsSoFar inner (items_at inner 0 [] (items_view l.items)) (content l.map) l.place (drop l.place l.items)
