use Rattle.std.proofs.Common.{◌≡◌, ◌+◌, ◌*◌, ℕ, List, [], drop}
use Rattle.json.specs.Value.{items_view, members_view, value_view}
use Rattle.serde_json.specs.Data.{Data, depth, items_depth, members_depth}
use Rattle.json_texts.specs.InOrder.{data_of, items_data, members_data}
use Rattle.pathmap.specs.Contents.{Content}
use Rattle.pathmap.specs.Maps.{content}
use Rattle.schema.specs.KeyNames.{names_in}
use Rattle.schema.specs.Shape.{fields_in, shape}
use Rattle.typed.specs.Faults.{Read}
use Rattle.typed.specs.Reading.{beside_keys, content_of, content_of_field, content_of_item, items_at, keyed_item, members_at}
use Rattle.typed.proofs.Ascending.{AreReadTo}
use Rattle.typed.proofs.Listed.{AreItemsTo}
use Rattle.typed.proofs.borrowed.+borrowed.Given as goal

-- what is left gives what all give
abbrev pub invariant-read_field-loop-known : goal.invariant-read_field-loop-known
invariant-read_field-loop-known l = content_of_field (fields_in (drop l.known-index l.fields)) l.name (data_of (value_view l.value)) ≡ content_of_field (fields_in l.fields) l.name (data_of (value_view l.value))

abbrev pub invariant-read_values-loop-name : goal.invariant-read_values-loop-name
invariant-read_values-loop-name l =
    let inner : List ℕ → Data → Read Content = λ k e. content_of (shape l.inner) e in
    AreReadTo inner (members_at inner (members_data (members_view l.members))) (content l.map) (members_data (members_view (drop l.name-index l.members)))

abbrev pub invariant-read_struct-loop-name : goal.invariant-read_struct-loop-name
invariant-read_struct-loop-name l =
    let inner : List ℕ → Data → Read Content = beside_keys (names_in l.names) (λ k e. content_of_field (fields_in l.fields) k e) in
    AreReadTo inner (members_at inner (members_data (members_view l.members))) (content l.map) (members_data (members_view (drop l.name-index l.members)))

abbrev pub invariant-read_list-loop-place : goal.invariant-read_list-loop-place
invariant-read_list-loop-place l =
    let inner = keyed_item (names_in l.names) (λ ms. content_of_item (shape l.inner) (names_in l.names) ms) in
    AreItemsTo inner (items_at inner 0 [] (items_data (items_view l.items))) (content l.map) l.place (items_data (items_view (drop l.place l.items)))

abbrev pub decreases-read_borrowed : goal.decreases-read_borrowed
decreases-read_borrowed l = 3 * depth (data_of (value_view l.value.now))

abbrev pub decreases-read_field : goal.decreases-read_field
decreases-read_field l = 3 * depth (data_of (value_view l.value.now)) + 1

abbrev pub decreases-read_list : goal.decreases-read_list
decreases-read_list l = 3 * items_depth (items_data (items_view l.items.now)) + 2

abbrev pub decreases-read_item : goal.decreases-read_item
decreases-read_item l = 3 * depth (data_of (value_view l.item.now)) + 1

abbrev pub decreases-read_keyed : goal.decreases-read_keyed
decreases-read_keyed l = 3 * members_depth (members_data (members_view l.members.now)) + 3

abbrev pub decreases-read_struct : goal.decreases-read_struct
decreases-read_struct l = 3 * members_depth (members_data (members_view l.members.now)) + 2

abbrev pub decreases-read_values : goal.decreases-read_values
decreases-read_values l = 3 * members_depth (members_data (members_view l.members.now)) + 2
