use Rattle.std.proofs.Common.{drop, length}
use Rattle.json.specs.Tree.{items_tokens, json_tokens, members_tokens}
use Rattle.json.specs.Value.{items_view as items_in, members_view as members_in, value_view}
use Rattle.serde_json.specs.View.{members_view}
use Rattle.json_texts.specs.InOrder.{items_data, members_data}
use Rattle.json_texts.proofs.Copies.{AreCopied, ArePut}
use Rattle.json_texts.proofs.copying.+copying.Given as goal

abbrev pub invariant-to_items-loop-item : goal.invariant-to_items-loop-item
invariant-to_items-loop-item l = AreCopied l.copies.items (drop l.item-index l.items) (items_data (items_in l.items))

abbrev pub invariant-to_members-loop-name : goal.invariant-to_members-loop-name
invariant-to_members-loop-name l = ArePut (members_view l.copies.entries) (drop l.name-index l.members) (members_data (members_in l.members))

abbrev pub decreases-to_value : goal.decreases-to_value
decreases-to_value l = length (json_tokens (value_view l.value.now))

abbrev pub decreases-to_items : goal.decreases-to_items
decreases-to_items l = length (items_tokens (items_in l.items.now))

abbrev pub decreases-to_members : goal.decreases-to_members
decreases-to_members l = length (members_tokens (members_in l.members.now))
