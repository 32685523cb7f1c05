use Rattle.std.proofs.Common.{◌≡◌, length, drop, false}
use Rattle.serde_json.specs.View.{items_view, members_view}
use Rattle.serde_json.specs.Written.{items_text, members_text}
use Rattle.json_patch.specs.CopiedSize.{items_without_floats, left_of, members_without_floats}
use Rattle.json_patch.proofs.copied_size.+size.Given as goal

-- what is left of the room after what is left of the text is what is left of the whole room after the whole text
abbrev pub invariant-after_items-loop-item : goal.invariant-after_items-loop-item
invariant-after_items-loop-item l =
    left_of l.left (length (items_text l.is_later (items_without_floats (items_view (drop l.item-index l.items)))))
    ≡ left_of l.fn.room (length (items_text false (items_without_floats (items_view l.items))))

abbrev pub invariant-after_members-loop-name : goal.invariant-after_members-loop-name
invariant-after_members-loop-name l =
    left_of l.left (length (members_text l.is_later (members_without_floats (members_view l.name-iterator))))
    ≡ left_of l.fn.room (length (members_text false (members_without_floats (members_view l.members.entries))))
