-- For private clauses: members and items that a JSON text goes on by.
use Rattle.serde_json.specs.Data.{Items, no_items, item, Members, no_members, member}
use Rattle.serde_json.specs.Written.{compact_text}
use Rattle.json_texts.specs.Writing.{Writing, with_text}

-- these members, and the others behind them
abbrev pub then_members : Members → Members → Members
then_members no_members rest = rest
then_members (member k d ms) rest = member k d (then_members ms rest)

-- each item appended in turn
abbrev pub with_items : Items → Writing → Writing
with_items no_items w = w
with_items (item d ds) w = with_items ds (with_text (compact_text d) w)
