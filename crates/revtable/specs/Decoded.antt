-- What a shown row says, column by column.
use Rattle.std.specs.Prelude.{ℕ}
use Rattle.sqlite.specs.Order.{Row, column}
use Rattle.history.specs.History.{Key, Change, Object}
use Rattle.revtable.specs.Rows.{number_in, text_in, body_in}

abbrev pub key_shown : Row → Key
key_shown row = record { kind = number_in (column row 1); namespace = text_in (column row 2); name = text_in (column row 3) }

abbrev pub change_shown : Row → Change
change_shown row = record { revision = number_in (column row 0); key = key_shown row; body = body_in (column row 4) }

abbrev pub object_shown : Row → Object
object_shown row = record { revision = number_in (column row 0); body = text_in (column row 4) }

abbrev pub entry_shown : Row → Key × Object
entry_shown row = (key_shown row, object_shown row)

-- the two numbers
abbrev pub marks_shown : Row → ℕ × ℕ
marks_shown row = (number_in (column row 0), number_in (column row 1))
