-- What the code's values represent.
use Rattle.std.specs.Prelude.{ℕ, List, Option, option_map, string_bytes}
use Rattle.history.specs.declared.change.Change.{Change as TheChange}
use Rattle.history.specs.declared.key.Key.{Key as TheKey}
use Rattle.history.specs.declared.object.Entry.{Entry}
use Rattle.history.specs.declared.object.Object.{Object as TheObject}
use Rattle.history.specs.declared.write.Write.{Write}
use Rattle.history.specs.History.{Change, Key, Object}

abbrev pub key_of : TheKey → Key
key_of k = record { kind = k.kind; namespace = string_bytes k.namespace; name = string_bytes k.name }

abbrev pub change_of : TheChange → Change
change_of c = record { revision = c.revision; key = key_of c.key; body = option_map string_bytes c.body }

abbrev pub object_of : TheObject → Object
object_of o = record { revision = o.revision; body = string_bytes o.body }

abbrev pub entry_of : Entry → Key × Object
entry_of e = (key_of e.key, object_of e.object)

abbrev pub write_of : Write → Key × Option (List ℕ)
write_of w = (key_of w.key, option_map string_bytes w.body)
