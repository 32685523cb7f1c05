-- What a `Manager` and an `Entry` stand for.
use Rattle.std.specs.Prelude.{List, map, string_bytes}
use Rattle.pathmap.specs.Contents.{PathSet}
use Rattle.objects.specs.Owners as owners
use Rattle.objects.specs.declared.manager.Manager.{Manager}
use Rattle.objects.specs.declared.managers.Entry.{Entry}

abbrev pub manager_view : Manager → owners.Manager
manager_view m = record { name = string_bytes m.name; operation = m.operation; subresource = m.subresource }

abbrev pub pair : Entry → owners.Manager × PathSet
pair e = (manager_view e.manager, e.paths)

abbrev pub pairs : List Entry → List (owners.Manager × PathSet)
pairs = map pair
