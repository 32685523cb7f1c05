-- What contracts see of one type that is served. All types stand in `Served`, which names their struct; this file doesn't, so that the struct may speak of it.
use Rattle.std.specs.Prelude.{string_bytes}
use Rattle.schema.specs.Shape.{shape}
use Rattle.api_types.specs.TypesFile.{ServedShape}
use Rattle.api_types.specs.declared.served.Served.{Served}

abbrev pub served : Served → ServedShape
served s = record { group = string_bytes s.group; version = string_bytes s.version; kind = string_bytes s.kind; plural = string_bytes s.plural; shape = shape s.schema; profile = s.profile }
