-- What contracts see of the types that are served.
use Rattle.std.specs.Prelude.{List, map}
pub use Rattle.api_types.specs.ServedViews.{served}
use Rattle.api_types.specs.TypesFile.{ServedShape}
use Rattle.api_types.specs.declared.types.Types.{Types}

-- a type's number is its place in the list
abbrev pub types_view : Types → List ServedShape
types_view t = map served t.all.items
