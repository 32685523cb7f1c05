-- The FieldsV1 value of a set of paths, under a lawful schema, is one that its compact text spells.
use Rattle.std.specs.Prelude.{◌≡◌, true}
use Rattle.fieldset.specs.FieldsV1.{fields_v1_of}
use Rattle.pathmap.specs.Contents.{PathSet}
use Rattle.schema.specs.Lawful.{is_lawful}
use Rattle.schema.specs.Shape.{Shape}
use Rattle.typed.specs.Fitting.{IsTextual}

-- of any set of paths
abbrev pub FieldsV1IsTextual : Type 0
FieldsV1IsTextual = (s : Shape) (paths : PathSet) → is_lawful s ≡ true → IsTextual (fields_v1_of s paths)
