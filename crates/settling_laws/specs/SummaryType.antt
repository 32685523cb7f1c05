-- The type of the objects that a controller writes its counts to, as a types file declares it (docs/CLIENT.md, `Summary`).
use Rattle.std.specs.Prelude.{◌≡◌, true, false, List, ℕ, codes}
use Rattle.std.specs.declared.result.Result.TheVariants.{Ok}
use Rattle.serde_json.specs.Data.{Data, object, string, Members, member, no_members}
use Rattle.schema.specs.ObjectShape.{IsObjectShape, metadata}
use Rattle.schema.specs.Shape.{Shape, text, whole, struct_of, map_of, field, no_fields}
use Rattle.api_types.specs.Named.{has_names}
use Rattle.api_types.specs.TypesFile.{ServedShape, type_of}
use Rattle.api_types.specs.declared.profile.Profile.TheVariants.{Plain}

-- ---- as it is printed

abbrev of_type : List ℕ → Data
of_type name = object (member (codes "type") (string name) no_members)

abbrev with_properties : Members → Data
with_properties all = object (member (codes "properties") (object all) (member (codes "type") (string (codes "object")) no_members))

abbrev counts_declared : Data
counts_declared = object (member (codes "additionalProperties") (of_type (codes "integer")) (member (codes "type") (string (codes "object")) no_members))

abbrev spec_declared : Data
spec_declared = with_properties (member (codes "counts") counts_declared (member (codes "label") (of_type (codes "string")) (member (codes "total") (of_type (codes "integer")) no_members)))

-- its declaration in a types file
abbrev pub declaration : Data
declaration =
    object (member (codes "group") (string (codes "summary.example")) (member (codes "kind") (string (codes "LabelSummary")) (member (codes "plural") (string (codes "labelsummaries"))
    (member (codes "schema") (with_properties (member (codes "spec") spec_declared no_members)) (member (codes "version") (string (codes "v1")) no_members)))))

-- ---- as it is served

-- a map of whole numbers by value, a label, and a whole number
abbrev pub spec_shape : Shape
spec_shape = struct_of (field (codes "counts") (map_of whole false) (field (codes "label") text (field (codes "total") whole no_fields))) false

abbrev pub summary_shape : Shape
summary_shape = struct_of (field (codes "metadata") metadata (field (codes "spec") spec_shape no_fields)) false

abbrev pub summary_type : ServedShape
summary_type = record { group = codes "summary.example"; version = codes "v1"; kind = codes "LabelSummary"; plural = codes "labelsummaries"; shape = summary_shape; profile = Plain }

-- ---- the law

-- The declaration is read as this type, its names are lawful, and its schema is that of an object.
abbrev pub SummariesCanBeServed : Type 0
SummariesCanBeServed = (type_of Plain declaration ≡ Ok summary_type) × (has_names summary_type ≡ true) × IsObjectShape summary_shape
