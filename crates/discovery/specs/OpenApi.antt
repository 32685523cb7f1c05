-- OpenAPI v3 of types (Kubernetes docs, "The Kubernetes API", "OpenAPI interface definition", "OpenAPI V3"; the OpenAPI Specification 3.0,
-- "Paths Object", "Schema Object"). A schema is printed of the shape that was read, so without `description`, `title` and `format`.
use Rattle.std.specs.Prelude.{ℕ, Bool, true, List, ◌++◌, if◌then◌else◌, codes}
use Rattle.std.specs.Str.{bytes_eq}
use Rattle.json.specs.Json.{Json, boolean, string, array, object, Items, no_items, item, Members, no_members, member}
use Rattle.schema.specs.Shape.{Kind, atomic, set, keyed, Shape, text, whole, truth, struct_of, map_of, list_of, Fields, no_fields, field}
use Rattle.api_types.specs.TypesFile.{ServedShape}
use Rattle.discovery.specs.Groups.{group_version, is_like, firsts}
use Rattle.discovery.specs.Documents.{members_by, texts, release}
use Rattle.discovery.specs.declared.likeness.Likeness.TheVariants as alike

-- ---- schemas

-- a schema of a scalar type
abbrev pub scalar_schema : List ℕ → Json
scalar_schema name = object (member (codes "type") (string name) no_members)

-- a struct or a map merges field by field unless it is atomic
abbrev pub map_type : Bool → Members
map_type is_atomic = if is_atomic then member (codes "x-kubernetes-map-type") (string (codes "atomic")) no_members else no_members

-- how a list merges
abbrev pub list_type : List ℕ → Members
list_type name = member (codes "x-kubernetes-list-type") (string name) no_members

-- with the key fields of a map list, in byte order
abbrev pub list_kind : Kind → Members
list_kind atomic = list_type (codes "atomic")
list_kind set = list_type (codes "set")
list_kind (keyed names) = member (codes "x-kubernetes-list-map-keys") (array (texts names)) (list_type (codes "map"))

abbrev mutual
  -- the schema that a shape is read from
  pub schema_of : Shape → Json
  schema_of text = scalar_schema (codes "string")
  schema_of whole = scalar_schema (codes "integer")
  schema_of truth = scalar_schema (codes "boolean")
  schema_of (struct_of all is_atomic) = object (member (codes "type") (string (codes "object")) (member (codes "properties") (object (properties_of all)) (map_type is_atomic)))
  schema_of (map_of s is_atomic) = object (member (codes "type") (string (codes "object")) (member (codes "additionalProperties") (schema_of s) (map_type is_atomic)))
  schema_of (list_of s kind) = object (member (codes "type") (string (codes "array")) (member (codes "items") (schema_of s) (list_kind kind)))

  pub properties_of : Fields → Members
  properties_of no_fields = no_members
  properties_of (field f s more) = member f (schema_of s) (properties_of more)

-- ---- the schema of a type

-- a text
abbrev pub text_schema : Json
text_schema = scalar_schema (codes "string")

-- a map of texts
abbrev pub texts_schema : Json
texts_schema = object (member (codes "type") (string (codes "object")) (member (codes "additionalProperties") text_schema no_members))

-- the owners of fields, entry by entry
abbrev pub owners_schema : Json
owners_schema = object (member (codes "type") (string (codes "array")) (member (codes "items") (scalar_schema (codes "object")) no_members))

-- the metadata that the objects of all types have
abbrev pub metadata_schema : Json
metadata_schema =
    object (member (codes "type") (string (codes "object")) (member (codes "properties") (object (
    member (codes "annotations") texts_schema (member (codes "labels") texts_schema (member (codes "managedFields") owners_schema
    (member (codes "name") text_schema (member (codes "namespace") text_schema (member (codes "resourceVersion") text_schema no_members)))))
    )) no_members))

-- a field, unless it is `metadata`
abbrev pub add_field : List ℕ → Shape → Members → Members
add_field f s rest = if bytes_eq f (codes "metadata") then rest else member f (schema_of s) rest

-- a type's own fields
abbrev pub own_fields : Fields → Members
own_fields no_fields = no_members
own_fields (field f s more) = add_field f s (own_fields more)

-- those of a type's schema, which is a struct
abbrev pub own_properties : Shape → Members
own_properties (struct_of all is_atomic) = own_fields all
own_properties _ = no_members

-- what every object has, then its type's own fields
abbrev pub type_properties : Shape → Members
type_properties s = member (codes "apiVersion") text_schema (member (codes "kind") text_schema (member (codes "metadata") metadata_schema (own_properties s)))

-- as it stands at a schema and at an operation
abbrev pub group_version_kind : ServedShape → Json
group_version_kind t = object (member (codes "group") (string t.group) (member (codes "kind") (string t.kind) (member (codes "version") (string t.version) no_members)))

-- the schema of a type
abbrev pub type_schema : ServedShape → Json
type_schema t =
    object (member (codes "type") (string (codes "object")) (member (codes "properties") (object (type_properties t.shape))
    (member (codes "x-kubernetes-group-version-kind") (array (item (group_version_kind t) no_items)) no_members)))

-- by its group, its version and its kind
abbrev pub schema_name : ServedShape → List ℕ
schema_name t = t.group ++ (codes "." ++ (t.version ++ (codes "." ++ t.kind)))

-- where it is of the version of another type
abbrev pub add_schema : ServedShape → ServedShape → Members → Members
add_schema t u rest = if is_like alike.Version t u then member (schema_name u) (type_schema u) rest else rest

-- ---- operations

-- a parameter of a query
abbrev pub query_parameter : List ℕ → List ℕ → Json
query_parameter name type = object (member (codes "name") (string name) (member (codes "in") (string (codes "query")) (member (codes "schema") (scalar_schema type) no_members)))

-- a part of a path
abbrev pub path_parameter : List ℕ → Json
path_parameter name =
    object (member (codes "name") (string name) (member (codes "in") (string (codes "path")) (member (codes "required") (boolean true) (member (codes "schema") text_schema no_members))))

-- those of an apply
abbrev pub query_parameters : Items
query_parameters =
    item (query_parameter (codes "dryRun") (codes "string")) (item (query_parameter (codes "fieldManager") (codes "string"))
    (item (query_parameter (codes "fieldValidation") (codes "string")) (item (query_parameter (codes "force") (codes "boolean")) no_items)))

-- the PATCH of an object, by which clients find out which parameters are taken
abbrev pub patch_operation : ServedShape → Json
patch_operation t =
    object (member (codes "parameters") (array query_parameters)
    (member (codes "responses") (object (member (codes "200") (object (member (codes "description") (string (codes "OK")) no_members)) no_members))
    (member (codes "x-kubernetes-action") (string (codes "patch")) (member (codes "x-kubernetes-group-version-kind") (group_version_kind t) no_members))))

-- what OpenAPI says of the path of a type's objects
abbrev pub path_item : ServedShape → Json
path_item t =
    object (member (codes "patch") (patch_operation t)
    (member (codes "parameters") (array (item (path_parameter (codes "name")) (item (path_parameter (codes "namespace")) no_items))) no_members))

-- the path of a type's objects
abbrev pub object_path : ServedShape → List ℕ
object_path t = codes "/apis/" ++ (t.group ++ (codes "/" ++ (t.version ++ (codes "/namespaces/{namespace}/" ++ (t.plural ++ codes "/{name}")))))

-- where it is of the version of another type
abbrev pub add_path : ServedShape → ServedShape → Members → Members
add_path t u rest = if is_like alike.Version t u then member (object_path u) (path_item u) rest else rest

-- ---- documents

-- the schemas of a type's version; of types of one kind the first has it
abbrev pub components : List ServedShape → ServedShape → Members
components types t =
    member (codes "components") (object (member (codes "schemas") (object (members_by (add_schema t) (firsts alike.Kind types))) no_members)) no_members

-- the operations and schemas of a type's version
abbrev pub open_api : List ServedShape → ServedShape → Json
open_api types t =
    object (member (codes "openapi") (string (codes "3.0.0"))
    (member (codes "info") (object (member (codes "title") (string (codes "Kubernetes")) (member (codes "version") (string release) no_members)))
    (member (codes "paths") (object (members_by (add_path t) types)) (components types t))))

-- where the document of a type's version is
abbrev pub open_api_path : ServedShape → List ℕ
open_api_path t = codes "/openapi/v3/apis/" ++ group_version t

-- the same as a member of the index, by the path of the version
abbrev pub add_reference : ServedShape → Members → Members
add_reference t rest = member (codes "apis/" ++ group_version t) (object (member (codes "serverRelativeURL") (string (open_api_path t)) no_members)) rest

-- the documents of all versions, in the order of the types file
abbrev pub open_api_index : List ServedShape → Json
open_api_index types = object (member (codes "paths") (object (members_by add_reference (firsts alike.Version types))) no_members)
