-- The text of an object (Kubernetes API conventions, "Objects", "Metadata"; ObjectMeta v1, ManagedFieldsEntry v1).
use Rattle.std.specs.Prelude.{ℕ, List, [], ◌∷◌, Option, Some, None, option_and_then, codes, decimal}
use Rattle.std.specs.FinMap as fin
use Rattle.serde_json.specs.Data.{Data, string, array, object, Items, no_items, item, Members, no_members, put}
use Rattle.serde_json.specs.Find.{get_member, as_object}
use Rattle.serde_json.specs.Written.{compact_text}
use Rattle.pathmap.specs.Contents.{PathSet}
use Rattle.fieldset.specs.FieldsV1.{fields_v1_of}
use Rattle.schema.specs.Shape.{Shape}
use Rattle.typed.specs.Printing.{print}
use Rattle.objects.specs.Owners.{Manager, Owners, operation_text, subresource_text}
use Rattle.objects.specs.State.{State}
use Rattle.objects.specs.SystemMetadata.{Stamp, put_life, put_uid}

-- an object's type (`group/version`, kind), namespace and name
pub record Identity : Type 0 where
  pub api_version : List ℕ
  pub kind : List ℕ
  pub namespace : List ℕ
  pub name : List ℕ

abbrev pub members_or_none : Option Members → Members
members_or_none None = no_members
members_or_none (Some ms) = ms

-- a text more, unless it is empty
abbrev pub put_filled : List ℕ → List ℕ → Members → Members
put_filled k [] ms = ms
put_filled k (b ∷ bs) ms = put k (string (b ∷ bs)) ms

abbrev pub put_manager : Manager → Members → Members
put_manager m ms = put (codes "manager") (string m.name) (put (codes "operation") (string (operation_text m.operation)) (put_filled (codes "subresource") (subresource_text m.subresource) ms))

-- the members of an entry with this FieldsV1 value
abbrev pub members_with : List ℕ → Manager → Data → Members
members_with api_version m fields =
    put (codes "apiVersion") (string api_version) (put (codes "fieldsType") (string (codes "FieldsV1")) (put (codes "fieldsV1") fields (put_manager m no_members)))

abbrev pub entry_members : Shape → List ℕ → Manager → PathSet → Members
entry_members s api_version m paths = members_with api_version m (fields_v1_of s paths)

-- one entry of `managedFields`
abbrev pub entry_value : Shape → List ℕ → Manager → PathSet → Data
entry_value s api_version m paths = object (entry_members s api_version m paths)

abbrev pub entry_items : Shape → List ℕ → List (Manager × PathSet) → Items
entry_items s api_version [] = no_items
entry_items s api_version (e ∷ es) = item (entry_value s api_version e.0 e.1) (entry_items s api_version es)

-- `managedFields`, where somebody owns something
abbrev pub put_entries : Items → Members → Members
put_entries no_items ms = ms
put_entries (item d ds) ms = put (codes "managedFields") (array (item d ds)) ms

-- `metadata` with these entries, round what is printed of it and the object's life
abbrev pub metadata_round : Identity → Stamp → Items → Members → Members
metadata_round of stamp entries members =
    put (codes "name") (string of.name) (put (codes "namespace") (string of.namespace) (put (codes "resourceVersion") (string (decimal stamp.version)) (put_entries entries (put_uid stamp.system members))))

-- .. and round what is printed of it
abbrev pub metadata_with : Identity → Stamp → Items → Members → Members
metadata_with of stamp entries members = metadata_round of stamp entries (put_life stamp.system members)

abbrev pub metadata_of : Shape → Identity → Stamp → Owners → Members → Members
metadata_of s of stamp owners members = metadata_with of stamp (entry_items s of.api_version (fin.entries owners)) members

-- the members of what is printed; none where nothing is
abbrev pub members_printed : Option Data → Members
members_printed d = members_or_none (option_and_then as_object d)

-- those of its `metadata`: labels and annotations
abbrev pub metadata_members : Option Data → Members
metadata_members d = members_printed (get_member (codes "metadata") (members_printed d))

abbrev pub with_envelope : Shape → Identity → Stamp → Owners → Option Data → Data
with_envelope s of stamp owners printed =
    object (put (codes "apiVersion") (string of.api_version) (put (codes "kind") (string of.kind)
    (put (codes "metadata") (object (metadata_of s of stamp owners (metadata_members printed))) (members_printed printed))))

-- the object: envelope, content, what the system says, and entries
unfoldable pub object_value : Shape → Identity → Stamp → State → Data
object_value s of stamp state = with_envelope s of stamp state.owners (print s state.content)

unfoldable pub object_text : Shape → Identity → Stamp → State → List ℕ
object_text s of stamp state = compact_text (object_value s of stamp state)
