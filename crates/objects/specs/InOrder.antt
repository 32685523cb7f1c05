-- For private clauses: an object and its `metadata`, member by member in byte order of their names.
use Rattle.std.specs.Prelude.{ℕ, Bool, true, ◌&&◌, List, Option, Some, None, codes, decimal}
use Rattle.std.specs.Cmp.Lexicographic.{slice_cmp}
use Rattle.std.specs.Ordering.{is_lt, nat_cmp}
use Rattle.serde_json.specs.Data.{string, array, Items, no_items, item, Members, no_members, member}
use Rattle.pathmap.specs.Contents.{Content}
use Rattle.schema.specs.Shape.{Fields}
use Rattle.typed.specs.Between.{fields_between, then_fields}
use Rattle.objects.specs.ObjectText.{Identity}
use Rattle.objects.specs.SystemMetadata.{System}

-- each name lies below this one
abbrev pub are_below : List ℕ → Members → Bool
are_below k no_members = true
are_below k (member l d ms) = is_lt (slice_cmp nat_cmp l k) && are_below k ms

-- `managedFields`, where somebody owns something
abbrev pub then_entries : Items → Members → Members
then_entries no_items rest = rest
then_entries (item d ds) rest = member (codes "managedFields") (array (item d ds)) rest

-- key and version
abbrev pub then_key_and_version : Identity → ℕ → Members → Members
then_key_and_version of version rest = member (codes "name") (string of.name) (member (codes "namespace") (string of.namespace) (member (codes "resourceVersion") (string (decimal version)) rest))

-- the uid, where the system says one
abbrev pub then_uid : Option System → Members → Members
then_uid None rest = rest
then_uid (Some s) rest = member (codes "uid") (string s.uid) rest

-- the fields up to `metadata`, with the type among them
abbrev pub then_type : Identity → Fields → Content → Members → Members
then_type of all c rest =
    then_fields (fields_between None (Some (codes "apiVersion")) all) c (member (codes "apiVersion") (string of.api_version)
    (then_fields (fields_between (Some (codes "apiVersion")) (Some (codes "kind")) all) c (member (codes "kind") (string of.kind)
    (then_fields (fields_between (Some (codes "kind")) (Some (codes "metadata")) all) c rest))))
