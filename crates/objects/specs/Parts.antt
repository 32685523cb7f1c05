-- For private clauses: the parts of an object's value.
use Rattle.std.specs.Prelude.{◌≡◌, ℕ, Bool, ◌&&◌, List, [], ◌∷◌, Option, Some, None, option_map, option_and_then, if◌then◌else◌, codes}
use Rattle.std.specs.declared.result.Result.{Result}
use Rattle.std.specs.declared.result.Result.TheVariants.{Ok, Err}
use Rattle.std.specs.FinMap as fin
use Rattle.std.specs.List.{list_all}
use Rattle.std.specs.Str.{bytes_eq}
use Rattle.serde_json.specs.Data.{Data, object, Items, no_items, item, Members, no_members, member, put}
use Rattle.serde_json.specs.Find.{get_member, as_object, as_array, as_str, as_number, as_u64}
use Rattle.json_values.specs.Members.{has, less, split_off, text_at}
use Rattle.names.specs.Decimals.{version_of}
use Rattle.pathmap.specs.Beside.{is_within}
use Rattle.pathmap.specs.Contents.{PathSet}
use Rattle.schema.specs.Shape.{Shape}
use Rattle.typed.specs.Faults.{Read}
use Rattle.typed.specs.Reading.{content_of}
use Rattle.objects.specs.declared.fault.ObjectFault.{ObjectFault}
use Rattle.objects.specs.declared.fault.ObjectFault.TheVariants.{NotCanonical, Memory}
use Rattle.objects.specs.declared.manager.Operation.{Operation}
use Rattle.objects.specs.declared.manager.Operation.TheVariants.{Apply, Update}
use Rattle.objects.specs.declared.manager.Subresource.{Subresource}
use Rattle.objects.specs.declared.manager.Subresource.TheVariants.{Main, Status}
use Rattle.objects.specs.State.{State}
use Rattle.objects.specs.SystemMetadata.{Stamp, System}
use Rattle.fieldset.specs.FieldsV1.{Refusal, read_fields_v1}
use Rattle.objects.specs.Owners.{Manager, Owners, manager_by}
use Rattle.objects.specs.Ranks.{have_paths, rising}

-- What a call returned, by its view, is what was read, unless memory ran out; refused, nothing was.
abbrev pub Returns : {X Y : Type 0} → (X → Y) → Result X ObjectFault → Option Y → Type 0
Returns view (Ok x) read = read ≡ Some (view x)
Returns view (Err NotCanonical) read = read ≡ None
Returns view (Err Memory) read = Unit {0}

abbrev pub if_read : {X : Type 0} → Read X → Option X
if_read (Ok x) = Some x
if_read (Err e) = None

abbrev pub if_ok : {X : Type 0} → Result X Refusal → Option X
if_ok (Ok x) = Some x
if_ok (Err e) = None

-- ---- the envelope

abbrev pub own_members : Members → Members
own_members ms = less (codes "kind") (less (codes "apiVersion") ms)

-- the members but for the envelope's, and those of `metadata`
abbrev pub split : Data → Option (Members × Members)
split d = option_and_then (λ ms. split_off (codes "metadata") (own_members ms)) (as_object d)

abbrev pub version_in : Members → Option ℕ
version_in metadata = option_and_then version_of (text_at (codes "resourceVersion") metadata)

-- a text, or none where it is absent; nothing is read of another value
abbrev pub text_or_none : Option Data → Option (Option (List ℕ))
text_or_none None = Some None
text_or_none (Some d) = option_map Some (as_str d)

abbrev pub generation_in : Members → Option ℕ
generation_in metadata = option_and_then as_u64 (option_and_then as_number (get_member (codes "generation") metadata))

-- what the system says, of this uid
abbrev pub system_of_uid : List ℕ → Members → Option System
system_of_uid uid metadata =
    option_and_then (λ created. option_and_then (λ generation. option_map (λ deleted. record { uid = uid; created = created; generation = generation; deleted = deleted })
    (text_or_none (get_member (codes "deletionTimestamp") metadata))) (generation_in metadata)) (text_at (codes "creationTimestamp") metadata)

abbrev pub system_if : Option (List ℕ) → Members → Option (Option System)
system_if None metadata = Some None
system_if (Some uid) metadata = option_map Some (system_of_uid uid metadata)

-- nothing where there is no uid
abbrev pub system_in : Members → Option (Option System)
system_in metadata = option_and_then (λ uid. system_if uid metadata) (text_or_none (get_member (codes "uid") metadata))

-- what the system says of the object
abbrev pub stamp_in : Members → Option Stamp
stamp_in metadata = option_and_then (λ version. option_map (λ system. record { version = version; system = system }) (system_in metadata)) (version_in metadata)

abbrev pub less_life : Members → Members
less_life metadata = less (codes "deletionTimestamp") (less (codes "deletionGracePeriodSeconds") (less (codes "generation") (less (codes "creationTimestamp") metadata)))

abbrev pub less_life_if : Bool → Members → Members
less_life_if there metadata = if there then less_life metadata else metadata

-- without what the system says beside the version
abbrev pub less_system : Members → Members
less_system metadata = less_life_if (has (codes "uid") metadata) (less (codes "uid") metadata)

-- what is printed of the content
abbrev pub metadata_left : Members → Members
metadata_left metadata = less_system (less (codes "managedFields") (less (codes "resourceVersion") (less (codes "namespace") (less (codes "name") metadata))))

-- `metadata`, where something is left in it
abbrev pub put_metadata : Members → Members → Members
put_metadata no_members ms = ms
put_metadata (member k d left) ms = put (codes "metadata") (object (member k d left)) ms

-- ---- entries

abbrev pub operation_named : List ℕ → Option Operation
operation_named s = if bytes_eq s (codes "Apply") then Some Apply else if bytes_eq s (codes "Update") then Some Update else None

abbrev pub subresource_named : List ℕ → Option Subresource
subresource_named s = if bytes_eq s (codes "status") then Some Status else None

-- the main resource where it is absent
abbrev pub subresource_or_main : Option Data → Option Subresource
subresource_or_main None = Some Main
subresource_or_main (Some d) = option_and_then subresource_named (as_str d)

abbrev pub operation_in : Members → Option Operation
operation_in ms = option_and_then operation_named (text_at (codes "operation") ms)

abbrev pub subresource_in : Members → Option Subresource
subresource_in ms = subresource_or_main (get_member (codes "subresource") ms)

abbrev pub manager_in : Members → Option Manager
manager_in ms = option_and_then (λ name. option_and_then (λ operation. option_map (manager_by name operation) (subresource_in ms)) (operation_in ms)) (text_at (codes "manager") ms)

abbrev pub set_in : Shape → Members → Option PathSet
set_in s ms = option_and_then (λ d. if_ok (read_fields_v1 s d)) (get_member (codes "fieldsV1") ms)

abbrev pub entry_of : Shape → Members → Option (Manager × PathSet)
entry_of s ms = option_and_then (λ m. option_map (λ paths. (m, paths)) (set_in s ms)) (manager_in ms)

abbrev pub entry_in : Shape → Data → Option (Manager × PathSet)
entry_in s d = option_and_then (entry_of s) (as_object d)

abbrev pub one_more : {X : Type 0} → Option X → Option (List X) → Option (List X)
one_more x xs = option_and_then (λ y. option_map (λ ys. y ∷ ys) xs) x

abbrev pub entries_in : Shape → Items → Option (List (Manager × PathSet))
entries_in s no_items = Some []
entries_in s (item d ds) = one_more (entry_in s d) (entries_in s ds)

-- the items of `managedFields`; none where it is absent
abbrev pub items_or_none : Option Data → Option Items
items_or_none None = Some no_items
items_or_none (Some d) = as_array d

-- the owners that have these entries
abbrev pub owners_of : List (Manager × PathSet) → Option Owners
owners_of es = if rising es && have_paths es then Some (fin.from_entries es) else None

-- the entries that a value of `managedFields` says
abbrev pub entries_listed : Shape → Option Data → Option (List (Manager × PathSet))
entries_listed s listed = option_and_then (entries_in s) (items_or_none listed)

-- the owners that `metadata` says
abbrev pub owners_in : Shape → Members → Option Owners
owners_in s metadata = option_and_then owners_of (entries_listed s (get_member (codes "managedFields") metadata))

-- ---- the whole

-- the value of the fields
abbrev pub fields_of : Members → Members → Data
fields_of others metadata = object (put_metadata (metadata_left metadata) others)

abbrev pub state_with : Shape → Members → Members → Stamp → Option (State × Stamp)
state_with s others metadata stamp =
    option_and_then (λ owners. option_map (λ c. (record { content = c; owners = owners }, stamp)) (if_read (content_of s (fields_of others metadata)))) (owners_in s metadata)

abbrev pub parts_of : Shape → Members × Members → Option (State × Stamp)
parts_of s p = option_and_then (state_with s p.0 p.1) (stamp_in p.1)

-- what stands in a value and who owns it, and what the system says of it
abbrev pub parts_in : Shape → Data → Option (State × Stamp)
parts_in s d = option_and_then (parts_of s) (split d)

abbrev pub all_within : PathSet → List (Manager × PathSet) → Bool
all_within paths es = list_all (λ e. is_within e.1 paths) es
