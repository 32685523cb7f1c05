-- What stands round an object's fields, taken off again.
use Rattle.std.proofs.Common.{◌≡◌, ℕ, Bool, true, false, cond, List, Option, Some, None, refl, sym, ap, ◌∙◌, subst, true≢false}
use Rattle.std.specs.Prelude.{codes, option_map, option_and_then}
use Rattle.std.specs.Str.{bytes_eq}
use Rattle.std.specs.Cmp.Lexicographic.{bytes_decides}
use Rattle.std.specs.declared.result.Result.TheVariants.{Ok}
use Rattle.serde_json.specs.Data.{Data, string, object, Items, no_items, item, Members, no_members, member, put}
use Rattle.serde_json.specs.Find.{get_member, as_object}
use Rattle.serde_json.proofs.Views.{get_member-put, get_member-put_other}
use Rattle.fieldpath.specs.Elements.{name_text}
use Rattle.fieldpath.specs.Scalars.{ascend, ascend_from}
use Rattle.fieldpath.specs.Encodable.{member_names}
use Rattle.fieldpath.proofs.Names.{ascend_rest, first_below, further, rest_above}
use Rattle.pathmap.specs.Contents.{Content}
use Rattle.pathmap.specs.Insides.{inside}
use Rattle.schema.specs.Lawful.{names_of}
use Rattle.schema.specs.Shape.{Shape, text, whole as whole_number, truth, struct_of, map_of, list_of, Fields, no_fields, field, shape_at}
use Rattle.schema.specs.Among.{is_in}
use Rattle.schema.specs.ObjectShape.{IsMetadata, system_names}
use Rattle.schema.proofs.Metadata.{no_field}
use Rattle.typed.specs.WellTyped.{ReadsBack}
use Rattle.typed.specs.Printing.{object_or_none, with_member, print, print_fields}
use Rattle.typed.specs.Reading.{content_of}
use Rattle.objects.specs.ObjectText.{members_printed, put_entries}
use Rattle.json_values.specs.Members.{less, split_off}
use Rattle.objects.specs.Parts.{own_members, split, less_system, metadata_left, put_metadata, fields_of, system_in}
use Rattle.objects.specs.SystemMetadata.{System, put_system}
use Rattle.objects.proofs.SystemMetadata.{HasNoSystem, past_system, system_back, system_off}
use Rattle.objects.proofs.Taken.{no_some, same_some, apart, below_apart, less_absent, less_put, put_back}

-- ---- the fields of what is printed

with_other : (k f : List ℕ) (o : Option Data) (ms : Members) → (k ≡ f → ⊥) → get_member k (with_member f o ms) ≡ get_member k ms
with_other k f None ms other = refl
with_other k f (Some d) ms other = get_member-put_other k f d ms other

get_with : (k : List ℕ) (o : Option Data) (ms : Members) → get_member k ms ≡ None → get_member k (with_member k o ms) ≡ o
get_with k None ms none = none
get_with k (Some d) ms none = get_member-put k d ms

other_name : (k f : List ℕ) → bytes_eq f k ≡ false → k ≡ f → ⊥
other_name k f is same = apart f k is (sym same)

-- a name of no field is not printed
pub absent_field : (k : List ℕ) (all : Fields) (c : Content) (ms : Members) → shape_at k all ≡ None → get_member k (print_fields all c ms) ≡ get_member k ms
absent_field k no_fields c ms h = refl
absent_field k (field f s more) c ms h = by_name (bytes_eq f k) refl (absent_field k more c (with_member f (print s (inside (name_text f) c)) ms)) h
  where
    by_name : (b : Bool) → bytes_eq f k ≡ b → (shape_at k more ≡ None → get_member k (print_fields more c (with_member f (print s (inside (name_text f) c)) ms)) ≡ get_member k (with_member f (print s (inside (name_text f) c)) ms)) → cond b (Some s) (shape_at k more) ≡ None
        → get_member k (print_fields more c (with_member f (print s (inside (name_text f) c)) ms)) ≡ get_member k ms
    by_name true is later none = no_some s none
    by_name false is later none = later none ∙ with_other k f (print s (inside (name_text f) c)) ms (other_name k f is)

none_above : (k : List ℕ) (all : Fields) → ascend_from k (names_of all) ≡ true → shape_at k all ≡ None
none_above k no_fields h = refl
none_above k (field g s more) h =
    let lt = first_below k g (names_of more) h in
    ap (λ b. cond b (Some s) (shape_at k more)) (below_apart k g lt) ∙ none_above k more (further k g (names_of more) lt (rest_above k g (names_of more) h))

-- a field is printed under its name
pub found_field : (k : List ℕ) (t : Shape) (all : Fields) (c : Content) (ms : Members) → ascend (names_of all) ≡ true → shape_at k all ≡ Some t → get_member k ms ≡ None
    → get_member k (print_fields all c ms) ≡ print t (inside (name_text k) c)
found_field k t no_fields c ms up h none = no_some t (sym h)
found_field k t (field f s more) c ms up h none = by_name (bytes_eq f k) refl (found_field k t more c (with_member f (print s (inside (name_text f) c)) ms) (ascend_rest f (names_of more) up)) h
  where
    by_name : (b : Bool) → bytes_eq f k ≡ b → (shape_at k more ≡ Some t → get_member k (with_member f (print s (inside (name_text f) c)) ms) ≡ None → get_member k (print_fields more c (with_member f (print s (inside (name_text f) c)) ms)) ≡ print t (inside (name_text k) c))
        → cond b (Some s) (shape_at k more) ≡ Some t → get_member k (print_fields more c (with_member f (print s (inside (name_text f) c)) ms)) ≡ print t (inside (name_text k) c)
    by_name true is later there =
        let same : f ≡ k = (bytes_decides f k).0 is in
        absent_field k more c (with_member f (print s (inside (name_text f) c)) ms) (none_above k more (subst (λ n. ascend_from n (names_of more) ≡ true) same up))
        ∙ ap (λ n. get_member k (with_member n (print s (inside (name_text n) c)) ms)) same ∙ get_with k (print s (inside (name_text k) c)) ms none
        ∙ ap (λ x. print x (inside (name_text k) c)) (same_some s t there)
    by_name false is later there = later there (with_other k f (print s (inside (name_text f) c)) ms (other_name k f is) ∙ none)

-- ---- the fields of `metadata`

-- none of the names that the envelope and the system put
abbrev pub HasNone : Members → Type 0
HasNone ms = (get_member (codes "name") ms ≡ None) × (get_member (codes "namespace") ms ≡ None) × (get_member (codes "resourceVersion") ms ≡ None) × (get_member (codes "managedFields") ms ≡ None) × HasNoSystem ms

-- nothing, or the object of these members
abbrev pub IsPrinted : Option Data → Type 0
IsPrinted o = (members : Members) × (o ≡ object_or_none members) × HasNone members

pub metadata_printed : (m : Shape) (c : Content) → IsMetadata m → IsPrinted (print m c)
metadata_printed text c is = absurd (true≢false (sym is.granular))
metadata_printed whole_number c is = absurd (true≢false (sym is.granular))
metadata_printed truth c is = absurd (true≢false (sym is.granular))
metadata_printed (struct_of all true) c is = absurd (true≢false (sym is.granular))
metadata_printed (struct_of all false) c is =
    let members = print_fields all c no_members in
    let none : (k : List ℕ) → is_in system_names k ≡ true → get_member k members ≡ None = λ k among. absent_field k all c no_members (no_field k (struct_of all false) among is) in
    (members, refl, (none (codes "name") refl, none (codes "namespace") refl, none (codes "resourceVersion") refl, none (codes "managedFields") refl, (none (codes "uid") refl, none (codes "creationTimestamp") refl, none (codes "generation") refl, none (codes "deletionTimestamp") refl, none (codes "deletionGracePeriodSeconds") refl)))
metadata_printed (map_of s b) c is = absurd (true≢false (sym is.granular))
metadata_printed (list_of s kind) c is = absurd (true≢false (sym is.granular))

pub members_back : (ms : Members) → members_printed (object_or_none ms) ≡ ms
members_back no_members = refl
members_back (member k d ms) = refl

-- ---- `metadata`

module _ (name namespace version : List ℕ) (system : Option System) (items : Items) (members : Members) (none : HasNone members) where
  abbrev with_system : Members
  with_system = put_system system members

  abbrev with_items : Members
  with_items = put_entries items with_system

  abbrev with_version : Members
  with_version = put (codes "resourceVersion") (string version) with_items

  abbrev with_namespace : Members
  with_namespace = put (codes "namespace") (string namespace) with_version

  abbrev pub with_name : Members
  with_name = put (codes "name") (string name) with_namespace

  items_other : (ds : Items) (k : List ℕ) → (k ≡ codes "managedFields" → ⊥) → get_member k (put_entries ds with_system) ≡ get_member k with_system
  items_other no_items k other = refl
  items_other (item d ds) k other = get_member-put_other k (codes "managedFields") _ with_system other

  entries_free : get_member (codes "managedFields") with_system ≡ None
  entries_free = past_system (codes "managedFields") refl system members ∙ none.3

  items_off : (ds : Items) → less (codes "managedFields") (put_entries ds with_system) ≡ with_system
  items_off no_items = less_absent (codes "managedFields") with_system entries_free
  items_off (item d ds) = less_put (codes "managedFields") _ with_system entries_free

  version_free : get_member (codes "resourceVersion") with_items ≡ None
  version_free = items_other items (codes "resourceVersion") (apart (codes "resourceVersion") (codes "managedFields") refl) ∙ past_system (codes "resourceVersion") refl system members ∙ none.2

  namespace_free : get_member (codes "namespace") with_version ≡ None
  namespace_free =
      get_member-put_other (codes "namespace") (codes "resourceVersion") (string version) with_items (apart (codes "namespace") (codes "resourceVersion") refl)
      ∙ items_other items (codes "namespace") (apart (codes "namespace") (codes "managedFields") refl) ∙ past_system (codes "namespace") refl system members ∙ none.1

  name_free : get_member (codes "name") with_namespace ≡ None
  name_free =
      get_member-put_other (codes "name") (codes "namespace") (string namespace) with_version (apart (codes "name") (codes "namespace") refl)
      ∙ get_member-put_other (codes "name") (codes "resourceVersion") (string version) with_items (apart (codes "name") (codes "resourceVersion") refl)
      ∙ items_other items (codes "name") (apart (codes "name") (codes "managedFields") refl) ∙ past_system (codes "name") refl system members ∙ none.0

  pub metadata_back : metadata_left with_name ≡ members
  metadata_back =
      ap (λ ms. less_system (less (codes "managedFields") (less (codes "resourceVersion") (less (codes "namespace") ms)))) (less_put (codes "name") (string name) with_namespace name_free)
      ∙ ap (λ ms. less_system (less (codes "managedFields") (less (codes "resourceVersion") ms))) (less_put (codes "namespace") (string namespace) with_version namespace_free)
      ∙ ap (λ ms. less_system (less (codes "managedFields") ms)) (less_put (codes "resourceVersion") (string version) with_items version_free) ∙ ap less_system (items_off items) ∙ system_off members none.4 system

  other_two : (k : List ℕ) → (k ≡ codes "name" → ⊥) → (k ≡ codes "namespace" → ⊥) → get_member k with_name ≡ get_member k with_version
  other_two k one other = get_member-put_other k (codes "name") (string name) with_namespace one ∙ get_member-put_other k (codes "namespace") (string namespace) with_version other

  pub version_there : get_member (codes "resourceVersion") with_name ≡ Some (string version)
  version_there =
      other_two (codes "resourceVersion") (apart (codes "resourceVersion") (codes "name") refl) (apart (codes "resourceVersion") (codes "namespace") refl)
      ∙ get_member-put (codes "resourceVersion") (string version) with_items

  kept : (k : List ℕ) → (k ≡ codes "name" → ⊥) → (k ≡ codes "namespace" → ⊥) → (k ≡ codes "resourceVersion" → ⊥) → (k ≡ codes "managedFields" → ⊥) → get_member k with_name ≡ get_member k with_system
  kept k no_name no_namespace no_version no_entries =
      other_two k no_name no_namespace ∙ get_member-put_other k (codes "resourceVersion") (string version) with_items no_version ∙ items_other items k no_entries

  kept_text : (k : List ℕ) → bytes_eq k (codes "name") ≡ false → bytes_eq k (codes "namespace") ≡ false → bytes_eq k (codes "resourceVersion") ≡ false → bytes_eq k (codes "managedFields") ≡ false → get_member k with_name ≡ get_member k with_system
  kept_text k a b c d = kept k (apart k (codes "name") a) (apart k (codes "namespace") b) (apart k (codes "resourceVersion") c) (apart k (codes "managedFields") d)

  pub system_there : system_in with_name ≡ Some system
  system_there =
      system_back with_name members none.4 system (kept_text (codes "uid") refl refl refl refl, kept_text (codes "creationTimestamp") refl refl refl refl, kept_text (codes "generation") refl refl refl refl, kept_text (codes "deletionTimestamp") refl refl refl refl)

  pub items_there : get_member (codes "managedFields") with_name ≡ get_member (codes "managedFields") with_items
  items_there =
      other_two (codes "managedFields") (apart (codes "managedFields") (codes "name") refl) (apart (codes "managedFields") (codes "namespace") refl)
      ∙ get_member-put_other (codes "managedFields") (codes "resourceVersion") (string version) with_items (apart (codes "managedFields") (codes "resourceVersion") refl)

-- ---- the object

module _ (api_version kind : List ℕ) (meta base : Members) (no_version : get_member (codes "apiVersion") base ≡ None) (no_kind : get_member (codes "kind") base ≡ None) where
  abbrev pub with_metadata : Members
  with_metadata = put (codes "metadata") (object meta) base

  abbrev with_kind : Members
  with_kind = put (codes "kind") (string kind) with_metadata

  abbrev pub whole : Members
  whole = put (codes "apiVersion") (string api_version) with_kind

  kind_free : get_member (codes "kind") with_metadata ≡ None
  kind_free = get_member-put_other (codes "kind") (codes "metadata") (object meta) base (apart (codes "kind") (codes "metadata") refl) ∙ no_kind

  api_free : get_member (codes "apiVersion") with_kind ≡ None
  api_free =
      get_member-put_other (codes "apiVersion") (codes "kind") (string kind) with_metadata (apart (codes "apiVersion") (codes "kind") refl)
      ∙ get_member-put_other (codes "apiVersion") (codes "metadata") (object meta) base (apart (codes "apiVersion") (codes "metadata") refl) ∙ no_version

  own_back : own_members whole ≡ with_metadata
  own_back = ap (less (codes "kind")) (less_put (codes "apiVersion") (string api_version) with_kind api_free) ∙ less_put (codes "kind") (string kind) with_metadata kind_free

  pub whole_split : split (object whole) ≡ Some (less (codes "metadata") with_metadata, meta)
  whole_split =
      ap (split_off (codes "metadata")) own_back ∙ ap (λ o. option_map (λ m. (less (codes "metadata") with_metadata, m)) (option_and_then as_object o)) (get_member-put (codes "metadata") (object meta) base)

  -- the fields as they were printed
  pub fields_back : (members : Members) → ascend (member_names base) ≡ true → get_member (codes "metadata") base ≡ object_or_none members → metadata_left meta ≡ members
      → fields_of (less (codes "metadata") with_metadata) meta ≡ object base
  fields_back members up is left = ap (λ l. object (put_metadata l (less (codes "metadata") with_metadata))) left ∙ by_members members is
    where
      by_members : (l : Members) → get_member (codes "metadata") base ≡ object_or_none l → object (put_metadata l (less (codes "metadata") with_metadata)) ≡ object base
      by_members no_members none = ap object (less_put (codes "metadata") (object meta) base none)
      by_members (member k d l) some = ap object (put_back (codes "metadata") (object meta) (object (member k d l)) base up some)

-- ---- what the fields are read as

pub content_back : (all : Fields) (c : Content) → ReadsBack (struct_of all false) (print (struct_of all false) c) c → content_of (struct_of all false) (object (print_fields all c no_members)) ≡ Ok c
content_back all c back = by_members (print_fields all c no_members) back
  where
    by_members : (ms : Members) → ReadsBack (struct_of all false) (object_or_none ms) c → content_of (struct_of all false) (object ms) ≡ Ok c
    by_members no_members none = ap Ok (sym none)
    by_members (member k d ms) reads = reads.1
