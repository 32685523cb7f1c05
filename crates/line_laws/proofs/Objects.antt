-- The object that a client has of an object's value.
use Rattle.std.proofs.Common.{◌≡◌, ℕ, ◌≤◌, Bool, true, false, true≢false, cond, List, [], ◌∷◌, Option, Some, None, Ordering, Less, Equal, Greater, ◌⊎◌, inl, inr, refl, sym, ap, ap₂, subst, ◌∙◌}
use Rattle.std.specs.Prelude.{codes, decimal, option_and_then, option_map}
use Rattle.std.specs.FinMap as fin
use Rattle.std.specs.Ordering.{match_ordering}
use Rattle.std.specs.Str.{bytes_eq}
use Rattle.std.specs.Cmp.Lexicographic.{bytes_decides}
use Rattle.std.specs.declared.result.Result.TheVariants.{Ok, Err}
use Rattle.std.proofs.lemmas.Bool.{and_parts}
use Rattle.serde_json.specs.Data.{Data, string, array, object, Items, no_items, item, Members, no_members, member, put}
use Rattle.serde_json.specs.Find.{as_object, as_str, get_member}
use Rattle.serde_json.specs.Written.{compact_text, has_float}
use Rattle.serde_json.proofs.Views.{get_member-put, get_member-put_other}
use Rattle.fieldpath.specs.Elements.{field_name, name_text}
use Rattle.fieldpath.specs.Scalars.{ascend}
use Rattle.names.specs.Decimals.{version_of}
use Rattle.pathmap.specs.Contents.{Content}
use Rattle.pathmap.specs.Contents as leaf_value
use Rattle.pathmap.specs.Insides.{heads, inside}
use Rattle.pathmap.proofs.Contents.{get-nothing}
use Rattle.pathmap.proofs.Levels.{get-here-top}
use Rattle.schema.specs.Lawful.{are_well_formed, is_well_formed, names_of}
use Rattle.schema.specs.ObjectShape.{IsMetadata, IsObjectShape}
use Rattle.schema.specs.Shape.{Shape, text, whole, truth, struct_of, map_of, list_of, Fields, no_fields, field, shape_at}
use Rattle.schema.proofs.Metadata.{well_formed_at}
use Rattle.typed.specs.WellTyped.{AreWellTyped, IsWellTyped}
use Rattle.typed.specs.Printing.{each_member, object_or_none, print, print_fields, value_of, with_member, with_named}
use Rattle.typed.proofs.Fitting.{content_well_typed}
use Rattle.objects.specs.State.{State}
use Rattle.objects.specs.SystemMetadata.{Stamp, put_system}
use Rattle.objects.proofs.SystemMetadata.{past_system}
use Rattle.objects.specs.WellTyped.{IsWellTypedState}
use Rattle.objects.specs.ObjectText.{Identity, entry_items, members_printed, metadata_members, metadata_of, object_value, put_entries}
use Rattle.objects.specs.ReadBack.{max_version}
use Rattle.objects.proofs.Envelopes.{found_field, members_back}
use Rattle.objects.proofs.Taken.{apart, cmp}
use Rattle.objects.proofs.Textual.{value_clean}
use Rattle.indexer.specs.Objects.{Stored}
use Rattle.decoder.specs.declared.malformed.Malformed.TheVariants.{ApiVersion, Kind, Labels, Metadata, Name, Namespace, Number, Version}
use Rattle.json_values.specs.Texts.{unless_empty, texts_of}
use Rattle.decoder.specs.Members.{Read, ◌>>=◌, is_text, or_malformed, unless, unless_null}
use Rattle.decoder.specs.Objects.{labels_of, object_of}
use Rattle.decoder.specs.Wanted.{Wanted, api_version_of, is_in}
use Rattle.line_laws.specs.Shown.{HasPlace, IsStored}
use Rattle.line_laws.proofs.Renumbered.{enveloped, metadata_there, text_is}
use Rattle.line_laws.proofs.Said.{filled, itself, version_back, version_filled}

-- ---- members that are texts

abbrev Texts : Type 0
Texts = List (List ℕ × List ℕ)

abbrev AllTexts : Members → Type 0
AllTexts ms = (ts : Texts) × (texts_of ms ≡ Some ts)

abbrev one_more : List ℕ → Option (List ℕ) → Option Texts → Option Texts
one_more k t ts = option_and_then (λ v. option_map (λ more. (k, v) ∷ more) ts) t

first_text : (k : List ℕ) (t : Option (List ℕ)) (o : Option Texts) (ts : Texts) → one_more k t o ≡ Some ts → (v : List ℕ) × (t ≡ Some v)
first_text k None o ts is = absurd cc
first_text k (Some v) o ts is = (v, refl)

other_texts : (k : List ℕ) (t : Option (List ℕ)) (o : Option Texts) (ts : Texts) → one_more k t o ≡ Some ts → (us : Texts) × (o ≡ Some us)
other_texts k None o ts is = absurd cc
other_texts k (Some v) None ts is = absurd cc
other_texts k (Some v) (Some us) ts is = (us, refl)

put_texts : (k t : List ℕ) (ms : Members) → AllTexts ms → AllTexts (put k (string t) ms)
put_texts k t no_members h = ((k, t) ∷ [], refl)
put_texts k t (member l d ms) h = by_order (cmp k l) (put_texts k t ms others)
  where
    others : AllTexts ms
    others = other_texts l (as_str d) (texts_of ms) h.0 h.1

    by_order : (o : Ordering) → AllTexts (put k (string t) ms) → AllTexts (match_ordering o (member k (string t) (member l d ms)) (member l (string t) ms) (member l d (put k (string t) ms)))
    by_order Less later = ((k, t) ∷ h.0, ap (option_map (λ more. (k, t) ∷ more)) h.1)
    by_order Equal later = let rest = others in ((l, t) ∷ rest.0, ap (option_map (λ more. (l, t) ∷ more)) rest.1)
    by_order Greater later =
        let first = first_text l (as_str d) (texts_of ms) h.0 h.1 in
        ((l, first.0) ∷ later.0, ap₂ (one_more l) first.1 later.1)

-- ---- labels, as they are printed

abbrev IsText : Option Data → Type 0
IsText o = (o ≡ None) ⊎ (t : List ℕ) × (o ≡ Some (string t))

printed_text : (c : Content) → IsWellTyped text c → IsText (print text c)
printed_text c (inl none) = inl (ap (λ d. option_and_then value_of (fin.get d [])) none ∙ ap (option_and_then value_of) (get-nothing []))
printed_text c (inr some) = inr (some.0, ap (λ d. option_and_then value_of (fin.get d [])) some.1 ∙ ap (option_and_then value_of) (get-here-top (leaf_value.text some.0)))

with_text : (k : Option (List ℕ)) (o : Option Data) (ms : Members) → IsText o → AllTexts ms → AllTexts (with_named k o ms)
with_text None o ms is h = h
with_text (Some k) o ms (inl none) h = subst (λ x. AllTexts (with_member k x ms)) (sym none) h
with_text (Some k) o ms (inr some) h = subst (λ x. AllTexts (with_member k x ms)) (sym some.1) (put_texts k some.0 ms h)

each_text : (inner : List ℕ → Option Data) → ((e : List ℕ) → IsText (inner e)) → (es : List (List ℕ)) (ms : Members) → AllTexts ms → AllTexts (each_member inner es ms)
each_text inner are [] ms h = h
each_text inner are (e ∷ es) ms h = each_text inner are es (with_named (field_name e) (inner e) ms) (with_text (field_name e) (inner e) ms (are e) h)

read_texts : (ms : Members) (ts : Texts) → texts_of ms ≡ Some ts → labels_of (option_and_then unless_null (object_or_none ms)) ≡ Ok ts
read_texts no_members ts is = ap (λ (o : Option Texts). or_malformed Labels o) is
read_texts (member k d ms) ts is = ap (λ (o : Option Texts). or_malformed Labels o) is

abbrev LabelsRead : Option Data → Type 0
LabelsRead o = (ts : Texts) × (labels_of (option_and_then unless_null o) ≡ Ok ts)

map_read : (c : Content) → IsWellTyped (map_of text false) c → LabelsRead (print (map_of text false) c)
map_read c well_typed =
    let all = each_text (λ e. print text (inside e c)) (λ e. printed_text (inside e c) (well_typed.1 e)) (heads c) no_members ([], refl) in
    (all.0, read_texts (each_member (λ e. print text (inside e c)) (heads c) no_members) all.0 all.1)

field_well_typed : (k : List ℕ) (t : Shape) (all : Fields) (c : Content) → shape_at k all ≡ Some t → AreWellTyped all c → IsWellTyped t (inside (name_text k) c)
field_well_typed k t no_fields c is are = absurd cc
field_well_typed k t (field f s more) c is are = by_name (bytes_eq f k) refl (λ there. field_well_typed k t more c there are.1) is
  where
    by_name : (b : Bool) → bytes_eq f k ≡ b → (shape_at k more ≡ Some t → IsWellTyped t (inside (name_text k) c)) → cond b (Some s) (shape_at k more) ≡ Some t → IsWellTyped t (inside (name_text k) c)
    by_name true named later there =
        let same : f ≡ k = (bytes_decides f k).0 named in
        let shaped : s ≡ t = cc in
        subst (λ u. IsWellTyped u (inside (name_text k) c)) shaped (subst (λ n. IsWellTyped s (inside (name_text n) c)) same are.0)
    by_name false named later there = later there

-- what is printed of a struct's field
field_printed : (k : List ℕ) (t : Shape) (all : Fields) (c : Content) → is_well_formed (struct_of all false) ≡ true → shape_at k all ≡ Some t
    → get_member k (members_printed (print (struct_of all false) c)) ≡ print t (inside (name_text k) c)
field_printed k t all c formed there =
    let up : ascend (names_of all) ≡ true = (and_parts (ascend (names_of all)) (are_well_formed all) formed).0 in
    ap (get_member k) (members_back (print_fields all c no_members)) ∙ found_field k t all c no_members up there refl

metadata_read : (m : Shape) (c : Content) → IsMetadata m → is_well_formed m ≡ true → IsWellTyped m c → LabelsRead (get_member (codes "labels") (members_printed (print m c)))
metadata_read text c is formed well_typed = absurd (true≢false (sym is.granular))
metadata_read whole c is formed well_typed = absurd (true≢false (sym is.granular))
metadata_read truth c is formed well_typed = absurd (true≢false (sym is.granular))
metadata_read (struct_of all true) c is formed well_typed = absurd (true≢false (sym is.granular))
metadata_read (struct_of all false) c is formed well_typed =
    subst LabelsRead (sym (field_printed (codes "labels") (map_of text false) all c formed is.labels))
    (map_read (inside (name_text (codes "labels")) c) (field_well_typed (codes "labels") (map_of text false) all c is.labels well_typed.1))
metadata_read (map_of s b) c is formed well_typed = absurd (true≢false (sym is.granular))
metadata_read (list_of s kind) c is formed well_typed = absurd (true≢false (sym is.granular))

struct_labels : (all : Fields) (c : Content) (m : Shape) → is_well_formed (struct_of all false) ≡ true → IsWellTyped (struct_of all false) c → shape_at (codes "metadata") all ≡ Some m → IsMetadata m
    → LabelsRead (get_member (codes "labels") (metadata_members (print (struct_of all false) c)))
struct_labels all c m formed well_typed has_metadata is =
    let fields : are_well_formed all ≡ true = (and_parts (ascend (names_of all)) (are_well_formed all) formed).1 in
    subst (λ o. LabelsRead (get_member (codes "labels") (members_printed o))) (sym (field_printed (codes "metadata") m all c formed has_metadata))
    (metadata_read m (inside (name_text (codes "metadata")) c) is (well_formed_at (codes "metadata") m all fields has_metadata) (field_well_typed (codes "metadata") m all c has_metadata well_typed.1))

labels_read : (s : Shape) (c : Content) → IsObjectShape s → is_well_formed s ≡ true → IsWellTyped s c → LabelsRead (get_member (codes "labels") (metadata_members (print s c)))
labels_read text c shaped formed well_typed = absurd (true≢false (sym shaped.0))
labels_read whole c shaped formed well_typed = absurd (true≢false (sym shaped.0))
labels_read truth c shaped formed well_typed = absurd (true≢false (sym shaped.0))
labels_read (struct_of all true) c shaped formed well_typed = absurd (true≢false (sym shaped.0))
labels_read (struct_of all false) c shaped formed well_typed = struct_labels all c shaped.2.0 formed well_typed shaped.2.1 shaped.2.2
labels_read (map_of s b) c shaped formed well_typed = absurd (true≢false (sym shaped.0))
labels_read (list_of s kind) c shaped formed well_typed = absurd (true≢false (sym shaped.0))

-- ---- what stands in the envelope

entries_other : (ds : Items) (labels : Members) → get_member (codes "labels") (put_entries ds labels) ≡ get_member (codes "labels") labels
entries_other no_items labels = refl
entries_other (item d ds) labels = get_member-put_other (codes "labels") (codes "managedFields") (array (item d ds)) labels (apart (codes "labels") (codes "managedFields") refl)

module _ (name namespace version : Data) (base : Members) where
  abbrev versioned : Members
  versioned = put (codes "resourceVersion") version base

  abbrev spaced : Members
  spaced = put (codes "namespace") namespace versioned

  namespace_found : get_member (codes "namespace") (put (codes "name") name spaced) ≡ Some namespace
  namespace_found =
      get_member-put_other (codes "namespace") (codes "name") name spaced (apart (codes "namespace") (codes "name") refl) ∙ get_member-put (codes "namespace") namespace versioned

  version_found : get_member (codes "resourceVersion") (put (codes "name") name spaced) ≡ Some version
  version_found =
      get_member-put_other (codes "resourceVersion") (codes "name") name spaced (apart (codes "resourceVersion") (codes "name") refl)
      ∙ get_member-put_other (codes "resourceVersion") (codes "namespace") namespace versioned (apart (codes "resourceVersion") (codes "namespace") refl)
      ∙ get_member-put (codes "resourceVersion") version base

  labels_stay : get_member (codes "labels") (put (codes "name") name spaced) ≡ get_member (codes "labels") base
  labels_stay =
      get_member-put_other (codes "labels") (codes "name") name spaced (apart (codes "labels") (codes "name") refl)
      ∙ get_member-put_other (codes "labels") (codes "namespace") namespace versioned (apart (codes "labels") (codes "namespace") refl)
      ∙ get_member-put_other (codes "labels") (codes "resourceVersion") version base (apart (codes "labels") (codes "resourceVersion") refl)

-- ---- the object that is read

abbrev text_found : Option Data → Option (List ℕ)
text_found o = option_and_then unless_empty (option_and_then as_str (option_and_then unless_null o))

abbrev stored : List ℕ → List ℕ → ℕ → Texts → List ℕ → Stored
stored namespace name revision labels body = record { namespace = namespace; name = name; revision = revision; labels = labels; text = body }

-- what is read of `metadata`, by what is found there
abbrev of_texts : Wanted → Option (List ℕ) → Option (List ℕ) → Option (List ℕ) → Read Texts → Read (List ℕ) → Read Stored
of_texts wanted name namespace version labels body =
    or_malformed Name name >>= λ n.
    (or_malformed Namespace namespace >>= λ ns. unless (is_in wanted.namespace ns) Namespace >>= λ u. Ok ns) >>= λ ns.
    or_malformed Version (option_and_then version_of version) >>= λ r.
    labels >>= λ ls.
    body >>= λ t.
    Ok (stored ns n r ls t)

abbrev of_metadata : Wanted → Data → Members → Read Stored
of_metadata wanted d ms =
    of_texts wanted (text_found (get_member (codes "name") ms)) (text_found (get_member (codes "namespace") ms)) (text_found (get_member (codes "resourceVersion") ms))
    (labels_of (option_and_then unless_null (get_member (codes "labels") ms))) (cond (has_float d) (Err Number) (Ok (compact_text d)))

-- what is read of an object, by what is found at its top
abbrev of_top : Wanted → Data → Option (List ℕ) → Option (List ℕ) → Option Data → Read Stored
of_top wanted d api_version kind metadata =
    (unless (is_text (api_version_of wanted) api_version) ApiVersion >>= λ u. unless (is_text wanted.kind kind) Kind) >>= λ u.
    or_malformed Metadata (option_and_then as_object (option_and_then unless_null metadata)) >>= λ ms.
    of_metadata wanted d ms

top_is : (wanted : Wanted) (ms : Members)
    → object_of wanted (object ms) ≡ of_top wanted (object ms) (text_found (get_member (codes "apiVersion") ms)) (text_found (get_member (codes "kind") ms)) (get_member (codes "metadata") ms)
top_is wanted ms = refl

wanted_top : (wanted : Wanted) (d : Data) (api_version kind : List ℕ) (meta : Members) → bytes_eq api_version (api_version_of wanted) ≡ true → bytes_eq kind wanted.kind ≡ true
    → of_top wanted d (Some api_version) (Some kind) (Some (object meta)) ≡ of_metadata wanted d meta
wanted_top wanted d api_version kind meta one other =
    ap₂ (λ p q. (unless p ApiVersion >>= λ u. unless q Kind) >>= λ u. of_metadata wanted d meta) one other

texts_read : (wanted : Wanted) (namespace name version : List ℕ) (v : ℕ) (labels : Texts) (body : List ℕ) → is_in wanted.namespace namespace ≡ true → version_of version ≡ Some v
    → of_texts wanted (Some name) (Some namespace) (Some version) (Ok labels) (Ok body) ≡ Ok (stored namespace name v labels body)
texts_read wanted namespace name version v labels body inside_it numbered =
    ap₂ (λ b o. (unless b Namespace >>= λ u. Ok namespace) >>= λ ns. or_malformed Version o >>= λ r. Ok (stored ns name r labels body)) inside_it numbered

module _ (wanted : Wanted) (s : Shape) (of : Identity) (v : Stamp) (state : State) (shaped : IsObjectShape s) (well_typed : IsWellTypedState s state) (low : v.version ≤ max_version) (has : HasPlace wanted of) where
  abbrev base : Members
  base = members_printed (print s state.content)

  abbrev own_labels : Members
  own_labels = metadata_members (print s state.content)

  abbrev meta : Members
  meta = metadata_of s of v state.owners own_labels

  abbrev top : Members
  top = enveloped (string of.api_version) (string of.kind) (object meta) base

  abbrev said : Members
  said = put_system v.system own_labels

  abbrev listed : Members
  listed = put_entries (entry_items s of.api_version (fin.entries state.owners)) said

  formed : is_well_formed s ≡ true
  formed = (and_parts (is_well_formed s) _ shaped.1).0

  read_labels : LabelsRead (get_member (codes "labels") own_labels)
  read_labels = labels_read s state.content shaped formed (content_well_typed s formed state.content well_typed.0)

  labels_there : get_member (codes "labels") meta ≡ get_member (codes "labels") own_labels
  labels_there = labels_stay (string of.name) (string of.namespace) (string (decimal v.version)) listed ∙ entries_other (entry_items s of.api_version (fin.entries state.owners)) said ∙ past_system (codes "labels") refl v.system own_labels

  api_found : text_found (get_member (codes "apiVersion") top) ≡ Some of.api_version
  api_found =
      ap text_found (get_member-put (codes "apiVersion") (string of.api_version) (put (codes "kind") (string of.kind) (put (codes "metadata") (object meta) base))) ∙ filled of.api_version has.has_api_version

  kind_found : text_found (get_member (codes "kind") top) ≡ Some of.kind
  kind_found =
      ap text_found (get_member-put_other (codes "kind") (codes "apiVersion") (string of.api_version) (put (codes "kind") (string of.kind) (put (codes "metadata") (object meta) base)) (apart (codes "kind") (codes "apiVersion") refl)
      ∙ get_member-put (codes "kind") (string of.kind) (put (codes "metadata") (object meta) base)) ∙ filled of.kind has.has_kind

  metadata_found : get_member (codes "metadata") top ≡ Some (object meta)
  metadata_found = metadata_there (string of.api_version) (string of.kind) (object meta) base

  of_meta : of_metadata wanted (object top) meta ≡ of_texts wanted (Some of.name) (Some of.namespace) (Some (decimal v.version)) (Ok read_labels.0) (cond (has_float (object top)) (Err Number) (Ok (compact_text (object top))))
  of_meta =
      ap₂ (λ n ns. of_texts wanted n ns (text_found (get_member (codes "resourceVersion") meta)) (labels_of (option_and_then unless_null (get_member (codes "labels") meta))) (cond (has_float (object top)) (Err Number) (Ok (compact_text (object top)))))
      (ap text_found (get_member-put (codes "name") (string of.name) (put (codes "namespace") (string of.namespace) (put (codes "resourceVersion") (string (decimal v.version)) listed))) ∙ filled of.name has.has_name)
      (ap text_found (namespace_found (string of.name) (string of.namespace) (string (decimal v.version)) listed) ∙ filled of.namespace has.has_namespace)
      ∙ ap₂ (λ r ls. of_texts wanted (Some of.name) (Some of.namespace) r ls (cond (has_float (object top)) (Err Number) (Ok (compact_text (object top)))))
      (ap text_found (version_found (string of.name) (string of.namespace) (string (decimal v.version)) listed) ∙ version_filled (decimal v.version) v.version (version_back v.version low))
      (ap (λ o. labels_of (option_and_then unless_null o)) labels_there ∙ read_labels.1)

  value_read_as : has_float (object top) ≡ false → object_of wanted (object top) ≡ Ok (stored of.namespace of.name v.version read_labels.0 (compact_text (object top)))
  value_read_as plain =
      top_is wanted top
      ∙ ap₂ (λ a k. of_top wanted (object top) a k (get_member (codes "metadata") top)) api_found kind_found
      ∙ ap (of_top wanted (object top) (Some of.api_version) (Some of.kind)) metadata_found
      ∙ wanted_top wanted (object top) of.api_version of.kind meta
      (ap (bytes_eq of.api_version) (sym has.of_version) ∙ itself of.api_version) (ap (bytes_eq of.kind) (sym has.of_kind) ∙ itself of.kind)
      ∙ of_meta
      ∙ ap (λ (b : Bool). of_texts wanted (Some of.name) (Some of.namespace) (Some (decimal v.version)) (Ok read_labels.0) (cond b (Err Number) (Ok (compact_text (object top))))) plain
      ∙ texts_read wanted of.namespace of.name (decimal v.version) v.version read_labels.0 (compact_text (object top)) has.within (version_back v.version low)

  value_is : object_value s of v state ≡ object top
  unfolding object_value
  value_is = refl

  pub object_read : (o : Stored) × (object_of wanted (object_value s of v state) ≡ Ok o) × IsStored s of v state o
  object_read = (
    stored of.namespace of.name v.version read_labels.0 (compact_text (object top)),
    (ap (object_of wanted) value_is ∙ value_read_as (ap has_float (sym value_is) ∙ value_clean s shaped.1 of v state well_typed.0)),
    record { of_namespace = refl; of_name = refl; of_revision = refl; labels_are = read_labels.1; text_is = sym (text_is s of v state ∙ ap compact_text value_is) },
  )
