-- The labels that are read of an object's text.
use Rattle.std.proofs.Common.{◌≡◌, ℕ, Bool, true, false, cond, List, [], ◌∷◌, Option, Some, refl, sym, ap, subst, ◌∙◌, true≢false}
use Rattle.std.specs.Prelude.{codes, option_and_then, unwrap_or, decimal}
use Rattle.std.proofs.lemmas.Bool.{and_parts}
use Rattle.std.specs.FinMap as fin
use Rattle.std.specs.Cmp.Lexicographic.{bytes_decides}
use Rattle.std.specs.Str.{bytes_eq}
use Rattle.serde_json.specs.Data.{Data, string, array, object, Items, no_items, item, Members, no_members, member, put}
use Rattle.serde_json.specs.Find.{as_object, get, get_member}
use Rattle.serde_json.specs.Read.{read}
use Rattle.serde_json.proofs.Views.{get_member-put, get_member-put_other}
use Rattle.selector.specs.Labels.{value_at}
use Rattle.fieldpath.specs.Elements.{name_text}
use Rattle.fieldpath.specs.Scalars.{ascend}
use Rattle.pathmap.specs.Contents.{Content}
use Rattle.pathmap.specs.Insides.{inside}
use Rattle.pathmap.proofs.Insides.{get-inside}
use Rattle.schema.specs.Lawful.{are_well_formed, is_lawful, is_well_formed, names_of}
use Rattle.schema.specs.Shape.{Shape, text, whole, truth, struct_of, map_of, list_of, Fields, no_fields, field, shape_at}
use Rattle.schema.specs.ObjectShape.{IsMetadata}
use Rattle.schema.proofs.Metadata.{well_formed_at}
use Rattle.json_values.specs.Texts.{texts_of}
use Rattle.lists.specs.Labels.{label_members, labels_of}
use Rattle.typed.specs.WellTyped.{AreWellTyped, IsWellTyped}
use Rattle.typed.specs.Printing.{object_or_none, print, print_fields}
use Rattle.typed.proofs.Fitting.{content_well_typed}
use Rattle.objects.specs.State.{State}
use Rattle.objects.specs.SystemMetadata.{Stamp, put_system}
use Rattle.objects.proofs.SystemMetadata.{past_system}
use Rattle.objects.specs.ObjectText.{Identity, entry_items, members_printed, metadata_members, metadata_of, object_value, put_entries}
use Rattle.objects.proofs.Back.{text_read}
use Rattle.objects.proofs.Envelopes.{found_field, members_back}
use Rattle.objects.proofs.Taken.{apart, no_some, same_some}
use Rattle.line_laws.specs.Labels.{LabelsAreOfContents, label_in, text_leaf_value}
use Rattle.line_laws.proofs.LabelTexts.{labels_by}
use Rattle.line_laws.proofs.LabelsPrinted.{all_texts, member_at}
use Rattle.line_laws.proofs.LabelsPrinted as printed

-- ---- where the labels stand in an object's value

labels_beside : (items : Items) (ms : Members) → get_member (codes "labels") (put_entries items ms) ≡ get_member (codes "labels") ms
labels_beside no_items ms = refl
labels_beside (item d ds) ms = get_member-put_other (codes "labels") (codes "managedFields") (array (item d ds)) ms (apart (codes "labels") (codes "managedFields") refl)

labels_in_metadata : (s : Shape) (of : Identity) (v : Stamp) (state : State) (ms : Members) → get_member (codes "labels") (metadata_of s of v state.owners ms) ≡ get_member (codes "labels") ms
labels_in_metadata s of v state ms =
    let items = entry_items s of.api_version (fin.entries state.owners) in
    let said = put_system v.system ms in
    let versioned = put (codes "resourceVersion") (string (decimal v.version)) (put_entries items said) in
    let spaced = put (codes "namespace") (string of.namespace) versioned in
    get_member-put_other (codes "labels") (codes "name") (string of.name) spaced (apart (codes "labels") (codes "name") refl)
    ∙ get_member-put_other (codes "labels") (codes "namespace") (string of.namespace) versioned (apart (codes "labels") (codes "namespace") refl)
    ∙ get_member-put_other (codes "labels") (codes "resourceVersion") (string (decimal v.version)) (put_entries items said) (apart (codes "labels") (codes "resourceVersion") refl)
    ∙ labels_beside items said ∙ past_system (codes "labels") refl v.system ms

pub metadata_in_object : (api_version kind : List ℕ) (meta base : Members)
    → get_member (codes "metadata") (put (codes "apiVersion") (string api_version) (put (codes "kind") (string kind) (put (codes "metadata") (object meta) base))) ≡ Some (object meta)
metadata_in_object api_version kind meta base =
    let with_metadata = put (codes "metadata") (object meta) base in
    get_member-put_other (codes "metadata") (codes "apiVersion") (string api_version) (put (codes "kind") (string kind) with_metadata) (apart (codes "metadata") (codes "apiVersion") refl)
    ∙ get_member-put_other (codes "metadata") (codes "kind") (string kind) with_metadata (apart (codes "metadata") (codes "kind") refl)
    ∙ get_member-put (codes "metadata") (object meta) base

-- ---- the content of a field

well_typed_field : (f : List ℕ) (t : Shape) (all : Fields) (c : Content) → shape_at f all ≡ Some t → AreWellTyped all c → IsWellTyped t (inside (name_text f) c)
well_typed_field f t no_fields c is well_typed = no_some t (sym is)
well_typed_field f t (field g s more) c is well_typed = by (bytes_eq g f) refl is (λ e. well_typed_field f t more c e well_typed.1)
  where
    by : (b : Bool) → bytes_eq g f ≡ b → cond b (Some s) (shape_at f more) ≡ Some t → (shape_at f more ≡ Some t → IsWellTyped t (inside (name_text f) c)) → IsWellTyped t (inside (name_text f) c)
    by true same e later =
        let g_is : g ≡ f = (bytes_decides g f).0 same in
        subst (λ n. IsWellTyped t (inside (name_text n) c)) g_is (subst (λ u. IsWellTyped u (inside (name_text g) c)) (same_some s t e) well_typed.0)
    by false apart e later = later e

each_well_typed : (c : Content) → IsWellTyped (map_of text false) c → (e : List ℕ) → IsWellTyped text (inside e c)
each_well_typed c (top, each) = each

-- the labels that are printed of a type's `metadata`
abbrev AreLabels : Shape → Content → Type 0
AreLabels m c =
    (get_member (codes "labels") (members_printed (print m c)) ≡ print (map_of text false) (inside (name_text (codes "labels")) c))
    × IsWellTyped (map_of text false) (inside (name_text (codes "labels")) c)

metadata_labels : (m : Shape) (c : Content) → IsMetadata m → is_well_formed m ≡ true → IsWellTyped m c → AreLabels m c
metadata_labels text c is formed well_typed = absurd (true≢false (sym is.granular))
metadata_labels whole c is formed well_typed = absurd (true≢false (sym is.granular))
metadata_labels truth c is formed well_typed = absurd (true≢false (sym is.granular))
metadata_labels (struct_of all true) c is formed well_typed = absurd (true≢false (sym is.granular))
metadata_labels (struct_of all false) c is formed well_typed =
    let up : ascend (names_of all) ≡ true = (and_parts (ascend (names_of all)) (are_well_formed all) formed).0 in (
      ap (get_member (codes "labels")) (members_back (print_fields all c no_members)) ∙ found_field (codes "labels") (map_of text false) all c no_members up is.labels refl,
      well_typed_field (codes "labels") (map_of text false) all c is.labels well_typed.1,
    )
metadata_labels (map_of s b) c is formed well_typed = absurd (true≢false (sym is.granular))
metadata_labels (list_of s kind) c is formed well_typed = absurd (true≢false (sym is.granular))

module _ (all : Fields) (of : Identity) (v : Stamp) (state : State) (key : List ℕ) (lawful : is_lawful (struct_of all false) ≡ true) (m : Shape) (has_metadata : shape_at (codes "metadata") all ≡ Some m) (is_metadata : IsMetadata m)
    (well_typed : IsWellTyped (struct_of all false) state.content) where
  abbrev in_metadata : Content
  in_metadata = inside (name_text (codes "metadata")) state.content

  abbrev in_labels : Content
  in_labels = inside (name_text (codes "labels")) in_metadata

  formed : is_well_formed (struct_of all false) ≡ true
  formed = (and_parts (is_well_formed (struct_of all false)) _ lawful).0

  fields : (ascend (names_of all) ≡ true) × (are_well_formed all ≡ true)
  fields = and_parts (ascend (names_of all)) (are_well_formed all) formed

  abbrev fields_printed : Members
  fields_printed = print_fields all state.content no_members

  abbrev labels : Option Data
  labels = print (map_of text false) in_labels

  printed_labels : AreLabels m in_metadata
  printed_labels =
      metadata_labels m in_metadata is_metadata (well_formed_at (codes "metadata") m all fields.1 has_metadata) (well_typed_field (codes "metadata") m all state.content has_metadata well_typed.1)

  labels_are : get_member (codes "labels") (metadata_members (print (struct_of all false) state.content)) ≡ labels
  labels_are =
      ap (λ ms. get_member (codes "labels") (members_printed (get_member (codes "metadata") ms))) (members_back fields_printed)
      ∙ ap (λ o. get_member (codes "labels") (members_printed o)) (found_field (codes "metadata") m all state.content no_members fields.0 has_metadata refl)
      ∙ printed_labels.0

  in_value : label_members (object_value (struct_of all false) of v state) ≡ option_and_then as_object labels
  unfolding object_value
  in_value =
      let ms = metadata_members (print (struct_of all false) state.content) in
      let meta = metadata_of (struct_of all false) of v state.owners ms in
      ap (λ o. option_and_then as_object (option_and_then (get (codes "labels")) o)) (metadata_in_object of.api_version of.kind meta (members_printed (print (struct_of all false) state.content)))
      ∙ ap (option_and_then as_object) (labels_in_metadata (struct_of all false) of v state ms ∙ labels_are)

  in_place : (e : List ℕ) → IsWellTyped text (inside e in_labels)
  in_place = each_well_typed in_labels printed_labels.1

  if_any : (ms : Members) → unwrap_or (option_and_then texts_of (option_and_then as_object (object_or_none ms))) [] ≡ unwrap_or (texts_of ms) []
  if_any no_members = refl
  if_any (member k d ms) = refl

  pub read_at : (t : List ℕ) → read t ≡ Some (object_value (struct_of all false) of v state) → value_at key (labels_of t) ≡ label_in state.content key
  read_at t is =
      ap (λ o. value_at key (unwrap_or (option_and_then texts_of (option_and_then label_members o)) [])) is
      ∙ ap (λ o. value_at key (unwrap_or (option_and_then texts_of o) [])) in_value
      ∙ ap (value_at key) (if_any (printed.label_members in_labels in_place))
      ∙ labels_by (printed.label_members in_labels in_place) key (all_texts in_labels in_place)
      ∙ member_at in_labels in_place key
      ∙ ap (option_and_then text_leaf_value) (get-inside (name_text (codes "labels")) in_metadata (name_text key ∷ []) ∙ get-inside (name_text (codes "metadata")) state.content (name_text (codes "labels") ∷ name_text key ∷ []))

pub labels_are_of_contents : LabelsAreOfContents
labels_are_of_contents text of v state t key shaped said = absurd (true≢false (sym shaped.0))
labels_are_of_contents whole of v state t key shaped said = absurd (true≢false (sym shaped.0))
labels_are_of_contents truth of v state t key shaped said = absurd (true≢false (sym shaped.0))
labels_are_of_contents (struct_of all true) of v state t key shaped said = absurd (true≢false (sym shaped.0))
labels_are_of_contents (struct_of all false) of v state t key shaped said =
    read_at all of v state key shaped.1 shaped.2.0 shaped.2.1 shaped.2.2 (content_well_typed (struct_of all false) ((and_parts (is_well_formed (struct_of all false)) _ shaped.1).0) state.content said.well_typed.0) t
    (text_read (struct_of all false) of v state t shaped said)
labels_are_of_contents (map_of s b) of v state t key shaped said = absurd (true≢false (sym shaped.0))
labels_are_of_contents (list_of s kind) of v state t key shaped said = absurd (true≢false (sym shaped.0))
