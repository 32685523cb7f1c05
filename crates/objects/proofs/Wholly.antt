-- The text of an object, member by member.
use Rattle.std.proofs.Common.{◌≡◌, ℕ, List, Option, Some, None, refl, sym, ap, ap₂, ◌∙◌, true, false}
use Rattle.std.specs.Prelude.{codes, option_and_then}
use Rattle.std.proofs.lemmas.Bool.{and_parts}
use Rattle.serde_json.specs.Data.{string, object, Members, no_members, member, put}
use Rattle.serde_json.specs.Find.{get_member}
use Rattle.serde_json.specs.Written.{compact_text}
use Rattle.fieldpath.specs.Elements.{name_text}
use Rattle.fieldpath.specs.Scalars.{ascend}
use Rattle.json_texts.specs.Writing.{AppendsMembers, Writing, with_closing, with_name, with_opening, with_text}
use Rattle.pathmap.specs.Contents.{Content}
use Rattle.pathmap.specs.Insides.{inside}
use Rattle.schema.specs.Lawful.{are_well_formed, is_lawful, is_well_formed, names_of}
use Rattle.schema.specs.Shape.{Shape, Fields, struct_of, shape_at}
use Rattle.typed.specs.Between.{fields_between, then_fields}
use Rattle.typed.specs.Printing.{object_or_none, print, print_fields}
use Rattle.typed.proofs.Between.{put_between}
use Rattle.typed.proofs.KeyFields.{AreRising, ascend_rising}
use Rattle.typed.proofs.Rows.{struct_row}
use Rattle.objects.specs.InOrder.{then_type}
use Rattle.objects.specs.State.{State}
use Rattle.objects.specs.SystemMetadata.{Stamp}
use Rattle.objects.specs.ObjectText.{Identity, members_printed, metadata_members, metadata_of, object_text, object_value}
use Rattle.objects.proofs.Appended.{member_appended, object_written}
use Rattle.objects.proofs.Between.{above_below, below_twice, rising_between}
use Rattle.objects.proofs.Envelopes.{absent_field, found_field}

printed_members : (ms : Members) → members_printed (object_or_none ms) ≡ ms
printed_members no_members = refl
printed_members (member k d ms) = refl

-- what a field is printed as
field_printed : (k : List ℕ) (all : Fields) (c : Content) → ascend (names_of all) ≡ true → option_and_then (λ s. print s (inside (name_text k) c)) (shape_at k all) ≡ get_member k (print_fields all c no_members)
field_printed k all c up = by_shape (shape_at k all) refl
  where
    by_shape : (o : Option Shape) → shape_at k all ≡ o → option_and_then (λ s. print s (inside (name_text k) c)) o ≡ get_member k (print_fields all c no_members)
    by_shape None is = sym (absent_field k all c no_members is)
    by_shape (Some t) is = sym (found_field k t all c no_members up is refl)

pub well_formed : (s : Shape) → is_lawful s ≡ true → is_well_formed s ≡ true
well_formed s lawful = (and_parts (is_well_formed s) _ lawful).0

-- labels and annotations
pub field_members : (all : Fields) (c : Content) → is_lawful (struct_of all false) ≡ true
    → members_printed (option_and_then (λ s. print s (inside (name_text (codes "metadata")) c)) (shape_at (codes "metadata") all)) ≡ metadata_members (print (struct_of all false) c)
field_members all c lawful =
    let up = (and_parts (ascend (names_of all)) (are_well_formed all) (well_formed (struct_of all false) lawful)).0 in
    ap members_printed (field_printed (codes "metadata") all c up ∙ ap (get_member (codes "metadata")) (sym (printed_members (print_fields all c no_members))))

-- ---- the members of an object, in order

module _ (all : Fields) (formed : is_well_formed (struct_of all false) ≡ true) (c : Content) where
  rise : AreRising (names_of all)
  rise = ascend_rising (names_of all) (and_parts (ascend (names_of all)) (are_well_formed all) formed).0

  -- what is printed
  base_row : members_printed (print (struct_of all false) c) ≡ then_fields all c no_members
  base_row = printed_members (print_fields all c no_members) ∙ struct_row all c formed

  -- `metadata` and the fields behind it
  abbrev from_metadata : Members → Members → Members
  from_metadata metadata rest = member (codes "metadata") (object metadata) (then_fields (fields_between (Some (codes "metadata")) None all) c rest)

  envelope_row : (of : Identity) (metadata : Members)
      → put (codes "apiVersion") (string of.api_version) (put (codes "kind") (string of.kind) (put (codes "metadata") (object metadata) (members_printed (print (struct_of all false) c)))) ≡ then_type of all c (from_metadata metadata no_members)
  envelope_row of metadata =
      let last = from_metadata metadata no_members in
      let below_metadata = fields_between None (Some (codes "metadata")) all in
      let below_kind = fields_between None (Some (codes "kind")) all in
      let from_kind = member (codes "kind") (string of.kind) (then_fields (fields_between (Some (codes "kind")) (Some (codes "metadata")) all) c last) in
      let kind_put =
      put_between (codes "kind") (string of.kind) c last refl below_metadata (rising_between None (Some (codes "metadata")) all rise)
      ∙ ap₂ (λ a b. then_fields a c (member (codes "kind") (string of.kind) (then_fields b c last))) (below_twice (codes "kind") (codes "metadata") refl all) (above_below (codes "kind") (codes "metadata") all) in
      let version_put =
      put_between (codes "apiVersion") (string of.api_version) c from_kind refl below_kind (rising_between None (Some (codes "kind")) all rise)
      ∙ ap₂ (λ a b. then_fields a c (member (codes "apiVersion") (string of.api_version) (then_fields b c from_kind))) (below_twice (codes "apiVersion") (codes "kind") refl all) (above_below (codes "apiVersion") (codes "kind") all) in
      ap (λ ms. put (codes "apiVersion") (string of.api_version) (put (codes "kind") (string of.kind) ms)) (ap (put (codes "metadata") (object metadata)) base_row ∙ put_between (codes "metadata") (object metadata) c no_members tt all rise)
      ∙ ap (put (codes "apiVersion") (string of.api_version)) kind_put ∙ version_put

pub struct_written : (all : Fields) (of : Identity) (stamp : Stamp) (state : State) → is_well_formed (struct_of all false) ≡ true → (old one two three four five new : Writing) → one ≡ with_opening 123 old
    → AppendsMembers (then_type of all state.content) one two → three ≡ with_name (codes "metadata") two
    → four ≡ with_text (compact_text (object (metadata_of (struct_of all false) of stamp state.owners (metadata_members (print (struct_of all false) state.content))))) three
    → AppendsMembers (then_fields (fields_between (Some (codes "metadata")) None all) state.content) four five → new ≡ with_closing 125 five → new ≡ with_text (object_text (struct_of all false) of stamp state) old
unfolding object_text object_value
struct_written all of stamp state formed old one two three four five new opened types name value last closed =
    let s = struct_of all false in
    let c = state.content in
    let metadata = metadata_of s of stamp state.owners (metadata_members (print s c)) in
    let behind = then_fields (fields_between (Some (codes "metadata")) None all) c in
    object_written (λ rest. then_type of all c (member (codes "metadata") (object metadata) (behind rest))) old one five new opened
    (λ rest. last rest ∙ member_appended (codes "metadata") (object metadata) two three four name value (behind rest) ∙ types (member (codes "metadata") (object metadata) (behind rest))) closed
    ∙ ap (λ ms. with_text (compact_text (object ms)) old) (sym (envelope_row all formed c of metadata))
