-- An object's value is read back as what it was written of, and what is read is a content.
use Rattle.std.proofs.Common.{◌≡◌, ◌≤◌, ℕ, suc, Bool, true, false, cond, ◌&&◌, List, Some, None, refl, sym, ap, ap₂, ◌∙◌, true≢false, subst, arith}
use Rattle.std.specs.Prelude.{codes, decimal, option_map, option_and_then, ◌^◌, ◌<◌}
use Rattle.std.proofs.lemmas.Bool.{and_parts}
use Rattle.std.specs.FinMap as fin
use Rattle.std.specs.declared.result.Result.TheVariants.{Ok, Err}
use Rattle.serde_json.specs.Data.{Data, null, boolean, number, string, array, object, Items, Members, no_members, member, put, depth, members_depth}
use Rattle.serde_json.specs.Find.{get_member, as_object, as_str}
use Rattle.serde_json.specs.Read.{read, max_depth}
use Rattle.fieldpath.specs.Elements.{name_text}
use Rattle.fieldpath.specs.Scalars.{ascend}
use Rattle.fieldpath.specs.Encodable.{IsEncodable, MembersAreEncodable, member_names}
use Rattle.fieldpath.proofs.Encodable.{put_ascend, put_encodable}
use Rattle.json_texts.specs.InOrder.{in_order}
use Rattle.json_texts.proofs.Ordered.{compact-ordered}
use Rattle.names.specs.Decimals.{version_of}
use Rattle.names.proofs.Decimals.{exact}
use Rattle.pathmap.specs.Contents.{Content}
use Rattle.pathmap.specs.Insides.{inside}
use Rattle.schema.specs.Lawful.{is_lawful, is_well_formed, names_of, are_well_formed}
use Rattle.schema.specs.ObjectShape.{IsMetadata, IsObjectShape}
use Rattle.schema.specs.Shape.{Shape, text, whole, truth, struct_of, map_of, list_of, Fields, shape_at}
use Rattle.typed.specs.Faults.{Read}
use Rattle.typed.specs.Fitting.{IsContent}
use Rattle.typed.specs.Printing.{object_or_none, print, print_fields}
use Rattle.typed.specs.Reading.{content_of}
use Rattle.objects.proofs.FieldTexts.{put_depth}
use Rattle.typed.proofs.Fitting.{content_well_typed}
use Rattle.typed.proofs.Keeping.{reading_content}
use Rattle.typed.proofs.Places.{places}
use Rattle.typed.proofs.RoundTrip.{round}
use Rattle.typed.proofs.Spelling.{printed_textual}
use Rattle.objects.specs.State.{State}
use Rattle.fieldset.proofs.Written.{written}
use Rattle.fieldset.specs.FieldsV1Laws.{HavePlaces}
use Rattle.objects.specs.WellTyped.{IsWellTypedState}
use Rattle.objects.specs.ObjectText.{Identity, members_printed, metadata_members, metadata_of, entry_items, object_value, object_text}
use Rattle.objects.specs.Owners.{Owners, HavePaths}
use Rattle.json_values.specs.Members.{less, split_off}
use Rattle.objects.specs.Parts.{if_read, own_members, split, less_life_if, stamp_in, system_in, version_in, metadata_left, put_metadata, entries_in, items_or_none, owners_of, owners_in, fields_of, state_with, parts_of, parts_in}
use Rattle.objects.specs.Ranks.{have_paths, rising}
use Rattle.objects.specs.ReadBack.{IsCounted, IsObjectText, OneForOne, max_version}
use Rattle.objects.specs.SystemMetadata.{Stamp, put_system}
use Rattle.objects.proofs.SystemMetadata.{map_some, past_system, stamp_counted, then_some}
use Rattle.objects.proofs.Entered.{AllWellTyped, entries_there, items_put, owners_back}
use Rattle.objects.proofs.Envelopes.{found_field, absent_field, metadata_printed, members_back, with_name, metadata_back, version_there, system_there, items_there, with_metadata, whole as the_whole, whole_split, fields_back, content_back}
use Rattle.objects.proofs.Entries.{Pairs}
use Rattle.objects.proofs.Rising.{all_found, owners_have_paths}
use Rattle.objects.proofs.Within.{right_true}
use Rattle.objects.proofs.LeafValue.{entries_stand}
use Rattle.objects.proofs.Taken.{Kept, less_kept, found_encodable, found_depth, no_some, same_some}
use Rattle.objects.proofs.Textual.{one_deeper, value_textual}

fits : 9223372036854775807 < 2 ^ 64
fits = omega arith

version_back : (v : ℕ) → v ≤ max_version → version_of (decimal v) ≡ Some v
version_back v low = (exact 9223372036854775807 (decimal v) v fits).1 (low, refl)

-- ---- forwards

module _ (all : Fields) (of : Identity) (v : Stamp) (state : State) where
  abbrev pub type_of_all : Shape
  type_of_all = struct_of all false

  abbrev pub fields_printed : Members
  fields_printed = print_fields all state.content no_members

  module _ (lawful : is_lawful type_of_all ≡ true) (m : Shape) (has_metadata : shape_at (codes "metadata") all ≡ Some m) (is_metadata : IsMetadata m) (no_version : shape_at (codes "apiVersion") all ≡ None) (no_kind : shape_at (codes "kind") all ≡ None) (well_typed : IsWellTypedState type_of_all state) (low : v.version ≤ max_version) where
    formed : is_well_formed type_of_all ≡ true
    formed = (and_parts (is_well_formed type_of_all) _ lawful).0

    up : ascend (names_of all) ≡ true
    up = (and_parts (ascend (names_of all)) (are_well_formed all) formed).0

    abbrev pub in_metadata : Content
    in_metadata = inside (name_text (codes "metadata")) state.content

    abbrev pub printed_of_metadata : Members
    printed_of_metadata = (metadata_printed m in_metadata is_metadata).0

    metadata_there : get_member (codes "metadata") fields_printed ≡ object_or_none printed_of_metadata
    metadata_there = found_field (codes "metadata") m all state.content no_members up has_metadata refl ∙ (metadata_printed m in_metadata is_metadata).1

    members_are : metadata_members (print type_of_all state.content) ≡ printed_of_metadata
    members_are = ap (λ ms. members_printed (get_member (codes "metadata") ms)) (members_back fields_printed) ∙ ap members_printed metadata_there ∙ members_back printed_of_metadata

    abbrev pub listed : Items
    listed = entry_items type_of_all of.api_version (fin.entries state.owners)

    abbrev pub meta : Members
    meta = with_name of.name of.namespace (decimal v.version) v.system listed printed_of_metadata (metadata_printed m in_metadata is_metadata).2

    pub version_free : get_member (codes "apiVersion") fields_printed ≡ None
    version_free = absent_field (codes "apiVersion") all state.content no_members no_version

    pub kind_free : get_member (codes "kind") fields_printed ≡ None
    kind_free = absent_field (codes "kind") all state.content no_members no_kind

    abbrev pub beside : Members
    beside = less (codes "metadata") (with_metadata of.api_version of.kind meta fields_printed version_free kind_free)

    value_is : object_value type_of_all of v state ≡ object (the_whole of.api_version of.kind meta fields_printed version_free kind_free)
    unfolding object_value
    value_is =
        ap₂ (λ ls ms. object (put (codes "apiVersion") (string of.api_version) (put (codes "kind") (string of.kind) (put (codes "metadata") (object (metadata_of type_of_all of v state.owners ls)) ms)))) members_are (members_back fields_printed)

    print_ascends : (ms : Members) → print type_of_all state.content ≡ object_or_none ms → ascend (member_names ms) ≡ true
    print_ascends no_members is = refl
    print_ascends (member k d ms) is = (printed_textual type_of_all state.content (object (member k d ms)) lawful well_typed.0 is).0.0

    content_there : content_of type_of_all (fields_of beside meta) ≡ Ok state.content
    content_there =
        ap (content_of type_of_all) (fields_back of.api_version of.kind meta fields_printed version_free kind_free printed_of_metadata (print_ascends fields_printed refl) metadata_there (metadata_back of.name of.namespace (decimal v.version) v.system listed printed_of_metadata (metadata_printed m in_metadata is_metadata).2))
        ∙ content_back all state.content (round type_of_all state.content formed (content_well_typed type_of_all formed state.content well_typed.0))

    all_well_typed : AllWellTyped type_of_all (fin.entries state.owners)
    all_well_typed =
        all_found (λ k paths. HavePlaces type_of_all paths) (fin.entries state.owners) (fin.entries_sorted state.owners)
        (λ k paths is p there. places type_of_all state.content (content_well_typed type_of_all formed state.content well_typed.0) p (entries_stand state well_typed.1.1 k paths (fin.get-entries state.owners k ∙ is) p there))

    owners_there : owners_in type_of_all meta ≡ Some state.owners
    owners_there =
        ap (λ o. option_and_then owners_of (option_and_then (entries_in type_of_all) (items_or_none o))) (items_there of.name of.namespace (decimal v.version) v.system listed printed_of_metadata (metadata_printed m in_metadata is_metadata).2)
        ∙ ap (λ o. option_and_then owners_of (option_and_then (entries_in type_of_all) o)) (items_put listed (put_system v.system printed_of_metadata) (past_system (codes "managedFields") refl v.system printed_of_metadata ∙ (metadata_printed m in_metadata is_metadata).2.3))
        ∙ ap (option_and_then owners_of) (entries_there type_of_all of.api_version (fin.entries state.owners) (λ paths have. written type_of_all paths lawful have) all_well_typed)
        ∙ owners_back state.owners well_typed.1.0

    version_read : version_in meta ≡ Some v.version
    version_read = ap (λ o. option_and_then version_of (option_and_then as_str o)) (version_there of.name of.namespace (decimal v.version) v.system listed printed_of_metadata (metadata_printed m in_metadata is_metadata).2) ∙ version_back v.version low

    stamp_read : stamp_in meta ≡ Some v
    stamp_read =
        ap (λ o. option_and_then (λ version. option_map {U = Stamp} (λ system. record { version = version; system = system }) (system_in meta)) o) version_read
        ∙ ap (option_map {U = Stamp} (λ system. record { version = v.version; system = system })) (system_there of.name of.namespace (decimal v.version) v.system listed printed_of_metadata (metadata_printed m in_metadata is_metadata).2)

    pub struct_back : parts_in type_of_all (object_value type_of_all of v state) ≡ Some (state, v)
    struct_back =
        ap (parts_in type_of_all) value_is ∙ ap (option_and_then (parts_of type_of_all)) (whole_split of.api_version of.kind meta fields_printed version_free kind_free)
        ∙ ap (option_and_then (state_with type_of_all beside meta)) stamp_read
        ∙ ap (option_and_then (λ owners. option_map (λ x. (record { content = x; owners = owners }, v)) (if_read (content_of type_of_all (fields_of beside meta))))) owners_there
        ∙ ap (λ r. option_map (λ x. (record { content = x; owners = state.owners }, v)) (if_read r)) content_there

-- an object's value says what it was written of
pub parts_back : (s : Shape) (of : Identity) (v : Stamp) (state : State) → IsObjectShape s → IsWellTypedState s state → v.version ≤ max_version → parts_in s (object_value s of v state) ≡ Some (state, v)
parts_back text of v state shaped well_typed low = absurd (true≢false (sym shaped.0))
parts_back whole of v state shaped well_typed low = absurd (true≢false (sym shaped.0))
parts_back truth of v state shaped well_typed low = absurd (true≢false (sym shaped.0))
parts_back (struct_of all true) of v state shaped well_typed low = absurd (true≢false (sym shaped.0))
parts_back (struct_of all false) of v state shaped well_typed low = struct_back all of v state shaped.1 shaped.2.0 shaped.2.1 shaped.2.2 shaped.3 shaped.4 well_typed low
parts_back (map_of s b) of v state shaped well_typed low = absurd (true≢false (sym shaped.0))
parts_back (list_of s kind) of v state shaped well_typed low = absurd (true≢false (sym shaped.0))

-- an object's text is read as its value
pub text_read : (s : Shape) (of : Identity) (v : Stamp) (state : State) (t : List ℕ) → IsObjectShape s → IsObjectText s of v state t → read t ≡ Some (object_value s of v state)
unfolding object_text
text_read s of v state t shaped said = ap read said.is_text ∙ (value_textual s shaped.1 of v state said.well_typed.0 said.counted).3

-- and so it is in order, and represents its value
pub text_in_order : (s : Shape) (of : Identity) (v : Stamp) (state : State) (t : List ℕ) → IsObjectShape s → IsObjectText s of v state t → in_order t ≡ Some (object_value s of v state)
unfolding object_text
text_in_order s of v state t shaped said =
    let textual = value_textual s shaped.1 of v state said.well_typed.0 said.counted in ap in_order said.is_text ∙ compact-ordered (object_value s of v state) textual.0 textual.1 textual.2

pub one_for_one : OneForOne
one_for_one s of v w a b t shaped one other =
    let same : object_value s of v a ≡ object_value s of w b = same_some _ _ (sym (text_read s of v a t shaped one) ∙ text_read s of w b t shaped other) in
    let both : ◌≡◌ {A = State × Stamp} (a, v) (b, w) = same_some _ _ (sym (parts_back s of v a shaped one.well_typed one.numbered) ∙ ap (parts_in s) same ∙ parts_back s of w b shaped other.well_typed other.numbered) in
    (ap (λ p. p.1) both, ap (λ p. p.0) both)

-- ---- backwards: what is read of a spelled value is a content, of which the system says this

read_some : {X : Type 0} (r : Read X) (x : X) → if_read r ≡ Some x → r ≡ Ok x
read_some (Ok y) x e = ap Ok (same_some y x e)
read_some (Err f) x e = no_some x (sym e)

object_is : (d : Data) (ms : Members) → as_object d ≡ Some ms → d ≡ object ms
object_is null ms e = no_some ms (sym e)
object_is (boolean b) ms e = no_some ms (sym e)
object_is (number n) ms e = no_some ms (sym e)
object_is (string t) ms e = no_some ms (sym e)
object_is (array ds) ms e = no_some ms (sym e)
object_is (object ns) ms e = ap object (same_some ns ms e)

itself : (n : ℕ) → n ≤ n
itself n = omega arith

put_kept : (n : ℕ) (k : List ℕ) (d : Data) (ms : Members) → IsEncodable d → depth d ≤ n → Kept n ms → Kept n (put k d ms)
put_kept n k d ms encodable deep h = (put_ascend k d ms h.0, put_encodable k d ms encodable h.1, put_depth n k d ms deep h.2)

at_most : (a m n : ℕ) → suc a ≤ suc m → suc m ≤ n → suc a ≤ n
at_most a m n h k = omega (arith, h, k)

metadata_kept : (n : ℕ) (members ms : Members) (m : ℕ) → suc m ≤ n → Kept m members → Kept n ms → Kept n (put_metadata members ms)
metadata_kept n no_members ms m low l h = h
metadata_kept n (member k d members) ms m low l h = put_kept n (codes "metadata") (object (member k d members)) ms (l.0, l.1) (at_most (members_depth (member k d members)) m n (one_deeper (members_depth (member k d members)) m l.2) low) h

life_kept : (n : ℕ) (b : Bool) (ms : Members) → Kept n ms → Kept n (less_life_if b ms)
life_kept n true ms h =
    less_kept n (codes "deletionTimestamp") _ (less_kept n (codes "deletionGracePeriodSeconds") _ (less_kept n (codes "generation") _ (less_kept n (codes "creationTimestamp") ms h)))
life_kept n false ms h = h

-- members of the object without `metadata`, and with what is left of it; and those of `metadata`
fields_kept : (ms others envelope : Members) → Kept (members_depth ms) ms → split_off (codes "metadata") (own_members ms) ≡ Some (others, envelope)
    → Kept (members_depth ms) (put_metadata (metadata_left envelope) others) × MembersAreEncodable envelope
fields_kept ms others envelope kept is =
    let n = members_depth ms in
    let own = less_kept n (codes "kind") (less (codes "apiVersion") ms) (less_kept n (codes "apiVersion") ms kept) in
    let found = map_some (λ m. (less (codes "metadata") (own_members ms), m)) (option_and_then as_object (get_member (codes "metadata") (own_members ms))) (others, envelope) is in
    let value = then_some as_object (get_member (codes "metadata") (own_members ms)) found.0 found.1 in
    let is_object = object_is value.0 found.0 value.2 in
    let there : get_member (codes "metadata") (own_members ms) ≡ Some (object found.0) = value.1 ∙ ap Some is_object in
    let encodable = found_encodable (codes "metadata") (object found.0) (own_members ms) own.1 there in
    let deep = found_depth n (codes "metadata") (object found.0) (own_members ms) own.2 there in
    let m = members_depth found.0 in
    let inner : Kept m found.0 = (encodable.0, encodable.1, itself m) in
    let left = less_kept m (codes "managedFields") _ (less_kept m (codes "resourceVersion") _ (less_kept m (codes "namespace") _ (less_kept m (codes "name") found.0 inner))) in
    let left_of_content = life_kept m _ _ (less_kept m (codes "uid") _ left) in
    let whole = metadata_kept n (metadata_left found.0) (less (codes "metadata") (own_members ms)) m deep left_of_content (less_kept n (codes "metadata") (own_members ms) own) in
    (subst (λ p. Kept n (put_metadata (metadata_left p.1) p.0)) found.2 whole, subst (λ p. MembersAreEncodable p.1) found.2 encodable.1)

owners_have : (es : Pairs) (w : Owners) → owners_of es ≡ Some w → HavePaths w
owners_have es w is = by_test (rising es && have_paths es) refl is
  where
    by_test : (b : Bool) → (rising es && have_paths es) ≡ b → cond b (Some (fin.from_entries es)) None ≡ Some w → HavePaths w
    by_test true h there = subst HavePaths (same_some (fin.from_entries es) w there) (owners_have_paths es (right_true (rising es) (have_paths es) h))
    by_test false h there = no_some w (sym there)

pub parts_content : (s : Shape) (d : Data) (state : State) (v : Stamp) → is_well_formed s ≡ true → IsEncodable d → depth d ≤ max_depth → parts_in s d ≡ Some (state, v)
    → IsContent s state.content × HavePaths state.owners × (v.version ≤ max_version) × IsCounted v.system
parts_content s d state v formed encodable deep is =
    let two = then_some (parts_of s) (split d) (state, v) is in
    let top = then_some (λ ms. split_off (codes "metadata") (own_members ms)) (as_object d) two.0 two.1 in
    let same = object_is d top.0 top.1 in
    let encodable_object = subst IsEncodable same encodable in
    let deep_object : suc (members_depth top.0) ≤ 127 = subst (λ x. depth x ≤ max_depth) same deep in
    let kept = fields_kept top.0 two.0.0 two.0.1 (encodable_object.0, encodable_object.1, itself (members_depth top.0)) top.2 in
    let stamp = then_some (state_with s two.0.0 two.0.1) (stamp_in two.0.1) (state, v) two.2 in
    let version = then_some (λ version. option_map {U = Stamp} (λ system. record { version = version; system = system }) (system_in two.0.1)) (version_in two.0.1) stamp.0 stamp.1 in
    let system = map_some {B = Stamp} (λ system. record { version = version.0; system = system }) (system_in two.0.1) stamp.0 version.2 in
    let owners = then_some (λ w. option_map {U = State × Stamp} (λ c. (record { content = c; owners = w }, stamp.0)) (if_read (content_of s (fields_of two.0.0 two.0.1)))) (owners_in s two.0.1) (state, v) stamp.2 in
    let content = map_some {B = State × Stamp} (λ c. (record { content = c; owners = owners.0 }, stamp.0)) (if_read (content_of s (fields_of two.0.0 two.0.1))) (state, v) owners.2 in
    let reads = read_some (content_of s (fields_of two.0.0 two.0.1)) content.0 content.1 in
    let is_content = reading_content s (fields_of two.0.0 two.0.1) content.0 formed (kept.0.0, kept.0.1) (at_most _ (members_depth top.0) 127 (one_deeper _ (members_depth top.0) kept.0.2) deep_object) reads in
    let numeral = then_some version_of (option_and_then as_str (get_member (codes "resourceVersion") two.0.1)) version.0 version.1 in
    let numbered = subst (λ x. x.version ≤ max_version) system.2 ((exact 9223372036854775807 numeral.0 version.0 fits).0 numeral.2).0 in
    let counted = stamp_counted two.0.1 kept.1 stamp.0 stamp.1 in
    let entries = then_some owners_of (option_and_then (entries_in s) (items_or_none (get_member (codes "managedFields") two.0.1))) owners.0 owners.1 in
    (subst (λ p. IsContent s p.0.content) content.2 is_content, subst (λ p. HavePaths p.0.owners) content.2 (owners_have entries.0 owners.0 entries.2), subst (λ p. p.1.version ≤ max_version) content.2 numbered, subst (λ p. IsCounted p.1.system) content.2 counted)
