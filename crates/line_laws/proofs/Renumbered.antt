-- An object's text at another version, and how deep an object's value is.
use Rattle.std.proofs.Common.{◌≡◌, ℕ, suc, ◌≤◌, Bool, true, cond, List, [], ◌∷◌, Option, Some, None, Ordering, Less, Equal, Greater, refl, sym, ap, ap₂, subst, ◌∙◌, arith, zero-le}
use Rattle.std.specs.Prelude.{codes, decimal, option_and_then, option_map, unwrap_or}
use Rattle.std.specs.FinMap as fin
use Rattle.std.specs.Ordering.{match_ordering}
use Rattle.std.proofs.lemmas.Bool.{and_parts}
use Rattle.serde_json.specs.Data.{Data, null, boolean, number, string, array, object, Items, no_items, item, Members, no_members, member, put, depth, items_depth, members_depth}
use Rattle.serde_json.specs.Find.{as_object, get_member}
use Rattle.serde_json.specs.Read.{read}
use Rattle.serde_json.specs.Written.{compact_text}
use Rattle.serde_json.proofs.Views.{get_member-put, get_member-put_other}
use Rattle.fieldpath.specs.Scalars.{ascend}
use Rattle.fieldpath.specs.Encodable.{member_names}
use Rattle.fieldset.specs.FieldsV1 as v1
use Rattle.pathmap.specs.Contents.{PathSet, marked}
use Rattle.schema.specs.Lawful.{depth_of, is_lawful, is_well_formed}
use Rattle.schema.specs.ObjectShape.{IsObjectShape}
use Rattle.schema.specs.Shape.{Shape}
use Rattle.schema.proofs.Members.{put_turned}
use Rattle.typed.specs.Fitting.{IsContent}
use Rattle.typed.specs.WellTyped.{ReadsBack}
use Rattle.typed.specs.Printing.{print}
use Rattle.typed.proofs.Depths.{content_deep}
use Rattle.objects.proofs.FieldTexts.{members_fine, put_depth}
use Rattle.typed.proofs.Fitting.{content_well_typed}
use Rattle.typed.proofs.RoundTrip.{round}
use Rattle.typed.proofs.Spelling.{lawful_depth}
use Rattle.objects.specs.State.{State}
use Rattle.objects.specs.ObjectText.{Identity, entry_items, entry_members, entry_value, members_printed, metadata_members, metadata_of, object_text, object_value, put_entries, put_filled}
use Rattle.objects.specs.Owners.{Manager, Owners, operation_text, subresource_text}
use Rattle.json_values.specs.Members.{less}
use Rattle.objects.specs.ReadBack.{IsCounted, IsObjectText, max_version}
use Rattle.objects.specs.SystemMetadata.{Stamp, System, at_version, put_deletion, put_life, put_system, whole_value}
use Rattle.objects.proofs.Back.{text_read}
use Rattle.objects.proofs.Taken.{apart, cmp, found_depth, put_back, same_text}
use Rattle.objects.proofs.Textual.{value_clean, value_textual}
use Rattle.watchline.specs.Versions.{text_at_version, text_of, value_at, value_of}
use Rattle.line_laws.specs.Shown.{IsShown}

-- ---- members, put twice and taken out

put_first : (k : List ℕ) (d e : Data) (ms : Members) → put k d (member k e ms) ≡ member k d ms
put_first k d e ms = ap (λ o. match_ordering o (member k d (member k e ms)) (member k d ms) (member k e (put k d ms))) (same_text k)

put_again : (k : List ℕ) (d e : Data) (ms : Members) → put k d (put k e ms) ≡ put k d ms
put_again k d e no_members = put_first k d e no_members
put_again k d e (member l f ms) = by_order (cmp k l) refl (put_again k d e ms)
  where
    by_order : (o : Ordering) → cmp k l ≡ o → put k d (put k e ms) ≡ put k d ms
        → put k d (match_ordering o (member k e (member l f ms)) (member l e ms) (member l f (put k e ms))) ≡ match_ordering o (member k d (member l f ms)) (member l d ms) (member l f (put k d ms))
    by_order Less is later = put_first k d e (member l f ms)
    by_order Equal is later = ap (λ o. match_ordering o (member k d (member l e ms)) (member l d ms) (member l e (put k d ms))) is
    by_order Greater is later =
        ap (λ o. match_ordering o (member k d (member l f (put k e ms))) (member l d (put k e ms)) (member l f (put k d (put k e ms)))) is ∙ ap (member l f) later

-- ---- another version

-- a version put over another, among the names before it
version_over : (name namespace old new : Data) (ms : Members)
    → put (codes "resourceVersion") new (put (codes "name") name (put (codes "namespace") namespace (put (codes "resourceVersion") old ms)))
    ≡ put (codes "name") name (put (codes "namespace") namespace (put (codes "resourceVersion") new ms))
version_over name namespace old new ms =
    put_turned (codes "resourceVersion") (codes "name") new name (put (codes "namespace") namespace (put (codes "resourceVersion") old ms)) (λ same. absurd (apart (codes "resourceVersion") (codes "name") refl same))
    ∙ ap (put (codes "name") name) (put_turned (codes "resourceVersion") (codes "namespace") new namespace (put (codes "resourceVersion") old ms) (λ same. absurd (apart (codes "resourceVersion") (codes "namespace") refl same)))
    ∙ ap (λ l. put (codes "name") name (put (codes "namespace") namespace l)) (put_again (codes "resourceVersion") new old ms)

abbrev pub enveloped : Data → Data → Data → Members → Members
enveloped api_version kind metadata base = put (codes "apiVersion") api_version (put (codes "kind") kind (put (codes "metadata") metadata base))

pub metadata_there : (api_version kind metadata : Data) (base : Members) → get_member (codes "metadata") (enveloped api_version kind metadata base) ≡ Some metadata
metadata_there api_version kind metadata base =
    get_member-put_other (codes "metadata") (codes "apiVersion") api_version (put (codes "kind") kind (put (codes "metadata") metadata base)) (apart (codes "metadata") (codes "apiVersion") refl)
    ∙ get_member-put_other (codes "metadata") (codes "kind") kind (put (codes "metadata") metadata base) (apart (codes "metadata") (codes "kind") refl)
    ∙ get_member-put (codes "metadata") metadata base

metadata_over : (api_version kind old new : Data) (base : Members) → put (codes "metadata") old (enveloped api_version kind new base) ≡ enveloped api_version kind old base
metadata_over api_version kind old new base =
    put_turned (codes "metadata") (codes "apiVersion") old api_version (put (codes "kind") kind (put (codes "metadata") new base)) (λ same. absurd (apart (codes "metadata") (codes "apiVersion") refl same))
    ∙ ap (put (codes "apiVersion") api_version) (put_turned (codes "metadata") (codes "kind") old kind (put (codes "metadata") new base) (λ same. absurd (apart (codes "metadata") (codes "kind") refl same)))
    ∙ ap (λ l. put (codes "apiVersion") api_version (put (codes "kind") kind l)) (put_again (codes "metadata") old new base)

-- an object with `metadata` taken out and put in with another version
value_over : (revision : ℕ) (api_version kind : Data) (meta new base : Members) → put (codes "resourceVersion") (string (decimal revision)) meta ≡ new
    → ascend (member_names (enveloped api_version kind (object new) base)) ≡ true
    → value_at revision (object (enveloped api_version kind (object meta) base)) ≡ Some (object (enveloped api_version kind (object new) base))
value_over revision api_version kind meta new base is up =
    let old = enveloped api_version kind (object meta) base in
    ap (λ o. option_map (λ (p : Members × Members). value_of revision p.0 p.1) (option_map (λ (m : Members). (less (codes "metadata") old, m)) (option_and_then as_object o))) (metadata_there api_version kind (object meta) base)
    ∙ ap (λ o. Some (object o)) (
    ap₂ (λ m others. put (codes "metadata") (object m) others) is (ap (less (codes "metadata")) (sym (metadata_over api_version kind (object meta) (object new) base)))
    ∙ put_back (codes "metadata") (object meta) (object new) (enveloped api_version kind (object new) base) up (metadata_there api_version kind (object new) base)
    )

module _ (s : Shape) (of : Identity) (state : State) (lawful : is_lawful s ≡ true) (content : IsContent s state.content) where
  pub object_over : (v : Stamp) (r : ℕ) → IsCounted v.system → value_at r (object_value s of v state) ≡ Some (object_value s of (at_version r v) state)
  unfolding object_value
  object_over v r counted =
      let base = members_printed (print s state.content) in
      let labels = metadata_members (print s state.content) in
      value_over r (string of.api_version) (string of.kind) (metadata_of s of v state.owners labels) (metadata_of s of (at_version r v) state.owners labels) base
      (version_over (string of.name) (string of.namespace) (string (decimal v.version)) (string (decimal r)) (put_entries (entry_items s of.api_version (fin.entries state.owners)) (put_system v.system labels)))
      (value_textual s lawful of (at_version r v) state content counted).0.0

  pub text_over : (v : Stamp) (r : ℕ) (text : List ℕ) → IsCounted v.system → read text ≡ Some (object_value s of v state) → text_at_version r text ≡ object_text s of (at_version r v) state
  unfolding object_text
  text_over v r text counted is =
      ap (λ o. unwrap_or (option_and_then text_of (option_and_then (value_at r) o)) text) is
      ∙ ap (λ o. unwrap_or (option_and_then text_of o) text) (object_over v r counted)
      ∙ ap (λ (b : Bool). unwrap_or (cond b None (Some (compact_text (object_value s of (at_version r v) state)))) text) (value_clean s lawful of (at_version r v) state content)

pub shows_text : (s : Shape) (of : Identity) (v : Stamp) (r : ℕ) (state : State) (text : List ℕ) → IsObjectShape s → IsObjectText s of v state text → text_at_version r text ≡ object_text s of (at_version r v) state
shows_text s of v r state text shaped said = text_over s of state shaped.1 said.well_typed.0 v r text said.counted (text_read s of v state text shaped said)

pub shows_object : (s : Shape) (of : Identity) (v : Stamp) (r : ℕ) (state : State) (text : List ℕ) → IsObjectShape s → IsObjectText s of v state text → r ≤ max_version → IsObjectText s of (at_version r v) state (text_at_version r text)
shows_object s of v r state text shaped said low = record { well_typed = said.well_typed; numbered = low; counted = said.counted; is_text = shows_text s of v r state text shaped said }

-- ---- how deep

abbrev Within : ℕ → Members → Type 0
Within n ms = members_depth ms ≤ n

more_within : (m n a : ℕ) → m ≤ n → a ≤ m → a ≤ n
more_within m n a h k = omega (arith, h, k)

within_text : (n : ℕ) (k t : List ℕ) (ms : Members) → Within n ms → Within n (put k (string t) ms)
within_text n k t ms h = put_depth n k (string t) ms zero-le h

within_filled : (n : ℕ) (k t : List ℕ) (ms : Members) → Within n ms → Within n (put_filled k t ms)
within_filled n k [] ms h = h
within_filled n k (b ∷ bs) ms h = within_text n k (b ∷ bs) ms h

system_within : (n : ℕ) (system : Option System) (ms : Members) → Within n ms → Within n (put_system system ms)
system_within n None ms h = h
system_within n (Some s) ms h =
    within_text n (codes "uid") s.uid (put_life (Some s) ms) (within_text n (codes "creationTimestamp") s.created _ (put_depth n (codes "generation") (whole_value s.generation) _ zero-le (deletion_within s.deleted)))
  where
    deletion_within : (deleted : Option (List ℕ)) → Within n (put_deletion deleted ms)
    deletion_within None = h
    deletion_within (Some moment) = put_depth n (codes "deletionGracePeriodSeconds") (whole_value 0) _ zero-le (within_text n (codes "deletionTimestamp") moment ms h)

within_printed : (n : ℕ) (o : Option Data) → ((d : Data) → o ≡ Some d → depth d ≤ n) → Within n (members_printed o)
within_printed n None h = zero-le
within_printed n (Some null) h = zero-le
within_printed n (Some (boolean b)) h = zero-le
within_printed n (Some (number x)) h = zero-le
within_printed n (Some (string t)) h = zero-le
within_printed n (Some (array ds)) h = zero-le
within_printed n (Some (object ms)) h = let low : suc (members_depth ms) ≤ n = h (object ms) refl in omega (arith, low)

module _ (s : Shape) (lawful : is_lawful s ≡ true) where
  entry_within : (api_version : List ℕ) (m : Manager) (paths : PathSet) → depth (entry_value s api_version m paths) ≤ 19
  entry_within api_version m paths =
      let named : Within 18 (put_filled (codes "subresource") (subresource_text m.subresource) no_members) = within_filled 18 (codes "subresource") (subresource_text m.subresource) no_members zero-le in
      let operation = within_text 18 (codes "operation") (operation_text m.operation) _ named in
      let manager = within_text 18 (codes "manager") m.name _ operation in
      let low : depth_of s ≤ 16 = lawful_depth s lawful in
      let inside : members_depth (v1.members_of s (marked paths)) ≤ depth_of s = (members_fine s (marked paths)).3 in
      let fields : depth (v1.fields_v1_of s paths) ≤ 18 = omega (arith, low, inside) in
      let with_fields = put_depth 18 (codes "fieldsV1") (v1.fields_v1_of s paths) _ fields manager in
      let whole : Within 18 (entry_members s api_version m paths) = within_text 18 (codes "apiVersion") api_version _ (within_text 18 (codes "fieldsType") (codes "FieldsV1") _ with_fields) in
      omega (arith, whole)

  items_within : (api_version : List ℕ) (es : List (Manager × PathSet)) → items_depth (entry_items s api_version es) ≤ 19
  items_within api_version [] = zero-le
  items_within api_version (e ∷ es) =
      let one : depth (entry_value s api_version e.0 e.1) ≤ 19 = entry_within api_version e.0 e.1 in
      let others : items_depth (entry_items s api_version es) ≤ 19 = items_within api_version es in
      omega (arith, one, others)

  entries_within : (ds : Items) (labels : Members) → items_depth ds ≤ 19 → Within 20 labels → Within 20 (put_entries ds labels)
  entries_within no_items labels h low = low
  entries_within (item d ds) labels h low = put_depth 20 (codes "managedFields") (array (item d ds)) labels (one_more (items_depth (item d ds)) h) low
    where
      one_more : (a : ℕ) → a ≤ 19 → suc a ≤ 20
      one_more a k = omega (arith, k)

  metadata_within : (of : Identity) (stamp : Stamp) (owners : Owners) (labels : Members) → Within 20 labels → Within 20 (metadata_of s of stamp owners labels)
  metadata_within of stamp owners labels low =
      within_text 20 (codes "name") of.name _ (within_text 20 (codes "namespace") of.namespace _ (within_text 20 (codes "resourceVersion") (decimal stamp.version) _
      (entries_within (entry_items s of.api_version (fin.entries owners)) (put_system stamp.system labels) (items_within of.api_version (fin.entries owners)) (system_within 20 stamp.system labels low))))

  module _ (state : State) (content : IsContent s state.content) where
    printed_within : (d : Data) → print s state.content ≡ Some d → depth d ≤ 16
    printed_within d is =
        let formed = (and_parts (is_well_formed s) _ lawful).0 in
        let reads = (subst (λ o. ReadsBack s o state.content) is (round s state.content formed (content_well_typed s formed state.content content))).1 in
        let inside : depth d ≤ depth_of s = content_deep s d state.content reads in
        let low : depth_of s ≤ 16 = lawful_depth s lawful in
        omega (arith, inside, low)

    base_within : Within 16 (members_printed (print s state.content))
    base_within = within_printed 16 (print s state.content) printed_within

    labels_within : Within 16 (metadata_members (print s state.content))
    labels_within =
        let base = members_printed (print s state.content) in
        within_printed 16 (get_member (codes "metadata") base) (λ d is. found_depth 16 (codes "metadata") d base base_within is)

    pub value_within : (of : Identity) (v : Stamp) → depth (object_value s of v state) ≤ 22
    unfolding object_value
    value_within of v =
        let base = members_printed (print s state.content) in
        let labels = metadata_members (print s state.content) in
        let meta : Within 20 (metadata_of s of v state.owners labels) = metadata_within of v state.owners labels (more_within 16 20 (members_depth labels) (omega arith) labels_within) in
        let one : depth (object (metadata_of s of v state.owners labels)) ≤ 21 = omega (arith, meta) in
        let with_metadata = put_depth 21 (codes "metadata") (object (metadata_of s of v state.owners labels)) base one (more_within 16 21 (members_depth base) (omega arith) base_within) in
        let all : Within 21 (enveloped (string of.api_version) (string of.kind) (object (metadata_of s of v state.owners labels)) base) = within_text 21 (codes "apiVersion") of.api_version _ (within_text 21 (codes "kind") of.kind _ with_metadata) in
        omega (arith, all)

pub has_room : (s : Shape) (of : Identity) (v : Stamp) (state : State) → is_lawful s ≡ true → IsContent s state.content → IsCounted v.system → IsShown (object_value s of v state)
has_room s of v state lawful content counted =
    let low : depth (object_value s of v state) ≤ 22 = value_within s lawful state content of v in
    record { encodable = (value_textual s lawful of v state content counted).0; whole = value_clean s lawful of v state content; shallow = omega (arith, low) }

pub text_is : (s : Shape) (of : Identity) (v : Stamp) (state : State) → object_text s of v state ≡ compact_text (object_value s of v state)
unfolding object_text
text_is s of v state = refl
