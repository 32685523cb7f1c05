-- An object's value is one that its compact text spells.
use Rattle.std.proofs.Common.{◌≡◌, ◌≤◌, ℕ, suc, true, false, nat_le, List, [], ◌∷◌, Option, Some, None, Ordering, Less, Equal, Greater, refl, sym, ap, ◌∙◌, subst, arith}
use Rattle.std.specs.Prelude.{◌<◌, ◌^◌, codes, decimal}
use Rattle.std.proofs.lemmas.Bool.{and_parts}
use Rattle.std.specs.FinMap as fin
use Rattle.std.specs.Ordering.{match_ordering}
use Rattle.serde_json.specs.Data.{Data, null, boolean, number, string, array, object, Items, no_items, item, Members, no_members, member, put, depth, items_depth, members_depth}
use Rattle.serde_json.specs.Find.{get_member}
use Rattle.serde_json.specs.Written.{has_float, items_have_float, members_have_float}
use Rattle.fieldpath.specs.Encodable.{IsEncodable, AreEncodable}
use Rattle.fieldpath.proofs.Encodable.{put_ascend, put_encodable}
use Rattle.fieldset.specs.FieldsV1 as v1
use Rattle.pathmap.specs.Contents.{PathSet, marked}
use Rattle.schema.specs.Lawful.{depth_of, depth_limit, is_lawful, is_well_formed}
use Rattle.schema.specs.Shape.{Shape}
use Rattle.typed.specs.Fitting.{IsContent, IsTextual}
use Rattle.typed.specs.WellTyped.{ReadsBack}
use Rattle.typed.specs.Printing.{print}
use Rattle.typed.proofs.Depths.{content_deep}
use Rattle.objects.proofs.FieldTexts.{Fine, fine_none, fine_more, members_fine, put_depth}
use Rattle.typed.proofs.Fitting.{content_well_typed}
use Rattle.typed.proofs.Floats.{both, neither, put_clean}
use Rattle.typed.proofs.RoundTrip.{round}
use Rattle.typed.proofs.Spelling.{lawful_depth, printed_textual, textual}
use Rattle.objects.specs.State.{State}
use Rattle.objects.specs.ReadBack.{IsCounted}
use Rattle.objects.specs.SystemMetadata.{Stamp, System, put_deletion, put_life, put_system, whole_value}
use Rattle.objects.proofs.SystemMetadata.{system_clean}
use Rattle.objects.specs.ObjectText.{Identity, members_printed, metadata_members, metadata_of, put_entries, put_filled, entry_members, entry_value, entry_items, object_value}
use Rattle.objects.specs.Owners.{Manager, Owners, operation_text, subresource_text}
use Rattle.objects.proofs.Taken.{no_some, same_some, cmp, no_deeper, found_encodable, found_depth}

abbrev pub IsFine : ℕ → Data → Type 0
IsFine n d = IsEncodable d × (has_float d ≡ false) × (depth d ≤ n)

pub one_deeper : (a n : ℕ) → a ≤ n → suc a ≤ suc n
one_deeper a n h = omega (arith, h)

less_deep : (a n : ℕ) → suc a ≤ n → a ≤ n
less_deep a n h = omega (arith, h)

at_most : (a m n : ℕ) → a ≤ m → m ≤ n → a ≤ n
at_most a m n h k = omega (arith, h, k)

none_deep : (n : ℕ) → 0 ≤ n
none_deep n = omega arith

fine_put : (n : ℕ) (k : List ℕ) (d : Data) (ms : Members) → IsFine n d → Fine n ms → Fine n (put k d ms)
fine_put n k d ms one all = (put_ascend k d ms all.0, put_encodable k d ms one.0 all.1, put_clean k d ms one.1 all.2, put_depth n k d ms one.2 all.3)

fine_text : (n : ℕ) (t : List ℕ) → IsFine n (string t)
fine_text n t = (tt, refl, none_deep n)

fine_object : (n : ℕ) (ms : Members) → Fine n ms → IsFine (suc n) (object ms)
fine_object n ms h = ((h.0, h.1), h.2, one_deeper (members_depth ms) n h.3)

fine_whole : (n g : ℕ) → g < 2 ^ 64 → IsFine n (whole_value g)
fine_whole n g low = (low, refl, none_deep n)

fine_system : (n : ℕ) (system : Option System) (ms : Members) → IsCounted system → Fine n ms → Fine n (put_system system ms)
fine_system n None ms counted h = h
fine_system n (Some s) ms counted h =
    let generation = fine_put n (codes "generation") (whole_value s.generation) _ (fine_whole n s.generation counted) (fine_deletion s.deleted) in
    let life = fine_put n (codes "creationTimestamp") (string s.created) _ (fine_text n s.created) generation in
    fine_put n (codes "uid") (string s.uid) (put_life (Some s) ms) (fine_text n s.uid) life
  where
    no_time : 0 < 2 ^ 64
    no_time = omega arith

    fine_deletion : (deleted : Option (List ℕ)) → Fine n (put_deletion deleted ms)
    fine_deletion None = h
    fine_deletion (Some moment) = fine_put n (codes "deletionGracePeriodSeconds") (whole_value 0) _ (fine_whole n 0 no_time) (fine_put n (codes "deletionTimestamp") (string moment) ms (fine_text n moment) h)

-- ---- what is found

found_clean : (k : List ℕ) (d : Data) (ms : Members) → members_have_float ms ≡ false → get_member k ms ≡ Some d → has_float d ≡ false
found_clean k d no_members all h = no_some d (sym h)
found_clean k d (member l e ms) all h = by_order (cmp k l) (found_clean k d ms (neither (has_float e) (members_have_float ms) all).1) h
  where
    by_order : (o : Ordering) → (get_member k ms ≡ Some d → has_float d ≡ false) → match_ordering o (get_member k ms) (Some e) (get_member k ms) ≡ Some d → has_float d ≡ false
    by_order Less later there = later there
    by_order Equal later there = ap has_float (sym (same_some e d there)) ∙ (neither (has_float e) (members_have_float ms) all).0
    by_order Greater later there = later there

fine_found : (n : ℕ) (k : List ℕ) (ms : Members) → Fine n ms → (d : Data) → get_member k ms ≡ Some d → IsFine n d
fine_found n k ms h d is = (found_encodable k d ms h.1 is, found_clean k d ms h.2 is, found_depth n k d ms h.3 is)

fine_of_data : (n : ℕ) (d : Data) → IsFine n d → Fine n (members_printed (Some d))
fine_of_data n null h = fine_none n
fine_of_data n (boolean b) h = fine_none n
fine_of_data n (number x) h = fine_none n
fine_of_data n (string s) h = fine_none n
fine_of_data n (array ds) h = fine_none n
fine_of_data n (object ms) h = (h.0.0, h.0.1, h.1, less_deep (members_depth ms) n h.2)

fine_printed : (n : ℕ) (o : Option Data) → ((d : Data) → o ≡ Some d → IsFine n d) → Fine n (members_printed o)
fine_printed n None h = fine_none n
fine_printed n (Some d) h = fine_of_data n d (h d refl)

-- ---- an entry

fine_filled : (n : ℕ) (k t : List ℕ) (ms : Members) → Fine n ms → Fine n (put_filled k t ms)
fine_filled n k [] ms h = h
fine_filled n k (b ∷ bs) ms h = fine_put n k (string (b ∷ bs)) ms (fine_text n (b ∷ bs)) h

module _ (s : Shape) (lawful : is_lawful s ≡ true) where
  low : depth_of s ≤ 99
  low = at_most (depth_of s) 16 99 (lawful_depth s lawful) (omega arith)

  fields_fine : (paths : PathSet) → IsFine 100 (v1.fields_v1_of s paths)
  fields_fine paths = fine_object 99 (v1.members_of s (marked paths)) (fine_more (depth_of s) 99 (v1.members_of s (marked paths)) low (members_fine s (marked paths)))

  entry_fine : (api_version : List ℕ) (m : Manager) (paths : PathSet) → IsFine 101 (entry_value s api_version m paths)
  entry_fine api_version m paths =
      let sub = fine_filled 100 (codes "subresource") (subresource_text m.subresource) no_members (fine_none 100) in
      let operation = fine_put 100 (codes "operation") (string (operation_text m.operation)) _ (fine_text 100 (operation_text m.operation)) sub in
      let manager = fine_put 100 (codes "manager") (string m.name) _ (fine_text 100 m.name) operation in
      let fields = fine_put 100 (codes "fieldsV1") (v1.fields_v1_of s paths) _ (fields_fine paths) manager in
      let kind = fine_put 100 (codes "fieldsType") (string (codes "FieldsV1")) _ (fine_text 100 (codes "FieldsV1")) fields in
      fine_object 100 (entry_members s api_version m paths) (fine_put 100 (codes "apiVersion") (string api_version) _ (fine_text 100 api_version) kind)

  abbrev FineItems : ℕ → Items → Type 0
  FineItems n ds = AreEncodable ds × (items_have_float ds ≡ false) × (items_depth ds ≤ n)

  items_fine : (api_version : List ℕ) (es : List (Manager × PathSet)) → FineItems 101 (entry_items s api_version es)
  items_fine api_version [] = (tt, refl, none_deep 101)
  items_fine api_version (e ∷ es) =
      let one = entry_fine api_version e.0 e.1 in
      let rest = items_fine api_version es in (
        (one.0, rest.0),
        both (has_float (entry_value s api_version e.0 e.1)) (items_have_float (entry_items s api_version es)) one.1 rest.1,
        no_deeper (depth (entry_value s api_version e.0 e.1)) (items_depth (entry_items s api_version es)) 101 one.2 rest.2,
      )

  entries_fine : (ds : Items) (members : Members) → FineItems 101 ds → Fine 102 members → Fine 102 (put_entries ds members)
  entries_fine no_items members h fine = fine
  entries_fine (item d ds) members h fine = fine_put 102 (codes "managedFields") (array (item d ds)) members (h.0, h.1, one_deeper (items_depth (item d ds)) 101 h.2) fine

  metadata_fine : (of : Identity) (stamp : Stamp) (owners : Owners) (members : Members) → IsCounted stamp.system → Fine 102 members → IsFine 103 (object (metadata_of s of stamp owners members))
  metadata_fine of stamp owners members counted fine =
      let entries = entries_fine (entry_items s of.api_version (fin.entries owners)) (put_system stamp.system members) (items_fine of.api_version (fin.entries owners)) (fine_system 102 stamp.system members counted fine) in
      let numbered = fine_put 102 (codes "resourceVersion") (string (decimal stamp.version)) _ (fine_text 102 (decimal stamp.version)) entries in
      let well_typed = fine_put 102 (codes "namespace") (string of.namespace) _ (fine_text 102 of.namespace) numbered in
      fine_object 102 (metadata_of s of stamp owners members) (fine_put 102 (codes "name") (string of.name) _ (fine_text 102 of.name) well_typed)

  entries_clean : (ds : Items) (members : Members) → items_have_float ds ≡ false → members_have_float members ≡ false → members_have_float (put_entries ds members) ≡ false
  entries_clean no_items members h clean = clean
  entries_clean (item d ds) members h clean = put_clean (codes "managedFields") (array (item d ds)) members h clean

  -- whatever the system says
  pub metadata_clean : (of : Identity) (stamp : Stamp) (owners : Owners) (members : Members) → members_have_float members ≡ false → has_float (object (metadata_of s of stamp owners members)) ≡ false
  metadata_clean of stamp owners members clean =
      let listed = put_entries (entry_items s of.api_version (fin.entries owners)) (put_system stamp.system members) in
      let numbered = put (codes "resourceVersion") (string (decimal stamp.version)) listed in
      let entries = entries_clean (entry_items s of.api_version (fin.entries owners)) (put_system stamp.system members) (items_fine of.api_version (fin.entries owners)).1 (system_clean stamp.system members clean) in
      put_clean (codes "name") (string of.name) (put (codes "namespace") (string of.namespace) numbered) refl
      (put_clean (codes "namespace") (string of.namespace) numbered refl (put_clean (codes "resourceVersion") (string (decimal stamp.version)) listed refl entries))

  -- ---- the object

  module _ (of : Identity) (stamp : Stamp) (state : State) (content : IsContent s state.content) where
    printed_fine : (d : Data) → print s state.content ≡ Some d → IsFine 100 d
    printed_fine d is =
        let formed = (and_parts (is_well_formed s) (nat_le (depth_of s) (depth_limit s)) lawful).0 in
        let reads = (subst (λ o. ReadsBack s o state.content) is (round s state.content formed (content_well_typed s formed state.content content))).1 in
        let text = printed_textual s state.content d lawful content is in
        (text.0, text.1, at_most (depth d) (depth_of s) 100 (content_deep s d state.content reads) (at_most (depth_of s) 16 100 (lawful_depth s lawful) (omega arith)))

    base_fine : Fine 100 (members_printed (print s state.content))
    base_fine = fine_printed 100 (print s state.content) printed_fine

    pub metadata_members_fine : Fine 102 (metadata_members (print s state.content))
    metadata_members_fine =
        let base = members_printed (print s state.content) in
        fine_more 100 102 (metadata_members (print s state.content)) (omega arith) (fine_printed 100 (get_member (codes "metadata") base) (fine_found 100 (codes "metadata") base base_fine))

    pub value_clean : has_float (object_value s of stamp state) ≡ false
    unfolding object_value
    value_clean =
        let base = members_printed (print s state.content) in
        let metadata = object (metadata_of s of stamp state.owners (metadata_members (print s state.content))) in
        let inner = put (codes "metadata") metadata base in
        let one = put_clean (codes "metadata") metadata base (metadata_clean of stamp state.owners (metadata_members (print s state.content)) metadata_members_fine.2) base_fine.2 in
        put_clean (codes "apiVersion") (string of.api_version) (put (codes "kind") (string of.kind) inner) refl (put_clean (codes "kind") (string of.kind) inner refl one)

    pub value_textual : IsCounted stamp.system → IsTextual (object_value s of stamp state)
    unfolding object_value
    value_textual counted =
        let base = members_printed (print s state.content) in
        let metadata = metadata_fine of stamp state.owners (metadata_members (print s state.content)) counted metadata_members_fine in
        let one = fine_put 103 (codes "metadata") _ base metadata (fine_more 100 103 base (omega arith) base_fine) in
        let two = fine_put 103 (codes "kind") (string of.kind) _ (fine_text 103 of.kind) one in
        let whole = fine_object 103 _ (fine_put 103 (codes "apiVersion") (string of.api_version) _ (fine_text 103 of.api_version) two) in
        textual _ whole.0 whole.1 (at_most _ 104 127 whole.2 (omega arith))
