-- `metadata`, member by member.
use Rattle.std.proofs.Common.{◌≡◌, ◌++◌, ℕ, true, false, ◌&&◌, ◌==◌, nat_cmp, List, [], ◌∷◌, length, Option, Some, None, Less, String, Global, string_bytes, refl, sym, ap, ap₂, ◌∙◌, true≢false}
use Rattle.std.specs.Prelude.{codes, decimal}
use Rattle.std.specs.Cmp.Lexicographic.{slice_cmp}
use Rattle.std.specs.Ordering.{is_lt, match_ordering, ordering_reverse}
use Rattle.std.proofs.lemmas.Bool.{and_parts}
use Rattle.std.proofs.lemmas.Cmp.{nat_list_cmp_total}
use Rattle.serde_json.specs.Data.{Data, string, array, object, Items, no_items, item, Members, no_members, member, put}
use Rattle.serde_json.specs.View.{members_view, view}
use Rattle.serde_json.specs.Written.{compact_text, has_float, members_have_float, members_text}
use Rattle.serde_json.specs.declared.value.Value.{Value}
use Rattle.fieldpath.proofs.Names.{lt_is}
use Rattle.json_texts.specs.Writing.{AppendsMembers, Writing, with_closing, with_name, with_opening, with_text}
use Rattle.schema.specs.Shape.{Shape}
use Rattle.typed.proofs.Floats.{neither}
use Rattle.objects.specs.Appended.{then_members}
use Rattle.objects.specs.InOrder.{are_below, then_entries, then_key_and_version, then_uid}
use Rattle.objects.specs.Managers.{pairs}
use Rattle.objects.specs.ObjectText.{Identity, entry_items, metadata_round, put_entries}
use Rattle.objects.specs.SystemMetadata.{Stamp, System, put_uid}
use Rattle.objects.specs.declared.managers.Entry.{Entry}
use Rattle.objects.proofs.Appended.{member_appended, object_written}
use Rattle.objects.proofs.EntryTexts.{none_long}

abbrev pub Valued : Type 0
Valued = List (String Global × Value)

-- ---- members written one after another

-- what is left has no float, and written behind what is there gives all
abbrev pub AreWritten : Valued → Valued → Writing → Writing → Type 0
AreWritten all left start w = members_have_float (members_view all) ≡ false
    → (members_have_float (members_view left) ≡ false) × ((rest : Members) → w.text ++ members_text w.later (then_members (members_view left) rest) ≡ start.text ++ members_text start.later (then_members (members_view all) rest))

pub first_written : (all it : Valued) (start : Writing) → it ≡ all → AreWritten all it start start
first_written all it start started clean =
    (ap (λ es. members_have_float (members_view es)) started ∙ clean, λ rest. ap (λ es. start.text ++ members_text start.later (then_members (members_view es) rest)) started)

module _ (all it left : Valued) (e : String Global × Value) (steps : it ≡ e ∷ left) (start w : Writing) (before : AreWritten all it start w) where
  pub member_written : (one new : Writing) → one ≡ with_name (string_bytes e.0) w → (has_float (view e.1) ≡ false → new ≡ with_text (compact_text (view e.1)) one) → AreWritten all left start new
  member_written one new name value clean =
      let so_far = before clean in
      let parts = neither (has_float (view e.1)) (members_have_float (members_view left)) (sym (ap (λ es. members_have_float (members_view es)) steps) ∙ so_far.0) in (
        parts.1,
        λ rest. member_appended (string_bytes e.0) (view e.1) w one new name (value parts.0) (then_members (members_view left) rest)
            ∙ sym (ap (λ es. w.text ++ members_text w.later (then_members (members_view es) rest)) steps) ∙ so_far.1 rest,
      )

pub members_written : (all it : Valued) (start w : Writing) → it ≡ [] → AreWritten all it start w → members_have_float (members_view all) ≡ false → AppendsMembers (then_members (members_view all)) start w
members_written all it start w none before clean rest = sym (ap (λ es. w.text ++ members_text w.later (then_members (members_view es) rest)) none) ∙ (before clean).1 rest

-- ---- `managedFields`

pub nobody : (s : Shape) (a : List ℕ) (es : List Entry) (rest : Members) → (length es == 0) ≡ true → then_entries (entry_items s a (pairs es)) rest ≡ rest
nobody s a [] rest none = refl
nobody s a (e ∷ es) rest none = absurd (none_long (length es) none)

pub somebody : (s : Shape) (a : List ℕ) (es : List Entry) (rest : Members) → (length es == 0) ≡ false → then_entries (entry_items s a (pairs es)) rest ≡ member (codes "managedFields") (array (entry_items s a (pairs es))) rest
somebody s a [] rest some = absurd (true≢false some)
somebody s a (e ∷ es) rest some = refl

-- ---- members put behind others

then_none : (ms : Members) → then_members ms no_members ≡ ms
then_none no_members = refl
then_none (member k d ms) = ap (member k d) (then_none ms)

put_behind : (k : List ℕ) (d : Data) (ms rest : Members) → are_below k ms ≡ true → put k d (then_members ms rest) ≡ then_members ms (put k d rest)
put_behind k d no_members rest below = refl
put_behind k d (member l e ms) rest below =
    let parts = and_parts (is_lt (slice_cmp nat_cmp l k)) (are_below k ms) below in
    let above = nat_list_cmp_total.antisymm k l ∙ ap ordering_reverse (lt_is (slice_cmp nat_cmp l k) parts.0) in
    ap (λ o. match_ordering o (member k d (member l e (then_members ms rest))) (member l d (then_members ms rest)) (member l e (put k d (then_members ms rest)))) above ∙ ap (member l e) (put_behind k d ms rest parts.1)

-- what is below a name is below those above it
below_more : (k n : List ℕ) → slice_cmp nat_cmp k n ≡ Less → (ms : Members) → are_below k ms ≡ true → are_below n ms ≡ true
below_more k n less no_members below = refl
below_more k n less (member l e ms) below =
    let parts = and_parts (is_lt (slice_cmp nat_cmp l k)) (are_below k ms) below in
    ap₂ (λ a b. a && b) (ap is_lt (nat_list_cmp_total.trans l k n (lt_is (slice_cmp nat_cmp l k) parts.0) less)) (below_more k n less ms parts.1)

entries_behind : (ds : Items) (ms rest : Members) → are_below (codes "managedFields") ms ≡ true → put_entries ds (then_members ms rest) ≡ then_members ms (put_entries ds rest)
entries_behind no_items ms rest below = refl
entries_behind (item d ds) ms rest below = put_behind (codes "managedFields") (array (item d ds)) ms rest below

uid_behind : (system : Option System) (ms : Members) → are_below (codes "managedFields") ms ≡ true → put_uid system ms ≡ then_members ms (then_uid system no_members)
uid_behind None ms below = sym (then_none ms)
uid_behind (Some s) ms below =
    ap (put (codes "uid") (string s.uid)) (sym (then_none ms)) ∙ put_behind (codes "uid") (string s.uid) ms no_members (below_more (codes "managedFields") (codes "uid") refl ms below)

key_row : (of : Identity) (stamp : Stamp) (ds : Items)
    → put (codes "name") (string of.name) (put (codes "namespace") (string of.namespace) (put (codes "resourceVersion") (string (decimal stamp.version)) (put_entries ds (then_uid stamp.system no_members))))
    ≡ then_entries ds (then_key_and_version of stamp.version (then_uid stamp.system no_members))
key_row of stamp ds = by_system stamp.system ds
  where
    by_system : (system : Option System) (es : Items)
        → put (codes "name") (string of.name) (put (codes "namespace") (string of.namespace) (put (codes "resourceVersion") (string (decimal stamp.version)) (put_entries es (then_uid system no_members))))
        ≡ then_entries es (then_key_and_version of stamp.version (then_uid system no_members))
    by_system None no_items = refl
    by_system None (item d es) = refl
    by_system (Some s) no_items = refl
    by_system (Some s) (item d es) = refl

metadata_row : (of : Identity) (stamp : Stamp) (ds : Items) (ms : Members) → are_below (codes "managedFields") ms ≡ true
    → metadata_round of stamp ds ms ≡ then_members ms (then_entries ds (then_key_and_version of stamp.version (then_uid stamp.system no_members)))
metadata_row of stamp ds ms below =
    let uid = then_uid stamp.system no_members in
    let entries = put_entries ds uid in
    let numbered = put (codes "resourceVersion") (string (decimal stamp.version)) entries in
    let spaced = put (codes "namespace") (string of.namespace) numbered in
    ap (λ x. put (codes "name") (string of.name) (put (codes "namespace") (string of.namespace) (put (codes "resourceVersion") (string (decimal stamp.version)) x))) (ap (put_entries ds) (uid_behind stamp.system ms below) ∙ entries_behind ds ms uid below)
    ∙ ap (λ x. put (codes "name") (string of.name) (put (codes "namespace") (string of.namespace) x)) (put_behind (codes "resourceVersion") (string (decimal stamp.version)) ms entries (below_more (codes "managedFields") (codes "resourceVersion") refl ms below))
    ∙ ap (put (codes "name") (string of.name)) (put_behind (codes "namespace") (string of.namespace) ms numbered (below_more (codes "managedFields") (codes "namespace") refl ms below))
    ∙ put_behind (codes "name") (string of.name) ms spaced (below_more (codes "managedFields") (codes "name") refl ms below) ∙ ap (then_members ms) (key_row of stamp ds)

-- ---- the whole

pub metadata_written : (of : Identity) (stamp : Stamp) (ds : Items) (ms : Members) → are_below (codes "managedFields") ms ≡ true → (old one two three four five new : Writing) → one ≡ with_opening 123 old
    → AppendsMembers (then_members ms) one two → AppendsMembers (then_entries ds) two three → AppendsMembers (then_key_and_version of stamp.version) three four → AppendsMembers (then_uid stamp.system) four five → new ≡ with_closing 125 five
    → new ≡ with_text (compact_text (object (metadata_round of stamp ds ms))) old
metadata_written of stamp ds ms below old one two three four five new opened members entries key uid closed =
    object_written (λ rest. then_members ms (then_entries ds (then_key_and_version of stamp.version (then_uid stamp.system rest)))) old one five new opened
    (λ rest. uid rest ∙ key (then_uid stamp.system rest) ∙ entries (then_key_and_version of stamp.version (then_uid stamp.system rest)) ∙ members (then_entries ds (then_key_and_version of stamp.version (then_uid stamp.system rest)))) closed
    ∙ ap (λ x. with_text (compact_text (object x)) old) (sym (metadata_row of stamp ds ms below))
