-- How many members an object is printed with.
use Rattle.std.proofs.Common.{◌≡◌, ℕ, refl, sym, ap, ◌∙◌}
use Rattle.std.specs.Prelude.{codes, decimal, option_and_then}
use Rattle.serde_json.specs.Data.{string, array, object, Items, no_items, item, Members, put}
use Rattle.serde_json.specs.Find.{as_object, get_member}
use Rattle.serde_json.proofs.Views.{get_member-put, get_member-put_other}
use Rattle.json_values.specs.Members.{members_at}
use Rattle.schema.specs.Shape.{Shape}
use Rattle.std.specs.FinMap as fin
use Rattle.typed.specs.Printing.{print}
use Rattle.objects.specs.State.{State}
use Rattle.objects.specs.Labels.{HasLabels, label_count, labels_of, size}
use Rattle.objects.specs.ObjectText.{Identity, entry_items, members_printed, metadata_members, metadata_of, object_value, put_entries}
use Rattle.objects.specs.SystemMetadata.{Stamp, put_system}
use Rattle.objects.proofs.SystemMetadata.{past_system}
use Rattle.objects.proofs.Taken.{apart}

past_entries : (ds : Items) (ms : Members) → get_member (codes "labels") (put_entries ds ms) ≡ get_member (codes "labels") ms
past_entries no_items ms = refl
past_entries (item d ds) ms = get_member-put_other (codes "labels") (codes "managedFields") (array (item d ds)) ms (apart (codes "labels") (codes "managedFields") refl)

pub labels_counted : (s : Shape) (of : Identity) (stamp : Stamp) (state : State) → label_count (object_value s of stamp state) ≡ size (option_and_then as_object (get_member (codes "labels") (metadata_members (print s state.content))))
unfolding object_value
labels_counted s of stamp state =
    let base = members_printed (print s state.content) in
    let members = metadata_members (print s state.content) in
    let said = put_system stamp.system members in
    let entries = put_entries (entry_items s of.api_version (fin.entries state.owners)) said in
    let numbered = put (codes "resourceVersion") (string (decimal stamp.version)) entries in
    let spaced = put (codes "namespace") (string of.namespace) numbered in
    let metadata = metadata_of s of stamp state.owners members in
    let one = put (codes "metadata") (object metadata) base in
    let two = put (codes "kind") (string of.kind) one in
    let found =
    get_member-put_other (codes "metadata") (codes "apiVersion") (string of.api_version) two (apart (codes "metadata") (codes "apiVersion") refl)
    ∙ get_member-put_other (codes "metadata") (codes "kind") (string of.kind) one (apart (codes "metadata") (codes "kind") refl) ∙ get_member-put (codes "metadata") (object metadata) base in
    let kept =
    get_member-put_other (codes "labels") (codes "name") (string of.name) spaced (apart (codes "labels") (codes "name") refl)
    ∙ get_member-put_other (codes "labels") (codes "namespace") (string of.namespace) numbered (apart (codes "labels") (codes "namespace") refl)
    ∙ get_member-put_other (codes "labels") (codes "resourceVersion") (string (decimal stamp.version)) entries (apart (codes "labels") (codes "resourceVersion") refl)
    ∙ past_entries (entry_items s of.api_version (fin.entries state.owners)) said ∙ past_system (codes "labels") refl stamp.system members in
    ap (λ o. size (option_and_then labels_of o)) found ∙ ap (λ o. size (option_and_then as_object o)) kept

-- a count of the members in what is printed as `metadata`
pub has_labels : (s : Shape) (state : State) (n : ℕ) (metadata : Members) → n ≡ size (members_at (codes "labels") metadata) → metadata ≡ metadata_members (print s state.content) → HasLabels n s state
has_labels s state n metadata counted are = λ of stamp. counted ∙ ap (λ ms. size (members_at (codes "labels") ms)) are ∙ sym (labels_counted s of stamp state)
