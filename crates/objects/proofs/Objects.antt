-- The parts of an object's value.
use Rattle.std.proofs.Common.{◌≡◌, ℕ, false, List, [], ◌∷◌, map, length, ◌==◌, refl, ap, ap₂, ◌∙◌, true≢false, codes, Option}
use Rattle.serde_json.specs.Data.{Data, string, object, array, item, Members, put}
use Rattle.serde_json.specs.View.{items_of, items_view}
use Rattle.serde_json.specs.declared.value.Value.{Value}
use Rattle.pathmap.specs.Contents.{PathSet}
use Rattle.schema.specs.Shape.{Shape}
use Rattle.objects.specs.Owners.{Manager}
use Rattle.objects.specs.ObjectText.{Identity, entry_items, entry_value, put_entries, metadata_of, metadata_members, members_printed, with_envelope, object_value}
use Rattle.objects.specs.State.{State}
use Rattle.objects.specs.SystemMetadata.{Stamp}
use Rattle.typed.specs.Printing.{print}

module _ (s : Shape) (api_version : List ℕ) where
  abbrev pub value_of : Manager × PathSet → Data
  value_of e = entry_value s api_version e.0 e.1

  pub entries_map : (es : List (Manager × PathSet)) → items_of (map value_of es) ≡ entry_items s api_version es
  entries_map [] = refl
  entries_map (e ∷ es) = ap (item (value_of e)) (entries_map es)

pub put_some : (vs : List Value) (ms : Members) → (length vs == 0) ≡ false → put_entries (items_view vs) ms ≡ put (codes "managedFields") (array (items_view vs)) ms
put_some [] ms e = absurd (true≢false e)
put_some (v ∷ vs) ms e = refl

-- the envelope round what is printed
pub envelope : (s : Shape) (of : Identity) (stamp : Stamp) (state : State) (printed : Option Data) (members metadata base one two three : Members) → printed ≡ print s state.content
    → members ≡ metadata_members printed → metadata ≡ metadata_of s of stamp state.owners members → base ≡ members_printed printed
    → one ≡ put (codes "metadata") (object metadata) base → two ≡ put (codes "kind") (string of.kind) one → three ≡ put (codes "apiVersion") (string of.api_version) two → object three ≡ object_value s of stamp state
unfolding object_value
envelope s of stamp state printed members metadata base one two three is members_are metadata_is base_is one_is two_is three_is =
    ap object (three_is ∙ ap (put (codes "apiVersion") (string of.api_version)) (two_is ∙ ap (put (codes "kind") (string of.kind)) (one_is ∙ ap₂ (λ m b. put (codes "metadata") (object m) b) (metadata_is ∙ ap (metadata_of s of stamp state.owners) members_are) base_is)))
    ∙ ap (with_envelope s of stamp state.owners) is
