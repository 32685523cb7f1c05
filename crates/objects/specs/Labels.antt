-- How many labels an object has (ObjectMeta v1, `labels`).
use Rattle.std.specs.Prelude.{◌≡◌, ℕ, Option, Some, None, option_and_then, codes}
use Rattle.serde_json.specs.Data.{Data, Members}
use Rattle.serde_json.specs.Events.{members_len}
use Rattle.serde_json.specs.Find.{as_object, get}
use Rattle.schema.specs.Shape.{Shape}
use Rattle.objects.specs.ObjectText.{Identity, object_value}
use Rattle.objects.specs.State.{State}
use Rattle.objects.specs.SystemMetadata.{Stamp}

abbrev pub size : Option Members → ℕ
size None = 0
size (Some ms) = members_len ms

-- the labels in a value of `metadata`
abbrev pub labels_of : Data → Option Members
labels_of metadata = option_and_then as_object (get (codes "labels") metadata)

abbrev pub label_count : Data → ℕ
label_count d = size (option_and_then labels_of (get (codes "metadata") d))

-- an object of this state has so many, whatever its key is and what the system says
abbrev pub HasLabels : ℕ → Shape → State → Type 0
HasLabels n s state = (of : Identity) (stamp : Stamp) → n ≡ label_count (object_value s of stamp state)
