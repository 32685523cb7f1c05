-- How many labels an object has.
use Rattle.std.proofs.Common.{◌≡◌, suc, Option, Some, None, refl, ap}
use Rattle.std.specs.Prelude.{codes, option_and_then}
use Rattle.serde_json.specs.Data.{Data, Members, no_members, member}
use Rattle.serde_json.specs.Events.{members_len}
use Rattle.serde_json.specs.Find.{as_object, get}
use Rattle.objects.specs.Labels.{label_count, labels_of, size}
use Rattle.api_validation.specs.Naming.{metadata_object}
use Rattle.api_validation.specs.Size.{count, count_if_there}

same_count : (ms : Members) → members_len ms ≡ count ms
same_count no_members = refl
same_count (member k d ms) = ap suc (same_count ms)

same_size : (o : Option Members) → size o ≡ count_if_there o
same_size None = refl
same_size (Some ms) = same_count ms

pub counted : (d : Data) → label_count d ≡ count_if_there (metadata_object (codes "labels") d)
counted d = by_metadata (get (codes "metadata") d)
  where
    by_metadata : (o : Option Data) → size (option_and_then labels_of o) ≡ count_if_there (option_and_then as_object (option_and_then (get (codes "labels")) o))
    by_metadata None = refl
    by_metadata (Some m) = same_size (labels_of m)
