-- For private clauses: an item of a map list, once it is known to be an object.
use Rattle.std.specs.Prelude.{ℕ, List, [], if◌then◌else◌}
use Rattle.std.specs.declared.result.Result.TheVariants.{Err}
use Rattle.serde_json.specs.Data.{Members, object}
use Rattle.fieldpath.specs.Elements.{list_item_text}
use Rattle.pathmap.specs.Contents.{Content}
use Rattle.typed.specs.declared.fault.Cause.TheVariants.{KeyFieldMissing}
use Rattle.typed.specs.Faults.{Read, and_then}
use Rattle.typed.specs.Reading.{have_keys, keys_in, named_item}

-- a missing key field, then its members
abbrev pub keyed_members : List (List ℕ) → (Members → Read Content) → Members → Read (List ℕ × Content)
keyed_members names inner ms = if have_keys names ms then and_then (inner ms) (named_item (list_item_text (object (keys_in names ms)))) else Err (KeyFieldMissing, [])
