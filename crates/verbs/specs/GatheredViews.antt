-- For private clauses: what is gathered to be written where other types are to be served.
use Rattle.std.specs.Prelude.{◌≡◌, ◌+◌, ◌<◌, ◌≤◌, ℕ, true, false, List, filter, is_some, length, Option, Some, None, IfSome, option_and_then, option_map, slice_get}
use Rattle.std.specs.List.{AllByRecursion}
use Rattle.api_types.specs.Served.{types_view}
use Rattle.api_types.specs.TypesFile.{ServedShape}
use Rattle.history.specs.History.{Key, Object, last_revision}
use Rattle.objects.specs.State.{State}
use Rattle.objects.specs.SystemMetadata.{System}
use Rattle.ownership.specs.Carry.{carried_state}
use Rattle.api_types.specs.declared.fault.TypesFault.{TypesFault}
use Rattle.api_types.specs.declared.fault.TypesFault.TheVariants as types_fault
use Rattle.verbs.specs.declared.fault.Fault.TheVariants.{Memory}
use Rattle.verbs.specs.declared.fault.RetypeFault.{RetypeFault}
use Rattle.verbs.specs.declared.fault.RetypeFault.TheVariants.{Failed, NotTypes}
use Rattle.verbs.specs.declared.retyping.Retyper.{Retyper}
use Rattle.verbs.specs.Machine.{IsTextAt, decoded_state, decoded_system}
use Rattle.verbs.specs.Retyping.{is_changed, carried_text_at, too_few_revisions, writes_from}
use Rattle.verbs.specs.Views.{retype_refusal}

-- the types that are served, and those that are to be
abbrev pub old_types : Retyper → List ServedShape
old_types r = types_view r.types.old.now

abbrev pub new_types : Retyper → List ServedShape
new_types r = types_view r.types.new.now

-- an object's state under its new type, and what the system says of it, if it has both types
abbrev pub carried_at : List ServedShape → List ServedShape → Key × Object → Option (State × Option System)
carried_at types next_types e =
    option_and_then (λ t. option_map (λ u. (carried_state t.shape u.shape (decoded_state t.shape e.1.body), decoded_system t.shape e.1.body)) (slice_get next_types e.0.kind)) (slice_get types e.0.kind)

-- its text stays, or this is the one that it gets
abbrev pub IsNewText : List ServedShape → List ServedShape → ℕ → Key × Object → Option (List ℕ) → Type 0
IsNewText types next_types revision e None = is_changed types next_types e ≡ false
IsNewText types next_types revision e (Some text) = (is_changed types next_types e ≡ true) × (carried_text_at types next_types revision e.0 e.1 ≡ Some text)

-- of those of these objects whose text changes, from the revision after this one on
abbrev pub gathered : List ServedShape → List ServedShape → ℕ → List (Key × Object) → List (Key × Option (List ℕ))
gathered types next_types r es = writes_from types next_types r (filter (is_changed types next_types) es)

-- each has a body, and a revision is left for each
pub record AreWritable (current : ℕ) (ws : List (Key × Option (List ℕ))) : Type 0 where
  pub fits : current + length ws ≤ last_revision
  pub bodies : AllByRecursion (λ w. is_some w.1 ≡ true) ws

-- where it is no fault of memory or of the store, the revisions up to this one are more than there are
abbrev pub IsTooMany : ℕ → RetypeFault → Type 0
IsTooMany revision e = IfSome (retype_refusal e) (λ why. (why ≡ too_few_revisions) × (last_revision < revision))

abbrev pub IsReadableEntry : List ServedShape → Key × Object → Type 0
IsReadableEntry types e = IsTextAt types e.0 e.1.revision e.1.body

abbrev pub AreReadable : List ServedShape → List (Key × Object) → Type 0
AreReadable types es = AllByRecursion (IsReadableEntry types) es

-- what is told of a value that isn't read
abbrev pub file_fault : TypesFault → RetypeFault
file_fault types_fault.Memory = Failed Memory
file_fault fault = NotTypes fault
