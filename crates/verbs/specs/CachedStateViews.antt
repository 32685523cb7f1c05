-- What is cached of texts: what they say.
use Rattle.std.specs.Prelude.{◌≡◌, ℕ, IfSome, List, Option, Some, option_map, slice_get, string_bytes}
use Rattle.std.specs.List.{All}
use Rattle.api_types.specs.TypesFile.{ServedShape}
use Rattle.objects.specs.State.{State}
use Rattle.objects.specs.SystemMetadata.{System}
use Rattle.objects.specs.WellTyped.{IsWellTypedState}
use Rattle.objects.specs.Views.{state_of, system_of}
use Rattle.api_request.specs.Calls.{Target, of_objects, of_document}
use Rattle.verbs.specs.Machine.{decoded_state, decoded_system}
use Rattle.verbs.specs.declared.cached.CachedState.{CachedState}
use Rattle.verbs.specs.declared.cached.PlannedStates.{PlannedStates}
use Rattle.verbs.specs.declared.slot.Slot.{Slot}

-- the state is the one that the text says of an object of the type, ..
abbrev pub IsDecodedFrom : ServedShape → List ℕ → State → Type 0
IsDecodedFrom t text state = (decoded_state t.shape text ≡ state) × IsWellTypedState t.shape state

-- .. and this is what the system says in it beside the version
abbrev pub IsSystemFrom : ServedShape → List ℕ → Option System → Type 0
IsSystemFrom t text system = decoded_system t.shape text ≡ system

abbrev pub IsCoherent : ServedShape → CachedState → Type 0
IsCoherent t r = IsDecodedFrom t (string_bytes r.text) (state_of r.state) × IsSystemFrom t (string_bytes r.text) (option_map system_of r.system)

-- of the type with this number
abbrev pub IsCoherentAt : List ServedShape → ℕ → CachedState → Type 0
IsCoherentAt types kind r = (t : ServedShape) → slice_get types kind ≡ Some t → IsCoherent t r

-- of the type whose objects a call is of
abbrev pub IsCoherentFor : List ServedShape → Target → CachedState → Type 0
IsCoherentFor types (of_objects kind scope verb) r = IsCoherentAt types kind r
IsCoherentFor types (of_document document) r = Unit {0}

-- both that a plan leaves
abbrev pub AreCoherentOf : ServedShape → PlannedStates → Type 0
AreCoherentOf t s = IfSome s.standing (IsCoherent t) × IfSome s.stored (IsCoherent t)

abbrev pub AreCoherentFor : List ServedShape → Target → PlannedStates → Type 0
AreCoherentFor types target s = IfSome s.standing (IsCoherentFor types target) × IfSome s.stored (IsCoherentFor types target)

abbrev pub IsCoherentIn : List ServedShape → Slot → Type 0
IsCoherentIn types slot = IfSome slot.cached (IsCoherentAt types slot.kind)

abbrev pub AreCoherent : List ServedShape → List Slot → Type 0
AreCoherent types slots = All (IsCoherentIn types) slots
