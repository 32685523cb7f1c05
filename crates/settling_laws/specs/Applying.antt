-- What an apply of counts asks, and what it makes of a machine.
use Rattle.std.specs.Prelude.{◌≡◌, ◌<◌, ◌≤◌, ℕ, suc, true, List, length, Some, None, codes, slice_get}
use Rattle.std.specs.declared.result.Result.TheVariants.{Ok}
use Rattle.std.specs.FinMap as fin
use Rattle.serde_json.specs.Written.{compact_text}
use Rattle.api_types.specs.TypesFile.{ServedShape, type_number}
use Rattle.history.specs.History.{History, Key, current_objects, last_revision}
use Rattle.objects.specs.State.{State}
use Rattle.objects.specs.declared.manager.Subresource.TheVariants.{Main}
use Rattle.indexer.specs.Objects.{Place}
use Rattle.api_request.specs.declared.verb.Verb.TheVariants.{Apply}
use Rattle.api_request.specs.Calls.{Call, at_tick, of_object, of_objects}
use Rattle.api_validation.specs.Size.{size_validated}
use Rattle.verbs.specs.Machine.{IsMachine, IsNamed, state_under}
use Rattle.verbs.specs.Step.{object_value_at, step}
use Rattle.requests.specs.Asks.{Asks}
use Rattle.requests.specs.Bodies.{max_body}
use Rattle.requests.specs.Decision.{accepted}
use Rattle.summary.specs.Apply.{apply_request, summary_of}
use Rattle.summary.specs.Counts.{Summed}
use Rattle.settling_laws.specs.Said.{CountsAreOwn, IsSayable, Says, SaysExactly, with_counts}
use Rattle.settling_laws.specs.SummaryType.{summary_type}

-- ---- the call

abbrev pub key_of : ℕ → Place → Key
key_of kind place = record { kind = kind; namespace = place.0; name = place.1 }

-- the type with this number is that of summaries
pub record ServesSummaries (types : List ServedShape) (kind : ℕ) : Type 0 where
  pub served : slice_get types kind ≡ Some summary_type
  pub numbered : type_number summary_type.group summary_type.version summary_type.plural types ≡ Some kind

-- an apply of the counts to the object of this namespace and name, forced, by the manager label-summary
abbrev pub apply_call : ℕ → Summed → Place → Call
apply_call kind s place = record {
  target = of_objects kind (of_object place.0 place.1 Main) Apply;
  query = codes "fieldManager=label-summary&force=true";
  body = Some (summary_of s place.0 place.1);
  agent = None;
  ticked = 0;
}

-- the counts fit into a body
abbrev pub FitIntoBody : Summed → Place → Type 0
FitIntoBody s place = length (compact_text (summary_of s place.0 place.1)) ≤ max_body

-- The bytes of the apply ask that call.
abbrev pub AppliesAsk : Type 0
AppliesAsk =
    (types : List ServedShape) (kind : ℕ) (s : Summed) (place : Place)
    → ServesSummaries types kind → IsNamed (key_of kind place) → IsSayable s → FitIntoBody s place → Asks types (apply_request s place.0 place.1) (accepted (apply_call kind s place))

-- ---- the machine

abbrev pub state_at : List ServedShape → History → Key → State
state_at types m k = state_under types (current_objects m) k

-- the object with the counts is within an object's limits, and a revision is left for it
pub record CanBeStored (types : List ServedShape) (m : History) (k : Key) (s : Summed) : Type 0 where
  pub size : size_validated (object_value_at summary_type k (suc m.current) (with_counts s (state_at types m k))) ≡ Ok tt
  pub revision : m.current < last_revision

-- there is an object, its content and owners are those of the apply of these counts, and it says them; these and no others, where each count that stood was the controller's
-- alone, as it is then. Every other object is as it was
pub record HasCounts (types : List ServedShape) (m after : History) (k : Key) (s : Summed) : Type 0 where
  pub is_machine : IsMachine types after
  pub stands : fin.contains_key (current_objects after) k ≡ true
  pub state : state_at types after k ≡ with_counts s (state_at types m k)
  pub says : Says s (state_at types m k) (state_at types after k)
  pub exact : CountsAreOwn (state_at types m k) → SaysExactly s (state_at types after k) × CountsAreOwn (state_at types after k)
  pub others : (j : Key) → ¬ (j ≡ k) → fin.get (current_objects after) j ≡ fin.get (current_objects m) j

-- An apply of counts, whenever it comes and whatever stood there, leads to an object that says them.
abbrev pub ReconcilesApply : Type 0
ReconcilesApply =
    (types : List ServedShape) (m : History) (ms kind : ℕ) (s : Summed) (place : Place) → IsMachine types m → slice_get types kind ≡ Some summary_type
    → IsNamed (key_of kind place) → IsSayable s → CanBeStored types m (key_of kind place) s → HasCounts types m (step types m (at_tick ms (apply_call kind s place))).1 (key_of kind place) s

-- Where what an apply of the counts makes of the object is the object that stands, it changes nothing: there is no revision.
abbrev pub AppliesStay : Type 0
AppliesStay =
    (types : List ServedShape) (m : History) (ms kind : ℕ) (s : Summed) (place : Place) → IsMachine types m → slice_get types kind ≡ Some summary_type
    → IsNamed (key_of kind place) → IsSayable s → fin.contains_key (current_objects m) (key_of kind place) ≡ true
    → with_counts s (state_at types m (key_of kind place)) ≡ state_at types m (key_of kind place) → (step types m (at_tick ms (apply_call kind s place))).1 ≡ m
