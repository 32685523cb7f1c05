-- The play of a script: a run of its events, and what is printed of it.
use Rattle.std.specs.Prelude.{◌≡◌, ◌⊎◌, ◌≢◌, ℕ, List, [], ◌∷◌, Option, Some, None, Result, Ok, Err, ⊤, codes}
use Rattle.indexer.specs.Namespaces.{namespace_keys}
use Rattle.indexer.specs.declared.by_namespace.ByNamespace.{ByNamespace}
use Rattle.api_types.specs.TypesFile.{ServedShape}
use Rattle.world_laws.specs.Tasks.{RunSettings}
use Rattle.world_laws.specs.World.{WorldEvent}
use Rattle.world.specs.Traces.{IsTraceOf}
use Rattle.world.specs.declared.fault.WorldFault as worlds
use Rattle.world.specs.declared.fault.WorldFault.TheVariants as stopped
use Rattle.world.specs.declared.trace.Trace.{Trace}
use Rattle.scripts.specs.Output.{PrintsPrefix, Prints, parts_of}
use Rattle.scripts.specs.declared.replay_fault.ReplayFault.{ReplayFault}
use Rattle.scripts.specs.declared.replay_fault.ReplayFault.TheVariants.{Memory, Store, Settings, Link, Write}

-- ---- the run

abbrev pub index_names : List (List ℕ)
index_names = codes "namespace" ∷ []

-- the trace is that of a run of the events with this one index
abbrev pub IsRun : List ServedShape → RunSettings → List WorldEvent → Trace → Type 0
IsRun types settings events t = (b : ByNamespace) × IsTraceOf namespace_keys (b ∷ []) index_names types settings events t

-- ---- what is printed

-- the text is what is printed of a run
abbrev pub Plays : List ServedShape → RunSettings → List WorldEvent → List ℕ → Type 0
Plays types settings events text = (t : Trace) × IsRun types settings events t × Prints (parts_of t) text

-- nothing is printed, or a prefix of what is printed of a run
abbrev pub PlaysPrefix : List ServedShape → RunSettings → List WorldEvent → List ℕ → Type 0
PlaysPrefix types settings events text = (text ≡ []) ⊎ ((t : Trace) × IsRun types settings events t × PrintsPrefix (parts_of t) text)

-- ---- why a play ends before its end

-- by what ends the run
abbrev pub replay_fault_of : worlds.WorldFault → ReplayFault
replay_fault_of stopped.Memory = Memory
replay_fault_of stopped.Store = Store
replay_fault_of (stopped.Settings n) = Settings n
replay_fault_of stopped.Link = Link

-- a play with settings of this fault, or of none, ends so: it refuses them by just this number, and does all else only where there is none;
-- that memory is out says nothing of them
abbrev pub AnswersBy : Option ℕ → ReplayFault → Type 0
AnswersBy fault Memory = ⊤
AnswersBy fault Store = fault ≡ None
AnswersBy fault (Settings n) = fault ≡ Some n
AnswersBy fault Link = fault ≡ None
AnswersBy fault (Write e) = fault ≡ None

abbrev pub Answers : {A : Type 0} → Option ℕ → Result A ReplayFault → Type 0
Answers fault (Ok x) = fault ≡ None
Answers fault (Err e) = AnswersBy fault e
