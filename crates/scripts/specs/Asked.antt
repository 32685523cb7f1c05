-- What a program's arguments ask of a run.
use Rattle.std.specs.Prelude.{◌≡◌, ◌⊎◌, ℕ, List, [], Option, Some, None, Result, Ok, Err, ⊤, option_map, codes}
use Rattle.programs.specs.declared.run_fault.RunFault.TheVariants as run
use Rattle.api_types.specs.TypesFile.{ServedShape, type_number}
use Rattle.world_laws.specs.Tasks.{RunSettings, settings_fault}
use Rattle.world_laws.specs.World.{WorldEvent}
use Rattle.scripts.specs.Plays.{Plays, PlaysPrefix, index_names}
use Rattle.scripts.specs.Script.{AreEvents, IsFirstBad}
use Rattle.scripts.specs.declared.arguments.ClientOptions.{ClientOptions}
use Rattle.scripts.specs.declared.program_fault.ProgramFault.{ProgramFault}
use Rattle.scripts.specs.declared.program_fault.ProgramFault.TheVariants as fault

-- to mirror the objects of the type with these names, if it is served, and to apply the counts to the object summary of the namespace default
abbrev pub settings_asked : List ServedShape → ClientOptions → Option RunSettings
settings_asked types o =
    option_map (λ kind. record { kind = kind; namespace = option_map (λ s. s.now) o.namespace; selector = o.selector.now; page = o.page; label = o.label.now; summary = (codes "default", codes "summary") })
    (type_number o.resource.group.now o.resource.version.now o.resource.plural.now types)

-- each line is an event's
abbrev pub IsGood : List (List ℕ) → Type 0
IsGood lines = (events : List WorldEvent) × AreEvents lines events

-- the settings are served, and have no fault
abbrev pub CanBeHad : List ServedShape → Option RunSettings → Type 0
CanBeHad types asked = (settings : RunSettings) × (asked ≡ Some settings) × (settings_fault types index_names settings ≡ None)

-- a play of these lines ends by this fault, the first of several: the first bad line; that the type isn't served; the number of the settings'
-- fault; one of the play itself. That memory is out says nothing of them, and no other fault is told
abbrev pub EndsBy : List ServedShape → Option RunSettings → List (List ℕ) → ProgramFault → Type 0
EndsBy types asked lines (fault.Script n why) = IsFirstBad lines n
EndsBy types asked lines fault.NoType = IsGood lines × (asked ≡ None)
EndsBy types asked lines (fault.Settings n) = IsGood lines × ((settings : RunSettings) × (asked ≡ Some settings) × (settings_fault types index_names settings ≡ Some n))
EndsBy types asked lines fault.Link = IsGood lines × CanBeHad types asked
EndsBy types asked lines (fault.Input e) = IsGood lines × CanBeHad types asked
EndsBy types asked lines (fault.Run run.Store) = IsGood lines × CanBeHad types asked
EndsBy types asked lines (fault.Run (run.Output e)) = IsGood lines × CanBeHad types asked
EndsBy types asked lines (fault.Run run.Memory) = ⊤
EndsBy types asked lines _ = ⊥

-- how it ends: so, or with all played
abbrev pub Ends : {A : Type 0} → List ServedShape → Option RunSettings → List (List ℕ) → Result A ProgramFault → Type 0
Ends types asked lines (Ok x) = IsGood lines × CanBeHad types asked
Ends types asked lines (Err e) = EndsBy types asked lines e

-- ---- what is printed

-- the text is what is printed of the play that is asked for
abbrev pub PlaysAsked : List ServedShape → Option RunSettings → List (List ℕ) → List ℕ → Type 0
PlaysAsked types asked lines text = (events : List WorldEvent) × (settings : RunSettings) × AreEvents lines events × (asked ≡ Some settings) × Plays types settings events text

-- nothing is printed, or a prefix of that
abbrev pub PlaysPrefixAsked : List ServedShape → Option RunSettings → List (List ℕ) → List ℕ → Type 0
PlaysPrefixAsked types asked lines text =
    (text ≡ []) ⊎ ((events : List WorldEvent) × (settings : RunSettings) × AreEvents lines events × (asked ≡ Some settings) × PlaysPrefix types settings events text)
