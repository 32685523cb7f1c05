-- Where a types file breaks a rule: at one of its types, or at a part of a type's schema, which stands behind steps.
-- Structural schemas: Kubernetes docs, "Extend the Kubernetes API with CustomResourceDefinitions", "Specifying a structural schema".
use Rattle.std.specs.Prelude.{◌≡◌, ℕ, suc, ◌&&◌, ◌==◌, not, List, [], ◌∷◌, ◌++◌, Option, Some, None, is_some, option_map, option_and_then, string_bytes, codes, if◌then◌else◌, ◌⊎◌, ⊤}
use Rattle.std.specs.declared.result.Result.{Result}
use Rattle.std.specs.declared.result.Result.TheVariants.{Ok, Err}
use Rattle.std.specs.List.{All}
use Rattle.serde_json.specs.Data.{Data, Items, no_items, item, Members}
use Rattle.serde_json.specs.Find.{get_item, get_member, as_object}
use Rattle.json_values.specs.Members.{members_at}
use Rattle.api_types.specs.Forms.{Form, known_form, own_form}
use Rattle.api_types.specs.Refusals.{Refusal, misfit, and_then, some_or}
use Rattle.api_types.specs.Views.{FailsWith, ReportsFault}
use Rattle.api_types.specs.TypesFile.{ServedShape, listed, type_of, type_properties}
use Rattle.api_types.specs.declared.fault.TypesFault.{TypesFault}
use Rattle.api_types.specs.declared.fault_place.FaultPlace.{FaultPlace}
use Rattle.api_types.specs.declared.fault_place.LocatedFault.{LocatedFault}
use Rattle.api_types.specs.declared.fault_place.Step.{Step}
use Rattle.api_types.specs.declared.locate.Broken.{Broken}
use Rattle.api_types.specs.declared.profile.Profile.TheVariants.{Plain}
use Rattle.api_types.specs.declared.fault_place.Step.TheVariants as step

-- the schema behind a step
abbrev pub behind : Step → Members → Option Data
behind (step.Property name) ms = option_and_then (get_member (string_bytes name)) (members_at (codes "properties") ms)
behind step.Values ms = get_member (codes "additionalProperties") ms
behind step.Items ms = get_member (codes "items") ms

-- what a schema's own keywords say at a depth, its form read in this way, or the rule that they break; at depth 1, a type's
-- schema, they are those of a granular object with properties
abbrev pub says : (ℕ → Members → Result Form Refusal) → ℕ → Members → Result Form Refusal
says form_at depth ms = and_then (form_at depth ms) (λ form. if depth == 1 && not (is_some (type_properties form ms)) then Err misfit else Ok form)

-- the fault by which reading ends at the own keywords of a schema at a depth; one that is unknown comes before all others
abbrev pub EndsReading : TypesFault → ℕ → Data → Type 0
EndsReading fault depth d = FailsWith fault (and_then (some_or misfit (as_object d)) (says own_form depth))

-- the known ones of its own keywords break the rule of the fault
abbrev pub BreaksKnown : TypesFault → ℕ → Data → Type 0
BreaksKnown fault depth d = FailsWith fault (and_then (some_or misfit (as_object d)) (says known_form depth))

-- its own keywords break the rule, by which reading ends or beside one that is unknown
abbrev pub Breaks : TypesFault → ℕ → Data → Type 0
Breaks fault depth d = EndsReading fault depth d ⊎ BreaksKnown fault depth d

-- a schema at a depth breaks the rule of the fault behind these steps, in this sense
abbrev pub BreaksAt : (TypesFault → ℕ → Data → Type 0) → TypesFault → ℕ → List Step → Data → Type 0
BreaksAt breaks fault depth [] d = breaks fault depth d
BreaksAt breaks fault depth (step ∷ steps) d = (part : Data) × (option_and_then (behind step) (as_object d) ≡ Some part) × BreaksAt breaks fault (suc depth) steps part

-- of a list, the first, if there is one
abbrev pub FirstIs : {X : Type 0} → (X → Type 0) → List X → Type 0
FirstIs is [] = ⊤
FirstIs is (x ∷ xs) = is x

-- this part of a schema at a depth breaks its rule
abbrev pub IsBroken : (TypesFault → ℕ → Data → Type 0) → ℕ → Data → Broken → Type 0
IsBroken breaks depth d broken = BreaksAt breaks broken.fault depth broken.part.steps.items d

-- each of these parts does, the first so that reading ends there
abbrev pub AreBroken : ℕ → Data → List Broken → Type 0
AreBroken depth d all = All (IsBroken Breaks depth d) all × FirstIs (IsBroken EndsReading depth d) all

-- a type breaks it behind these steps from its schema, or else as a whole, whatever its profile
abbrev pub TypeBreaks : (TypesFault → ℕ → Data → Type 0) → TypesFault → Option (List Step) → Data → Type 0
TypeBreaks breaks fault None t = FailsWith fault (type_of Plain t)
TypeBreaks breaks fault (Some steps) t = (schema : Data) × (option_and_then (get_member (codes "schema")) (as_object t) ≡ Some schema) × BreaksAt breaks fault 1 steps schema

-- this part of a type's schema breaks its rule
abbrev pub IsBrokenIn : (TypesFault → ℕ → Data → Type 0) → Data → Broken → Type 0
IsBrokenIn breaks t broken = TypeBreaks breaks broken.fault (Some broken.part.steps.items) t

-- each of these does, the first so that reading ends there
abbrev pub AreBrokenIn : Data → List Broken → Type 0
AreBrokenIn t all = All (IsBrokenIn Breaks t) all × FirstIs (IsBrokenIn EndsReading t) all

-- what is told of a part of the schema of the type of this number
abbrev pub IsLocated : ℕ → Broken → LocatedFault → Type 0
IsLocated n broken reported = (reported.fault ≡ broken.fault) × (reported.place.number ≡ n) × (option_map (λ part. part.steps.items) reported.place.part ≡ Some broken.part.steps.items)

-- of the type of this number, which breaks its rule there
abbrev pub IsReportedOf : (TypesFault → ℕ → Data → Type 0) → ℕ → Data → LocatedFault → Type 0
IsReportedOf breaks n t reported = (reported.place.number ≡ n) × TypeBreaks breaks reported.fault (option_map (λ part. part.steps.items) reported.place.part) t

-- each of these is, the first so that reading ends there
abbrev pub AreReportedOf : ℕ → Data → List LocatedFault → Type 0
AreReportedOf n t all = All (IsReportedOf Breaks n t) all × FirstIs (IsReportedOf EndsReading n t) all

-- the fault that a type is refused for; none where it is read
abbrev pub IsRefusedBy : Result ServedShape Refusal → Option TypesFault → Type 0
IsRefusedBy (Ok t) None = ⊤
IsRefusedBy (Ok t) (Some fault) = ⊥
IsRefusedBy (Err e) None = ⊥
IsRefusedBy (Err e) (Some fault) = ReportsFault fault e

-- none where the type is read, else the fault that it is refused for before any others
abbrev pub BeginsBy : Result ServedShape Refusal → List LocatedFault → Type 0
BeginsBy (Ok t) all = all ≡ []
BeginsBy (Err e) [] = ⊥
BeginsBy (Err e) (reported ∷ others) = ReportsFault reported.fault e

-- what is told of a type
abbrev pub ReportsType : ℕ → Data → List LocatedFault → Type 0
ReportsType n t all = BeginsBy (type_of Plain t) all × AreReportedOf n t all

-- of types in turn, numbered from here
abbrev pub ReportsTypes : ℕ → Items → List LocatedFault → Type 0
ReportsTypes n no_items all = all ≡ []
ReportsTypes n (item t ts) all = (prefix : List LocatedFault) × (others : List LocatedFault) × (all ≡ prefix ++ others) × ReportsType n t prefix × ReportsTypes (suc n) ts others

-- of a types file; nothing where it lists no types
abbrev pub ReportsFile : Result Items Refusal → List LocatedFault → Type 0
ReportsFile (Ok ts) all = ReportsTypes 0 ts all
ReportsFile (Err e) all = all ≡ []

-- of these types, the one of the place's number breaks the rule of the fault there
abbrev pub IsPlaceAmong : (TypesFault → ℕ → Data → Type 0) → TypesFault → FaultPlace → Items → Type 0
IsPlaceAmong breaks fault place ts = (t : Data) × (get_item place.number ts ≡ Some t) × TypeBreaks breaks fault (option_map (λ part. part.steps.items) place.part) t

-- each of these faults has its place there, the first so that reading ends at it
abbrev pub ArePlacesAmong : Items → List LocatedFault → Type 0
ArePlacesAmong ts all = All (λ reported. IsPlaceAmong Breaks reported.fault reported.place ts) all × FirstIs (λ reported. IsPlaceAmong EndsReading reported.fault reported.place ts) all

-- the file lists types, of which one breaks the rule there
abbrev pub IsPlaceOf : (TypesFault → ℕ → Data → Type 0) → TypesFault → FaultPlace → Data → Type 0
IsPlaceOf breaks fault place file = (ts : Items) × (listed file ≡ Ok ts) × IsPlaceAmong breaks fault place ts

-- each of these faults has its place in the file, the first so that reading ends at it
abbrev pub ArePlacesOf : Data → List LocatedFault → Type 0
ArePlacesOf file all = All (λ reported. IsPlaceOf Breaks reported.fault reported.place file) all × FirstIs (λ reported. IsPlaceOf EndsReading reported.fault reported.place file) all
