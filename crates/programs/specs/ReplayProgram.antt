-- How a program tells what it found.
use Rattle.std.specs.Prelude.{◌≡◌, ◌⊎◌, ℕ, List, [], ◌∷◌, length, Some, None, Result, Ok, Err, IfSome, ⊤, string_bytes}
use Rattle.clap.specs.Values.{kind_of}
use Rattle.clap.specs.declared.error.kind.ErrorKind.{ErrorKind}
use Rattle.clap.specs.declared.error.kind.ErrorKind.TheVariants as kind
use Rattle.api_types.specs.FaultPlaces.{ArePlacesOf, EndsReading, IsPlaceOf, ReportsFile}
use Rattle.api_types.specs.Refusals.{Refusal, unknown_keyword, unknown_type, misfit, too_deep, same_names, not_the_form}
use Rattle.api_types.specs.Views.{FailsWith, ReportsFault as ReportsRefusal}
use Rattle.api_types.specs.Served.{types_view}
use Rattle.api_types.specs.TypesFile.{declared_types, listed}
use Rattle.api_types.specs.declared.fault.TypesFault.{TypesFault}
use Rattle.api_types.specs.declared.fault_place.LocatedFault.{LocatedFault}
use Rattle.api_types.specs.declared.profile.Profile.{Profile}
use Rattle.api_types.specs.declared.profile.Profile.TheVariants.{Plain}
use Rattle.api_types.specs.declared.types.Types.{Types}
use Rattle.serde_json.specs.Data.{Data}
use Rattle.serde_json.specs.Read.{read as read_json}
use Rattle.programs.specs.declared.run_fault.RunFault.{RunFault}
use Rattle.programs.specs.declared.run_fault.RunFault.TheVariants as fault
use Rattle.programs.specs.declared.types_refusal.TypesRefusal.{TypesRefusal}

-- the exit status of wrong usage
abbrev pub wrong_usage : ℕ
wrong_usage = 2

abbrev pub status_of_kind : ErrorKind → ℕ
status_of_kind kind.DisplayHelp = 0
status_of_kind kind.DisplayVersion = 0
status_of_kind _ = wrong_usage

-- the exit status: 2 for the arguments, 3 for a file or the types, 5 for memory or the store;
-- 6 for a port; 1 where the output cannot be written, 0 where help or the version was asked for
abbrev pub status_of : RunFault → ℕ
status_of (fault.Arguments e) = status_of_kind (kind_of e)
status_of fault.NotText = wrong_usage
status_of (fault.Number o) = wrong_usage
status_of (fault.TypesFile path e) = 3
status_of (fault.TypesText path e) = 3
status_of (fault.Types refused) = 3
status_of (fault.Output e) = 1
status_of (fault.Port p e) = 6
status_of fault.Memory = 5
status_of fault.Store = 5

-- the exit status of a program that ends by a fault: the fault's, or 1 where the help or the version that was asked for couldn't be printed
abbrev pub EndsWith : RunFault → ℕ → Type 0
EndsWith f status = (status ≡ status_of f) ⊎ ((status_of f ≡ 0) × (status ≡ 1))

abbrev pub types_refusal_number : Refusal → ℕ
types_refusal_number unknown_keyword = 1
types_refusal_number unknown_type = 2
types_refusal_number misfit = 3
types_refusal_number too_deep = 4
types_refusal_number same_names = 5
types_refusal_number not_the_form = 6

-- the number is that of the fault
abbrev pub IsNumberOf : TypesFault → ℕ → Type 0
IsNumberOf f n = (e : Refusal) × ReportsRefusal f e × (n ≡ types_refusal_number e)

-- the first refusal of a types file, whatever its profile, by its number, and a place in it where reading ends by it, if one is named
abbrev pub IsRefusal : Data → TypesRefusal → Type 0
IsRefusal file refusal =
    ((e : Refusal) × (declared_types Plain file ≡ Err e) × (refusal.number ≡ types_refusal_number e)) × FailsWith refusal.fault (declared_types Plain file) × IfSome refusal.place (λ place. IsPlaceOf EndsReading refusal.fault place file)

-- the refusal of a fault that is told with its place
abbrev pub IsNumbered : LocatedFault → TypesRefusal → Type 0
IsNumbered reported refusal = (refusal.fault ≡ reported.fault) × (refusal.place ≡ Some reported.place) × IsNumberOf refusal.fault refusal.number

-- the refusals of all, in their order
abbrev pub AreNumbered : List LocatedFault → List TypesRefusal → Type 0
AreNumbered [] [] = ⊤
AreNumbered [] (refusal ∷ refusals) = ⊥
AreNumbered (reported ∷ all) [] = ⊥
AreNumbered (reported ∷ all) (refusal ∷ refusals) = IsNumbered reported refusal × AreNumbered all refusals

-- one refusal, without a place
abbrev pub IsWhole : TypesFault → List TypesRefusal → Type 0
IsWhole f refusals = (refusal : TypesRefusal) × (refusals ≡ refusal ∷ []) × (refusal.fault ≡ f) × (refusal.place ≡ None) × IsNumberOf refusal.fault refusal.number

-- what is told of its types, in their order and with places where the rules are broken; where nothing is, there is no other
abbrev pub AreReported : Data → List TypesRefusal → Type 0
AreReported file refusals = (all : List LocatedFault) × ReportsFile (listed file) all × ArePlacesOf file all × (AreNumbered all refusals ⊎ ((all ≡ []) × (length refusals ≡ 1)))

-- the refusals of a types file; the first is the one by which its reading ends
abbrev pub AreRefusals : Data → List TypesRefusal → Type 0
AreRefusals file [] = ⊥
AreRefusals file (first ∷ others) = IsRefusal file first × AreReported file (first ∷ others)

-- the fault tells the file's path and its refusals
abbrev pub IsRefused : List ℕ → Data → RunFault → Type 0
IsRefused path file (fault.Types refused) = (string_bytes refused.path ≡ path) × AreRefusals file refused.refusals.items
IsRefused path file fault.Memory = ⊤
IsRefused path file _ = ⊥

-- what is told of the text of a types file: the types of the profile that it declares; or, with the file's path, that it is no JSON, or
-- its refusals
abbrev pub ReadsTypesFile : Profile → List ℕ → List ℕ → Result Types RunFault → Type 0
ReadsTypesFile profile path text (Ok types) = (d : Data) × (read_json text ≡ Some d) × (declared_types profile d ≡ Ok (types_view types))
ReadsTypesFile profile path text (Err (fault.TypesText named e)) = (string_bytes named ≡ path) × (read_json text ≡ None)
ReadsTypesFile profile path text (Err (fault.Types refused)) = (d : Data) × (read_json text ≡ Some d) × IsRefused path d (fault.Types refused)
ReadsTypesFile profile path text (Err fault.Memory) = ⊤
ReadsTypesFile profile path text (Err _) = ⊥
