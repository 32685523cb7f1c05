-- What is told of a types file.
use Rattle.std.proofs.Common.{◌≡◌, ℕ, List, Some, Err}
use Rattle.api_types.specs.declared.profile.Profile.{Profile}
use Rattle.api_types.specs.declared.profile.Profile.TheVariants.{Plain}
use Rattle.api_types.specs.declared.fault.TypesFault.{TypesFault}
use Rattle.api_types.specs.TypesFile.{declared_types}
use Rattle.api_types.specs.Views.{FailsWith}
use Rattle.api_types.proofs.Profiles.{refused_alike}
use Rattle.serde_json.specs.Data.{Data}
use Rattle.serde_json.specs.Read.{read as read_json}
use Rattle.programs.specs.ReplayProgram.{IsRefused, ReadsTypesFile}
use Rattle.programs.specs.declared.run_fault.RunFault.{RunFault}
use Rattle.programs.specs.declared.run_fault.RunFault.TheVariants as fault

-- a refusal of what the text reads as is told of the text
pub reports_of_text : (profile : Profile) (path text : List ℕ) (d : Data) (r : RunFault) → read_json text ≡ Some d → IsRefused path d r → ReadsTypesFile profile path text (Err r)
reports_of_text profile path text d (fault.Arguments e) reads is = absurd is
reports_of_text profile path text d fault.NotText reads is = absurd is
reports_of_text profile path text d (fault.Number o) reads is = absurd is
reports_of_text profile path text d (fault.TypesFile named e) reads is = absurd is
reports_of_text profile path text d (fault.TypesText named e) reads is = absurd is
reports_of_text profile path text d (fault.Types refused) reads is = (d, reads, is)
reports_of_text profile path text d (fault.Output e) reads is = absurd is
reports_of_text profile path text d (fault.Port p e) reads is = absurd is
reports_of_text profile path text d fault.Memory reads is = tt
reports_of_text profile path text d fault.Store reads is = absurd is

-- .. and so is a refusal that is told as of plain types: the fault is the same for every profile
pub reports_alike : (profile : Profile) (path text : List ℕ) (d : Data) (e : TypesFault) (r : RunFault) → read_json text ≡ Some d → FailsWith e (declared_types profile d) → (FailsWith e (declared_types Plain d) → IsRefused path d r)
    → ReadsTypesFile profile path text (Err r)
reports_alike profile path text d e r reads fails told = reports_of_text profile path text d r reads (told (refused_alike profile Plain d e fails))
