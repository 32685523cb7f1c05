-- The arguments that a program takes which plays a script (its command, as `clap` reads it): a types file and a script, which are required, and
-- what its client is asked for.
use Rattle.std.specs.Prelude.{◌≡◌, ◌⊎◌, ◌≤◌, ℕ, List, Option, Some, None, Result, Ok, Err, ⊤, [], true, codes, is_some, unwrap_or}
use Rattle.clap.specs.Built.{IsParsedFrom}
use Rattle.clap.specs.Matches.{first_value, found_of}
use Rattle.clap.specs.Walk.{Row}
use Rattle.clap.specs.Words.{App, HasKind, Kinds, Text, app_of, first_of, with_rule}
use Rattle.clap.specs.declared.builder.command.Command.{Command}
use Rattle.clap.specs.declared.parser.matches.ArgMatches.{ArgMatches}
use Rattle.history.specs.History.{last_revision}
use Rattle.programs.specs.Commands.{file_option, flag_option, program, text_option}
use Rattle.programs.specs.Numbers.{IsNumberIn, IsNumberOr, number_option}
use Rattle.programs.specs.Resources.{resource_in}
use Rattle.programs.specs.declared.run_fault.RunFault.TheVariants as run
use Rattle.scripts.specs.declared.program_fault.ProgramFault.{ProgramFault}
use Rattle.scripts.specs.declared.program_fault.ProgramFault.TheVariants as fault

-- what stands for an option that isn't given
abbrev pub default_page : Text
default_page = codes "2"

abbrev pub default_revision : Text
default_revision = codes "1"

abbrev pub default_type : Text
default_type = codes "demo.example/v1/widgets"

abbrev pub default_label : Text
default_label = codes "tier"

abbrev with_files : App → App
with_files app = with_rule (with_rule app (file_option (codes "types"))) (file_option (codes "script"))

-- which objects the client has, and what it counts
abbrev with_client : App → App
with_client app =
    with_rule (with_rule (with_rule (with_rule (with_rule app (number_option (Some default_page) (codes "page"))) (text_option (codes "selector"))) (text_option (codes "namespace"))) (text_option (codes "type")))
    (text_option (codes "label"))

-- the same, and whether documents tell of the types
abbrev with_wanted : App → App
with_wanted app = with_rule (with_client app) (flag_option (codes "discovery"))

-- the command of the program with this name
abbrev pub player : Text → App
player name = with_wanted (with_files (program name))

-- a command as above, of which each parse has the paths of both files
pub record IsPlayerCommand (name : Text) (command : Command) : Type 0 where
  pub app : app_of command ≡ player name
  pub types : (m : ArgMatches) → IsParsedFrom command m → is_some (first_value (found_of m) (codes "types")) ≡ true
  pub script : (m : ArgMatches) → IsParsedFrom command m → is_some (first_value (found_of m) (codes "script")) ≡ true

-- the command of the program with this name that reads a script from its standard input
abbrev pub pipe_app : Text → App
pipe_app name = with_rule (with_wanted (with_rule (program name) (file_option (codes "types")))) (number_option (Some default_revision) (codes "revision"))

-- a command as above, of which each parse has the path of the types file
pub record IsPipeCommand (name : Text) (command : Command) : Type 0 where
  pub app : app_of command ≡ pipe_app name
  pub types : (m : ArgMatches) → IsParsedFrom command m → is_some (first_value (found_of m) (codes "types")) ≡ true

-- whether the words are refused, and why: they have a fault of one of these kinds; or of none, and the page is no number below 2^32, or the
-- type is not told by a group, a version and a plural
abbrev pub RefusedBy : {A : Type 0} → Kinds → List Row → Result A ProgramFault → Type 0
RefusedBy kinds rows (Ok o) = kinds ≡ []
RefusedBy kinds rows (Err (fault.Run (run.Arguments e))) = HasKind kinds e
RefusedBy kinds rows (Err (fault.Run run.Memory)) = ⊤
RefusedBy kinds rows (Err (fault.Run (run.Number option))) = (kinds ≡ []) × ((n : ℕ) → IsNumberOr default_page (first_of (codes "page") rows) n → n ≤ 4294967295 → ⊥)
RefusedBy kinds rows (Err fault.Form) = (kinds ≡ []) × (resource_in (unwrap_or (first_of (codes "type") rows) default_type) ≡ None)
RefusedBy kinds rows (Err _) = ⊥

-- the same of a program that reads a script from its standard input, whose revision may be no number of a revision, too
abbrev pub RefusedByPipe : {A : Type 0} → Kinds → List Row → Result A ProgramFault → Type 0
RefusedByPipe kinds rows (Ok o) = kinds ≡ []
RefusedByPipe kinds rows (Err (fault.Run (run.Arguments e))) = HasKind kinds e
RefusedByPipe kinds rows (Err (fault.Run run.Memory)) = ⊤
RefusedByPipe kinds rows (Err (fault.Run (run.Number option))) =
    (kinds ≡ []) × (((n : ℕ) → IsNumberOr default_page (first_of (codes "page") rows) n → n ≤ 4294967295 → ⊥) ⊎ ((n : ℕ) → IsNumberIn (Some default_revision) (first_of (codes "revision") rows) 1 last_revision n → ⊥))
RefusedByPipe kinds rows (Err fault.Form) = (kinds ≡ []) × (resource_in (unwrap_or (first_of (codes "type") rows) default_type) ≡ None)
RefusedByPipe kinds rows (Err _) = ⊥
