-- The arguments that `ssa-mirror` takes (its command, as `clap` reads it): a types file, a port and a type, which are required, texts and numbers.
use Rattle.std.specs.Prelude.{◌≡◌, Some, None, true, codes, is_some}
use Rattle.clap.specs.Built.{IsParsedFrom}
use Rattle.clap.specs.Words.{App, app_of, first_value, found_of, with_rule}
use Rattle.clap.specs.declared.builder.command.Command.{Command}
use Rattle.clap.specs.declared.parser.matches.ArgMatches.{ArgMatches}
use Rattle.programs.specs.Commands.{file_option, program, required_option, text_option}
use Rattle.programs.specs.Numbers.{number_option}

-- the options that are required
abbrev with_needed : App → App
with_needed app = with_rule (with_rule (with_rule app (file_option (codes "types"))) (number_option None (codes "port"))) (required_option (codes "type"))

-- which objects
abbrev with_wanted : App → App
with_wanted app = with_rule (with_rule app (text_option (codes "namespace"))) (text_option (codes "selector"))

abbrev pub ssa_mirror : App
ssa_mirror =
    with_rule (with_rule (with_wanted (with_needed (program (codes "ssa-mirror")))) (number_option (Some (codes "500")) (codes "page"))) (number_option (Some (codes "0")) (codes "turns"))

-- a command as above, of which each parse has the path of the types file
pub record IsMirrorCommand (command : Command) : Type 0 where
  pub app : app_of command ≡ ssa_mirror
  pub types : (m : ArgMatches) → IsParsedFrom command m → is_some (first_value (found_of m) (codes "types")) ≡ true
