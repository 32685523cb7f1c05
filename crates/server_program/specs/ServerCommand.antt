-- The arguments that `ssa-server` takes (its command, as `clap` reads it): `--types FILE`, which is required, numbers, flags, disturbances, the paths of a record and of the first objects.
use Rattle.std.specs.Prelude.{◌≡◌, Some, true, codes, is_some}
use Rattle.clap.specs.Built.{IsParsedFrom}
use Rattle.clap.specs.Words.{App, app_of, first_value, found_of, with_rule}
use Rattle.clap.specs.declared.builder.command.Command.{Command}
use Rattle.clap.specs.declared.parser.matches.ArgMatches.{ArgMatches}
use Rattle.programs.specs.Commands.{file_option, flag_option, program, text_option}
use Rattle.programs.specs.Numbers.{number_option}

abbrev with_numbers : App → App
with_numbers app =
    with_rule (with_rule (with_rule (with_rule app (number_option (Some (codes "0")) (codes "port"))) (number_option (Some (codes "1000")) (codes "keep"))) (number_option (Some (codes "500")) (codes "pump")))
    (number_option (Some (codes "0")) (codes "serve"))

abbrev with_modes : App → App
with_modes app =
    with_rule (with_rule (with_rule app (flag_option (codes "concurrent"))) (number_option (Some (codes "30000")) (codes "patience"))) (text_option (codes "disturb"))

abbrev pub ssa_server : App
ssa_server =
    with_rule (with_rule (with_rule (with_rule (with_modes (with_numbers (with_rule (program (codes "ssa-server")) (file_option (codes "types"))))) (flag_option (codes "log"))) (text_option (codes "record")))
    (text_option (codes "objects"))) (flag_option (codes "discovery"))

-- a command as above, of which each parse has the path of the types file
pub record IsServerCommand (command : Command) : Type 0 where
  pub app : app_of command ≡ ssa_server
  pub types : (m : ArgMatches) → IsParsedFrom command m → is_some (first_value (found_of m) (codes "types")) ≡ true
