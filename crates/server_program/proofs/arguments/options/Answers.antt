use Rattle.std.proofs.Common.{◌∙◌, Some, codes, refl, subst, sym}
use Rattle.clap.proofs.CallerLemmas.{some_of_text}
use Rattle.programs.proofs.OptionValues.{flag_by, flag_is, number_by, text_is, value_is}
use Rattle.server_program.specs.Disturbing.{AsksBy}
use Rattle.server_program.proofs.ServerArguments.{is_plain}
use Rattle.server_program.proofs.arguments.options.Goals as goal

pub returns-clause-types : goal.returns-clause-types
returns-clause-types g c =
    sym (value_is _ is_plain _ c.in_ok-server_command.ensures.app _ _ c.in_ok-matches.ensures.matches (codes "types")) ∙ text_is _ _ _ c.get_str.ensures c.unwrap.ensures

pub unwrap-requires : goal.unwrap-requires
unwrap-requires g c = some_of_text _ c.get_str.result _ c.get_str.ensures (c.in_ok-server_command.ensures.types _ c.in_ok-matches.ensures.parsed)

pub returns-clause-port : goal.returns-clause-port
returns-clause-port g c =
    (number_by _ _ (Some (codes "0")) _ _ _ _ (value_is _ is_plain _ c.in_ok-server_command.ensures.app _ _ c.in_ok-matches.ensures.matches (codes "port")) c.in_ok-port-2.ensures c.in_ok-port.ensures.number).0

pub returns-clause-keep : goal.returns-clause-keep
returns-clause-keep g c = (number_by _ _ (Some (codes "1000")) _ _ _ _ (value_is _ is_plain _ c.in_ok-server_command.ensures.app _ _ c.in_ok-matches.ensures.matches (codes "keep")) refl c.in_ok-keep.ensures.number).0

pub returns-clause-pump : goal.returns-clause-pump
returns-clause-pump g c = (number_by _ _ (Some (codes "500")) _ _ _ _ (value_is _ is_plain _ c.in_ok-server_command.ensures.app _ _ c.in_ok-matches.ensures.matches (codes "pump")) refl c.in_ok-pump.ensures.number).0

pub returns-clause-serve : goal.returns-clause-serve
returns-clause-serve g c =
    (c.in_ok-serve.serve, (number_by _ _ (Some (codes "0")) _ _ _ _ (value_is _ is_plain _ c.in_ok-server_command.ensures.app _ _ c.in_ok-matches.ensures.matches (codes "serve")) refl c.in_ok-serve.ensures.number).0, c.count_of.ensures)

pub returns-clause-concurrent : goal.returns-clause-concurrent
returns-clause-concurrent g c =
    flag_by _ _ _ (flag_is _ is_plain _ c.in_ok-server_command.ensures.app _ _ c.in_ok-matches.ensures.matches (codes "concurrent")) (c.get_flag-concurrent.ensures.none, c.get_flag-concurrent.ensures.value, c.get_flag-concurrent.ensures.other)

pub returns-clause-patience : goal.returns-clause-patience
returns-clause-patience g c =
    (number_by _ _ (Some (codes "30000")) _ _ _ _ (value_is _ is_plain _ c.in_ok-server_command.ensures.app _ _ c.in_ok-matches.ensures.matches (codes "patience")) refl c.in_ok-patience.ensures.number).0

pub returns-clause-disturb : goal.returns-clause-disturb
returns-clause-disturb g c =
    subst (λ text. AsksBy text c.in_ok-disturb.disturb)
    (c.get_str-asked.ensures ∙ value_is _ is_plain _ c.in_ok-server_command.ensures.app _ _ c.in_ok-matches.ensures.matches (codes "disturb")) c.in_ok-disturb.ensures.asked

pub returns-clause-log : goal.returns-clause-log
returns-clause-log g c =
    flag_by _ _ _ (flag_is _ is_plain _ c.in_ok-server_command.ensures.app _ _ c.in_ok-matches.ensures.matches (codes "log")) (c.get_flag.ensures.none, c.get_flag.ensures.value, c.get_flag.ensures.other)

pub returns-clause-record : goal.returns-clause-record
returns-clause-record g c = c.get_str-2.ensures ∙ value_is _ is_plain _ c.in_ok-server_command.ensures.app _ _ c.in_ok-matches.ensures.matches (codes "record")

pub returns-clause-objects : goal.returns-clause-objects
returns-clause-objects g c = c.get_str-3.ensures ∙ value_is _ is_plain _ c.in_ok-server_command.ensures.app _ _ c.in_ok-matches.ensures.matches (codes "objects")

pub returns-clause-discovery : goal.returns-clause-discovery
returns-clause-discovery g c =
    flag_by _ _ _ (flag_is _ is_plain _ c.in_ok-server_command.ensures.app _ _ c.in_ok-matches.ensures.matches (codes "discovery")) (c.get_flag-discovery.ensures.none, c.get_flag-discovery.ensures.value, c.get_flag-discovery.ensures.other)
