use Rattle.std.proofs.Common.{◌∙◌, [], Some, None, codes, refl, sym, ap, arith}
use Rattle.std.specs.Prelude.{option_and_then}
use Rattle.clap.proofs.CallerLemmas.{some_of_text}
use Rattle.programs.proofs.OptionValues.{number_by, number_given, text_is, text_or, value_is}
use Rattle.programs.specs.Resources.{resource_in}
use Rattle.mirror_program.proofs.MirrorArguments.{is_plain}
use Rattle.mirror_program.proofs.arguments.options.Goals as goal

pub returns-clause-types : goal.returns-clause-types
returns-clause-types g c =
    sym (value_is _ is_plain _ c.in_ok-mirror_command.ensures.app _ _ c.in_ok-matches.ensures.matches (codes "types")) ∙ text_is _ _ _ c.get_str.ensures c.unwrap.ensures

pub unwrap-requires : goal.unwrap-requires
unwrap-requires g c = some_of_text _ c.get_str.result _ c.get_str.ensures (c.in_ok-mirror_command.ensures.types _ c.in_ok-matches.ensures.parsed)

pub returns-clause-port : goal.returns-clause-port
returns-clause-port g c =
    let number = number_by _ _ None _ _ _ _ (value_is _ is_plain _ c.in_ok-mirror_command.ensures.app _ _ c.in_ok-matches.ensures.matches (codes "port")) c.in_ok-port-2.ensures c.in_ok-port.ensures.number in
    let read = number_given _ _ number.0 in
    (read.0, read.1, read.2, number.1)

pub returns-clause-resource : goal.returns-clause-resource
returns-clause-resource g c =
    ap (option_and_then resource_in) (sym (value_is _ is_plain _ c.in_ok-mirror_command.ensures.app _ _ c.in_ok-matches.ensures.matches (codes "type"))) ∙ c.in_ok-resource.ensures

pub returns-clause-namespace : goal.returns-clause-namespace
returns-clause-namespace g c = c.get_str-2.ensures ∙ value_is _ is_plain _ c.in_ok-mirror_command.ensures.app _ _ c.in_ok-matches.ensures.matches (codes "namespace")

pub returns-clause-selector : goal.returns-clause-selector
returns-clause-selector g c =
    text_or _ _ _ _ [] (c.get_str-3.ensures ∙ value_is _ is_plain _ c.in_ok-mirror_command.ensures.app _ _ c.in_ok-matches.ensures.matches (codes "selector")) c.unwrap_or.ensures refl

pub returns-clause-page : goal.returns-clause-page
returns-clause-page g c =
    (number_by _ _ (Some (codes "500")) _ _ _ _ (value_is _ is_plain _ c.in_ok-mirror_command.ensures.app _ _ c.in_ok-matches.ensures.matches (codes "page")) c.in_ok-page-2.ensures c.in_ok-page.ensures.number).0

pub returns-clause-turns : goal.returns-clause-turns
returns-clause-turns g c =
    (c.in_ok-turns.turns, (number_by _ _ (Some (codes "0")) _ _ _ _ (value_is _ is_plain _ c.in_ok-mirror_command.ensures.app _ _ c.in_ok-matches.ensures.matches (codes "turns")) refl c.in_ok-turns.ensures.number).0, c.count_of.ensures)
