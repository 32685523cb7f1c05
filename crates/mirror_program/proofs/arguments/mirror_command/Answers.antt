use Rattle.std.proofs.Common.{◌∷◌, [], Some, None, codes, refl, arith}
use Rattle.std.proofs.lemmas.List.Elements.{All-from_recursion}
use Rattle.std.proofs.lemmas.Result.{IfOk-weaker}
use Rattle.clap.specs.Built.{FitsChain}
use Rattle.programs.specs.Commands.{file_option, required_option, text_option}
use Rattle.programs.specs.Numbers.{number_option}
use Rattle.programs.proofs.OptionValues.{added, given, made}
use Rattle.mirror_program.specs.MirrorCommand.{IsMirrorCommand}
use Rattle.mirror_program.proofs.MirrorArguments.{names_are, names_differ, namespace_own, page_own, port_own, selector_own, turns_own, type_own, types_own}
use Rattle.mirror_program.proofs.arguments.mirror_command.Goals as goal

pub returns : goal.returns
returns c =
    let types = made file_option c.file_option.result _ (codes "types") refl types_own (c.file_option.ensures.id, c.file_option.ensures.rule, c.file_option.ensures.fits) in
    let port = made (number_option None) c.number_option.result _ (codes "port") refl port_own (c.number_option.ensures.id, c.number_option.ensures.rule, c.number_option.ensures.fits) in
    let wanted = made required_option c.required_option.result _ (codes "type") refl type_own (c.required_option.ensures.id, c.required_option.ensures.rule, c.required_option.ensures.fits) in
    let namespace = made text_option c.text_option.result _ (codes "namespace") refl namespace_own (c.text_option.ensures.id, c.text_option.ensures.rule, c.text_option.ensures.fits) in
    let selector = made text_option c.text_option-2.result _ (codes "selector") refl selector_own (c.text_option-2.ensures.id, c.text_option-2.ensures.rule, c.text_option-2.ensures.fits) in
    let page = made (number_option (Some (codes "500"))) c.number_option-2.result _ (codes "page") refl page_own (c.number_option-2.ensures.id, c.number_option-2.ensures.rule, c.number_option-2.ensures.fits) in
    let turns = made (number_option (Some (codes "0"))) c.number_option-3.result _ (codes "turns") refl turns_own (c.number_option-3.ensures.id, c.number_option-3.ensures.rule, c.number_option-3.ensures.fits) in
    let one = added file_option _ _ _ _ _ c.program.ensures.app types c.in_ok-arg.ensures in
    let two = added (number_option None) _ _ _ _ _ one port c.in_ok-arg-2.ensures in
    let three = added required_option _ _ _ _ _ two wanted c.in_ok-arg-3.ensures in
    let four = added text_option _ _ _ _ _ three namespace c.in_ok-arg-4.ensures in
    let five = added text_option _ _ _ _ _ four selector c.in_ok-arg-5.ensures in
    let six = added (number_option (Some (codes "500"))) _ _ _ _ _ five page c.in_ok-arg-6.ensures in
    let rest = c.number_option.result ∷ c.required_option.result ∷ c.text_option.result ∷ c.text_option-2.result ∷ c.number_option-2.result ∷ c.number_option-3.result ∷ [] in
    let fit = All-from_recursion FitsChain (c.file_option.result ∷ rest) (types.2, (port.2, (wanted.2, (namespace.2, (selector.2, (page.2, (turns.2, tt))))))) in
    IfOk-weaker c.arg-7.result _ IsMirrorCommand (λ cmd last. record {
      app = added (number_option (Some (codes "0"))) _ _ cmd _ _ six turns last;
      types = λ m. given _ cmd (c.file_option.result ∷ rest) 0 c.file_option.result m _ (codes "types")
          (_, c.in_ok-arg.ensures, (_, c.in_ok-arg-2.ensures, (_, c.in_ok-arg-3.ensures, (_, c.in_ok-arg-4.ensures, (_, c.in_ok-arg-5.ensures, (_, c.in_ok-arg-6.ensures, (_, last, refl)))))))
          (c.program.ensures.empty.0, c.program.ensures.empty.1, c.program.ensures.local, c.program.ensures.negates)
          fit (names_are types.0 port.0 wanted.0 namespace.0 selector.0 page.0 turns.0) names_differ (omega arith) types.0 c.file_option.ensures.takes;
    }) c.arg-7.ensures
