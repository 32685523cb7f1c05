use Rattle.std.proofs.Common.{◌∷◌, [], Some, codes, refl, arith}
use Rattle.std.proofs.lemmas.List.Elements.{All-from_recursion}
use Rattle.std.proofs.lemmas.Result.{IfOk-weaker}
use Rattle.clap.specs.Built.{FitsChain}
use Rattle.programs.specs.Commands.{file_option, flag_option, text_option}
use Rattle.programs.specs.Numbers.{number_option}
use Rattle.programs.proofs.OptionValues.{added, given, made}
use Rattle.scripts.specs.PlayerCommand.{IsPipeCommand, default_page, default_revision}
use Rattle.scripts.proofs.PipeArguments.{names_are, names_differ, revision_own}
use Rattle.scripts.proofs.PlayerArguments.{discovery_own, label_own, namespace_own, page_own, selector_own, type_own, types_own}
use Rattle.scripts.proofs.arguments.pipe_command.Goals as goal

pub returns : goal.returns
returns c =
    let types = made file_option c.file_option.result _ (codes "types") refl types_own (c.file_option.ensures.id, c.file_option.ensures.rule, c.file_option.ensures.fits) in
    let page = made (number_option (Some default_page)) c.number_option.result _ (codes "page") refl page_own (c.number_option.ensures.id, c.number_option.ensures.rule, c.number_option.ensures.fits) in
    let selector = made text_option c.text_option.result _ (codes "selector") refl selector_own (c.text_option.ensures.id, c.text_option.ensures.rule, c.text_option.ensures.fits) in
    let namespace = made text_option c.text_option-2.result _ (codes "namespace") refl namespace_own (c.text_option-2.ensures.id, c.text_option-2.ensures.rule, c.text_option-2.ensures.fits) in
    let wanted = made text_option c.text_option-3.result _ (codes "type") refl type_own (c.text_option-3.ensures.id, c.text_option-3.ensures.rule, c.text_option-3.ensures.fits) in
    let label = made text_option c.text_option-4.result _ (codes "label") refl label_own (c.text_option-4.ensures.id, c.text_option-4.ensures.rule, c.text_option-4.ensures.fits) in
    let discovery = made flag_option c.flag_option.result _ (codes "discovery") refl discovery_own (c.flag_option.ensures.id, c.flag_option.ensures.rule, c.flag_option.ensures.fits) in
    let revision = made (number_option (Some default_revision)) c.number_option-2.result _ (codes "revision") refl revision_own (c.number_option-2.ensures.id, c.number_option-2.ensures.rule, c.number_option-2.ensures.fits) in
    let one = added file_option _ _ _ _ _ c.program.ensures.app types c.in_ok-arg.ensures in
    let two = added (number_option (Some default_page)) _ _ _ _ _ one page c.in_ok-arg-2.ensures in
    let three = added text_option _ _ _ _ _ two selector c.in_ok-arg-3.ensures in
    let four = added text_option _ _ _ _ _ three namespace c.in_ok-arg-4.ensures in
    let five = added text_option _ _ _ _ _ four wanted c.in_ok-arg-5.ensures in
    let six = added text_option _ _ _ _ _ five label c.in_ok-arg-6.ensures in
    let seven = added flag_option _ _ _ _ _ six discovery c.in_ok-arg-7.ensures in
    let all = c.file_option.result ∷ c.number_option.result ∷ c.text_option.result ∷ c.text_option-2.result ∷ c.text_option-3.result ∷ c.text_option-4.result ∷ c.flag_option.result ∷ c.number_option-2.result ∷ [] in
    let fit = All-from_recursion FitsChain all (types.2, (page.2, (selector.2, (namespace.2, (wanted.2, (label.2, (discovery.2, (revision.2, tt)))))))) in
    let are = names_are types.0 page.0 selector.0 namespace.0 wanted.0 label.0 discovery.0 revision.0 in
    IfOk-weaker c.arg-8.result _ (IsPipeCommand c.args.asked.name.now) (λ cmd last.
    record {
      app = added (number_option (Some default_revision)) _ _ cmd _ _ seven revision last;
      types = λ m. given _ cmd all 0 c.file_option.result m _ (codes "types") (_, c.in_ok-arg.ensures, (_, c.in_ok-arg-2.ensures, (_, c.in_ok-arg-3.ensures, (_, c.in_ok-arg-4.ensures, (_, c.in_ok-arg-5.ensures, (_, c.in_ok-arg-6.ensures, (_, c.in_ok-arg-7.ensures, (_, last, refl)))))))) (c.program.ensures.empty.0, c.program.ensures.empty.1, c.program.ensures.local, c.program.ensures.negates) fit are names_differ (omega arith) types.0 c.file_option.ensures.takes;
    }) c.arg-8.ensures
