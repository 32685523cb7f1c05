use Rattle.std.proofs.Common.{◌∷◌, [], Some, codes, refl, arith}
use Rattle.std.proofs.lemmas.List.Elements.{All-from_recursion}
use Rattle.std.proofs.lemmas.Result.{IfOk-weaker}
use Rattle.clap.specs.Built.{FitsChain}
use Rattle.programs.specs.Commands.{file_option, flag_option, text_option}
use Rattle.programs.specs.Numbers.{number_option}
use Rattle.programs.proofs.OptionValues.{added, given, made}
use Rattle.server_program.specs.ServerCommand.{IsServerCommand}
use Rattle.server_program.proofs.ServerArguments.{concurrent_own, discovery_own, disturb_own, keep_own, log_own, names_are, names_differ, objects_own, patience_own, port_own, pump_own, record_own, serve_own, types_own}
use Rattle.server_program.proofs.arguments.server_command.Goals as goal

pub returns : goal.returns
returns c =
    let types = made file_option c.file_option.result _ (codes "types") refl types_own (c.file_option.ensures.id, c.file_option.ensures.rule, c.file_option.ensures.fits) in
    let port = made (number_option (Some (codes "0"))) c.number_option.result _ (codes "port") refl port_own (c.number_option.ensures.id, c.number_option.ensures.rule, c.number_option.ensures.fits) in
    let keep = made (number_option (Some (codes "1000"))) c.number_option-2.result _ (codes "keep") refl keep_own (c.number_option-2.ensures.id, c.number_option-2.ensures.rule, c.number_option-2.ensures.fits) in
    let pump = made (number_option (Some (codes "500"))) c.number_option-3.result _ (codes "pump") refl pump_own (c.number_option-3.ensures.id, c.number_option-3.ensures.rule, c.number_option-3.ensures.fits) in
    let serve = made (number_option (Some (codes "0"))) c.number_option-4.result _ (codes "serve") refl serve_own (c.number_option-4.ensures.id, c.number_option-4.ensures.rule, c.number_option-4.ensures.fits) in
    let flag = made flag_option c.flag_option.result _ (codes "concurrent") refl concurrent_own (c.flag_option.ensures.id, c.flag_option.ensures.rule, c.flag_option.ensures.fits) in
    let patience = made (number_option (Some (codes "30000"))) c.number_option-5.result _ (codes "patience") refl patience_own (c.number_option-5.ensures.id, c.number_option-5.ensures.rule, c.number_option-5.ensures.fits) in
    let disturb = made text_option c.text_option.result _ (codes "disturb") refl disturb_own (c.text_option.ensures.id, c.text_option.ensures.rule, c.text_option.ensures.fits) in
    let log = made flag_option c.flag_option-2.result _ (codes "log") refl log_own (c.flag_option-2.ensures.id, c.flag_option-2.ensures.rule, c.flag_option-2.ensures.fits) in
    let recorded = made text_option c.text_option-2.result _ (codes "record") refl record_own (c.text_option-2.ensures.id, c.text_option-2.ensures.rule, c.text_option-2.ensures.fits) in
    let objects = made text_option c.text_option-3.result _ (codes "objects") refl objects_own (c.text_option-3.ensures.id, c.text_option-3.ensures.rule, c.text_option-3.ensures.fits) in
    let discovery = made flag_option c.flag_option-3.result _ (codes "discovery") refl discovery_own (c.flag_option-3.ensures.id, c.flag_option-3.ensures.rule, c.flag_option-3.ensures.fits) in
    let one = added file_option _ _ _ _ _ c.program.ensures.app types c.in_ok-arg.ensures in
    let two = added (number_option (Some (codes "0"))) _ _ _ _ _ one port c.in_ok-arg-2.ensures in
    let three = added (number_option (Some (codes "1000"))) _ _ _ _ _ two keep c.in_ok-arg-3.ensures in
    let four = added (number_option (Some (codes "500"))) _ _ _ _ _ three pump c.in_ok-arg-4.ensures in
    let five = added (number_option (Some (codes "0"))) _ _ _ _ _ four serve c.in_ok-arg-5.ensures in
    let six = added flag_option _ _ _ _ _ five flag c.in_ok-arg-6.ensures in
    let seven = added (number_option (Some (codes "30000"))) _ _ _ _ _ six patience c.in_ok-arg-7.ensures in
    let eight = added text_option _ _ _ _ _ seven disturb c.in_ok-arg-8.ensures in
    let nine = added flag_option _ _ _ _ _ eight log c.in_ok-arg-9.ensures in
    let ten = added text_option _ _ _ _ _ nine recorded c.in_ok-arg-10.ensures in
    let eleven = added text_option _ _ _ _ _ ten objects c.in_ok-arg-11.ensures in
    let rest = c.number_option.result ∷ c.number_option-2.result ∷ c.number_option-3.result ∷ c.number_option-4.result ∷ c.flag_option.result ∷ c.number_option-5.result ∷ c.text_option.result ∷ c.flag_option-2.result ∷ c.text_option-2.result ∷ c.text_option-3.result ∷ c.flag_option-3.result ∷ [] in
    let fit = All-from_recursion FitsChain (c.file_option.result ∷ rest) (types.2, (port.2, (keep.2, (pump.2, (serve.2, (flag.2, (patience.2, (disturb.2, (log.2, (recorded.2, (objects.2, (discovery.2, tt)))))))))))) in
    IfOk-weaker c.arg-12.result _ IsServerCommand (λ cmd last. record {
      app = added flag_option _ _ cmd _ _ eleven discovery last;
      types = λ m. given _ cmd (c.file_option.result ∷ rest) 0 c.file_option.result m _ (codes "types")
          (_, c.in_ok-arg.ensures, (_, c.in_ok-arg-2.ensures, (_, c.in_ok-arg-3.ensures, (_, c.in_ok-arg-4.ensures, (_, c.in_ok-arg-5.ensures, (_, c.in_ok-arg-6.ensures, (_, c.in_ok-arg-7.ensures, (_, c.in_ok-arg-8.ensures, (_, c.in_ok-arg-9.ensures, (_, c.in_ok-arg-10.ensures, (_, c.in_ok-arg-11.ensures, (_, last, refl))))))))))))
          (c.program.ensures.empty.0, c.program.ensures.empty.1, c.program.ensures.local, c.program.ensures.negates)
          fit (names_are types.0 port.0 keep.0 pump.0 serve.0 flag.0 patience.0 disturb.0 log.0 recorded.0 objects.0 discovery.0) names_differ (omega arith) types.0 c.file_option.ensures.takes;
    }) c.arg-12.ensures
