use Rattle.std.proofs.Common.{ap, sym, ◌∙◌, option_map, string_bytes}
use Rattle.typed.proofs.ItemTexts.{scalar_wrote}
use Rattle.typed.proofs.Wholes.{weaker}
use Rattle.typed.proofs.write_items.push_scalar.Goals as goal

pub returns-in-Some : goal.returns-in-Some
returns-in-Some c = λ is_scalar.
    let has = sym c.scalar_json.ensures ∙ ap (option_map (λ s. s.now)) c.in-Some.is in
    weaker c.raw.result (λ wrote. wrote ∙ scalar_wrote (string_bytes c.args.element.now) c.in-Some.text.now c.args.out.now is_scalar has) c.raw.ensures
