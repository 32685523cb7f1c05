use Rattle.std.proofs.Common.{◌++◌, ap, sym, ◌∙◌}
use Rattle.std.proofs.lemmas.Result.{on_ok_weaker}
use Rattle.serde_json.specs.Written.{members_text}
use Rattle.objects.proofs.EntryTexts.{filled_none, filled_some}
use Rattle.objects.proofs.managed_text.write_filled.Goals as goal

pub returns-then-is_empty : goal.returns-then-is_empty
returns-then-is_empty c = λ rest. ap (λ ms. c.args.out.now.text ++ members_text c.args.out.now.later ms) (sym (filled_none c.args.name.now c.args.text.now rest (sym c.is_empty.ensures ∙ c.if-is_empty.true)))

pub returns : goal.returns
returns c =
    on_ok_weaker c.write_string.result (λ written rest. written rest
    ∙ ap (λ ms. c.args.out.now.text ++ members_text c.args.out.now.later ms) (sym (filled_some c.args.name.now c.args.text.now rest (sym c.is_empty.ensures ∙ c.if-is_empty.false)))) c.write_string.ensures
