use Rattle.std.proofs.Common.{◌∙◌, ap}
use Rattle.std.proofs.lemmas.Result.{on_ok_weaker}
use Rattle.serde_json.specs.Data.{object}
use Rattle.serde_json.specs.Written.{compact_text, has_float}
use Rattle.serde_json.proofs.Views.{view-Object}
use Rattle.json_texts.specs.Writing.{with_text}
use Rattle.objects.proofs.metadata.write_put_together.Goals as goal

pub returns : goal.returns
returns c = λ clean.
    let is = view-Object c.in_ok-metadata.metadata ∙ ap object c.in_ok-metadata.ensures in
    on_ok_weaker c.value.result (λ written. written (ap has_float is ∙ clean) ∙ ap (λ d. with_text (compact_text d) c.args.out.now) is) c.value.ensures
