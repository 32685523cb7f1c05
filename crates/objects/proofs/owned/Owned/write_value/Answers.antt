use Rattle.std.proofs.Common.{◌∙◌, ap}
use Rattle.std.proofs.lemmas.Result.{on_ok_weaker}
use Rattle.json_texts.specs.Writing.{with_text}
use Rattle.schema.specs.Shape.{shape}
use Rattle.serde_json.specs.Written.{compact_text, has_float}
use Rattle.objects.specs.ObjectText.{object_text}
use Rattle.objects.specs.Views.{identity_of, stamp_of, state_of}
use Rattle.objects.proofs.Textual.{value_clean}
use Rattle.objects.proofs.owned.Owned.write_value.Goals as goal

pub returns : goal.returns
unfolding object_text
returns c = λ lawful content.
    let is = c.in_ok-value.ensures in
    let clean = ap has_float is ∙ value_clean (shape c.args.schema.now) lawful (identity_of c.args.envelope.of) (stamp_of c.args.envelope.stamp) (state_of c.args.self.now) content in
    on_ok_weaker c.value.result (λ written. written clean ∙ ap (λ d. with_text (compact_text d) c.args.out.now) is) c.value.ensures
