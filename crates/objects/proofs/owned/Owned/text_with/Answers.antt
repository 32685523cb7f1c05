use Rattle.std.proofs.Common.{◌∙◌, ap}
use Rattle.json_texts.specs.Writing.{with_text}
use Rattle.schema.specs.Shape.{shape}
use Rattle.objects.specs.ObjectText.{object_text}
use Rattle.objects.specs.Views.{identity_of, stamp_of, state_of}
use Rattle.objects.proofs.owned.Owned.text_with.Goals as goal

pub returns : goal.returns
returns c = λ lawful content members.
    let text = object_text (shape c.args.schema.now) (identity_of c.args.envelope.of) (stamp_of c.args.envelope.stamp) (state_of c.args.self.now) in
    c.into_text.ensures ∙ ap (λ w. w.text) (c.in_ok-write_object.ensures lawful content members ∙ ap (with_text text) c.in_ok-out.ensures)
