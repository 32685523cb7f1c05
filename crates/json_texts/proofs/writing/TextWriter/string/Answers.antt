use Rattle.std.proofs.Common.{true, refl, ap, ◌∙◌}
use Rattle.json.specs.Token.{string}
use Rattle.serde_json.specs.Data as json
use Rattle.serde_json.specs.Written.{compact_text}
use Rattle.json_texts.specs.Writing.{with_text}
use Rattle.json_texts.proofs.Tokens.{begun}
use Rattle.json_texts.proofs.writing.TextWriter.string.Goals as goal

pub returns : goal.returns
returns c =
    let text = begun c.self.inside.writer c.settle.new.writer c.string.new.self c.self.inside.is_later (string c.args.text.now) refl (c.in_ok-settle.ensures.settled c.self.inside.is_later c.self.invariant.follows) c.in_ok-string.ensures.room.0 c.in_ok-string.ensures.ok in
    (λ i. record { text = text i; later = true }) ∙ ap (with_text (compact_text (json.string c.args.text.now))) c.self.view_is
