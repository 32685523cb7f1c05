use Rattle.std.proofs.Common.{true, refl, ap, ◌∙◌}
use Rattle.json.specs.Token.{end_object}
use Rattle.json_texts.specs.Writing.{with_closing}
use Rattle.json_texts.proofs.Tokens.{ended}
use Rattle.json_texts.proofs.writing.TextWriter.end_object.Goals as goal

pub returns : goal.returns
returns c =
    let text = ended c.self.inside.writer c.end_object.new.self (end_object) refl c.in_ok-end_object.ensures.room.0 c.in_ok-end_object.ensures.ok in
    (λ i. record { text = text i; later = true }) ∙ ap (with_closing 125) c.self.view_is
