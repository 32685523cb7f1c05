use Rattle.std.proofs.Common.{true, refl, ap, ◌∙◌}
use Rattle.json.specs.Token.{end_array}
use Rattle.json_texts.specs.Writing.{with_closing}
use Rattle.json_texts.proofs.Tokens.{ended}
use Rattle.json_texts.proofs.writing.TextWriter.end_array.Goals as goal

pub returns : goal.returns
returns c =
    let text = ended c.self.inside.writer c.end_array.new.self (end_array) refl c.in_ok-end_array.ensures.room.0 c.in_ok-end_array.ensures.ok in
    (λ i. record { text = text i; later = true }) ∙ ap (with_closing 93) c.self.view_is
