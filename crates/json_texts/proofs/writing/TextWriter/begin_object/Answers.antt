use Rattle.std.proofs.Common.{false, refl, ap, ◌∙◌}
use Rattle.json.specs.Token.{begin_object}
use Rattle.json_texts.specs.Writing.{with_opening}
use Rattle.json_texts.proofs.Tokens.{begun}
use Rattle.json_texts.proofs.writing.TextWriter.begin_object.Goals as goal

pub returns : goal.returns
returns c =
    let text = begun c.self.inside.writer c.settle.new.writer c.begin_object.new.self c.self.inside.is_later (begin_object) refl (c.in_ok-settle.ensures.settled c.self.inside.is_later c.self.invariant.follows) c.in_ok-begin_object.ensures.room.0 c.in_ok-begin_object.ensures.ok in
    (λ i. record { text = text i; later = false }) ∙ ap (with_opening 123) c.self.view_is
