use Rattle.std.proofs.Common.{false, refl, ap, ◌∙◌}
use Rattle.json.specs.Token.{key}
use Rattle.json_texts.specs.Writing.{with_name}
use Rattle.json_texts.proofs.Tokens.{begun}
use Rattle.json_texts.proofs.writing.TextWriter.name.Goals as goal

pub returns : goal.returns
returns c =
    let text = begun c.self.inside.writer c.settle.new.writer c.key.new.self c.self.inside.is_later (key c.args.name.now) refl (c.in_ok-settle.ensures.settled c.self.inside.is_later c.self.invariant.follows) c.in_ok-key.ensures.room.0 c.in_ok-key.ensures.ok in
    (λ i. record { text = text i; later = false }) ∙ ap (with_name c.args.name.now) c.self.view_is
