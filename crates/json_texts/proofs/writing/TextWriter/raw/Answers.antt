use Rattle.std.proofs.Common.{true, ap, ◌∙◌}
use Rattle.json_texts.specs.Writing.{with_text}
use Rattle.json_texts.proofs.Tokens.{weaker}
use Rattle.json_texts.proofs.writing.TextWriter.raw.Goals as goal

pub returns : goal.returns
returns c = weaker c.append.result (λ is. (λ i. record { text = is i; later = true }) ∙ ap (with_text c.args.text.now) c.self.view_is) c.append.ensures.bytes
