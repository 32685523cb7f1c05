use Rattle.std.proofs.Common.{false, ◌∙◌}
use Rattle.json_texts.proofs.Tokens.{no_tokens}
use Rattle.json_texts.proofs.writing.TextWriter.with_capacity.Goals as goal

pub returns : goal.returns
returns c = λ i. record { text = (no_tokens c.new.result c.new.ensures.tokens ∙ c.new.ensures.before ∙ c.in_ok-with_capacity.ensures.items) i; later = false }
