use Rattle.std.proofs.Common.{◌++◌, ap, ◌∙◌}
use Rattle.serde_json.specs.Written.{comma_if}
use Rattle.json_texts.proofs.Tokens.{no_tokens, weaker}
use Rattle.json_texts.proofs.writing.append.Goals as goal

pub returns-clause-bytes : goal.returns-clause-bytes
returns-clause-bytes c =
    weaker c.extend-extended.result
    (λ is. no_tokens c.new.result c.new.ensures.tokens ∙ c.new.ensures.before ∙ is ∙ ap (λ l. l ++ (comma_if c.args.later ++ c.args.text.now)) c.taken-all.ensures.bytes)
    c.extend-extended.ensures.appended
