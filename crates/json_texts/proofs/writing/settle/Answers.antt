use Rattle.std.proofs.Common.{◌++◌, sym, ap, ◌∙◌}
use Rattle.std.proofs.lemmas.List.{append-nil}
use Rattle.serde_json.specs.Written.{comma_if}
use Rattle.json_texts.specs.Writing.{bytes_of}
use Rattle.json_texts.proofs.Tokens.{ended_none, weaker}
use Rattle.json_texts.proofs.writing.settle.Goals as goal

pub returns-then-is_behind_text-clause-settled : goal.returns-then-is_behind_text-clause-settled
returns-then-is_behind_text-clause-settled c =
    weaker c.append.result
    (λ is later follows. ap (λ l. bytes_of c.append.new.writer ++ l) (ended_none c.append.new.writer.tokens c.append.ensures.anew) ∙ append-nil (bytes_of c.append.new.writer) ∙ is
    ∙ ap (λ b. bytes_of c.args.writer.now ++ comma_if b) (sym (follows.due c.if-is_behind_text.true)))
    c.append.ensures.bytes
