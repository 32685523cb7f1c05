use Rattle.std.proofs.Common.{option_map, subst}
use Rattle.scripts.specs.Piped.{ReadsNext}
use Rattle.scripts.proofs.Conversing.{turned, turned_prefix, unturned}
use Rattle.scripts.proofs.Endings.{where_it_fails}
use Rattle.scripts.proofs.piping.answer_next.Goals as goal

pub returns-in_err-answer-clause-prefix : goal.returns-in_err-answer-clause-prefix
returns-in_err-answer-clause-prefix g c = λ task w represents.
    let before = g.R.Read.remaining c.args.reader.now in
    let after = g.R.Read.remaining c.next_line.new.reader in
    let read = subst (λ o. ReadsNext before after (option_map (λ v. v.items) o)) c.in-Ok-Some.field-0-is c.in-Ok-Some.ensures.ok in
    where_it_fails c.from_residual.result (unturned before after (g.W.Write.contents c.args.writer.now) task c.args.events w c.in-Ok-Some.line.items read)

pub returns-in-Ok-clause-turn : goal.returns-in-Ok-clause-turn
returns-in-Ok-clause-turn g c = λ task w represents.
    let before = g.R.Read.remaining c.args.reader.now in
    let after = g.R.Read.remaining c.next_line.new.reader in
    let answer = c.in_ok-answer.answer in
    let read = subst (λ o. ReadsNext before after (option_map (λ v. v.items) o)) c.in-Ok-Some.field-0-is c.in-Ok-Some.ensures.ok in
    turned before after (g.W.Write.contents c.args.writer.now) (g.W.Write.contents c.write.new.writer) c.answer_to.new.world task c.args.events w c.in-Ok-Some.line.items c.deref.result.now answer.text.items c.deref-2.result.now
    answer.events read c.in-Ok.ensures.all c.deref.ensures.value c.deref-2.ensures.value (c.in_ok-answer.ensures.answers task w represents)

pub returns-clause-prefix : goal.returns-clause-prefix
returns-clause-prefix g c = λ task w represents.
    let before = g.R.Read.remaining c.args.reader.now in
    let after = g.R.Read.remaining c.next_line.new.reader in
    let answer = c.in_ok-answer.answer in
    let read = subst (λ o. ReadsNext before after (option_map (λ v. v.items) o)) c.in-Ok-Some.field-0-is c.in-Ok-Some.ensures.ok in
    turned_prefix before after (g.W.Write.contents c.args.writer.now) (g.W.Write.contents c.write.new.writer) c.answer_to.new.world task c.args.events w c.in-Ok-Some.line.items c.deref.result.now answer.text.items c.deref-2.result.now
    answer.events read c.in-Err-write.ensures.prefix c.deref.ensures.value c.deref-2.ensures.value (c.in_ok-answer.ensures.answers task w represents)
