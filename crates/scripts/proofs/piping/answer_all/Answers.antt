use Rattle.std.proofs.Common.{subst}
use Rattle.scripts.specs.Piped.{Turns}
use Rattle.scripts.proofs.Conversing.{failed_turn, first_turn, last_turn, no_turn, one_turn}
use Rattle.scripts.proofs.Endings.{fails_as, where_it_fails}
use Rattle.scripts.proofs.piping.answer_all.Goals as goal

pub lines-init : goal.lines-init
lines-init g c = λ task w represents. first_turn (g.R.Read.remaining c.args.reader.now) (g.W.Write.contents c.args.writer.now) task w c.args.world.now represents

pub lines-preserved : goal.lines-preserved
lines-preserved g c = λ task w represents.
    let at = c.lines.invariant task w represents in
    let reader = g.R.Read.remaining c.lines.reader in
    let after = g.R.Read.remaining c.answer_next.new.reader in
    let writer = g.W.Write.contents c.lines.writer in
    let new = g.W.Write.contents c.answer_next.new.writer in
    let world = c.answer_next.new.world in
    one_turn (g.R.Read.remaining c.args.reader.now) reader after (g.W.Write.contents c.args.writer.now) writer new task w c.lines.world world c.lines.events c.in-Some.count at
    (subst (λ o. Turns reader after writer new task c.lines.events at.2 world o) c.in-Some.is (c.in_ok-count.ensures.turn task at.2 at.6))

pub returns-in-None-clause-ok : goal.returns-in-None-clause-ok
returns-in-None-clause-ok g c = λ task w represents.
    let at = c.lines.invariant task w represents in
    let reader = g.R.Read.remaining c.lines.reader in
    let after = g.R.Read.remaining c.answer_next.new.reader in
    let writer = g.W.Write.contents c.lines.writer in
    let new = g.W.Write.contents c.answer_next.new.writer in
    let world = c.answer_next.new.world in
    last_turn (g.R.Read.remaining c.args.reader.now) reader after (g.W.Write.contents c.args.writer.now) writer new task w c.lines.world world c.lines.events at
    (subst (λ o. Turns reader after writer new task c.lines.events at.2 world o) c.in-None.is (c.in_ok-count.ensures.turn task at.2 at.6))

pub returns-in_err-count-clause-prefix : goal.returns-in_err-count-clause-prefix
returns-in_err-count-clause-prefix g c = λ task w represents.
    let at = c.lines.invariant task w represents in
    where_it_fails c.from_residual.result
    (failed_turn (g.R.Read.remaining c.args.reader.now) (g.R.Read.remaining c.lines.reader) (g.R.Read.remaining c.answer_next.new.reader) (g.W.Write.contents c.args.writer.now) (g.W.Write.contents c.lines.writer)
    (g.W.Write.contents c.answer_next.new.writer) task w c.lines.world c.lines.events at (c.in_err-count.ensures.prefix task at.2 at.6))

pub returns-in_err-count-clause-ends : goal.returns-in_err-count-clause-ends
returns-in_err-count-clause-ends g c = fails_as c.from_residual.result c.in_err-count.field-0.0 c.from_residual.ensures.1 c.in_err-count.ensures.ends

pub returns-clause-prefix : goal.returns-clause-prefix
returns-clause-prefix g c = λ task w represents.
    no_turn (g.R.Read.remaining c.args.reader.now) (g.R.Read.remaining c.lines.reader) (g.W.Write.contents c.args.writer.now) (g.W.Write.contents c.lines.writer) task w c.lines.world c.lines.events (c.lines.invariant task w represents)
