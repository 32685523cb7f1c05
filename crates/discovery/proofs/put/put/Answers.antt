use Rattle.json.specs.declared.token.Token.TheVariants.{BeginObject}
use Rattle.discovery.proofs.Loops.{next_printable, tokens_end, tokens_next}
use Rattle.discovery.proofs.put.put.Goals as goal

pub put_one-requires : goal.put_one-requires
put_one-requires c = next_printable c.args.tokens.now c.args.writer.now c.loop-next.next-index c.loop-next.writer c.loop-next.invariant BeginObject c.loop-next-test.true

pub loop-next-preserved : goal.loop-next-preserved
loop-next-preserved c =
    tokens_next c.args.tokens.now c.args.writer.now c.loop-next.next-index c.loop-next.writer c.loop-next.invariant BeginObject c.loop-next-test.true c.put_one.new.writer c.in_ok-put_one.ensures.0
    c.in_ok-put_one.ensures.1

pub returns : goal.returns
returns c = tokens_end c.args.tokens.now c.args.writer.now c.loop-next.next-index c.loop-next.writer c.loop-next.invariant c.loop-next-test.false
