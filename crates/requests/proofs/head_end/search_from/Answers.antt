use Rattle.std.proofs.Common.{arith, ◌≡◌, ℕ, ◌++◌, length, drop, refl, sym, ap, ◌∙◌}
use Rattle.wire.specs.Heads.{end_from}
use Rattle.wire.proofs.HeadEnds.{goes_on}
use Rattle.requests.proofs.Searching.{ended, none_at_end}
use Rattle.requests.proofs.head_end.search_from.Goals as goal

pub loop-i-preserved : goal.loop-i-preserved
loop-i-preserved c = λ more.
    c.loop-i.invariant more
    ∙ goes_on c.loop-i.place c.in-Some.next c.loop-i.i _ 0 c.args.bytes.now more c.loop-i-test.true refl (sym c.place_after.ensures ∙ c.in-Some.is)

pub returns-in-None-clause-end : goal.returns-in-None-clause-end
returns-in-None-clause-end c =
    ended c.args.begin c.loop-i.place c.args.from c.loop-i.i _ 0 c.args.bytes.now c.loop-i.invariant c.loop-i-test.true refl (sym c.place_after.ensures ∙ c.in-None.is)

pub returns-clause-end : goal.returns-clause-end
returns-clause-end c =
    none_at_end c.args.begin c.loop-i.place c.args.from c.loop-i.i c.args.bytes.now c.loop-i.invariant (omega (arith, c.loop-i-test.false, c.loop-i.auto.i-end))

pub returns-clause-alike : goal.returns-clause-alike
returns-clause-alike c = λ more.
    let last : c.loop-i.i ≡ length c.args.bytes.now = omega (arith, c.loop-i-test.false, c.loop-i.auto.i-end) in
    c.loop-i.invariant more ∙ ap (λ (k : ℕ). end_from c.loop-i.place k (drop k (c.args.bytes.now ++ more))) last
