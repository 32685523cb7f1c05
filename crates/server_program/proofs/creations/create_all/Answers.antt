use Rattle.std.proofs.Common.{◌+◌, ap, sym, subst, not, refl, List, [], ℕ, take_all}
use Rattle.std.specs.Borrow.{Bor}
use Rattle.server_program.specs.Creations.{CreatesAll}
use Rattle.server_program.proofs.Creating.{ends_at, past_empty, texts, with_creation}
use Rattle.server_program.proofs.creations.create_all.Goals as goal

abbrev nothing : Bor (List ℕ)
nothing = record { ref_ptr = (0, 0); now = [] }

pub returns-in-Err-clause-bad : goal.returns-in-Err-clause-bad
returns-in-Err-clause-bad c = λ types m stands.
    ends_at types m c.args.lines.now c.loop-index.index nothing (c.loop-index.index + 1) c.in-Err.why c.loop-index.api c.create.new.api c.loop-index-test.true (ap not (sym c.if-is_empty.ensures)) refl c.in-Err.ensures.unchanged
    (λ now before. c.in-Err.ensures.err types now before) (c.loop-index.invariant types m stands)

pub loop-index-preserved : goal.loop-index-preserved
loop-index-preserved c = λ types m stands.
    with_creation types m c.args.lines.now c.loop-index.index nothing c.loop-index.api c.create.new.api c.loop-index-test.true (ap not (sym c.if-is_empty.ensures))
    (λ now before. c.in-Ok.ensures.ok types now before) (c.loop-index.invariant types m stands)

pub loop-index-preserved-then-is_empty : goal.loop-index-preserved-then-is_empty
loop-index-preserved-then-is_empty c = λ types m stands.
    past_empty types m c.args.lines.now c.loop-index.index nothing c.loop-index.api c.loop-index-test.true (ap not (sym c.if-is_empty.ensures)) (c.loop-index.invariant types m stands)

pub returns-clause-ok : goal.returns-clause-ok
returns-clause-ok c = λ types m stands.
    subst (λ (ls : List (Bor (List ℕ))). CreatesAll types m (texts ls) c.loop-index.api) (take_all c.loop-index.index c.args.lines.now c.loop-index-test.false) (c.loop-index.invariant types m stands)
