use Rattle.std.proofs.Common.{◌≡◌, ◌+◌, ◌≤◌, None, length, map, refl, ap, sym, subst, ◌∙◌, arith}
use Rattle.std.proofs.lemmas.List.{length-map}
use Rattle.history.specs.History.{History, last_revision}
use Rattle.history.specs.Kept.{IsPruned}
use Rattle.history.specs.Read.{write_of}
use Rattle.history.proofs.Writes.{kept_all}
use Rattle.revstore.specs.Waiting.{waiting_in}
use Rattle.revstore.proofs.Behind.{settled, still_waits}
use Rattle.revstore.proofs.batched.BatchedTable.put_all.Goals as goal

pub invariant_of-self : goal.invariant_of-self
invariant_of-self c =
    still_waits c.self.inside.table c.flush.new.table c.self.inside.window c.flush.new.window c.in_err-flush.ensures.err c.in_err-flush.ensures.waits
    c.self.invariant.0 c.self.invariant.1 (c.flush.ensures.latest _ c.self.invariant.2)

pub invariant_of-self-in_err-put_all : goal.invariant_of-self-in_err-put_all
invariant_of-self-in_err-put_all c =
    settled _ c.put_all.new.self c.flush.new.window (c.in_err-put_all.ensures.err ∙ c.in_ok-flush.ensures.all)
    (kept_all c.self.inside.table (waiting_in c.self.inside.window) c.self.invariant.0 c.self.invariant.1.0) c.in_ok-flush.ensures.none_left (c.flush.ensures.latest _ c.self.invariant.2)

pub invariant_of-self-2 : goal.invariant_of-self-2
invariant_of-self-2 c =
    let m : History = c.flush.new.table in
    let is : IsPruned m = subst IsPruned (sym c.in_ok-flush.ensures.all) (kept_all c.self.inside.table (waiting_in c.self.inside.window) c.self.invariant.0 c.self.invariant.1.0) in
    let same : m.current ≡ c.args.self.now.current = ap (λ (h : History). h.current) (c.in_ok-flush.ensures.all ∙ c.self.view_is) in
    let fits : c.args.self.now.current + length c.args.writes.now ≤ last_revision = c.requires.fit in
    let many : length (map write_of c.args.writes.now) ≡ length c.args.writes.now = length-map c.args.writes.now write_of in
    settled _ c.put_all.new.self None c.in_ok-put_all.ensures.ok (kept_all m (map write_of c.args.writes.now) is (omega (arith, same, fits, many))) refl tt
