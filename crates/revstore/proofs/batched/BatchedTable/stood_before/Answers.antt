use Rattle.std.proofs.Common.{◌≡◌, ◌-◌, is_some, ap, subst, IfSome, ◌∙◌}
use Rattle.std.specs.FinMap as fin
use Rattle.history.specs.History.{History, state_at}
use Rattle.history.specs.Read.{key_of}
use Rattle.history.specs.Writes.{written_all}
use Rattle.revstore.specs.Waiting.{waiting_in}
use Rattle.revstore.proofs.batched.BatchedTable.stood_before.Goals as goal

pub returns-in-Some-clause-ok : goal.returns-in-Some-clause-ok
returns-in-Some-clause-ok c =
    let h : History = written_all c.self.inside.table (waiting_in c.self.inside.window) in
    subst (λ o. IfSome o (λ b. b ≡ is_some (fin.get (state_at h.changes (c.args.revision - 1)) (key_of c.args.key.now)))) c.in-Some.is (c.known_to_stand.ensures h c.self.invariant.2)
    ∙ ap (λ (x : History). is_some (fin.get (state_at x.changes (c.args.revision - 1)) (key_of c.args.key.now))) c.self.view_is
