use Rattle.std.proofs.Common.{◌≡◌, Option, IfOk, IfSome, option_map, refl, ap, sym, subst, ◌∙◌}
use Rattle.std.specs.FinMap as fin
use Rattle.history.specs.History.{History, Object, current_objects}
use Rattle.history.specs.Read.{key_of}
use Rattle.revstore.specs.ChangeWindow.{AreLatest}
use Rattle.revstore.specs.Shared.{object_in}
use Rattle.revstore.specs.Waiting.{waiting_in}
use Rattle.revstore.proofs.Behind.{not_waiting, still_waits}
use Rattle.revstore.proofs.batched.BatchedTable.latest.Goals as goal

pub invariant_of-self : goal.invariant_of-self
invariant_of-self c = (
  c.flush_if_waiting.ensures.pruned,
  c.flush_if_waiting.ensures.follow,
  subst (λ (h : History). IfSome c.flush_if_waiting.new.window (AreLatest h)) (sym c.flush_if_waiting.ensures.same) (c.flush_if_waiting.ensures.latest _ c.self.invariant.2),
)

pub invariant_of-self-2 : goal.invariant_of-self-2
invariant_of-self-2 c =
    still_waits c.flush_if_waiting.new.table c.shared_latest.new.table c.flush_if_waiting.new.window c.flush_if_waiting.new.window c.shared_latest.ensures.same refl
    c.flush_if_waiting.ensures.pruned c.flush_if_waiting.ensures.follow
    (subst (λ (h : History). IfSome c.flush_if_waiting.new.window (AreLatest h)) (sym c.flush_if_waiting.ensures.same) (c.flush_if_waiting.ensures.latest _ c.self.invariant.2))

pub returns-clause-ok : goal.returns-clause-ok
returns-clause-ok c =
    let k = key_of c.args.key.now in
    subst (λ (x : Option Object). IfOk c.shared_latest.result (λ o. option_map object_in o ≡ x))
    (not_waiting c.flush_if_waiting.new.table (waiting_in c.flush_if_waiting.new.window) k c.flush_if_waiting.ensures.pruned.is c.in_ok-flush_if_waiting.ensures.none
    ∙ ap (λ (h : History). fin.get (current_objects h) k) (c.flush_if_waiting.ensures.same ∙ c.self.view_is))
    c.shared_latest.ensures.ok
