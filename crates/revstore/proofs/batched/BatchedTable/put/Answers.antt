use Rattle.std.proofs.Common.{◌≡◌, suc, ◌≤◌, IfSome, option_map, refl, ap, sym, subst, ◌∙◌, arith}
use Rattle.std.specs.FinMap as fin
use Rattle.std.specs.Rc.{rc_str_bytes}
use Rattle.history.specs.History.{History, current_objects, last_revision, written}
use Rattle.history.specs.Kept.{IsPruned}
use Rattle.history.specs.Read.{key_of}
use Rattle.history.specs.Writes.{written_all}
use Rattle.history.proofs.Writes.{kept_all}
use Rattle.revstore.specs.ChangeWindow.{AreLatest}
use Rattle.revstore.specs.Waiting.{CanFollow, waiting_in, write_in}
use Rattle.revtable.proofs.Within.{on_err}
use Rattle.revstore.proofs.Behind.{one_more_follows, pushed, still_waits, was_none}
use Rattle.revstore.proofs.batched.BatchedTable.put.Goals as goal

pub invariant_of-self : goal.invariant_of-self
invariant_of-self c = (
  c.flush_if_full.ensures.pruned,
  c.flush_if_full.ensures.follow,
  subst (λ (h : History). IfSome c.flush_if_full.new.window (AreLatest h)) (sym c.flush_if_full.ensures.same) (c.flush_if_full.ensures.latest _ c.self.invariant.2),
)

pub invariant_of-self-in_err-push_change : goal.invariant_of-self-in_err-push_change
invariant_of-self-in_err-push_change c =
    let h : History = written_all c.self.inside.table (waiting_in c.self.inside.window) in
    let is : IsPruned h = kept_all c.self.inside.table (waiting_in c.self.inside.window) c.self.invariant.0 c.self.invariant.1.0 in
    let both = c.in_err-push_change.ensures.err h is.is.rising (c.flush_if_full.ensures.latest h c.self.invariant.2) in
    still_waits c.flush_if_full.new.table c.flush_if_full.new.table c.flush_if_full.new.window c.push_change.new.window refl both.1 c.flush_if_full.ensures.pruned c.flush_if_full.ensures.follow
    (subst (λ (x : History). IfSome c.push_change.new.window (AreLatest x)) (sym c.flush_if_full.ensures.same) both.0)

pub returns-in_err-push_change-clause-err : goal.returns-in_err-push_change-clause-err
returns-in_err-push_change-clause-err c =
    let h : History = written_all c.self.inside.table (waiting_in c.self.inside.window) in
    let is : IsPruned h = kept_all c.self.inside.table (waiting_in c.self.inside.window) c.self.invariant.0 c.self.invariant.1.0 in
    let both = c.in_err-push_change.ensures.err h is.is.rising (c.flush_if_full.ensures.latest h c.self.invariant.2) in
    on_err c.from_residual-in_err-push_change.result _ (ap (written_all c.flush_if_full.new.table) both.1 ∙ c.flush_if_full.ensures.same ∙ c.self.view_is)

pub invariant_of-self-2 : goal.invariant_of-self-2
invariant_of-self-2 c =
    let t : History = c.flush_if_full.new.table in
    let now : History = c.args.self.now in
    let as_before : written_all t (waiting_in c.flush_if_full.new.window) ≡ now = c.flush_if_full.ensures.same ∙ c.self.view_is in
    let is : IsPruned now = subst IsPruned c.self.view_is (kept_all c.self.inside.table (waiting_in c.self.inside.window) c.self.invariant.0 c.self.invariant.1.0) in
    let are : IfSome c.flush_if_full.new.window (AreLatest now) = subst (λ (h : History). IfSome c.flush_if_full.new.window (AreLatest h)) c.self.view_is (c.flush_if_full.ensures.latest _ c.self.invariant.2) in
    let both = c.in_ok-push_change.ensures.ok now is.is.rising c.requires.next are c.requires.before in
    let made : written_all t (waiting_in c.push_change.new.window) ≡ written now (key_of c.args.change.key.value) (option_map rc_str_bytes c.args.change.body) =
    pushed t (waiting_in c.flush_if_full.new.window) (waiting_in c.push_change.new.window) (write_in c.args.change) now both.1 as_before in
    let same : (written_all t (waiting_in c.flush_if_full.new.window)).current ≡ now.current = ap (λ (h : History). h.current) as_before in
    let next : c.args.change.revision ≡ suc now.current = c.requires.next in
    let fits : c.args.change.revision ≤ last_revision = c.requires.fits in (
      c.flush_if_full.ensures.pruned,
      subst (CanFollow t) (sym both.1)
          (one_more_follows t (waiting_in c.flush_if_full.new.window) (write_in c.args.change) c.flush_if_full.ensures.pruned.is c.flush_if_full.ensures.follow (omega (arith, same, next, fits))
          (λ none. ap (λ (h : History). fin.contains_key (current_objects h) (key_of c.args.change.key.value)) as_before ∙ c.requires.there (was_none rc_str_bytes c.args.change.body none))),
      subst (λ (h : History). IfSome c.push_change.new.window (AreLatest h)) (sym made) both.0,
    )

pub returns-clause-ok : goal.returns-clause-ok
returns-clause-ok c =
    let now : History = c.args.self.now in
    let is : IsPruned now = subst IsPruned c.self.view_is (kept_all c.self.inside.table (waiting_in c.self.inside.window) c.self.invariant.0 c.self.invariant.1.0) in
    let are : IfSome c.flush_if_full.new.window (AreLatest now) = subst (λ (h : History). IfSome c.flush_if_full.new.window (AreLatest h)) c.self.view_is (c.flush_if_full.ensures.latest _ c.self.invariant.2) in
    let both = c.in_ok-push_change.ensures.ok now is.is.rising c.requires.next are c.requires.before in
    pushed c.flush_if_full.new.table (waiting_in c.flush_if_full.new.window) (waiting_in c.push_change.new.window) (write_in c.args.change) now both.1 (c.flush_if_full.ensures.same ∙ c.self.view_is)
