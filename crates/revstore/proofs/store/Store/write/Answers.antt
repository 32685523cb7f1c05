use Rattle.std.proofs.Common.{◌≡◌, suc, ◌+◌, ◌≤◌, IfSome, option_map, ap, sym, subst, ◌∙◌, arith}
use Rattle.std.specs.FinMap as fin
use Rattle.std.specs.Rc.{rc_str_bytes}
use Rattle.history.specs.History.{Change, History, current_objects, last_revision, object_by, written}
use Rattle.history.specs.Kept.{IsPruned}
use Rattle.history.specs.Read.{key_of}
use Rattle.history.specs.View.{View, state_in, view, written_in}
use Rattle.history.proofs.Kept.{written_is}
use Rattle.history.proofs.Seen.{view_writes_low}
use Rattle.history.proofs.Views.{view_states}
use Rattle.revstore.specs.CachedObject.{AreIn}
use Rattle.revstore.proofs.Behind.{was_none}
use Rattle.revstore.proofs.store.Store.write.Goals as goal

pub put-requires-clause-next : goal.put-requires-clause-next
put-requires-clause-next c =
    let h = c.self.inside.table in
    let one : c.marks-current.result.current + 1 ≡ suc h.current = omega (arith, c.marks-current.ensures.current) in
    ap (λ (d : Change). d.revision) c.in_ok-change.ensures.change ∙ one

pub put-requires-clause-fits : goal.put-requires-clause-fits
put-requires-clause-fits c =
    let h = c.self.inside.table in
    let one : c.marks-current.result.current + 1 ≡ suc h.current = omega (arith, c.marks-current.ensures.current) in
    let fits : suc h.current ≤ last_revision = omega (arith, c.self.invariant.0.is.high, c.if-current-eq-LAST_REVISION.false, one) in
    subst (λ n. n ≤ last_revision) (sym (ap (λ (d : Change). d.revision) c.in_ok-change.ensures.change ∙ one)) fits

pub put-requires-clause-there : goal.put-requires-clause-there
put-requires-clause-there c = λ none.
    let same = c.in_ok-change.ensures.change in
    ap (λ (d : Change). fin.contains_key (current_objects c.self.inside.table) d.key) same
    ∙ ap (λ s. fin.contains_key s (key_of c.args.key.now)) (sym (view_states c.self.inside.table c.self.inside.table.current c.self.invariant.0.is c.self.invariant.0.is.low))
    ∙ ap (λ (v : View). fin.contains_key (state_in v v.current) (key_of c.args.key.now)) c.self.view_is
    ∙ c.requires.there (was_none (λ b. b.now) c.args.body (sym (ap (λ (d : Change). d.body) same) ∙ ap (option_map rc_str_bytes) none))

pub put-requires-clause-before : goal.put-requires-clause-before
put-requires-clause-before c = c.in_ok-change.ensures.before c.self.inside.table c.self.invariant.1

pub invariant_of-self-2 : goal.invariant_of-self-2
invariant_of-self-2 c =
    let h = c.self.inside.table in
    let change = c.in_ok-change.change in
    let body = option_map rc_str_bytes change.body in
    let one : c.marks-current.result.current + 1 ≡ suc h.current = omega (arith, c.marks-current.ensures.current) in
    let next : change.revision ≡ suc h.current = ap (λ (d : Change). d.revision) c.in_ok-change.ensures.change ∙ one in
    let wrote = sym c.in_ok-put.ensures.ok in (
      subst IsPruned wrote (written_is h _ _ c.self.invariant.0 (omega (arith, c.self.invariant.0.is.high, c.if-current-eq-LAST_REVISION.false, one))),
      subst (λ (t : History). IfSome c.put_written.new.slots (AreIn t)) (ap (λ k. written h k body) c.in_ok-left.ensures.key ∙ wrote)
          (c.put_written.ensures h body c.self.invariant.0.is.rising c.self.invariant.1 (c.in_ok-left.ensures.object ∙ ap (λ n. object_by n body) next)),
    )

pub returns-clause-ok : goal.returns-clause-ok
returns-clause-ok c =
    ap view c.in_ok-put.ensures.ok ∙ view_writes_low c.self.inside.table _ _ c.self.invariant.0.is.low
    ∙ ap (λ (v : View). written_in v (key_of c.in_ok-change.change.key.value) (option_map rc_str_bytes c.in_ok-change.change.body)) c.self.view_is
    ∙ ap (λ (d : Change). written_in c.args.self.now d.key d.body) c.in_ok-change.ensures.change
