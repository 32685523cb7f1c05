use Rattle.std.proofs.Common.{◌≡◌, ◌+◌, ◌≤◌, ap, length, map, sym, subst, ◌∙◌, arith}
use Rattle.std.proofs.lemmas.List.{length-map}
use Rattle.history.specs.History.{last_revision}
use Rattle.history.specs.Kept.{IsPruned}
use Rattle.history.specs.Read.{write_of}
use Rattle.history.specs.View.{View, state_in, view}
use Rattle.history.specs.Whole.{AreThere}
use Rattle.history.specs.Writes.{changes_by, written_all_in}
use Rattle.history.proofs.Views.{view_states}
use Rattle.history.proofs.Writes.{kept_all, view_all}
use Rattle.revstore.proofs.store.Store.write_all.Goals as goal

pub put_all-requires-clause-there : goal.put_all-requires-clause-there
put_all-requires-clause-there c =
    let h = c.self.inside.table in
    let ws = map write_of c.args.writes.now in
    subst (λ s. AreThere s (changes_by h.current ws)) (view_states h h.current c.self.invariant.0.is c.self.invariant.0.is.low)
    (subst (λ (v : View). AreThere (state_in v v.current) (changes_by v.current ws)) (sym c.self.view_is) c.requires.there)

pub invariant_of-self-2 : goal.invariant_of-self-2
invariant_of-self-2 c =
    let h = c.self.inside.table in
    let ws = map write_of c.args.writes.now in
    let count : length ws ≡ length c.args.writes.now = length-map c.args.writes.now write_of in
    let fits : h.current + length ws ≤ last_revision = omega (arith, count, c.self.invariant.0.is.high, c.if-count-current.false, c.marks-current.ensures.current) in
    (subst IsPruned (sym c.in_ok-put_all.ensures.ok) (kept_all h ws c.self.invariant.0 fits), tt)

pub returns-clause-ok : goal.returns-clause-ok
returns-clause-ok c =
    let h = c.self.inside.table in
    let ws = map write_of c.args.writes.now in
    ap view c.in_ok-put_all.ensures.ok ∙ view_all h ws c.self.invariant.0.is.low ∙ ap (λ v. written_all_in v ws) c.self.view_is
