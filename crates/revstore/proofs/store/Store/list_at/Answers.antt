use Rattle.std.proofs.Common.{option_map, ap, sym, ◌∙◌, arith}
use Rattle.history.specs.Page.{listed, page}
use Rattle.history.specs.View.{View, state_in}
use Rattle.history.proofs.Views.{view_states}
use Rattle.revstore.proofs.store.Store.list_at.Goals as goal

pub returns-clause-ok : goal.returns-clause-ok
returns-clause-ok c =
    c.in_ok-at.ensures.ok
    ∙ ap (page c.args.kind (option_map (λ b. b.now) c.args.namespace) (option_map (λ p. (p.0.now, p.1.now)) c.args.after) c.args.max) (sym (view_states c.self.inside.table c.args.revision c.self.invariant.0.is (omega (arith, c.if-revision-marks.false, c.marks-marks.ensures.compacted)))
    ∙ ap (λ (v : View). state_in v c.args.revision) c.self.view_is)

pub returns-clause-whole : goal.returns-clause-whole
returns-clause-whole c = λ most.
    c.in_ok-at.ensures.whole most
    ∙ ap (listed c.args.kind (option_map (λ b. b.now) c.args.namespace) (option_map (λ p. (p.0.now, p.1.now)) c.args.after)) (sym (view_states c.self.inside.table c.args.revision c.self.invariant.0.is (omega (arith, c.if-revision-marks.false, c.marks-marks.ensures.compacted)))
    ∙ ap (λ (v : View). state_in v c.args.revision) c.self.view_is)
