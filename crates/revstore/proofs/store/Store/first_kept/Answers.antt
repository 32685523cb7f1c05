use Rattle.std.proofs.Common.{option_map, ap, sym, ◌∙◌, arith}
use Rattle.history.specs.Page.{listed}
use Rattle.history.specs.View.{View, state_in}
use Rattle.history.proofs.Views.{view_states}
use Rattle.revtable.specs.Kept.{first_kept, kept_among}
use Rattle.revstore.proofs.store.Store.first_kept.Goals as goal

pub returns-clause-ok : goal.returns-clause-ok
returns-clause-ok g c =
    c.in_ok-first_kept.ensures.ok
    ∙ ap (λ s. first_kept (g.K.Keep.kept c.args.keep.now) c.args.max (listed c.args.kind (option_map (λ b. b.now) c.args.namespace) (option_map (λ p. (p.0.now, p.1.now)) c.args.after) s))
    (sym (view_states c.self.inside.table c.args.revision c.self.invariant.0.is (omega (arith, c.if-marks-revision.false, c.marks-marks.ensures.compacted)))
    ∙ ap (λ (v : View). state_in v c.args.revision) c.self.view_is)

pub returns-clause-whole : goal.returns-clause-whole
returns-clause-whole g c = λ most.
    c.in_ok-first_kept.ensures.whole most
    ∙ ap (λ s. kept_among (g.K.Keep.kept c.args.keep.now) (listed c.args.kind (option_map (λ b. b.now) c.args.namespace) (option_map (λ p. (p.0.now, p.1.now)) c.args.after) s))
    (sym (view_states c.self.inside.table c.args.revision c.self.invariant.0.is (omega (arith, c.if-marks-revision.false, c.marks-marks.ensures.compacted)))
    ∙ ap (λ (v : View). state_in v c.args.revision) c.self.view_is)
