use Rattle.std.proofs.Common.{◌≡◌, option_map, ap, ◌∙◌, arith}
use Rattle.history.specs.History.{later}
use Rattle.history.specs.Page.{changes_within, picked}
use Rattle.history.specs.View.{View}
use Rattle.revstore.proofs.Latest.{none_left_out, shown_after}
use Rattle.revstore.proofs.store.Store.changes.Goals as goal

pub returns-clause-ok : goal.returns-clause-ok
returns-clause-ok c =
    let seen : later c.args.after c.self.inside.table.changes ≡ later c.args.after c.args.self.now.changes =
    shown_after c.self.inside.table c.args.after (omega (arith, c.if-after-marks.false, c.marks-marks.ensures.compacted)) ∙ ap (λ (v : View). later c.args.after v.changes) c.self.view_is in
    c.in_ok-changes.ensures.ok ∙ ap (changes_within c.args.kind (option_map (λ b. b.now) c.args.namespace) c.args.max) seen

pub returns-clause-whole : goal.returns-clause-whole
returns-clause-whole c = λ most.
    let seen : later c.args.after c.self.inside.table.changes ≡ later c.args.after c.args.self.now.changes =
    shown_after c.self.inside.table c.args.after (omega (arith, c.if-after-marks.false, c.marks-marks.ensures.compacted)) ∙ ap (λ (v : View). later c.args.after v.changes) c.self.view_is in
    c.in_ok-changes.ensures.ok ∙ none_left_out c.self.inside.table c.args.kind (option_map (λ b. b.now) c.args.namespace) c.args.after c.args.max c.self.invariant.0 most
    ∙ ap (picked c.args.kind (option_map (λ b. b.now) c.args.namespace)) seen
