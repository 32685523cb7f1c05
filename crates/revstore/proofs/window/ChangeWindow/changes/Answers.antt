use Rattle.std.proofs.Common.{◌≡◌, ap, option_map, subst, sym, ◌∙◌}
use Rattle.history.specs.History.{IsRising, later}
use Rattle.history.specs.Page.{changes_within}
use Rattle.history.proofs.Revisions.{later-later}
use Rattle.revstore.specs.ChangeWindow.{changes_in}
use Rattle.revstore.proofs.Latest.{latest_rise}
use Rattle.revstore.proofs.window.ChangeWindow.changes.Goals as goal

pub returns : goal.returns
returns c = λ h is are.
    let r = c.args.self.now in
    let same : changes_in c.deref.result.now ≡ changes_in r.latest.items = ap changes_in c.deref.ensures.value in
    c.in_ok-found.ensures
    ∙ ap (changes_within c.args.kind (option_map (λ b. b.now) c.args.namespace) c.args.max)
    (c.from_after-later.ensures h.current (subst (λ cs. IsRising r.from cs h.current) (sym same) (latest_rise h r is are))
    ∙ ap (later c.args.after) (same ∙ are.changes) ∙ later-later r.from c.args.after h.changes c.if-after-self.false)
