use Rattle.std.proofs.Common.{◌∙◌, ◌≤◌, ap, subst}
use Rattle.watchline.specs.Views.{cursor_of}
use Rattle.watchline.specs.Watches.{from_view, pumped}
use Rattle.watchline.proofs.Coming.{sent_is}
use Rattle.watchline.proofs.cursor.WatchCursor.pump.Goals as goal

pub returns-clause-pumped : goal.returns-clause-pumped
returns-clause-pumped c =
    let s = from_view c.args.store.now in
    let w = cursor_of c.self.inside.scope c.self.inside.progress in
    sent_is s w c.args.max _ (subst (λ n. n ≤ c.self.inside.progress.position) c.compacted-compacted.ensures c.if-position-compacted.false) c.in_ok-pumped.ensures.sent ∙ ap (pumped s c.args.max) c.self.view_is
