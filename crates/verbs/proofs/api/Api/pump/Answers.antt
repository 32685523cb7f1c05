use Rattle.std.proofs.Common.{◌∙◌, ap}
use Rattle.history.specs.View.{View}
use Rattle.watchline.specs.Watches.{from_view, pumped}
use Rattle.verbs.proofs.Changes.{is_history}
use Rattle.verbs.proofs.api.Api.pump.Goals as goal

pub returns-clause-pumped : goal.returns-clause-pumped
returns-clause-pumped c = λ types m represents.
    c.in_ok-pump.ensures.pumped ∙ ap (λ (v : View). pumped (from_view v) c.args.max c.args.cursor.now) represents.store ∙ c.watches_by_views.ensures m c.args.max c.args.cursor.now (is_history types m represents.is_machine)
