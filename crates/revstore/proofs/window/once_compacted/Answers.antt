use Rattle.std.proofs.Common.{ap, subst, sym, IfSome, ◌∙◌}
use Rattle.revstore.specs.ChangeWindow.{AreLatest}
use Rattle.revstore.specs.Waiting.{waiting_in}
use Rattle.revstore.proofs.Latest.{still_latest}
use Rattle.revstore.proofs.window.once_compacted.Goals as goal

pub returns-else-window-revision-clause-latest : goal.returns-else-window-revision-clause-latest
returns-else-window-revision-clause-latest c = λ h is are.
    still_latest h c.forget.new.self c.args.revision is (c.forget.ensures.latest h is (subst (λ o. IfSome o (AreLatest h)) c.in-Some.is are)) c.if-window-revision.false

pub returns-else-window-revision-clause-none : goal.returns-else-window-revision-clause-none
returns-else-window-revision-clause-none c = λ none. c.forget.ensures.waiting ∙ ap waiting_in (sym c.in-Some.is) ∙ none
