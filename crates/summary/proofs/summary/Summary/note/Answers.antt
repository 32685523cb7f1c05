use Rattle.std.proofs.Common.{◌≡◌, ◌∙◌, ap}
use Rattle.std.proofs.lemmas.Result.{IfOk-weaker}
use Rattle.reflector.specs.ReplayLaws.{with_notice}
use Rattle.reflector.specs.Views.{notice_seen}
use Rattle.summary.specs.Counts.{summed_of}
use Rattle.summary.specs.Steps.{noted}
use Rattle.summary.specs.Summary.{summed}
use Rattle.summary.proofs.Noting.{summed_noted}
use Rattle.summary.proofs.summary.Summary.note.Goals as goal

pub returns-clause-noted : goal.returns-clause-noted
returns-clause-noted c = λ label o is lt old.
    let n = notice_seen c.args.notice.now in
    IfOk-weaker c.notify.result _ (λ _. summed c.notify.new.self ≡ summed_of label (with_notice o n)) (λ _ emitted. emitted ∙ ap (λ s. noted s n) is ∙ summed_noted label o n old lt) c.notify.ensures.ok
