use Rattle.std.proofs.Common.{◌≡◌, ◌+◌, ◌<◌, ◌^◌, ◌∙◌, ap, map, subst, sym, take}
use Rattle.std.proofs.lemmas.List.{length-map}
use Rattle.std.proofs.lemmas.Result.{IfOk-weaker}
use Rattle.std.specs.FinMap as fin
use Rattle.reflector.specs.ReplayLaws.{replayed}
use Rattle.reflector.specs.Views.{notice_seen}
use Rattle.summary.specs.Counts.{summed_of}
use Rattle.summary.specs.Steps.{noted_all}
use Rattle.summary.specs.Summary.{summed}
use Rattle.summary.proofs.NotingAll.{summed_noted_all, some_summed, err_weaker}
use Rattle.summary.proofs.summary.Summary.note_all.Goals as goal

pub returns-clause-noted : goal.returns-clause-noted
returns-clause-noted c = λ label o is lt old.
    let ns = map notice_seen c.args.notices.now in
    let few = subst (λ n. fin.len o + n < 2 ^ 63) (sym (length-map c.args.notices.now notice_seen)) lt in
    IfOk-weaker c.notify_all.result _ (λ _. summed c.notify_all.new.self ≡ summed_of label (replayed o ns)) (λ _ emitted. emitted ∙ ap (λ s. noted_all s ns) is ∙ summed_noted_all label ns o old few) c.notify_all.ensures.ok

pub returns-clause-some : goal.returns-clause-some
returns-clause-some c = λ label o is lt old.
    let ns = c.args.notices.now in
    err_weaker c.notify_all.result (λ f. summed c.notify_all.new.self ≡ noted_all (summed c.args.self.now) (map notice_seen (take f.counted ns)))
    (λ f. summed c.notify_all.new.self ≡ summed_of label (replayed o (map notice_seen (take f.counted ns))))
    (λ f emitted. some_summed notice_seen label o ns f.counted (summed c.args.self.now) (summed c.notify_all.new.self) is old lt emitted) c.notify_all.ensures.err
