use Rattle.std.proofs.Common.{sym, ap, ap₂, ◌∙◌, ◌++◌, ◌∷◌, []}
use Rattle.std.proofs.lemmas.List.{map-append}
use Rattle.objects.specs.Managers.{pair, pairs}
use Rattle.objects.proofs.Entries.{empty_is}
use Rattle.objects.proofs.Moving.{one_empty, one_some}
use Rattle.objects.proofs.managers.carried_entries.Goals as goal
use Rattle.objects.proofs.managers.carried_entries.Goals.{then-not-is_empty+in_ok-try_copy+in_ok-push, else-not-is_empty}

pub loop-entry-preserved : goal.loop-entry-preserved
loop-entry-preserved c =
    let present = c.args.present.now in
    let new = c.args.new.now in
    let es = c.args.entries.now in
    let i = c.loop-entry.entry-index in
    let e = c.entry-item.result in
    let d = c.in_ok-paths.paths in
    let none = empty_is d c.is_empty.result c.is_empty.ensures in
    elim c.if-not-is_empty.branch [
      | then-not-is_empty+in_ok-try_copy+in_ok-push w ↦
          ap (λ l. pairs l.items) w.carried-is ∙ ap pairs w.in_ok-push.ensures.items ∙ map-append pair c.loop-entry.carried.items _ ∙ ap₂ (λ l x. l ++ x ∷ []) c.loop-entry.invariant (λ j. (w.in_ok-try_copy.ensures j, d))
          ∙ sym (one_some present new es i e c.loop-entry-test.true c.entry-item.is d c.in_ok-paths.ensures (none ∙ w.if-not-is_empty.true))
      | else-not-is_empty w ↦ ap (λ l. pairs l.items) w.carried-is ∙ c.loop-entry.invariant ∙ sym (one_empty present new es i e c.loop-entry-test.true c.entry-item.is d c.in_ok-paths.ensures (none ∙ w.if-not-is_empty.false))
    ]
