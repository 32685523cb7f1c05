use Rattle.std.proofs.Common.{sym, ap, ap₂, ◌∙◌, ◌++◌, ◌∷◌, []}
use Rattle.std.proofs.lemmas.List.{map-append}
use Rattle.pathmap.specs.Beside.{is_empty}
use Rattle.objects.specs.Managers.{pair, pairs, manager_view}
use Rattle.objects.proofs.Entries.{less_same, less_empty, less_some, empty_is}
use Rattle.objects.proofs.managers.less_others.Goals as goal
use Rattle.objects.proofs.managers.less_others.Goals.{then-not-is_same+in_ok-paths+then-not-is_empty+in_ok-try_copy+in_ok-push, then-not-is_same+in_ok-paths+else-not-is_empty, else-not-is_same}

pub loop-entry-preserved : goal.loop-entry-preserved
loop-entry-preserved c =
    let lost = c.args.lost.now in
    let m = manager_view c.args.manager.now in
    let es = c.args.entries.now in
    let i = c.loop-entry.entry-index in
    let e = c.entry-item.result in
    elim c.if-not-is_same.branch [
      | then-not-is_same+in_ok-paths+then-not-is_empty+in_ok-try_copy+in_ok-push w ↦
          let none = empty_is w.in_ok-paths.paths w.is_empty.result w.is_empty.ensures ∙ w.if-not-is_empty.true in
          ap (λ l. pairs l.items) w.left-is ∙ ap pairs w.in_ok-push.ensures.items ∙ map-append pair c.loop-entry.left.items _ ∙ ap₂ (λ l x. l ++ x ∷ []) c.loop-entry.invariant (λ j. (w.in_ok-try_copy.ensures j, w.in_ok-paths.ensures j))
          ∙ sym (less_some lost m es i e c.loop-entry-test.true c.entry-item.is (sym c.is_same.ensures ∙ w.if-not-is_same.true) (ap is_empty (sym w.in_ok-paths.ensures) ∙ none))
      | then-not-is_same+in_ok-paths+else-not-is_empty w ↦
          let none = empty_is w.in_ok-paths.paths w.is_empty.result w.is_empty.ensures ∙ w.if-not-is_empty.false in
          ap (λ l. pairs l.items) w.left-is ∙ c.loop-entry.invariant
          ∙ sym (less_empty lost m es i e c.loop-entry-test.true c.entry-item.is (sym c.is_same.ensures ∙ w.if-not-is_same.true) (ap is_empty (sym w.in_ok-paths.ensures) ∙ none))
      | else-not-is_same w ↦ ap (λ l. pairs l.items) w.left-is ∙ c.loop-entry.invariant ∙ sym (less_same lost m es i e c.loop-entry-test.true c.entry-item.is (sym c.is_same.ensures ∙ w.if-not-is_same.false))
    ]
