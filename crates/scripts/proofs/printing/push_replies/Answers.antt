use Rattle.std.proofs.Common.{◌∙◌, ap, map, sym}
use Rattle.std.proofs.lemmas.List.{map-append}
use Rattle.scripts.specs.Output.{is_one_of, replied}
use Rattle.scripts.specs.Parts.{part_seen}
use Rattle.scripts.proofs.OutputLemmas.{one_left, one_shown}
use Rattle.scripts.proofs.printing.push_replies.Goals as goal
use Rattle.scripts.proofs.printing.push_replies.Goals.{then-contains+in_ok-push, else-contains}

pub loop-entry-preserved : goal.loop-entry-preserved
loop-entry-preserved c = λ ids is.
    let e = c.entry-item.result in
    let before = c.loop-entry.invariant ids is in
    let known = sym (is e.0) ∙ sym c.contains.ensures in
    elim c.if-contains.branch [
      | then-contains+in_ok-push w ↦
          ap (λ v. map part_seen v.items) w.parts-is ∙ ap (map part_seen) w.in_ok-push.ensures.items ∙ map-append part_seen c.loop-entry.parts.items _
          ∙ one_shown (λ x. is_one_of ids x.0) (λ x. replied x.1) _ _ c.args.written.now c.loop-entry.entry-index e c.loop-entry-test.true c.entry-item.is before _ (known ∙ w.if-contains.true) (ap replied w.as_slice.ensures.value)
      | else-contains w ↦
          ap (λ v. map part_seen v.items) w.parts-is
          ∙ one_left (λ x. is_one_of ids x.0) (λ x. replied x.1) _ _ c.args.written.now c.loop-entry.entry-index e c.loop-entry-test.true c.entry-item.is before (known ∙ w.if-contains.false)
    ]
