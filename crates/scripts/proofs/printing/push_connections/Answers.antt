use Rattle.std.proofs.Common.{◌∙◌, ap, map, not, sym}
use Rattle.std.proofs.lemmas.List.{map-append}
use Rattle.scripts.specs.Output.{connected, is_one_of}
use Rattle.scripts.specs.Parts.{part_seen}
use Rattle.scripts.proofs.OutputLemmas.{one_left, one_shown}
use Rattle.scripts.proofs.printing.push_connections.Goals as goal
use Rattle.scripts.proofs.printing.push_connections.Goals.{then-not-contains+in_ok-push, else-not-contains}

pub loop-entry-preserved : goal.loop-entry-preserved
loop-entry-preserved c = λ ids is.
    let e = c.entry-item.result in
    let before = c.loop-entry.invariant ids is in
    let known = sym (is e.0) ∙ sym c.contains.ensures in
    elim c.if-not-contains.branch [
      | then-not-contains+in_ok-push w ↦
          ap (λ v. map part_seen v.items) w.parts-is ∙ ap (map part_seen) w.in_ok-push.ensures.items ∙ map-append part_seen c.loop-entry.parts.items _
          ∙ one_shown (λ x. not (is_one_of ids x.0)) (λ x. connected x.0 x.1) _ _ c.args.written.now c.loop-entry.entry-index e c.loop-entry-test.true c.entry-item.is before _ (ap not (known ∙ w.if-not-contains.true)) (ap (connected e.0) w.as_slice.ensures.value)
      | else-not-contains w ↦
          ap (λ v. map part_seen v.items) w.parts-is
          ∙ one_left (λ x. not (is_one_of ids x.0)) (λ x. connected x.0 x.1) _ _ c.args.written.now c.loop-entry.entry-index e c.loop-entry-test.true c.entry-item.is before (ap not (known ∙ w.if-not-contains.false))
    ]
