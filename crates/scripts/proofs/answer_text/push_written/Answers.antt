use Rattle.std.proofs.Common.{◌∙◌, ap, map, refl}
use Rattle.std.specs.List.{flat_map}
use Rattle.world.specs.Views.{reply_seen}
use Rattle.scripts.specs.Piped.{part_text, written_part, written_text}
use Rattle.scripts.proofs.Pushed.{one_pushed}
use Rattle.scripts.proofs.answer_text.push_written.Goals as goal

pub loop-entry-preserved : goal.loop-entry-preserved
loop-entry-preserved c =
    let e = c.entry-item.result in
    one_pushed (λ es. flat_map part_text (map written_part (map reply_seen es))) (λ x. part_text (written_part (reply_seen x))) (λ x xs. refl) c.args.written.now c.loop-entry.entry-index e e c.loop-entry.text.items c.push.new.text.items
    c.as_str.result.now _ c.loop-entry-test.true c.entry-item.is c.in_ok-push.ensures (c.as_str.ensures.value ∙ c.in_ok-written_line.ensures ∙ ap (written_text e.0) c.deref.ensures.value) c.loop-entry.invariant
