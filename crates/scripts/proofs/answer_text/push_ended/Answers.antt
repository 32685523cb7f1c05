use Rattle.std.proofs.Common.{◌∙◌, map, refl}
use Rattle.std.specs.List.{flat_map}
use Rattle.scripts.specs.Piped.{ended, part_text}
use Rattle.scripts.proofs.Pushed.{one_pushed}
use Rattle.scripts.proofs.answer_text.push_ended.Goals as goal

pub loop-id-preserved : goal.loop-id-preserved
loop-id-preserved c =
    one_pushed (λ ids. flat_map part_text (map ended ids)) (λ id. part_text (ended id)) (λ id ids. refl) c.args.ids.now c.loop-id.id-index 0 _ c.loop-id.text.items c.push.new.text.items c.as_str.result.now _ c.loop-id-test.true refl
    c.in_ok-push.ensures (c.as_str.ensures.value ∙ c.in_ok-number_line.ensures) c.loop-id.invariant
