use Rattle.std.proofs.Common.{◌∙◌, ap, map, refl}
use Rattle.std.specs.List.{flat_map}
use Rattle.indexer.specs.Objects.{shared_of, stored_of}
use Rattle.indexer.specs.declared.object.Object.{Object}
use Rattle.scripts.specs.AskedTexts.{object_text}
use Rattle.scripts.specs.Piped.{holds, part_text}
use Rattle.scripts.proofs.Pushed.{one_pushed}
use Rattle.scripts.proofs.answer_text.push_objects.Goals as goal

pub loop-object-preserved : goal.loop-object-preserved
loop-object-preserved c =
    let o = c.object-item.result in
    one_pushed (λ os. flat_map part_text (map holds (map shared_of os))) (λ x. part_text (holds (shared_of x))) (λ x xs. refl) c.args.objects.now c.loop-object.object-index o o c.loop-object.text.items c.push.new.text.items
    c.as_str.result.now _ c.loop-object-test.true c.object-item.is c.in_ok-push.ensures (c.as_str.ensures.value ∙ c.in_ok-object_line.ensures ∙ ap (λ (x : Object). object_text (stored_of x).text) c.deref.ensures) c.loop-object.invariant
