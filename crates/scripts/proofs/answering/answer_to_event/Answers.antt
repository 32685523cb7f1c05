use Rattle.std.proofs.Common.{◌∙◌, ap, refl}
use Rattle.std.specs.List.{flat_map}
use Rattle.std.specs.Prelude.{suc}
use Rattle.indexer.specs.Namespaces.{namespace_keys}
use Rattle.world.specs.Views.{event_seen}
use Rattle.scripts.specs.Piped.{event_parts, part_text}
use Rattle.scripts.proofs.Conversing.{step_emitted}
use Rattle.scripts.proofs.answering.answer_to_event.Goals as goal

pub returns-clause-takes : goal.returns-clause-takes
returns-clause-takes c = λ task n w line represents number says.
    let e = event_seen c.args.event.now in
    let did = c.in_ok-step.ensures.steps task w represents in
    let v = did.0 in
    let emitted = c.in_ok-text.ensures in
    let why = emitted.0 in (
      event_parts task (suc n) w e v why,
      v,
      record { event = e; says = says; steps = did.1; why = why; emitted = refl; count = number },
      did.2,
      emitted.1 ∙ step_emitted namespace_keys _ _ task c.args.number w e v c.in_ok-step.step why did.3 ∙ ap (λ k. flat_map part_text (event_parts task k w e v why)) number,
    )
