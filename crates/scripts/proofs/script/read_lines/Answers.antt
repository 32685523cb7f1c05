use Rattle.std.proofs.Common.{ap, sym, subst, not, ◌∙◌, ◌∷◌, [], option_map, List, Bor, ℕ, ◌+◌, map, slice_index_or, take}
use Rattle.std.proofs.lemmas.List.{map-append}
use Rattle.world.specs.Views.{event_seen}
use Rattle.scripts.specs.Script.{AreEvents, ReadsLine}
use Rattle.scripts.proofs.ScriptLemmas.{first_bad, texts, with_event}
use Rattle.scripts.proofs.script.read_lines.Goals as goal

abbrev nothing : Bor (List ℕ)
nothing = record { ref_ptr = (0, 0); now = [] }

pub returns-in-None-clause-bad : goal.returns-in-None-clause-bad
returns-in-None-clause-bad c = λ n why e.
    first_bad c.args.lines.now c.loop-index.index nothing _ n c.loop-index-test.true (ap not (sym c.if-is_empty.ensures))
    (subst (λ o. ReadsLine (slice_index_or c.args.lines.now c.loop-index.index nothing).now (option_map event_seen o)) c.in-None.is c.in_ok-event.ensures) c.loop-index.invariant cc

pub loop-index-preserved : goal.loop-index-preserved
loop-index-preserved c =
    let said = subst (λ o. ReadsLine (slice_index_or c.args.lines.now c.loop-index.index nothing).now (option_map event_seen o)) c.in-Some.is c.in_ok-event.ensures in
    let all = with_event c.args.lines.now c.loop-index.index nothing _ _ c.loop-index-test.true (ap not (sym c.if-is_empty.ensures)) said c.loop-index.invariant in
    subst (AreEvents (texts (take (c.loop-index.index + 1) c.args.lines.now))) (sym (ap (map event_seen) c.in_ok-push-in-Some.ensures.items ∙ map-append event_seen c.loop-index.events.items _)) all
