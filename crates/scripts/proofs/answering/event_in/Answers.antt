use Rattle.std.proofs.Common.{option_map, subst, sym}
use Rattle.world.specs.Views.{event_seen}
use Rattle.scripts.specs.Script.{IsEventLine, ReadsLine}
use Rattle.scripts.proofs.answering.event_in.Goals as goal

pub returns-in_default-clause-bad : goal.returns-in_default-clause-bad
returns-in_default-clause-bad c = λ utf8 e says. c.in_default.ensures.cases.0 utf8

pub returns-in-Some-clause-event : goal.returns-in-Some-clause-event
returns-in-Some-clause-event c =
    subst (λ bytes. IsEventLine bytes (event_seen c.in-Some.event)) c.in-Ok.ensures.cases.0 (subst (λ o. ReadsLine c.in-Ok.text.now (option_map event_seen o)) c.in-Some.is c.in_ok-event.ensures)

pub returns-in_ok-line_fault-in-None-clause-bad : goal.returns-in_ok-line_fault-in-None-clause-bad
returns-in_ok-line_fault-in-None-clause-bad c = λ utf8 e says.
    (subst (λ o. ReadsLine c.in-Ok.text.now (option_map event_seen o)) c.in-None.is c.in_ok-event.ensures) e (subst (λ bytes. IsEventLine bytes e) (sym c.in-Ok.ensures.cases.0) says)
