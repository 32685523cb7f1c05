use Rattle.std.proofs.Common.{◌∙◌, ℕ, ◌++◌, ap, subst, sym}
use Rattle.std.specs.Prelude.{is_none}
use Rattle.httpedge.specs.Effects.{change_in}
use Rattle.httpedge.specs.HubViews.{event_of}
use Rattle.httpedge.specs.Runs.{Steps, happens}
use Rattle.world.specs.Extents.{AreNotesSince}
use Rattle.world.specs.Recording.{HandledBy, ReportsFileOf}
use Rattle.world.specs.Serving.{opened_by}
use Rattle.world.proofs.Ids.{keys_after, keys_stay}
use Rattle.world.proofs.Kept.{refused_same}
use Rattle.world.proofs.Noted.{notes_follow}
use Rattle.world.proofs.server.Server.on.Goals as goal

pub returns-in_ok-note_changes-in-Done-clause-steps : goal.returns-in_ok-note_changes-in-Done-clause-steps
returns-in_ok-note_changes-in-Done-clause-steps c = λ s serves.
    let e = event_of c.args.event.now in
    let led = c.in_ok-why.ensures.handled s serves.0 in
    let t = led.0 in
    let by = subst (λ h. HandledBy s e h t) c.in-Done.is led.1 in
    let steps : Steps s e t = (by.1.0, by.1.1, by.1.2) in
    let ids = c.in_ok-note_id-in-Done.ensures ∙ ap (λ ids. ids ++ opened_by e) serves.1 ∙ keys_after c.each_changes.ensures s t e (ap is_none by.0) steps in
    let says = λ (q : ℕ). ap (λ changes. change_in changes q) c.changes.ensures ∙ by.1.3.says q in
    (t, steps, (led.2, ids), notes_follow s t e by.1.0 (λ q. c.written_stays.ensures.grows s t (happens e) q steps) (λ q. c.ends_stay.ensures s t (happens e) q steps) _ c.args.self.now.noted c.note_changes.new.noted says (c.in_ok-note_changes-in-Done.ensures t led.2))

pub returns-in_ok-note_changes-in-Done-clause-refused : goal.returns-in_ok-note_changes-in-Done-clause-refused
returns-in_ok-note_changes-in-Done-clause-refused c = λ s serves.
    let led = c.in_ok-why.ensures.handled s serves.0 in
    let by = subst (λ h. HandledBy s (event_of c.args.event.now) h led.0) c.in-Done.is led.1 in
    sym by.0

pub returns-in-Refused-clause-steps : goal.returns-in-Refused-clause-steps
returns-in-Refused-clause-steps c = λ s serves.
    let e = event_of c.args.event.now in
    let led = c.in_ok-why.ensures.handled s serves.0 in
    let t = led.0 in
    let by = subst (λ h. HandledBy s e h t) c.in-Refused.is led.1 in
    let refused = ap is_none by.0 in
    let same = refused_same s t e refused by.1 in
    (t, by.1, (led.2, serves.1 ∙ keys_stay s t e refused by.1), λ begin since. subst (AreNotesSince begin c.args.self.now.noted) (sym same) since)

pub returns-in-Refused-clause-refused : goal.returns-in-Refused-clause-refused
returns-in-Refused-clause-refused c = λ s serves.
    let led = c.in_ok-why.ensures.handled s serves.0 in
    let by = subst (λ h. HandledBy s (event_of c.args.event.now) h led.0) c.in-Refused.is led.1 in
    sym by.0

pub returns-in-Refused-clause-reported : goal.returns-in-Refused-clause-reported
returns-in-Refused-clause-reported c = subst (ReportsFileOf (event_of c.args.event.now)) c.in-Refused.is c.in_ok-why.ensures.reported
