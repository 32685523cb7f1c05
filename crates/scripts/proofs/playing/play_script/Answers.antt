use Rattle.std.proofs.Common.{[], Err, List, ap, map, refl, inl, inr, subst}
use Rattle.std.proofs.KnownBytes.{Appends-nil}
use Rattle.api_types.specs.Served.{types_view}
use Rattle.world_laws.specs.World.{WorldEvent}
use Rattle.world.specs.Views.{event_seen, settings_seen}
use Rattle.scripts.specs.Asked.{settings_asked}
use Rattle.scripts.specs.Plays.{Plays, PlaysPrefix}
use Rattle.scripts.specs.Script.{lines_of}
use Rattle.scripts.proofs.Endings.{asking_spares_link, ends_as, ends_asking, ends_playing, ends_reading, playing_spares_link, reading_spares_link, spares_link, where_it_fails}
use Rattle.scripts.proofs.playing.play_script.Goals as goal

pub returns-in_err-events-clause-prefix : goal.returns-in_err-events-clause-prefix
returns-in_err-events-clause-prefix g c = where_it_fails c.from_residual.result ([], inl refl, Appends-nil (g.W.Write.contents c.args.writer.now))

pub returns-in_err-events-clause-ends : goal.returns-in_err-events-clause-ends
returns-in_err-events-clause-ends g c =
    let types = types_view c.args.types in
    let asked = settings_asked types c.args.options.now.client in
    let lines = lines_of c.args.script.now in
    ends_as types asked lines _ _ c.from_residual.ensures.1 (ends_reading types asked lines c.in_err-events.field-0.0 (λ n why is. c.in_err-events.ensures.bad n why (ap Err is)))

pub returns-in_err-events-clause-link : goal.returns-in_err-events-clause-link
returns-in_err-events-clause-link g c = λ lawful. spares_link _ _ c.from_residual.ensures.1 (reading_spares_link c.in_err-events.field-0.0)

pub returns-in_err-settings-clause-prefix : goal.returns-in_err-settings-clause-prefix
returns-in_err-settings-clause-prefix g c = where_it_fails c.from_residual-in_err-settings.result ([], inl refl, Appends-nil (g.W.Write.contents c.args.writer.now))

pub returns-in_err-settings-clause-ends : goal.returns-in_err-settings-clause-ends
returns-in_err-settings-clause-ends g c =
    let types = types_view c.args.types in
    let asked = settings_asked types c.args.options.now.client in
    let lines = lines_of c.args.script.now in
    ends_as types asked lines _ _ c.from_residual-in_err-settings.ensures.1
    (ends_asking types asked lines c.in_err-settings.field-0.0 (map event_seen c.in_ok-events.events.items, c.in_ok-events.ensures.ok) c.in_err-settings.ensures.refused)

pub returns-in_err-settings-clause-link : goal.returns-in_err-settings-clause-link
returns-in_err-settings-clause-link g c = λ lawful. spares_link _ _ c.from_residual-in_err-settings.ensures.1 (asking_spares_link c.in_err-settings.field-0.0 c.in_err-settings.ensures.refused)

pub returns-in_err-replay-clause-prefix : goal.returns-in_err-replay-clause-prefix
returns-in_err-replay-clause-prefix g c =
    let s = settings_seen c.in_ok-settings.settings in
    let prefix = c.in_err-replay.ensures.prefix in
    let played = subst (λ (es : List WorldEvent). PlaysPrefix (types_view c.args.types) s es prefix.0) (ap (map event_seen) c.deref.ensures.value) prefix.1 in
    where_it_fails c.from_residual-in_err-replay.result (prefix.0, inr (map event_seen c.in_ok-events.events.items, s, c.in_ok-events.ensures.ok, c.in_ok-settings.ensures.ok, played), prefix.2)

pub returns-in_err-replay-clause-ends : goal.returns-in_err-replay-clause-ends
returns-in_err-replay-clause-ends g c =
    let types = types_view c.args.types in
    let asked = settings_asked types c.args.options.now.client in
    let lines = lines_of c.args.script.now in
    ends_as types asked lines _ _ c.from_residual-in_err-replay.ensures.1
    (ends_playing types asked lines c.in_err-replay.field-0.0 (settings_seen c.in_ok-settings.settings) (map event_seen c.in_ok-events.events.items, c.in_ok-events.ensures.ok) c.in_ok-settings.ensures.ok
    c.in_err-replay.ensures.settings)

pub returns-in_err-replay-clause-link : goal.returns-in_err-replay-clause-link
returns-in_err-replay-clause-link g c = λ lawful.
    spares_link _ _ c.from_residual-in_err-replay.ensures.1 (playing_spares_link c.in_err-replay.field-0.0 (λ is. c.in_err-replay.ensures.link lawful (ap Err is)))

pub returns-clause-ok : goal.returns-clause-ok
returns-clause-ok g c =
    let s = settings_seen c.in_ok-settings.settings in
    let done = c.in_ok-replay.ensures.ok in
    let played = subst (λ (es : List WorldEvent). Plays (types_view c.args.types) s es done.0) (ap (map event_seen) c.deref.ensures.value) done.1 in
    (done.0, (map event_seen c.in_ok-events.events.items, s, c.in_ok-events.ensures.ok, c.in_ok-settings.ensures.ok, played), done.2)

pub returns-clause-ends : goal.returns-clause-ends
returns-clause-ends g c = (
  (map event_seen c.in_ok-events.events.items, c.in_ok-events.ensures.ok),
  (settings_seen c.in_ok-settings.settings, c.in_ok-settings.ensures.ok, c.in_ok-replay.ensures.settings),
)
