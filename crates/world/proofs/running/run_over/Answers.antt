use Rattle.std.proofs.Common.{Err, ap, map, refl, string_bytes}
use Rattle.std.proofs.lemmas.List.{length-map}
use Rattle.api_types.specs.Served.{types_view}
use Rattle.reflector.specs.InformerViews.{indexes_in, names_in}
use Rattle.world_laws.specs.World as worlds
use Rattle.world.specs.Views.{event_seen, settings_seen}
use Rattle.world.proofs.Failing.{answers_run, never_link}
use Rattle.world.proofs.Reports.{traces_as}
use Rattle.world.proofs.States.{trace_of}
use Rattle.world.proofs.running.run_over.Goals as goal

pub returns-clause-runs : goal.returns-clause-runs
returns-clause-runs g c =
    let represents = c.in_ok-world.ensures.represents in
    let task = represents.0 in
    let begin = worlds.start (types_view c.args.types) in
    let all = c.in_ok-reports.ensures.runs task begin represents.3 in
    let client = c.in_ok-world.world.client in
    let label = task.settings.label in
    let events = map event_seen c.args.events.now in
    trace_of (λ b o. g.I.IndexBy.keys b o) c.args.indexes.items (map (λ b. g.I.IndexBy.title b) c.args.indexes.items) (types_view c.args.types) (settings_seen c.args.settings) events c.in_ok-trace.field-0 task all.0 all.1
    (length-map c.args.indexes.items (λ b. g.I.IndexBy.title b)) c.in_ok-world.ensures.settings represents.1 represents.2 all.2
    (traces_as (λ b o. g.I.IndexBy.keys b o) (indexes_in client) c.args.indexes.items (names_in client) (map (λ b. g.I.IndexBy.title b) c.args.indexes.items) label label all.0 all.1 c.in_ok-trace.field-0
    c.in_ok-world.ensures.indexes c.in_ok-world.ensures.names refl (c.in_ok-trace.ensures.traces task _ all.0 (indexes_in client) (names_in client) all.1 all.3 all.4))
    (c.one_history.ensures (types_view c.args.types) task events all.0 all.1 c.types_are_of_objects.ensures represents.1 all.2)

pub returns-clause-client : goal.returns-clause-client
returns-clause-client g c =
    let represents = c.in_ok-world.ensures.represents in
    let task = represents.0 in
    let begin = worlds.start (types_view c.args.types) in
    let all = c.in_ok-reports.ensures.runs task begin represents.3 in
    let client = c.in_ok-world.world.client in
    let traces = c.in_ok-trace.ensures.traces task _ all.0 (indexes_in client) (names_in client) all.1 all.3 all.4 in
    let events = map event_seen c.args.events.now in
    record {
      task = task;
      lawful = represents.1;
      asked = represents.2;
      end = all.0;
      reports = all.1;
      runs = all.2;
      shows = traces_as (λ b o. g.I.IndexBy.keys b o) (indexes_in client) c.args.indexes.items (names_in client) (map (λ b. g.I.IndexBy.title b) c.args.indexes.items) task.settings.label (string_bytes c.args.settings.label) all.0 all.1 c.in_ok-trace.field-0
          c.in_ok-world.ensures.indexes c.in_ok-world.ensures.names (ap (λ s. s.label) represents.2) traces;
      right = (c.headline.ensures (types_view c.args.types) task events all.0 all.1 c.types_are_of_objects.ensures represents.1 all.2).0;
    }

pub returns-in_err-reports-clause-settings : goal.returns-in_err-reports-clause-settings
returns-in_err-reports-clause-settings g c = answers_run _ _ _ c.from_residual-in_err-reports.ensures.1 c.in_ok-world.ensures.settings

pub returns-in_err-reports-clause-link : goal.returns-in_err-reports-clause-link
returns-in_err-reports-clause-link g c = λ lawful. never_link _ _ c.from_residual-in_err-reports.ensures.1 (λ is. c.in_err-reports.ensures.link lawful (ap Err is))

pub returns-in_err-trace-clause-settings : goal.returns-in_err-trace-clause-settings
returns-in_err-trace-clause-settings g c = answers_run _ _ _ c.from_residual-in_err-trace.ensures.1 c.in_ok-world.ensures.settings

pub returns-in_err-trace-clause-link : goal.returns-in_err-trace-clause-link
returns-in_err-trace-clause-link g c = λ lawful. never_link _ _ c.from_residual-in_err-trace.ensures.1 (λ is. c.in_err-trace.ensures.link (ap Err is))
