use Rattle.std.proofs.Common.{◌≡◌, ◌∙◌, [], ◌∷◌, List, Err, ap, map, refl, inl, inr, subst, sym}
use Rattle.std.specs.Prelude.{codes}
use Rattle.std.proofs.KnownBytes.{Appends-nil}
use Rattle.std.proofs.lemmas.Result.{on_err_weaker, on_ok_weaker}
use Rattle.indexer.specs.Namespaces.{namespace_keys}
use Rattle.indexer.specs.declared.by_namespace.ByNamespace.{ByNamespace}
use Rattle.api_types.specs.Served.{types_view}
use Rattle.api_types.specs.TypesFile.{ServedShape}
use Rattle.world_laws.specs.Tasks.{RunSettings, settings_fault}
use Rattle.world_laws.specs.World.{WorldEvent}
use Rattle.world.specs.Views.{event_seen, settings_seen}
use Rattle.world.specs.Traces.{IsTraceOf}
use Rattle.world.specs.declared.trace.Trace.{Trace}
use Rattle.scripts.specs.Plays.{Answers, IsRun, index_names}
use Rattle.scripts.proofs.Endings.{answers_by_run, answers_output, output_spares_link, run_spares_link, where_it_fails}
use Rattle.scripts.proofs.replaying.replay.Goals as goal

-- the one index is by the namespace
run_of : (b : ByNamespace) (indexes : List ByNamespace) (types : List ServedShape) (s : RunSettings) (events : List WorldEvent) (t : Trace) → indexes ≡ b ∷ []
    → IsTraceOf namespace_keys indexes (map (λ i. codes "namespace") indexes) types s events t → IsRun types s events t
run_of b indexes types s events t one run = (b, subst (λ (is : List ByNamespace). IsTraceOf namespace_keys is (map (λ i. codes "namespace") is) types s events t) one run)

named : (b : ByNamespace) (indexes : List ByNamespace) (types : List ServedShape) (s : RunSettings) → indexes ≡ b ∷ []
    → settings_fault types (map (λ i. codes "namespace") indexes) s ≡ settings_fault types index_names s
named b indexes types s one = ap (λ (is : List ByNamespace). settings_fault types (map (λ i. codes "namespace") is) s) one

pub returns-in_err-trace-clause-prefix : goal.returns-in_err-trace-clause-prefix
returns-in_err-trace-clause-prefix g c = where_it_fails c.from_residual-in_err-trace.result ([], inl refl, Appends-nil (g.W.Write.contents c.args.writer.now))

pub returns-in_err-trace-clause-settings : goal.returns-in_err-trace-clause-settings
returns-in_err-trace-clause-settings g c =
    subst (λ n. Answers n c.from_residual-in_err-trace.result) (named _ _ (types_view c.args.types) (settings_seen c.args.settings) c.in_ok-indexes.ensures.items)
    (answers_by_run Trace _ c.in_err-trace.field-0.0 _ c.from_residual-in_err-trace.ensures.1 c.in_err-trace.ensures.settings)

pub returns-in_err-trace-clause-link : goal.returns-in_err-trace-clause-link
returns-in_err-trace-clause-link g c = λ lawful. run_spares_link _ c.in_err-trace.field-0.0 c.from_residual-in_err-trace.ensures.1 (λ is. c.in_err-trace.ensures.link lawful (ap Err is))

pub returns-clause-ok : goal.returns-clause-ok
returns-clause-ok g c =
    let run = run_of _ _ (types_view c.args.types) (settings_seen c.args.settings) (map event_seen c.args.events.now) c.in_ok-trace.trace c.in_ok-indexes.ensures.items c.in_ok-trace.ensures.runs in
    on_ok_weaker c.print.result (λ emitted. (emitted.0, (c.in_ok-trace.trace, run, emitted.1), emitted.2)) c.print.ensures.ok

pub returns-clause-prefix : goal.returns-clause-prefix
returns-clause-prefix g c =
    let run = run_of _ _ (types_view c.args.types) (settings_seen c.args.settings) (map event_seen c.args.events.now) c.in_ok-trace.trace c.in_ok-indexes.ensures.items c.in_ok-trace.ensures.runs in
    on_err_weaker c.print.result (λ emitted. (emitted.0, inr (c.in_ok-trace.trace, run, emitted.1), emitted.2)) c.print.ensures.prefix

pub returns-clause-settings : goal.returns-clause-settings
returns-clause-settings g c =
    answers_output _ _ c.print.ensures.fault (sym (named _ _ (types_view c.args.types) (settings_seen c.args.settings) c.in_ok-indexes.ensures.items) ∙ c.in_ok-trace.ensures.settings)

pub returns-clause-link : goal.returns-clause-link
returns-clause-link g c = λ lawful. output_spares_link _ c.print.ensures.fault
