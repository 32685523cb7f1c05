use Rattle.std.proofs.Common.{◌∙◌, ap, map, refl, subst, sym}
use Rattle.std.specs.List.{All}
use Rattle.std.specs.FinMap as fin
use Rattle.indexer.specs.Indexer.{indexed_objects_of, indexes_of}
use Rattle.indexer.specs.Kept.{objects_in}
use Rattle.reflector.specs.Client.{kept}
use Rattle.reflector.specs.InformerViews.{indexes_in, names_in}
use Rattle.reflector.specs.MirrorViews.{keyed}
use Rattle.reflector.specs.MirrorRepresentsViews.{keys_in}
use Rattle.summary.specs.Counts.{counts_of}
use Rattle.world.specs.Shots.{ShowsIndex}
use Rattle.world.proofs.Reports.{due, keyed_objects, shown_none, shown_one, silent, undue}
use Rattle.world.proofs.reporting.report.Goals as goal

pub returns-in_default-clause-reports : goal.returns-in_default-clause-reports
returns-in_default-clause-reports g c = λ task was w represents old.
    let k = represents.client in
    shown_none (λ b s. g.I.IndexBy.keys b s) (indexes_in c.args.world.now.client) (names_in c.args.world.now.client) task.settings.label _
    (silent c.args.event w.hub.machine was w.client.cache (sym c.in_default.is ∙ c.revision.ensures w.client k.0 k.1 k.2))

pub returns-then-not-is_due-clause-reports : goal.returns-then-not-is_due-clause-reports
returns-then-not-is_due-clause-reports g c = λ task was w represents old.
    let k = represents.client in
    shown_none (λ b s. g.I.IndexBy.keys b s) (indexes_in c.args.world.now.client) (names_in c.args.world.now.client) task.settings.label _
    (undue c.args.event w.hub.machine was w.client.cache c.args.before c.in-Some.revision old (sym c.in-Some.is ∙ c.revision.ensures w.client k.0 k.1 k.2) (sym c.is_due.ensures ∙ c.if-not-is_due.true))

pub returns-clause-reports : goal.returns-clause-reports
returns-clause-reports g c = λ task was w represents old.
    let k = represents.client in
    let indexes = indexes_in c.args.world.now.client in
    let names = names_in c.args.world.now.client in
    let label = task.settings.label in
    let ks = keys_in (λ b s. g.I.IndexBy.keys b s) indexes in
    let held_is = c.indexer-2.ensures.objects w.client k.0 k.1 k.2 ∙ ap (λ ixs. keyed (keys_in (λ b s. g.I.IndexBy.keys b s) ixs) (kept w.client.cache)) c.indexer-2.ensures.indexes in
    let is = due c.args.event w.hub.machine was w.client.cache c.args.before c.in-Some.revision old (sym c.in-Some.is ∙ c.revision.ensures w.client k.0 k.1 k.2) (sym c.is_due.ensures ∙ c.if-not-is_due.false) in
    shown_one (λ b s. g.I.IndexBy.keys b s) indexes names label (record { event = c.args.event; revision = c.in-Some.revision; objects = c.in_ok-objects.objects; indexes = c.in_ok-indexes.indexes; counts = c.in_ok-counts.counts }) _ _ is.3
    (record {
      event = refl;
      revision = is.2;
      objects = c.in_ok-objects.ensures ∙ ap (λ held. map (λ e. e.1) (objects_in held)) (c.indexer.ensures.objects w.client k.0 k.1 k.2) ∙ ap (map (λ e. e.1)) (keyed_objects (keys_in (λ b s. g.I.IndexBy.keys b s) (indexes_of c.indexer.result.now)) (kept w.client.cache))
          ∙ ap (λ cache. map (λ e. e.1) (fin.entries (kept cache))) is.1;
      named = c.in_ok-indexes.ensures.named ∙ c.indexer-2.ensures.names;
      shots = subst (λ held. All (ShowsIndex held names) c.in_ok-indexes.indexes.items) (held_is ∙ ap (λ cache. keyed ks (kept cache)) is.1)
          (subst (λ ns. All (ShowsIndex (indexed_objects_of c.indexer-2.result.now) ns) c.in_ok-indexes.indexes.items) c.indexer-2.ensures.names c.in_ok-indexes.ensures.show);
      counts = c.in_ok-counts.ensures ∙ ap (λ s. s.counts) represents.counted ∙ ap (λ cache. counts_of label (kept cache)) is.1;
    })
