use Rattle.std.proofs.Common.{◌∙◌, [], ap, map, refl, sym}
use Rattle.std.specs.Prelude.{slice_get}
use Rattle.std.specs.FinMap as fin
use Rattle.std.proofs.lemmas.Str.{IsUtf8-string_bytes}
use Rattle.api_types.specs.Served.{types_view}
use Rattle.summary.specs.Counts.{summed_of}
use Rattle.world_laws.specs.Tasks.{RunSettings, client_settings, wanted_by}
use Rattle.world.specs.Views.{settings_seen}
use Rattle.world.proofs.AtMost.{few_fresh}
use Rattle.world.proofs.Texts.{text_bytes}
use Rattle.world.proofs.Worlds.{reaches_fresh}
use Rattle.world.proofs.world.World.new_at.Goals as goal

pub returns-clause-represents : goal.returns-clause-represents
returns-clause-represents g c =
    let types = types_view c.args.types in
    let seen = settings_seen c.args.settings in
    let utf8 = IsUtf8-string_bytes c.args.settings.selector in
    let made = c.tasks_are_made.ensures.made types (map (λ b. g.I.IndexBy.title b) c.args.indexes.items) seen c.types_are_named.ensures.lawful c.types_are_named.ensures.apart (utf8, text_bytes seen.selector utf8) c.in_ok-client.ensures.fault in
    let task = made.0 in
    let same = made.2 in (
      task,
      made.1,
      same,
      record {
        hub = c.in_ok-server.ensures.serves;
        requested = c.new-requested.ensures.items;
        connection = refl;
        client = ([], [], c.in_ok-client.ensures.fresh, tt);
        wanted = c.in_ok-client.ensures.settings task.t (ap (λ (s : RunSettings). slice_get types s.kind) (sym same) ∙ made.1.served) ∙ ap (λ (s : RunSettings). client_settings (record { settings = s; t = task.t; requirements = [] })) (sym same);
        reaches = reaches_fresh (wanted_by task);
        few = few_fresh;
        counted = c.new-counts.ensures ∙ ap (λ l. summed_of l fin.empty) (c.in_ok-counted.ensures.cases ∙ ap (λ (s : RunSettings). s.label) (sym same));
        label = ap (λ (s : RunSettings). s.label) (sym same);
        place = ap (λ (s : RunSettings). s.summary) (sym same);
      },
    )
