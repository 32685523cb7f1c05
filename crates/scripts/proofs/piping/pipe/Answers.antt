use Rattle.std.proofs.Common.{[], inl, inr, refl}
use Rattle.std.proofs.KnownBytes.{Appends-nil, Consumes-nil}
use Rattle.std.proofs.lemmas.Result.{on_err_weaker, on_ok_weaker}
use Rattle.api_types.specs.Served.{types_view}
use Rattle.world.specs.Starting.{start_at}
use Rattle.world.specs.Views.{settings_seen}
use Rattle.scripts.specs.Asked.{settings_asked}
use Rattle.scripts.proofs.Endings.{ends_all, ends_as, ends_asking, ends_playing, where_it_fails}
use Rattle.scripts.proofs.piping.pipe.Goals as goal

pub returns-in_err-settings-clause-prefix : goal.returns-in_err-settings-clause-prefix
returns-in_err-settings-clause-prefix g c =
    where_it_fails c.from_residual.result ([], [], inl (refl, refl), Consumes-nil (g.R.Read.remaining c.args.reader.now), Appends-nil (g.W.Write.contents c.args.writer.now))

pub returns-in_err-settings-clause-ends : goal.returns-in_err-settings-clause-ends
returns-in_err-settings-clause-ends g c =
    let types = types_view c.args.types in
    let asked = settings_asked types c.args.options.now in
    ends_as types asked [] _ _ c.from_residual.ensures.1 (ends_asking types asked [] c.in_err-settings.field-0.0 ([], tt) c.in_err-settings.ensures.refused)

pub returns-in_err-world-clause-prefix : goal.returns-in_err-world-clause-prefix
returns-in_err-world-clause-prefix g c =
    where_it_fails c.from_residual-in_err-world.result ([], [], inl (refl, refl), Consumes-nil (g.R.Read.remaining c.args.reader.now), Appends-nil (g.W.Write.contents c.args.writer.now))

pub returns-in_err-world-clause-ends : goal.returns-in_err-world-clause-ends
returns-in_err-world-clause-ends g c =
    let types = types_view c.args.types in
    let asked = settings_asked types c.args.options.now in
    ends_as types asked [] _ _ c.from_residual-in_err-world.ensures.1
    (ends_playing types asked [] c.in_err-world.field-0.0 (settings_seen c.in_ok-settings.settings) ([], tt) c.in_ok-settings.ensures.ok c.in_err-world.ensures.settings)

pub returns-clause-ok : goal.returns-clause-ok
returns-clause-ok g c =
    let begun = c.in_ok-world.ensures.represents in
    on_ok_weaker c.answer_all.result (λ x. (x.0, x.1, (settings_seen c.in_ok-settings.settings, begun.0, x.2, x.3, c.in_ok-settings.ensures.ok, begun.1, begun.2, x.7), x.4, x.5, x.6))
    (c.answer_all.ensures.ok begun.0 (start_at c.args.revision (types_view c.args.types)) begun.3)

pub returns-clause-prefix : goal.returns-clause-prefix
returns-clause-prefix g c =
    let begun = c.in_ok-world.ensures.represents in
    on_err_weaker c.answer_all.result (λ x. (x.0, x.1, inr (settings_seen c.in_ok-settings.settings, begun.0, c.in_ok-settings.ensures.ok, begun.1, begun.2, x.4), x.2, x.3))
    (c.answer_all.ensures.prefix begun.0 (start_at c.args.revision (types_view c.args.types)) begun.3)

pub returns-clause-ends : goal.returns-clause-ends
returns-clause-ends g c =
    let types = types_view c.args.types in
    ends_all types (settings_asked types c.args.options.now) c.answer_all.result c.answer_all.ensures.ends (settings_seen c.in_ok-settings.settings, c.in_ok-settings.ensures.ok, c.in_ok-world.ensures.settings)
