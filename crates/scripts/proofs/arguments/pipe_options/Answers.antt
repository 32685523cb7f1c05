use Rattle.std.proofs.Common.{◌≤◌, ◌∙◌, ℕ, [], Some, codes, refl, sym, subst, ap, arith, Ok, Err}
use Rattle.std.specs.Prelude.{map, unwrap_or, ⊤}
use Rattle.clap.specs.Words.{fault_of, matches_of}
use Rattle.clap.proofs.CallerLemmas.{some_of_text}
use Rattle.history.specs.History.{last_revision}
use Rattle.programs.specs.Resources.{resource_in}
use Rattle.programs.proofs.OptionValues.{flag_by, flag_is, number_by, text_is, text_or}
use Rattle.scripts.specs.PlayerCommand.{default_label, default_page, default_revision, default_type, pipe_app}
use Rattle.scripts.proofs.PipeArguments.{emitted_by_clap, fails_by, is_plain, page_refused, revision_refused, type_refused, value_at}
use Rattle.scripts.proofs.arguments.pipe_options.Goals as goal

pub unwrap-requires : goal.unwrap-requires
unwrap-requires g c = some_of_text _ c.get_str.result _ c.get_str.ensures (c.in_ok-pipe_command.ensures.types _ c.in_ok-matches.ensures.parsed)

pub returns-clause-types : goal.returns-clause-types
returns-clause-types g c =
    sym (value_at c.args.asked.name.now _ c.in_ok-pipe_command.ensures.app _ _ c.in_ok-matches.ensures.matches (codes "types")) ∙ text_is _ _ _ c.get_str.ensures c.unwrap.ensures

pub returns-clause-page : goal.returns-clause-page
returns-clause-page g c =
    (number_by _ _ (Some default_page) _ _ _ _ (value_at c.args.asked.name.now _ c.in_ok-pipe_command.ensures.app _ _ c.in_ok-matches.ensures.matches (codes "page")) c.page_of.ensures c.in_ok-page.ensures.number).0

pub returns-clause-revision : goal.returns-clause-revision
returns-clause-revision g c =
    number_by _ _ (Some default_revision) 1 last_revision _ _ (value_at c.args.asked.name.now _ c.in_ok-pipe_command.ensures.app _ _ c.in_ok-matches.ensures.matches (codes "revision")) refl c.in_ok-revision.ensures.number

pub returns-clause-selector : goal.returns-clause-selector
returns-clause-selector g c =
    text_or _ _ _ _ [] (c.get_str-2.ensures ∙ value_at c.args.asked.name.now _ c.in_ok-pipe_command.ensures.app _ _ c.in_ok-matches.ensures.matches (codes "selector")) c.unwrap_or.ensures refl

pub returns-clause-namespace : goal.returns-clause-namespace
returns-clause-namespace g c = c.get_str-3.ensures ∙ value_at c.args.asked.name.now _ c.in_ok-pipe_command.ensures.app _ _ c.in_ok-matches.ensures.matches (codes "namespace")

pub returns-clause-resource : goal.returns-clause-resource
returns-clause-resource g c =
    ap (λ o. resource_in (unwrap_or o default_type)) (sym (value_at c.args.asked.name.now _ c.in_ok-pipe_command.ensures.app _ _ c.in_ok-matches.ensures.matches (codes "type"))) ∙ c.in_ok-resource.ensures.ok

pub returns-clause-label : goal.returns-clause-label
returns-clause-label g c =
    text_or _ _ _ _ default_label (c.get_str-4.ensures ∙ value_at c.args.asked.name.now _ c.in_ok-pipe_command.ensures.app _ _ c.in_ok-matches.ensures.matches (codes "label")) c.unwrap_or-2.ensures refl

pub page_of-requires : goal.page_of-requires
page_of-requires g c = c.in_ok-page.ensures.number.2

pub returns-in_err-matches-clause-refused : goal.returns-in_err-matches-clause-refused
returns-in_err-matches-clause-refused g c =
    let name = c.args.asked.name.now in
    let words = map g.S.AsStr.text c.args.arguments.now in
    emitted_by_clap (fault_of (pipe_app name) words) (matches_of (pipe_app name) words) c.from_residual-in_err-matches.result c.in_err-matches.field-0.0 c.from_residual-in_err-matches.ensures.1
    (fails_by {T = ⊤} name _ c.in_ok-pipe_command.ensures.app words (Err c.in_err-matches.field-0.0) c.in_err-matches.ensures.kinds)

pub returns-in_err-page-clause-refused : goal.returns-in_err-page-clause-refused
returns-in_err-page-clause-refused g c =
    let name = c.args.asked.name.now in
    let words = map g.S.AsStr.text c.args.arguments.now in
    let none = fails_by {T = ⊤} name _ c.in_ok-pipe_command.ensures.app words (Ok tt) c.in_ok-matches.ensures.kinds in
    page_refused (fault_of (pipe_app name) words) (matches_of (pipe_app name) words) c.from_residual-in_err-page.result c.in_err-page.field-0.0 _ _ c.from_residual-in_err-page.ensures.1 c.in_err-page.ensures.fault none
    (value_at name _ c.in_ok-pipe_command.ensures.app _ words c.in_ok-matches.ensures.matches (codes "page")) c.in_err-page.ensures.refused

pub returns-in_err-revision-clause-refused : goal.returns-in_err-revision-clause-refused
returns-in_err-revision-clause-refused g c =
    let name = c.args.asked.name.now in
    let words = map g.S.AsStr.text c.args.arguments.now in
    let none = fails_by {T = ⊤} name _ c.in_ok-pipe_command.ensures.app words (Ok tt) c.in_ok-matches.ensures.kinds in
    revision_refused (fault_of (pipe_app name) words) (matches_of (pipe_app name) words) c.from_residual-in_err-revision.result c.in_err-revision.field-0.0 _ _ c.from_residual-in_err-revision.ensures.1 c.in_err-revision.ensures.fault none
    (value_at name _ c.in_ok-pipe_command.ensures.app _ words c.in_ok-matches.ensures.matches (codes "revision")) c.in_err-revision.ensures.refused

pub returns-in_err-resource-clause-refused : goal.returns-in_err-resource-clause-refused
returns-in_err-resource-clause-refused g c =
    let name = c.args.asked.name.now in
    let words = map g.S.AsStr.text c.args.arguments.now in
    let none = fails_by {T = ⊤} name _ c.in_ok-pipe_command.ensures.app words (Ok tt) c.in_ok-matches.ensures.kinds in
    type_refused (fault_of (pipe_app name) words) (matches_of (pipe_app name) words) c.from_residual-in_err-resource.result c.in_err-resource.field-0.0 _ c.from_residual-in_err-resource.ensures.1 c.in_err-resource.ensures.refused none
    (value_at name _ c.in_ok-pipe_command.ensures.app _ words c.in_ok-matches.ensures.matches (codes "type"))

pub returns-clause-refused : goal.returns-clause-refused
returns-clause-refused g c =
    fails_by {T = ⊤} c.args.asked.name.now _ c.in_ok-pipe_command.ensures.app (map g.S.AsStr.text c.args.arguments.now) (Ok tt) c.in_ok-matches.ensures.kinds

pub returns-clause-discovery : goal.returns-clause-discovery
returns-clause-discovery g c =
    let name = c.args.asked.name.now in
    flag_by _ _ _ (flag_is (pipe_app name) (is_plain name) _ c.in_ok-pipe_command.ensures.app _ _ c.in_ok-matches.ensures.matches (codes "discovery")) (c.get_flag.ensures.none, c.get_flag.ensures.value, c.get_flag.ensures.other)
