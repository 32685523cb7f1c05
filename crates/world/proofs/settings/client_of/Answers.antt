use Rattle.std.proofs.Common.{◌∙◌, None, Some, ap, map, sym}
use Rattle.std.specs.Prelude.{is_ok}
use Rattle.api_types.specs.Served.{types_view}
use Rattle.selector.specs.Grammar.{parse_selector}
use Rattle.world_laws.specs.Tasks.{or_fault}
use Rattle.world.specs.Views.{settings_seen}
use Rattle.world.proofs.Asking.{namespace_fault}
use Rattle.world.proofs.settings.client_of.Goals as goal

pub returns-in-Err-Namespace-clause-fault : goal.returns-in-Err-Namespace-clause-fault
returns-in-Err-Namespace-clause-fault g c =
    namespace_fault (types_view c.args.types.now) (map (λ b. g.I.IndexBy.title b) c.args.indexes.items) (settings_seen c.args.settings.now) _ c.in_ok-check_page.ensures
    (sym (ap (λ text. or_fault 2 (is_ok (parse_selector text)) None) c.as_str.ensures.value) ∙ c.in_ok-check_selector.ensures) c.in_ok-source.ensures.fault c.in_ok-indexer.ensures.fault
    c.in_ok-namespace.ensures (c.in-Err-Namespace.ensures.fault ∙ ap Some c.in-Err-Namespace.field-0-is)
