use Rattle.std.proofs.Common.{◌∙◌, ap, map, sym}
use Rattle.serde_json.specs.View.{items_view}
use Rattle.api_types.specs.ServedViews.{served}
use Rattle.api_types.specs.TypesFile.{names_differ}
use Rattle.api_types.proofs.ObjectTypes.{tests}
use Rattle.api_types.proofs.Naming.{named}
use Rattle.api_types.proofs.types.Types.read.Goals as goal

pub invariant_of-result-clause-objects : goal.invariant_of-result-clause-objects
invariant_of-result-clause-objects c = tests c.in_ok-all.all.items c.in_ok-all.ensures.kept

pub invariant_of-result-clause-named : goal.invariant_of-result-clause-named
invariant_of-result-clause-named c = named c.args.profile (items_view c.deref.result.now) (map served c.in_ok-all.all.items) c.in_ok-all.ensures.types
    (sym (c.names_differ.ensures ∙ ap (λ xs. names_differ (map served xs)) c.deref-2.ensures.value) ∙ c.if-not-names_differ.false)
