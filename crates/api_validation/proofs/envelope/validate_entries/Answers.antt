use Rattle.std.proofs.Common.{◌∙◌, sym, subst}
use Rattle.api_request.specs.Views.{FailsWith}
use Rattle.api_validation.proofs.Entries.{some_entries}
use Rattle.api_request.proofs.Refusals.{refuses_fails}
use Rattle.api_validation.proofs.envelope.validate_entries.Goals as goal

pub returns : goal.returns
returns c = subst (FailsWith c.refused_for.result) (some_entries c.args.entries.now (sym c.is_empty.ensures ∙ c.if-is_empty.false)) (refuses_fails (Unit {0}) c.refused_for.result _ _ c.refused_for.ensures)
