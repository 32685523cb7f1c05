use Rattle.std.proofs.Common.{ap, codes, subst, sym, ◌∙◌}
use Rattle.std.proofs.lemmas.Result.{err_from_is_err_and}
use Rattle.serde_json.specs.View.{view}
use Rattle.api_validation.specs.Naming.{annotations_validated, if_there, metadata_object}
use Rattle.api_request.specs.Views.{Returns}
use Rattle.api_request.specs.Validated.{and_then}
use Rattle.api_validation.proofs.Rests.{marks_fail, marks_stay}
use Rattle.api_validation.proofs.naming.validate_labels_and_annotations.Goals as goal

pub returns : goal.returns
returns c =
    let d = view c.args.body.now in
    subst (Returns (λ u. u) c.validate_annotations_of.result)
    (sym (marks_stay d ∙ ap (λ r. and_then r (λ u. if_there annotations_validated (metadata_object (codes "annotations") d))) c.in_ok-validate_labels_of.ensures))
    c.validate_annotations_of.ensures

pub returns-in_err-validate_labels_of : goal.returns-in_err-validate_labels_of
returns-in_err-validate_labels_of c =
    let p = err_from_is_err_and c.from_residual.result c.from_residual.ensures.1 in
    marks_fail (view c.args.body.now) c.from_residual.result p.0 c.in_err-validate_labels_of.field-0.0 p.1 p.2 c.in_err-validate_labels_of.ensures
