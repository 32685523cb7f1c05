-- Documents of discovery, and what they leave.
use Rattle.std.proofs.Common.{◌≡◌, ℕ, Bool, true, false, List, [], Option, Some, None, Ok, refl, ap, cond, ◌∙◌}
use Rattle.history.specs.History.{Objects, current_objects}
use Rattle.discovery.specs.Paths.{text_in, text_of}
use Rattle.watchline.specs.Watches.{from_history}
use Rattle.api_request.specs.Calls.{Plan, Target, type_at}
use Rattle.api_request.proofs.Checks.{changes_in, no_err}
use Rattle.verbs.specs.DryRuns.{is_dry_run, run_by}
use Rattle.verbs.specs.PromiseLaws.{DocumentsOfTypes, NoDocuments}
use Rattle.verbs.specs.Step.{dispatch_target, document_shown, plan_for}

pub document_none : (text : Option (List ℕ)) (p : Plan) → document_shown text ≡ Ok p → [] ≡ p.changes
document_none None p e = no_err _ p e
document_none (Some text) p e = ap changes_in e

shown_none : (is_dry : Bool) (objects : Objects) (text : Option (List ℕ)) → run_by is_dry objects (plan_for (document_shown text)) ≡ plan_for (document_shown text)
shown_none true objects None = refl
shown_none true objects (Some text) = refl
shown_none false objects text = refl

pub documents_of_types : DocumentsOfTypes
documents_of_types types m call document is =
    ap (λ (target : Target). run_by (is_dry_run (type_at types call.target) call) (current_objects m) (plan_for (dispatch_target types target (from_history m) call))) is
    ∙ shown_none (is_dry_run (type_at types call.target) call) (current_objects m) (text_in types document)

pub no_documents : NoDocuments
no_documents types document none = ap (λ b. document_shown (cond b (text_of types document) None)) none
