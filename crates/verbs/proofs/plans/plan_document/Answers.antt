use Rattle.std.proofs.Common.{◌≡◌, ◌∙◌, ℕ, List, Option, ap, subst, sym}
use Rattle.std.specs.Prelude.{IfOk, option_map, string_bytes}
use Rattle.api_request.specs.Views.{plan_of}
use Rattle.verbs.specs.Step.{document_shown, plan_for}
use Rattle.verbs.proofs.plans.plan_document.Goals as goal

pub returns-in-None-clause-planned : goal.returns-in-None-clause-planned
returns-in-None-clause-planned c =
    subst (λ (text : Option (List ℕ)). IfOk c.refused_for.result (λ p. plan_of p ≡ plan_for (document_shown text)))
    (ap (option_map string_bytes) (sym c.in-None.is) ∙ c.in_ok-text.ensures) c.refused_for.ensures.planned
