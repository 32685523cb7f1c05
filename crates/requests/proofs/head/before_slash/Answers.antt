use Rattle.std.proofs.Common.{rules, tests, sym, ◌∙◌, ◌==◌, ℕ}
use Rattle.std.proofs.lemmas.Iterator.{YieldsList-from_slice}
use Rattle.std.proofs.lemmas.Iterator.Search.{position_from_yields_List}
use Rattle.api_request.proofs.Blanks.{cut_at, uncut}
use Rattle.requests.proofs.head.before_slash.Goals as goal

pub returns-in-Some : goal.returns-in-Some
returns-in-Some c =
    let found = position_from_yields_List (λ (b : ℕ). b == 47) _ _ c.position.result c.position.ensures.ran (YieldsList-from_slice c.args.value.now cc) (λ x b q k. search (rules, tests)) in
    cut_at (λ b. b == 47) c.args.value.now c.in-Some.place (sym c.in-Some.is ∙ found)

pub returns-in-None : goal.returns-in-None
returns-in-None c =
    let found = position_from_yields_List (λ (b : ℕ). b == 47) _ _ c.position.result c.position.ensures.ran (YieldsList-from_slice c.args.value.now cc) (λ x b q k. search (rules, tests)) in
    uncut (λ b. b == 47) c.args.value.now (sym c.in-None.is ∙ found)
