use Rattle.std.proofs.Common.{ℕ, List, sym, ap, subst, ◌∙◌}
use Rattle.std.proofs.lemmas.Result.{IfOk-weaker}
use Rattle.api_types.specs.Served.{types_view}
use Rattle.api_types.specs.TypesFile.{ServedShape}
use Rattle.requests.specs.Asks.{Asks}
use Rattle.requests.specs.Decision.{undecided}
use Rattle.requests.specs.ReadBufferViews.{buffered}
use Rattle.requests.specs.Pendings.{Finds, FindsAll}
use Rattle.httpedge.specs.declared.effect.Done.{Done}
use Rattle.httpedge.specs.ConnectionViews.{Becomes, waiting_for}
use Rattle.httpedge.specs.Effects.{asked_in, unasked}
use Rattle.httpedge.proofs.connection.receive_head.Goals as goal

pub returns-in-None-clause-ok : goal.returns-in-None-clause-ok
returns-in-None-clause-ok c = λ types m represents.
    let bytes = buffered c.args.prefix in
    let all = c.find_end-end.ensures.bytes in
    let found = subst (FindsAll (types_view c.types.result.now) c.bytes.result.now) c.in-None.is c.in_ok-ask.ensures in
    let did = c.unasked.ensures ∙ ap unasked c.none.ensures in (
      undecided,
      subst (λ (ts : List ServedShape). Asks ts bytes undecided) (c.types.ensures ∙ represents.serves)
          (subst (λ (bs : List ℕ). Asks (types_view c.types.result.now) bs undecided) (c.bytes.ensures ∙ all) found),
      ap waiting_for (sym all),
      (ap (λ (d : Done). d.change) did, ap asked_in did),
      represents,
    )

pub returns-in-Some-clause-ok : goal.returns-in-Some-clause-ok
returns-in-Some-clause-ok c = λ types m represents.
    let all = c.find_end-end.ensures.bytes in
    let found = subst (FindsAll (types_view c.types.result.now) c.bytes.result.now) c.in-Some.is c.in_ok-ask.ensures in
    let asked = subst (λ (ts : List ServedShape). Finds ts c.bytes.result.now c.in-Some.decision) (c.types.ensures ∙ represents.serves) found in
    IfOk-weaker c.decided.result _ _ (λ p becomes. subst (λ (bs : List ℕ). Becomes types m c.args.last_tick bs p.0 p.1 c.decided.new.api) all becomes)
    (c.decided.ensures.ok types m represents (subst (λ (bs : List ℕ). Finds types bs c.in-Some.decision) c.bytes.ensures asked))
