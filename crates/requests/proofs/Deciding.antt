-- What bytes ask stays asked, whatever bytes follow, and nothing else is asked.
use Rattle.std.proofs.Common.{◌≡◌, ◌≢◌, ℕ, List, ◌++◌, Result, Ok, Err, refl, sym, ap, ◌∙◌}
use Rattle.api_types.specs.TypesFile.{ServedShape}
use Rattle.api_request.specs.Calls.{Denied, Target}
use Rattle.requests.specs.Asks.{CallDecision, Asks, call_with, asked_by}
use Rattle.requests.specs.Bodies.{body_in}
use Rattle.requests.specs.Decision.{undecided, refused, accepted, and_then, decided_by}
use Rattle.requests.specs.Heads.{Request, HeadDecision, with_more}
use Rattle.requests.proofs.BodyCuts.{body_more}
use Rattle.requests.proofs.Cuts.{reads_more, reads_one}

some_target : (o : Result Target Denied) (request : Request) (rest more : List ℕ) → and_then (decided_by o) (λ target. call_with request target (body_in request rest)) ≢ undecided
    → and_then (decided_by o) (λ target. call_with request target (body_in request (rest ++ more))) ≡ and_then (decided_by o) (λ target. call_with request target (body_in request rest))
some_target (Err denied) request rest more decided = refl
some_target (Ok target) request rest more decided = ap (call_with request target) (body_more request rest more (λ u. decided (ap (call_with request target) u)))

head_more : (types : List ServedShape) (head : HeadDecision) (more : List ℕ) → asked_by types head ≢ undecided → asked_by types (with_more more head) ≡ asked_by types head
head_more types undecided more decided = absurd (decided refl)
head_more types (refused r) more decided = refl
head_more types (accepted (request, rest)) more decided = some_target _ request rest more decided

-- what is asked stays asked, whatever bytes follow
pub asks_more : (types : List ServedShape) (bytes more : List ℕ) (asked : CallDecision) → Asks types bytes asked → asked ≢ undecided → Asks types (bytes ++ more) asked
asks_more types bytes more asked (said, says, is) decided = (
  with_more more said,
  reads_more bytes more said says (λ u. decided (is ∙ ap (asked_by types) u)),
  is ∙ sym (head_more types said more (λ w. decided (is ∙ w))),
)

-- and nothing else is asked
pub asks_one : (types : List ServedShape) (bytes : List ℕ) (x y : CallDecision) → Asks types bytes x → Asks types bytes y → x ≡ y
asks_one types bytes x y (said, says, is) (other, also, that) = is ∙ ap (asked_by types) (reads_one bytes said other says also) ∙ sym that
