-- What answers a request says something: bytes are written.
use Rattle.std.proofs.Common.{arith, ◌≡◌, ℕ, Bool, true, false, ◌||◌, List, ◌∷◌, drop, length, Option, Some, None, refl, ap, ◌∙◌}
use Rattle.std.proofs.lemmas.Bool.{lt-ltb}
use Rattle.std.specs.Prelude.{IfSome, nat_lt, option_map}
use Rattle.api_types.specs.TypesFile.{ServedShape}
use Rattle.history.specs.History.{History}
use Rattle.answers.specs.WatchFrom.{WatchFrom}
use Rattle.api_request.specs.Calls.{Answer, at_tick}
use Rattle.api_request.specs.Reasons.{code_of}
use Rattle.verbs.specs.Step.{planned}
use Rattle.requests.specs.declared.request.Request.{Request}
use Rattle.requests.specs.Asks.{CallDecision}
use Rattle.requests.specs.Decision.{undecided, refused, accepted}
use Rattle.requests.specs.ReadBufferViews.{request_bytes}
use Rattle.requests.specs.Replies.{answer_bytes, refusal_reply}
use Rattle.httpedge.specs.declared.effect.Done.{Done}
use Rattle.httpedge.specs.Connections.{Connection, ended, has_ended, with_written}
use Rattle.httpedge.specs.ConnectionViews.{received_change}
use Rattle.httpedge.specs.Effects.{answered_bytes, asked_in, change_between, says_something}
use Rattle.httpedge.specs.Steps.{answer_phase}
use Rattle.httpedge.proofs.Effects.{Speaks}
use Rattle.httpedge.proofs.Turning.{between_written}

or_true : (b : Bool) → (b || true) ≡ true
or_true true = refl
or_true false = refl

if_some : {P : Type 0} (o : Option Request) → P → IfSome o (λ request. P)
if_some None p = tt
if_some (Some request) p = p

none_asked : (P : Type 0) (o : Option Request) → option_map request_bytes o ≡ None → IfSome o (λ request. P)
none_asked P None none = tt
none_asked P (Some request) none = absurd cc

some_bytes : (b : ℕ) (bs : List ℕ) → nat_lt 0 (length (b ∷ bs)) ≡ true
some_bytes b bs = lt-ltb 0 (length (b ∷ bs)) (omega arith)

-- an end says something
ended_speaks : (c : Connection) (bytes : List ℕ) (status : Option ℕ) → has_ended c.phase ≡ false → says_something (change_between (Some c) (Some (with_written c bytes ended)) 0 status) ≡ true
ended_speaks c bytes status not_yet = ap says_something (between_written c bytes ended 0 status not_yet) ∙ or_true (nat_lt 0 (length bytes))

answered_speaks : (last_tick : ℕ) (c : Connection) (a : Answer) (watch : Option WatchFrom) (status : Option ℕ) → has_ended c.phase ≡ false
    → says_something (change_between (Some c) (Some (with_written c (answer_bytes a watch) (answer_phase last_tick watch))) 0 status) ≡ true
answered_speaks last_tick c a None status not_yet = ended_speaks c (answer_bytes a None) status not_yet
answered_speaks last_tick c a (Some from) status not_yet =
    ap says_something (between_written c (answer_bytes a (Some from)) (answer_phase last_tick (Some from)) 0 status not_yet)
    ∙ ap (λ (b : Bool). b || false) (some_bytes 72 (drop 1 (answer_bytes a (Some from))))

pub answer_speaks : (types : List ServedShape) (m : History) (last_tick : ℕ) (c : Connection) (bytes : List ℕ) (decision : CallDecision) (did : Done) → has_ended c.phase ≡ false
    → did.change ≡ received_change types m last_tick c bytes decision → asked_in did ≡ answered_bytes decision (Some bytes) → Speaks did
answer_speaks types m last_tick c bytes undecided did not_yet is asked = none_asked (says_something did.change ≡ true) did.request asked
answer_speaks types m last_tick c bytes (refused d) did not_yet is asked = if_some did.request (ap says_something is ∙ ended_speaks c (refusal_reply d) (Some (code_of d.reason)) not_yet)
answer_speaks types m last_tick c bytes (accepted call) did not_yet is asked =
    let a = (planned types m (at_tick last_tick call)).answer in
    if_some did.request (ap says_something is ∙ answered_speaks last_tick c a a.watch (Some a.status) not_yet)
