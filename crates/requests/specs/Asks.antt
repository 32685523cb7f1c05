-- What a connection asks, by all the bytes that came on it.
use Rattle.std.specs.Prelude.{◌≡◌, ℕ, List, Option}
use Rattle.serde_json.specs.Data.{Data}
use Rattle.api_types.specs.TypesFile.{ServedShape}
use Rattle.api_request.specs.Admit.{admitted, method_named}
use Rattle.api_request.specs.Calls.{Call, Target}
use Rattle.api_request.specs.declared.method.Method.{Method}
use Rattle.requests.specs.Decision.{Decision, accepted, and_then, decided_by}
use Rattle.requests.specs.Heads.{Request, HeadDecision, ReadsHead}
use Rattle.requests.specs.Bodies.{body_by, checked_media_by, path_of, query_of}

-- undecided while more bytes are needed, refused, or a call
abbrev pub CallDecision : Type 0
CallDecision = Decision Call

-- a call of this resource with the query of the request target, this body and the client's name; bytes alone say no time
abbrev pub call_with : Request → Target → Decision (Option Data) → CallDecision
call_with request target body = and_then body (λ value. accepted (record { target = target; query = query_of request.request_target; body = value; agent = request.agent; ticked = 0 }))

-- first the route, the method and the media type are checked, in this order, then the body: Transfer-Encoding, length, and once it has come JSON
abbrev pub call_by : List ServedShape → Option Method → Request → List ℕ → CallDecision
call_by types method request rest =
    and_then (decided_by (admitted types method (path_of request.request_target) (checked_media_by method request))) (λ target. call_with request target (body_by method request rest))

-- its method is read once
abbrev pub call_in : List ServedShape → Request → List ℕ → CallDecision
call_in types request rest = call_by types (method_named request.method) request rest

-- what a head and the bytes after it ask, by these types. The head is checked first: its size, its form, the number of its fields, the version, Host,
-- that the request target is a path (`ReadsHeadAt`, `validated` of `Heads`)
abbrev pub asked_by : List ServedShape → HeadDecision → CallDecision
asked_by types head = and_then head (λ r. call_in types r.0 r.1)

-- by these types the bytes ask this
abbrev pub Asks : List ServedShape → List ℕ → CallDecision → Type 0
Asks types bytes asked = (head : HeadDecision) × ReadsHead bytes head × (asked ≡ asked_by types head)
