-- What the code knows of a request whose head has come.
use Rattle.std.specs.Prelude.{◌≡◌, ℕ, List, ◌++◌, drop, Option, Some, None, option_map, ⊤}
use Rattle.api_types.specs.TypesFile.{ServedShape}
use Rattle.api_request.specs.Calls.{Target}
use Rattle.api_request.specs.Views.{call_of, denied_of, target_of}
use Rattle.requests.specs.declared.asking.Progress as askings
use Rattle.requests.specs.declared.asking.Progress.TheVariants as asking
use Rattle.requests.specs.declared.asking.Pending as pendings
use Rattle.requests.specs.declared.asking.Asked.{Asked}
use Rattle.requests.specs.Asks.{CallDecision, Asks}
use Rattle.requests.specs.Bodies.{body_of}
use Rattle.requests.specs.Decision.{undecided, refused, accepted, and_then}
use Rattle.requests.specs.RequestSizes.{HasRequestSize}

abbrev pub asked_of : askings.Progress → CallDecision
asked_of (asking.Pending p) = undecided
asked_of (asking.Refused d) = refused (denied_of d)
asked_of (asking.Call c) = accepted (call_of c)

-- what a body of this length asks, by its bytes so far
abbrev pub sized_call : Target → List ℕ → Option (List ℕ) → ℕ → List ℕ → CallDecision
sized_call target query agent length rest = and_then (body_of length rest) (λ body. accepted (record { target = target; query = query; body = body; agent = agent; ticked = 0 }))

abbrev pub body_call : pendings.Pending → List ℕ → CallDecision
body_call p = sized_call (target_of p.target) p.query.items (option_map (λ a. a.items) p.agent) p.length

-- the same by all the bytes of the connection
abbrev pub pending_call : pendings.Pending → List ℕ → CallDecision
pending_call p bytes = body_call p (drop p.head bytes)

-- a request that waits has a head of so many bytes, and asks by its body what f says
abbrev pub Carries : (List ℕ → CallDecision) → ℕ → askings.Progress → Type 0
Carries f head (asking.Pending p) = (p.head ≡ head) × ((rest : List ℕ) → f rest ≡ body_call p rest)
Carries f head (asking.Refused d) = ⊤
Carries f head (asking.Call c) = ⊤

-- whatever bytes follow these on the connection, they are the body's
abbrev pub Awaits : List ServedShape → List ℕ → pendings.Pending → Type 0
Awaits types prefix p = (more : List ℕ) → Asks types (prefix ++ more) (pending_call p (prefix ++ more))

-- these bytes ask this
abbrev pub Finds : List ServedShape → List ℕ → askings.Progress → Type 0
Finds types bytes (asking.Pending p) = Asks types bytes undecided × Awaits types bytes p
Finds types bytes (asking.Refused d) = Asks types bytes (refused (denied_of d))
Finds types bytes (asking.Call c) = Asks types bytes (accepted (call_of c))

-- the same; nothing is found while the head hasn't come whole
abbrev pub FindsAll : List ServedShape → List ℕ → Option askings.Progress → Type 0
FindsAll types bytes None = Asks types bytes undecided
FindsAll types bytes (Some a) = Finds types bytes a

-- the same with how many bytes are the request
abbrev pub FindsSized : List ServedShape → List ℕ → Option Asked → Type 0
FindsSized types bytes None = Asks types bytes undecided
FindsSized types bytes (Some a) = Finds types bytes a.progress × HasRequestSize types bytes a.size
