-- What each end may print, and what a printed request says.
use Rattle.std.specs.Prelude.{◌≡◌, ℕ, ◌+◌, ◌<◌, ◌≤◌, ◌^◌, Bool, true, false, ◌==◌, List, ◌∷◌, length, Option, None, Some, codes, nat_eq, IsUtf8}
use Rattle.std.specs.List.{starts_with}
use Rattle.httparse.specs.Grammar.{AllPass, IsToken, is_uri_byte, is_value_byte, trim_ows}
use Rattle.api_types.specs.TypesFile.{ServedShape}
use Rattle.wire.specs.Heads.{max_head}
use Rattle.api_request.specs.Admit.{admitted, method_named}
use Rattle.requests.specs.Asks.{CallDecision}
use Rattle.requests.specs.Bodies.{json_in, some_json}
use Rattle.requests.specs.Decision.{accepted, and_then, decided_by}
use Rattle.requests.specs.Heads.{Length, missing, number, Request}
use Rattle.wireclient.specs.Request.{body_bytes, request}

-- the methods that a reply allows: a field's value (RFC 9112, section 5), for which a head has room
abbrev pub IsAllowed : Option (List ℕ) → Type 0
IsAllowed None = Unit {0}
IsAllowed (Some methods) = AllPass is_value_byte methods × (length methods ≤ 16000)

-- a media type is a field's value without blanks at its ends; body is its media type and its bytes
abbrev pub IsMedia : Option (List ℕ × List ℕ) → Type 0
IsMedia None = Unit {0}
IsMedia (Some (media, bytes)) = AllPass is_value_byte media × (trim_ows (32 ∷ media) ≡ media) × (length bytes < 2 ^ 64)

-- a method of the grammar, a target that is a path with or without a query, and a media type
pub record IsRequest (method request_target : List ℕ) (body : Option (List ℕ × List ℕ)) : Type 0 where
  pub token : IsToken method
  pub path : starts_with nat_eq request_target (codes "/") ≡ true
  pub visible : AllPass is_uri_byte request_target
  pub text : IsUtf8 request_target
  pub media : IsMedia body

-- such a request, whose head a server takes
pub record IsPrinted (method request_target : List ℕ) (body : Option (List ℕ × List ℕ)) : Type 0 where
  pub parts : IsRequest method request_target body
  pub fits : length (request method request_target body) ≤ max_head + length (body_bytes body)

-- such a request, whose head is too long for that
pub record IsTooLong (method request_target : List ℕ) (body : Option (List ℕ × List ℕ)) : Type 0 where
  pub parts : IsRequest method request_target body
  pub long : max_head + length (body_bytes body) < length (request method request_target body)

abbrev pub media_of : Option (List ℕ × List ℕ) → Option (List ℕ)
media_of None = None
media_of (Some (media, bytes)) = Some media

abbrev pub length_of : Option (List ℕ × List ℕ) → Length
length_of None = missing
length_of (Some (media, bytes)) = number (length bytes)

-- what the server takes from the head of such a request
abbrev pub said_of : List ℕ → List ℕ → Option (List ℕ × List ℕ) → Request
said_of method request_target body = record { method = method; request_target = request_target; media = media_of body; agent = None; transfer_encoded = false; length = length_of body }

-- what such a request asks by these types, its target a path and a query: its route, its method and its media type are checked, then its body
abbrev pub asked_with : List ServedShape → List ℕ → List ℕ → List ℕ → List ℕ → List ℕ → CallDecision
asked_with types method path query media bytes =
    and_then (decided_by (admitted types (method_named method) path (Some media)))
    (λ target. and_then (some_json (json_in bytes)) (λ body. accepted (record { target = target; query = query; body = body; agent = None; ticked = 0 })))

-- the same of a request without a body
abbrev pub asked_without : List ServedShape → List ℕ → List ℕ → List ℕ → CallDecision
asked_without types method path query =
    and_then (decided_by (admitted types (method_named method) path None)) (λ target. accepted (record { target = target; query = query; body = None; agent = None; ticked = 0 }))

-- a question mark, which ends the path
abbrev pub is_question : ℕ → Bool
is_question b = b == 63
