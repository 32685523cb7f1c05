-- The body of a request by its length (RFC 9112, section 6.3), and the parts of its request target (section 3.2.1).
-- A length is needed where a body is (RFC 9110, section 15.5.12), and no transfer coding is served (RFC 9112, section 6.1).
use Rattle.std.specs.Prelude.{ℕ, Bool, true, false, ◌&&◌, ◌==◌, not, nat_lt, if◌then◌else◌, List, length, take, Option, Some, None}
use Rattle.std.specs.List.{before_first, after_first}
use Rattle.std.specs.Str.{is_utf8}
use Rattle.serde_json.specs.Data.{Data}
use Rattle.serde_json.specs.Read.{read}
use Rattle.std.specs.declared.result.Result.{Result}
use Rattle.std.specs.declared.result.Result.TheVariants.{Ok, Err}
use Rattle.api_request.specs.Admit.{method_named}
use Rattle.api_request.specs.Calls.{Denied}
use Rattle.api_request.specs.declared.method.Method.{Method}
use Rattle.api_request.specs.declared.method.Method.TheVariants.{Get, Post, Put, Patch, Delete}
use Rattle.requests.specs.Decision.{Decision, undecided, accepted, and_then, decided_by}
use Rattle.requests.specs.Refusals.{transfer_encoding, no_length, bad_length, body_too_large, not_json, as_denied, refuse}
use Rattle.requests.specs.Heads.{Length, missing, malformed, number, Request}

-- this server's own limit (its refusal: RFC 9110, section 15.5.14)
abbrev pub max_body : ℕ
max_body = 262144

-- POST, PUT and PATCH need a body, and DELETE may have one; that of any other method is not read
abbrev pub writes_by_body : Option Method → Bool
writes_by_body None = false
writes_by_body (Some Get) = false
writes_by_body (Some Post) = true
writes_by_body (Some Put) = true
writes_by_body (Some Patch) = true
writes_by_body (Some Delete) = false

abbrev pub deletes : Option Method → Bool
deletes None = false
deletes (Some Get) = false
deletes (Some Post) = false
deletes (Some Put) = false
deletes (Some Patch) = false
deletes (Some Delete) = true

abbrev pub needs_body : List ℕ → Bool
needs_body method = writes_by_body (method_named method)

abbrev pub may_have_body : List ℕ → Bool
may_have_body method = deletes (method_named method)

-- the value that these bytes are as JSON
abbrev pub json_in : List ℕ → Option Data
json_in bytes = if is_utf8 bytes then read bytes else None

abbrev pub some_json : Option Data → Decision (Option Data)
some_json None = refuse not_json
some_json (Some value) = accepted (Some value)

-- ---- how many bytes of a body a head declares, or that there is none

abbrev pub sized : ℕ → Result (Option ℕ) Denied
sized n = if nat_lt max_body n then Err (as_denied body_too_large) else Ok (Some n)

-- of a body that is needed
abbrev pub needed_length : Length → Result (Option ℕ) Denied
needed_length missing = Err (as_denied no_length)
needed_length malformed = Err (as_denied bad_length)
needed_length (number n) = sized n

-- of a body that may be left out; one of no bytes is left out
abbrev pub optional_length : Length → Result (Option ℕ) Denied
optional_length missing = Ok None
optional_length malformed = Err (as_denied bad_length)
optional_length (number n) = if n == 0 then Ok None else sized n

-- of a request with this method
abbrev pub declared_length_by : Option Method → Request → Result (Option ℕ) Denied
declared_length_by method request =
    if writes_by_body method then (if request.transfer_encoded then Err (as_denied transfer_encoding) else needed_length request.length)
    else if deletes method then (if request.transfer_encoded then Err (as_denied transfer_encoding) else optional_length request.length)
    else Ok None

abbrev pub declared_length : Request → Result (Option ℕ) Denied
declared_length request = declared_length_by (method_named request.method) request

-- ---- the body

-- a body of so many bytes, of which these came
abbrev pub body_of : ℕ → List ℕ → Decision (Option Data)
body_of n rest = if nat_lt (length rest) n then undecided else some_json (json_in (take n rest))

abbrev pub declared_body : Option ℕ → List ℕ → Decision (Option Data)
declared_body None rest = accepted None
declared_body (Some n) rest = body_of n rest

-- the body by the head and the bytes after it
abbrev pub body_by : Option Method → Request → List ℕ → Decision (Option Data)
body_by method request rest = and_then (decided_by (declared_length_by method request)) (λ n. declared_body n rest)

abbrev pub body_in : Request → List ℕ → Decision (Option Data)
body_in request rest = body_by (method_named request.method) request rest

-- of a DELETE: whether it says a length, other than 0, or says none that can be read
abbrev pub has_length : Length → Bool
has_length missing = false
has_length malformed = true
has_length (number n) = nat_lt 0 n

-- the media type that is checked: a DELETE without a body has none
abbrev pub checked_media_by : Option Method → Request → Option (List ℕ)
checked_media_by method request = if deletes method && not (has_length request.length) then None else request.media

abbrev pub checked_media : Request → Option (List ℕ)
checked_media request = checked_media_by (method_named request.method) request

-- the request target is cut at its first question mark
abbrev pub path_of : List ℕ → List ℕ
path_of request_target = before_first (λ b. b == 63) request_target

abbrev pub query_of : List ℕ → List ℕ
query_of request_target = after_first (λ b. b == 63) request_target
