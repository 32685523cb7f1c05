-- Requests that are refused before a call is made of them.
use Rattle.std.specs.Prelude.{ℕ, List, None, codes}
use Rattle.api_request.specs.declared.reason.Reason.{Reason}
use Rattle.api_request.specs.declared.reason.Reason.TheVariants.{BadRequest, LengthRequired, RequestEntityTooLarge, RequestHeaderFieldsTooLarge, NotImplemented, ServiceUnavailable, HttpVersionNotSupported}
use Rattle.api_request.specs.Calls.{Denied}
use Rattle.requests.specs.Decision.{Decision, refused}

pub data Refusal : Type 0 where
  head_too_large bad_head wrong_version not_one_host : Refusal
  transfer_encoding no_length bad_length body_too_large not_json : Refusal
  too_many_connections : Refusal

-- its reason, which has the status code
abbrev pub reason_of : Refusal → Reason
reason_of head_too_large = RequestHeaderFieldsTooLarge
reason_of bad_head = BadRequest
reason_of wrong_version = HttpVersionNotSupported
reason_of not_one_host = BadRequest
reason_of transfer_encoding = NotImplemented
reason_of no_length = LengthRequired
reason_of bad_length = BadRequest
reason_of body_too_large = RequestEntityTooLarge
reason_of not_json = BadRequest
reason_of too_many_connections = ServiceUnavailable

abbrev pub message_of : Refusal → List ℕ
message_of head_too_large = codes "request head too large"
message_of bad_head = codes "bad request head"
message_of wrong_version = codes "HTTP/1.1 is needed"
message_of not_one_host = codes "one Host field is needed"
message_of transfer_encoding = codes "Transfer-Encoding is not served"
message_of no_length = codes "Content-Length is needed"
message_of bad_length = codes "bad Content-Length"
message_of body_too_large = codes "body over 262144 bytes"
message_of not_json = codes "body is not JSON"
message_of too_many_connections = codes "too many connections"

-- as a call's route, method or media type is denied
abbrev pub as_denied : Refusal → Denied
as_denied r = record { reason = reason_of r; message = message_of r; allow = None }

abbrev pub refuse : {A : Type 0} → Refusal → Decision A
refuse r = refused (as_denied r)
