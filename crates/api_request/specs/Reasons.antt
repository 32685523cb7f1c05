-- Reasons of refusals and their codes (Kubernetes API conventions, "Response Status Kind"; RFC 9110, section 15; RFC 6585, section 5).
use Rattle.std.specs.Prelude.{ℕ, Bool, true, false, List, codes}
use Rattle.api_request.specs.declared.reason.Reason.{Reason}
use Rattle.api_request.specs.declared.reason.Reason.TheVariants.{BadRequest, NotFound, MethodNotAllowed, AlreadyExists, Conflict, Expired, LengthRequired, RequestEntityTooLarge, UnsupportedMediaType, Invalid, RequestHeaderFieldsTooLarge, NotImplemented, ServiceUnavailable, Timeout, HttpVersionNotSupported}

abbrev pub code_of : Reason → ℕ
code_of BadRequest = 400
code_of NotFound = 404
code_of MethodNotAllowed = 405
code_of AlreadyExists = 409
code_of Conflict = 409
code_of Expired = 410
code_of LengthRequired = 411
code_of RequestEntityTooLarge = 413
code_of UnsupportedMediaType = 415
code_of Invalid = 422
code_of RequestHeaderFieldsTooLarge = 431
code_of NotImplemented = 501
code_of ServiceUnavailable = 503
code_of Timeout = 504
code_of HttpVersionNotSupported = 505

-- as it stands in a Status
abbrev pub reason_text : Reason → List ℕ
reason_text BadRequest = codes "BadRequest"
reason_text NotFound = codes "NotFound"
reason_text MethodNotAllowed = codes "MethodNotAllowed"
reason_text AlreadyExists = codes "AlreadyExists"
reason_text Conflict = codes "Conflict"
reason_text Expired = codes "Expired"
reason_text LengthRequired = codes "LengthRequired"
reason_text RequestEntityTooLarge = codes "RequestEntityTooLarge"
reason_text UnsupportedMediaType = codes "UnsupportedMediaType"
reason_text Invalid = codes "Invalid"
reason_text RequestHeaderFieldsTooLarge = codes "RequestHeaderFieldsTooLarge"
reason_text NotImplemented = codes "NotImplemented"
reason_text ServiceUnavailable = codes "ServiceUnavailable"
reason_text Timeout = codes "Timeout"
reason_text HttpVersionNotSupported = codes "HTTPVersionNotSupported"

-- of what is well formed and breaks a rule of the object
abbrev pub is_invalid : Reason → Bool
is_invalid Invalid = true
is_invalid r = false
