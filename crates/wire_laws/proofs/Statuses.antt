-- The phrase of a status is a text that a status line takes.
use Rattle.std.proofs.Common.{◌≡◌, ℕ, ◌≤◌, Bool, true, false, cond, leb, ltb, List, [], length, Option, Some, None, refl, unwrap_or}
use Rattle.std.specs.Prelude.{◌&&◌, ◌==◌, codes, nat_le}
use Rattle.std.specs.List.{list_all}
use Rattle.std.proofs.lemmas.Bool.{leb-true}
use Rattle.http.specs.StatusCode.{reason_phrase}
use Rattle.httparse.specs.Grammar.{AllPass, is_value_byte}
use Rattle.wire.proofs.Lines.{passes_each}
use Rattle.requests.specs.ReplyBytes.{phrase_of}
use Rattle.wire_laws.proofs.Fields.{and_first, and_rest}

abbrev is_fine : List ℕ → Bool
is_fine text = list_all is_value_byte text && nat_le (length text) 64

record IsFine (o : Option (List ℕ)) : Type 0 where
  fine : is_fine (unwrap_or o []) ≡ true

fine_if : (t : Bool) (text : List ℕ) (o : Option (List ℕ)) → is_fine text ≡ true → IsFine o → IsFine (cond t (Some text) o)
fine_if true text o is later = record { fine = is }
fine_if false text o is later = later

fine_none : IsFine None
fine_none = record { fine = refl }

fine : (n : ℕ) → IsFine (reason_phrase n)
fine n = fine_if (n == 100) (codes "Continue") _ refl (
    fine_if (n == 101) (codes "Switching Protocols") _ refl (
    fine_if (n == 102) (codes "Processing") _ refl (
    fine_if (n == 103) (codes "Early Hints") _ refl (
    fine_if (n == 200) (codes "OK") _ refl (
    fine_if (n == 201) (codes "Created") _ refl (
    fine_if (n == 202) (codes "Accepted") _ refl (
    fine_if (n == 203) (codes "Non Authoritative Information") _ refl (
    fine_if (n == 204) (codes "No Content") _ refl (
    fine_if (n == 205) (codes "Reset Content") _ refl (
    fine_if (n == 206) (codes "Partial Content") _ refl (
    fine_if (n == 207) (codes "Multi-Status") _ refl (
    fine_if (n == 208) (codes "Already Reported") _ refl (
    fine_if (n == 226) (codes "IM Used") _ refl (
    fine_if (n == 300) (codes "Multiple Choices") _ refl (
    fine_if (n == 301) (codes "Moved Permanently") _ refl (
    fine_if (n == 302) (codes "Found") _ refl (
    fine_if (n == 303) (codes "See Other") _ refl (
    fine_if (n == 304) (codes "Not Modified") _ refl (
    fine_if (n == 305) (codes "Use Proxy") _ refl (
    fine_if (n == 307) (codes "Temporary Redirect") _ refl (
    fine_if (n == 308) (codes "Permanent Redirect") _ refl (
    fine_if (n == 400) (codes "Bad Request") _ refl (
    fine_if (n == 401) (codes "Unauthorized") _ refl (
    fine_if (n == 402) (codes "Payment Required") _ refl (
    fine_if (n == 403) (codes "Forbidden") _ refl (
    fine_if (n == 404) (codes "Not Found") _ refl (
    fine_if (n == 405) (codes "Method Not Allowed") _ refl (
    fine_if (n == 406) (codes "Not Acceptable") _ refl (
    fine_if (n == 407) (codes "Proxy Authentication Required") _ refl (
    fine_if (n == 408) (codes "Request Timeout") _ refl (
    fine_if (n == 409) (codes "Conflict") _ refl (
    fine_if (n == 410) (codes "Gone") _ refl (
    fine_if (n == 411) (codes "Length Required") _ refl (
    fine_if (n == 412) (codes "Precondition Failed") _ refl (
    fine_if (n == 413) (codes "Payload Too Large") _ refl (
    fine_if (n == 414) (codes "URI Too Long") _ refl (
    fine_if (n == 415) (codes "Unsupported Media Type") _ refl (
    fine_if (n == 416) (codes "Range Not Satisfiable") _ refl (
    fine_if (n == 417) (codes "Expectation Failed") _ refl (
    fine_if (n == 418) (codes "I'm a teapot") _ refl (
    fine_if (n == 421) (codes "Misdirected Request") _ refl (
    fine_if (n == 422) (codes "Unprocessable Entity") _ refl (
    fine_if (n == 423) (codes "Locked") _ refl (
    fine_if (n == 424) (codes "Failed Dependency") _ refl (
    fine_if (n == 425) (codes "Too Early") _ refl (
    fine_if (n == 426) (codes "Upgrade Required") _ refl (
    fine_if (n == 428) (codes "Precondition Required") _ refl (
    fine_if (n == 429) (codes "Too Many Requests") _ refl (
    fine_if (n == 431) (codes "Request Header Fields Too Large") _ refl (
    fine_if (n == 451) (codes "Unavailable For Legal Reasons") _ refl (
    fine_if (n == 500) (codes "Internal Server Error") _ refl (
    fine_if (n == 501) (codes "Not Implemented") _ refl (
    fine_if (n == 502) (codes "Bad Gateway") _ refl (
    fine_if (n == 503) (codes "Service Unavailable") _ refl (
    fine_if (n == 504) (codes "Gateway Timeout") _ refl (
    fine_if (n == 505) (codes "HTTP Version Not Supported") _ refl (
    fine_if (n == 506) (codes "Variant Also Negotiates") _ refl (
    fine_if (n == 507) (codes "Insufficient Storage") _ refl (
    fine_if (n == 508) (codes "Loop Detected") _ refl (
    fine_if (n == 510) (codes "Not Extended") _ refl (
    fine_if (n == 511) (codes "Network Authentication Required") _ refl (
    fine_none))))))))))))))))))))))))))))))))))))))))))))))))))))))))))))))

fine_phrase : (t : Bool) (o : Option (List ℕ)) → IsFine o → is_fine (cond t (unwrap_or o []) []) ≡ true
fine_phrase true o is = is.fine
fine_phrase false o is = refl

phrase_fine : (code : ℕ) → is_fine (phrase_of code) ≡ true
phrase_fine code = fine_phrase (leb 100 code && ltb code 1000) (reason_phrase code) (fine code)

pub phrase_passes : (code : ℕ) → AllPass is_value_byte (phrase_of code)
phrase_passes code = passes_each is_value_byte (phrase_of code) (and_first (list_all is_value_byte (phrase_of code)) (nat_le (length (phrase_of code)) 64) (phrase_fine code))

pub phrase_short : (code : ℕ) → length (phrase_of code) ≤ 64
phrase_short code = leb-true (length (phrase_of code)) 64 (and_rest (list_all is_value_byte (phrase_of code)) (nat_le (length (phrase_of code)) 64) (phrase_fine code))
