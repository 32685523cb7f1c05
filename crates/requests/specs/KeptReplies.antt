-- The bytes of a reply by whether others follow on its connection (RFC 9112, section 9.3): the last one says so by `Connection: close` (section 9.6), any other has no
-- `Connection` field.
use Rattle.std.specs.Prelude.{ℕ, List, [], ◌∷◌, ◌++◌, length, Option, Some, None, codes}
use Rattle.std.specs.Fmt.{decimal}
use Rattle.serde_json.specs.Written.{compact_text}
use Rattle.answers.specs.WatchFrom.{WatchFrom}
use Rattle.api_request.specs.Calls.{Answer, Denied}
use Rattle.api_request.specs.Reasons.{code_of}
use Rattle.api_request.specs.Status.{status_value}
use Rattle.wire.specs.Heads.{crlf}
use Rattle.requests.specs.ReplyBytes.{allow_field, phrase_of}
use Rattle.requests.specs.declared.persistence.Persistence.{Persistence}
use Rattle.requests.specs.declared.persistence.Persistence.TheVariants.{Kept, Last}

abbrev pub connection_field : Persistence → List ℕ
connection_field Kept = []
connection_field Last = codes "Connection: close" ++ crlf

-- the status line and the fields of a reply whose body has n bytes, and an empty line
abbrev pub reply_head_by : Persistence → ℕ → Option (List ℕ) → ℕ → List ℕ
reply_head_by persistence code allow n =
    codes "HTTP/1.1 " ++ (decimal code ++ (32 ∷ (phrase_of code ++ (crlf
    ++ (codes "Content-Type: application/json" ++ (crlf
    ++ (codes "Content-Length: " ++ (decimal n ++ (crlf
    ++ (connection_field persistence ++ (allow_field allow ++ crlf)))))))))))

abbrev pub reply_by : Persistence → ℕ → Option (List ℕ) → List ℕ → List ℕ
reply_by persistence code allow body = reply_head_by persistence code allow (length body) ++ body

-- the status line and the fields of a watch, and an empty line
abbrev pub watch_head_by : Persistence → ℕ → List ℕ
watch_head_by persistence code =
    codes "HTTP/1.1 " ++ (decimal code ++ (32 ∷ (phrase_of code ++ (crlf
    ++ (codes "Content-Type: application/json" ++ (crlf
    ++ (codes "Transfer-Encoding: chunked" ++ (crlf
    ++ (connection_field persistence ++ crlf)))))))))

-- ---- of a refusal and of a call's answer

abbrev pub refusal_reply_by : Persistence → Denied → List ℕ
refusal_reply_by persistence d = reply_by persistence (code_of d.reason) d.allow (compact_text (status_value d.reason d.message))

abbrev pub answer_bytes_by : Persistence → Answer → Option WatchFrom → List ℕ
answer_bytes_by persistence a None = reply_by persistence a.status None a.body
answer_bytes_by persistence a (Some from) = watch_head_by persistence a.status
