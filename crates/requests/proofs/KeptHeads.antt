-- The heads of replies, piece by piece, by the field that tells what becomes of the connection.
use Rattle.std.proofs.Common.{◌≡◌, ℕ, List, ◌∷◌, ◌++◌, Option, Some, None, refl, ap₂, ◌∙◌, ap}
use Rattle.std.specs.Prelude.{codes}
use Rattle.std.specs.Fmt.{decimal}
use Rattle.answers.specs.WatchFrom.{WatchFrom}
use Rattle.api_request.specs.Calls.{Answer, Denied}
use Rattle.wire.specs.Heads.{crlf}
use Rattle.requests.specs.KeptReplies.{answer_bytes_by, connection_field, refusal_reply_by, reply_by, reply_head_by, watch_head_by}
use Rattle.requests.specs.ReplyBytes.{allow_field, phrase_of, reply, watch_head}
use Rattle.requests.specs.Replies.{answer_bytes, refusal_reply}
use Rattle.requests.specs.declared.persistence.Persistence.{Persistence}
use Rattle.requests.specs.declared.persistence.Persistence.TheVariants.{Last}

abbrev pub pieces : ℕ → ℕ → List ℕ → List ℕ → List ℕ → List ℕ
pieces code n phrase field allow =
    codes "HTTP/1.1 " ++ (decimal code ++ (32 ∷ (phrase ++ (crlf
    ++ (codes "Content-Type: application/json" ++ (crlf
    ++ (codes "Content-Length: " ++ (decimal n ++ (crlf
    ++ (field ++ (allow ++ crlf)))))))))))

pub same_head : (persistence : Persistence) (code n : ℕ) (phrase field shown : List ℕ) (allow : Option (List ℕ)) → phrase ≡ phrase_of code → field ≡ connection_field persistence → shown ≡ allow_field allow
    → pieces code n phrase field shown ≡ reply_head_by persistence code allow n
same_head persistence code n phrase field shown allow is told as_field =
    ap₂ (λ (p f : List ℕ). pieces code n p f shown) is told ∙ ap (λ (s : List ℕ). pieces code n (phrase_of code) (connection_field persistence) s) as_field

abbrev pub watch_pieces : ℕ → List ℕ → List ℕ → List ℕ
watch_pieces code phrase field =
    codes "HTTP/1.1 " ++ (decimal code ++ (32 ∷ (phrase ++ (crlf
    ++ (codes "Content-Type: application/json" ++ (crlf
    ++ (codes "Transfer-Encoding: chunked" ++ (crlf
    ++ (field ++ crlf)))))))))

pub same_watch_head : (persistence : Persistence) (code : ℕ) (phrase field : List ℕ) → phrase ≡ phrase_of code → field ≡ connection_field persistence → watch_pieces code phrase field ≡ watch_head_by persistence code
same_watch_head persistence code phrase field is told = ap₂ (λ (p f : List ℕ). watch_pieces code p f) is told

-- ---- the last reply on a connection is the reply of one that isn't kept

pub last_reply : (code : ℕ) (allow : Option (List ℕ)) (body : List ℕ) → reply_by Last code allow body ≡ reply code allow body
last_reply code allow body = refl

pub last_watch_head : (code : ℕ) → watch_head_by Last code ≡ watch_head code
last_watch_head code = refl

pub last_refusal : (d : Denied) → refusal_reply_by Last d ≡ refusal_reply d
last_refusal d = refl

pub last_answer : (a : Answer) (from : Option WatchFrom) → answer_bytes_by Last a from ≡ answer_bytes a from
last_answer a None = refl
last_answer a (Some from) = refl
