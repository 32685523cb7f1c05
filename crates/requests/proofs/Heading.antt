-- The head of a reply, piece by piece.
use Rattle.std.proofs.Common.{◌≡◌, ℕ, List, [], ◌∷◌, ◌++◌, Option, Bool, cond, ◌&&◌, sym, ap, ap₂, ◌∙◌, le-leb, lt-ltb}
use Rattle.http.specs.StatusCode.{IsStatusCode, reason_phrase}
use Rattle.std.specs.Prelude.{codes, unwrap_or}
use Rattle.std.specs.Fmt.{decimal}
use Rattle.wire.specs.Heads.{crlf}
use Rattle.requests.specs.ReplyBytes.{phrase_of, allow_field, reply_head}

-- with this phrase, and this for the field of allowed methods
abbrev pub pieces : ℕ → ℕ → List ℕ → List ℕ → List ℕ
pieces code n phrase allow =
    codes "HTTP/1.1 " ++ (decimal code ++ (32 ∷ (phrase ++ (crlf
    ++ (codes "Content-Type: application/json" ++ (crlf
    ++ (codes "Content-Length: " ++ (decimal n ++ (crlf
    ++ (codes "Connection: close" ++ (crlf ++ (allow ++ crlf))))))))))))

pub same_head : (code n : ℕ) (phrase shown : List ℕ) (allow : Option (List ℕ)) → phrase ≡ phrase_of code → shown ≡ allow_field allow
    → pieces code n phrase shown ≡ reply_head code allow n
same_head code n phrase shown allow is as_field = ap₂ (λ (p s : List ℕ). pieces code n p s) is as_field

pub phrase_known : (code status : ℕ) (phrase : List ℕ) → IsStatusCode code → status ≡ code → phrase ≡ unwrap_or (reason_phrase status) [] → phrase ≡ phrase_of code
phrase_known code status phrase (low, high) is said =
    said ∙ ap (λ (n : ℕ). unwrap_or (reason_phrase n) []) is
    ∙ sym (ap₂ (λ (a b : Bool). cond (a && b) (unwrap_or (reason_phrase code) []) []) (le-leb 100 code low) (lt-ltb code 1000 high))
