-- The bytes of a client's request (RFC 9112, sections 3 and 5).
use Rattle.std.specs.Prelude.{ℕ, List, [], ◌∷◌, ◌++◌, length, Option, None, Some, codes}
use Rattle.std.specs.Fmt.{decimal}
use Rattle.wire.specs.Heads.{crlf}

abbrev pub body_fields : Option (List ℕ × List ℕ) → List ℕ
body_fields None = []
body_fields (Some (media, body)) = codes "Content-Type: " ++ (media ++ (crlf ++ (codes "Content-Length: " ++ (decimal (length body) ++ crlf))))

abbrev pub body_bytes : Option (List ℕ × List ℕ) → List ℕ
body_bytes None = []
body_bytes (Some (media, body)) = body

-- the request line, the host, the body's fields, an empty line and the body; body is its media type and its bytes
abbrev pub request : List ℕ → List ℕ → Option (List ℕ × List ℕ) → List ℕ
request method target body =
    method ++ (32 ∷ (target ++ (codes " HTTP/1.1" ++ (crlf ++ (codes "Host: localhost" ++ (crlf ++ (body_fields body ++ (crlf ++ body_bytes body))))))))
