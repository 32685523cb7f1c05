-- The bytes of a reply: status line (RFC 9112, section 4), fields (section 5), body (section 6). Of the fields `Connection: close` is section 9.6;
-- `Content-Type`, `Content-Length` and `Allow` are RFC 9110, sections 8.3, 8.6 and 10.2.1. A watch is sent in chunks (RFC 9112, section 7.1).
use Rattle.std.specs.Prelude.{◌≡◌, ℕ, List, [], ◌∷◌, ◌++◌, length, Bool, Option, None, Some, codes, unwrap_or, nat_le, nat_lt, ◌&&◌, if◌then◌else◌}
use Rattle.std.specs.Fmt.{decimal}
use Rattle.std.specs.List.{flat_map}
use Rattle.http.specs.StatusCode.{reason_phrase}
use Rattle.wire.specs.Chunks.{chunk_of, print_chunk, print_last}
use Rattle.wire.specs.Heads.{crlf}

-- the phrase of a status code, which has three digits, as the crate `http` has it (RFC 9110, section 15; 413 and 422 with the phrases that they had before)
abbrev pub phrase_of : ℕ → List ℕ
phrase_of code = if nat_le 100 code && nat_lt code 1000 then unwrap_or (reason_phrase code) [] else []

abbrev pub allow_field : Option (List ℕ) → List ℕ
allow_field None = []
allow_field (Some methods) = codes "Allow: " ++ (methods ++ crlf)

-- the status line and the fields of a reply whose body has n bytes, and an empty line
abbrev pub reply_head : ℕ → Option (List ℕ) → ℕ → List ℕ
reply_head code allow n =
    codes "HTTP/1.1 " ++ (decimal code ++ (32 ∷ (phrase_of code ++ (crlf
    ++ (codes "Content-Type: application/json" ++ (crlf
    ++ (codes "Content-Length: " ++ (decimal n ++ (crlf
    ++ (codes "Connection: close" ++ (crlf ++ (allow_field allow ++ crlf))))))))))))

abbrev pub reply : ℕ → Option (List ℕ) → List ℕ → List ℕ
reply code allow body = reply_head code allow (length body) ++ body

-- what was there stands, and something may follow it
abbrev pub GoesOn : List ℕ → List ℕ → Type 0
GoesOn old new = (more : List ℕ) × (new ≡ old ++ more)

-- ---- a watch

-- the status line and the fields of a watch, and an empty line
abbrev pub watch_head : ℕ → List ℕ
watch_head code =
    codes "HTTP/1.1 " ++ (decimal code ++ (32 ∷ (phrase_of code ++ (crlf
    ++ (codes "Content-Type: application/json" ++ (crlf
    ++ (codes "Transfer-Encoding: chunked" ++ (crlf
    ++ (codes "Connection: close" ++ (crlf ++ crlf))))))))))

-- the chunk of a line, which has its line feed
abbrev pub chunk : List ℕ → List ℕ
chunk line = print_chunk (chunk_of line)

abbrev pub last_chunk : List ℕ
last_chunk = print_last (codes "0")

abbrev pub end_bytes : Bool → List ℕ
end_bytes has_ended = if has_ended then last_chunk else []

-- a chunk for each line, and the last chunk where nothing follows
abbrev pub chunks : List (List ℕ) → Bool → List ℕ
chunks lines has_ended = flat_map chunk lines ++ end_bytes has_ended
