-- The bytes of a request, piece by piece.
use Rattle.std.proofs.Common.{◌≡◌, ℕ, List, ◌∷◌, ◌++◌, length, Some, None, refl, ap, sym, ◌∙◌, append_assoc}
use Rattle.std.specs.Prelude.{codes}
use Rattle.std.specs.Fmt.{decimal}
use Rattle.wire.specs.Heads.{crlf}
use Rattle.wireclient.specs.Request.{request}

pub no_body : (method target : List ℕ) → method ++ (32 ∷ (target ++ (codes " HTTP/1.1" ++ (crlf ++ (codes "Host: localhost" ++ (crlf ++ crlf)))))) ≡ request method target None
no_body method target = refl

pieces_append : (first second third xs : List ℕ) → (first ++ (32 ∷ (second ++ third))) ++ xs ≡ first ++ (32 ∷ (second ++ (third ++ xs)))
pieces_append first second third xs =
    append_assoc first (32 ∷ (second ++ third)) xs
    ∙ ap (λ (s : List ℕ). first ++ (32 ∷ s)) (append_assoc second third xs)

-- the third piece, up to the body
abbrev pub third : List ℕ → ℕ → List ℕ
third media n = codes " HTTP/1.1" ++ (crlf ++ (codes "Host: localhost" ++ (crlf ++ (codes "Content-Type: " ++ (media ++ (crlf ++ (codes "Content-Length: " ++ (decimal n ++ (crlf ++ crlf)))))))))

tail_append : (a b c d : List ℕ) → (a ++ (b ++ c)) ++ d ≡ a ++ (b ++ (c ++ d))
tail_append a b c d = append_assoc a (b ++ c) d ∙ ap (λ (s : List ℕ). a ++ s) (append_assoc b c d)

third_append : (media : List ℕ) (n : ℕ) (body : List ℕ) → third media n ++ body
    ≡ codes " HTTP/1.1" ++ (crlf ++ (codes "Host: localhost" ++ (crlf ++ ((codes "Content-Type: " ++ (media ++ (crlf ++ (codes "Content-Length: " ++ (decimal n ++ crlf))))) ++ (crlf ++ body)))))
third_append media n body =
    ap (λ (s : List ℕ). codes " HTTP/1.1" ++ (crlf ++ (codes "Host: localhost" ++ (crlf ++ (codes "Content-Type: " ++ s)))))
    (tail_append media (crlf ++ codes "Content-Length: ") (decimal n ++ (crlf ++ crlf)) body
    ∙ ap (λ (s : List ℕ). media ++ (crlf ++ (codes "Content-Length: " ++ s))) (append_assoc (decimal n) (crlf ++ crlf) body ∙ sym (append_assoc (decimal n) crlf (crlf ++ body)))
    ∙ sym (tail_append media (crlf ++ codes "Content-Length: ") (decimal n ++ crlf) (crlf ++ body)))

pub some_body : (method target media body : List ℕ)
    → (method ++ (32 ∷ (target ++ third media (length body)))) ++ body ≡ request method target (Some (media, body))
some_body method target media body =
    pieces_append method target (third media (length body)) body
    ∙ ap (λ (s : List ℕ). method ++ (32 ∷ (target ++ s))) (third_append media (length body) body)
