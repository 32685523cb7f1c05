-- The chunks of a watch, one after the other.
use Rattle.std.proofs.Common.{◌≡◌, ℕ, cond, List, [], ◌∷◌, ◌++◌, length, Result, Ok, Err, sym, ap, ◌∙◌, append_assoc, append-nil}
use Rattle.std.specs.Prelude.{OnErr, OnOk, codes, is_ok}
use Rattle.std.specs.Fmt.{decimal}
use Rattle.wire.specs.Heads.{crlf}
use Rattle.wire.specs.Lengths.{hexadecimal}
use Rattle.requests.specs.ReplyBytes.{GoesOn, chunk, phrase_of, watch_head}

-- the parts of a chunk, put one after the other
pub chunk_put : (old head line after : List ℕ) → head ≡ hexadecimal (length line) ++ crlf → after ≡ old ++ head ++ line ++ crlf → after ≡ old ++ chunk line
chunk_put old head line after is then =
    then ∙ append_assoc (old ++ head) line crlf ∙ append_assoc old head (line ++ crlf)
    ∙ ap (λ (rest : List ℕ). old ++ rest) (ap (λ (h : List ℕ). h ++ (line ++ crlf)) is ∙ append_assoc (hexadecimal (length line)) crlf (line ++ crlf))

-- one line more
pub one_more : (old after line rest whole : List ℕ) → after ≡ old ++ chunk line → old ++ (chunk line ++ rest) ≡ whole → after ++ rest ≡ whole
one_more old after line rest whole is before = ap (λ (bytes : List ℕ). bytes ++ rest) is ∙ append_assoc old (chunk line) rest ∙ before

abbrev pub pieces : ℕ → List ℕ → List ℕ
pieces code phrase =
    codes "HTTP/1.1 " ++ (decimal code ++ (32 ∷ (phrase ++ (crlf
    ++ (codes "Content-Type: application/json" ++ (crlf
    ++ (codes "Transfer-Encoding: chunked" ++ (crlf
    ++ (codes "Connection: close" ++ (crlf ++ crlf))))))))))

pub same_head : (code : ℕ) (phrase : List ℕ) → phrase ≡ phrase_of code → pieces code phrase ≡ watch_head code
same_head code phrase is = ap (pieces code) is

-- what a call that may fail put behind these
pub on_items : {A E P : Type 0} (r : Result A E) (new a b : List ℕ) → new ≡ cond (is_ok r) a b → (new ≡ a → P) → OnOk r P
on_items (Ok x) new a b is f = f is
on_items (Err e) new a b is f = tt {0}

-- ---- what a call that is refused memory leaves

pub stands : (old new : List ℕ) → new ≡ old → GoesOn old new
stands old new is = ([], is ∙ sym (append-nil old))

pub went_on : {A E : Type 0} (r : Result A E) (old new put mid first second : List ℕ) → new ≡ cond (is_ok r) put mid → mid ≡ old ++ first ++ second → OnErr r (GoesOn old new)
went_on (Ok x) old new put mid first second is before = tt {0}
went_on (Err e) old new put mid first second is before = (first ++ second, is ∙ before ∙ append_assoc old first second)

pub in_err : {A E P : Type 0} (r : Result A E) → P → OnErr r P
in_err (Ok x) p = tt {0}
in_err (Err e) p = p
