-- What a head and the bytes after it say of the body stays said, whatever bytes follow.
use Rattle.std.proofs.Common.{arith, ◌≡◌, ◌≢◌, ℕ, ◌≤◌, Bool, true, false, cond, ltb, List, ◌++◌, length, take, Option, None, Some, Result, Ok, Err, refl, ap, ap₂, length-append}
use Rattle.std.proofs.lemmas.Bool.{ltb-false, le-ltb}
use Rattle.std.proofs.lemmas.List.{take-append-le}
use Rattle.serde_json.specs.Data.{Data}
use Rattle.api_request.specs.Calls.{Denied}
use Rattle.requests.specs.Decision.{Decision, undecided, and_then, decided_by}
use Rattle.requests.specs.Heads.{Request}
use Rattle.requests.specs.Bodies.{json_in, some_json, body_of, declared_body, declared_length, body_in}

abbrev pub Body : Type 0
Body = Decision (Option Data)

abbrev pub by_test : Bool → Option Data → Body
by_test t value = cond t undecided (some_json value)

same_body : (t t' : Bool) (value value' : Option Data) → by_test t value ≢ undecided → (t ≡ false → (t' ≡ false) × (value' ≡ value)) → by_test t' value' ≡ by_test t value
same_body true t' value value' decided same = absurd (decided refl)
same_body false t' value value' decided same = let is = same refl in ap₂ (λ (b : Bool) (v : Option Data). by_test b v) is.0 is.1

body_of_more : (n : ℕ) (rest more : List ℕ) → body_of n rest ≢ undecided → body_of n (rest ++ more) ≡ body_of n rest
body_of_more n rest more decided =
    same_body (ltb (length rest) n) (ltb (length (rest ++ more)) n) (json_in (take n rest)) (json_in (take n (rest ++ more))) decided
    (λ e. let low : n ≤ length rest = ltb-false (length rest) n e in
    let longer : n ≤ length (rest ++ more) = (let both = length-append rest more in omega (arith, low, both)) in
    (le-ltb (length (rest ++ more)) n longer, ap json_in (take-append-le n rest more low)))

declared_more : (o : Result (Option ℕ) Denied) (rest more : List ℕ) → and_then (decided_by o) (λ n. declared_body n rest) ≢ undecided
    → and_then (decided_by o) (λ n. declared_body n (rest ++ more)) ≡ and_then (decided_by o) (λ n. declared_body n rest)
declared_more (Err d) rest more decided = refl
declared_more (Ok None) rest more decided = refl
declared_more (Ok (Some n)) rest more decided = body_of_more n rest more decided

pub body_more : (request : Request) (rest more : List ℕ) → body_in request rest ≢ undecided → body_in request (rest ++ more) ≡ body_in request rest
body_more request rest more decided = declared_more (declared_length request) rest more decided
