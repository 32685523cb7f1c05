-- What is written for a refusal, and what is asked once a head has come.
use Rattle.std.proofs.Common.{arith, ◌≡◌, ℕ, ◌+◌, ◌≤◌, false, List, ◌++◌, drop, length, refl, sym, ap, subst, ◌∙◌, append_assoc, length-append}
use Rattle.std.proofs.Transfers.{drop-appended}
use Rattle.std.proofs.lemmas.List.{drop-append-le}
use Rattle.serde_json.specs.Written.{has_float}
use Rattle.api_types.specs.TypesFile.{ServedShape}
use Rattle.api_request.specs.declared.reason.Reason.{Reason}
use Rattle.api_request.specs.Status.{status_value}
use Rattle.requests.specs.declared.asking.Progress as askings
use Rattle.requests.specs.declared.asking.Progress.TheVariants as asking
use Rattle.requests.specs.declared.asking.Pending as pendings
use Rattle.requests.specs.Asks.{Asks, call_in}
use Rattle.requests.specs.Decision.{accepted}
use Rattle.requests.specs.Heads.{Request, ReadsHead}
use Rattle.requests.specs.Pendings.{Awaits, Carries, Finds, asked_of, body_call, pending_call}
use Rattle.requests.proofs.Cuts.{reads_more}

pub status_plain : (r : Reason) (message : List ℕ) → has_float (status_value r message) ≡ false
status_plain r message = refl

-- ---- once a head has come

pub finds_first : (types : List ServedShape) (bytes rest : List ℕ) (size : ℕ) (request : Request) (a : askings.Progress) → ReadsHead bytes (accepted (request, rest)) → (size ≤ length bytes) × (drop size bytes ≡ rest)
    → asked_of a ≡ call_in types request rest → Carries (call_in types request) size a → Finds types bytes a
finds_first types bytes rest size request (asking.Pending p) head (low, cut) is (at, same) = (
  (accepted (request, rest), head, is),
  λ more. (
    accepted (request, rest ++ more),
    reads_more bytes more (accepted (request, rest)) head (λ e. absurd cc),
    sym (same (drop p.head (bytes ++ more)))
        ∙ ap (call_in types request) (ap (λ (n : ℕ). drop n (bytes ++ more)) at ∙ drop-append-le size bytes more low ∙ ap (λ (b : List ℕ). b ++ more) cut),
  ),
)
finds_first types bytes rest size request (asking.Refused d) head cut is carries = (accepted (request, rest), head, is)
finds_first types bytes rest size request (asking.Call c) head cut is carries = (accepted (request, rest), head, is)

-- more bytes of a body
pub finds_more : (types : List ServedShape) (prefix more : List ℕ) (p : pendings.Pending) (a : askings.Progress) → Awaits types prefix p
    → asked_of a ≡ pending_call p (prefix ++ more) → Carries (body_call p) p.head a → Finds types (prefix ++ more) a
finds_more types prefix more p (asking.Pending q) awaits is (at, same) = (
  subst (Asks types (prefix ++ more)) (sym is) (awaits more),
  λ later.
      let all = prefix ++ (more ++ later) in
      subst (λ (b : List ℕ). Asks types b (pending_call q b)) (sym (append_assoc prefix more later))
      (subst (Asks types all) (same (drop p.head all) ∙ ap (λ (n : ℕ). body_call q (drop n all)) (sym at)) (awaits (more ++ later))),
)
finds_more types prefix more p (asking.Refused d) awaits is carries = subst (Asks types (prefix ++ more)) (sym is) (awaits more)
finds_more types prefix more p (asking.Call c) awaits is carries = subst (Asks types (prefix ++ more)) (sym is) (awaits more)

-- ---- a head and the bytes after it

pub cut_here : (head rest : List ℕ) → (length head ≤ length (head ++ rest)) × (drop (length head) (head ++ rest) ≡ rest)
cut_here head rest = (let both : length (head ++ rest) ≡ length head + length rest = length-append head rest in omega (arith, both), drop-appended head (head ++ rest) rest refl)
