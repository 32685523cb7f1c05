-- The request line that bytes begin with, and that of a head that is accepted.
use Rattle.std.proofs.Common.{◌≡◌, ℕ, Bool, true, false, cond, List, [], drop, map, take, Option, Some, None, inl, inr, sym, ap, subst, ◌∙◌}
use Rattle.std.specs.Prelude.{length, nat_lt}
use Rattle.httparse.specs.Grammar.{RequestHead}
use Rattle.httparse.specs.Spans.{name_and_value}
use Rattle.httparse.proofs.GrammarLemmas.{request_unique}
use Rattle.wire.specs.Heads.{head_end, max_head}
use Rattle.requests.specs.Decision.{undecided, accepted}
use Rattle.requests.specs.Heads.{HeadDecision, IsLineAt, ReadsHead, ReadsHeadAt, ReadsLine, Request, line_in, request_of}
use Rattle.requests.specs.Refusals.{bad_head, head_too_large, not_one_host, refuse, wrong_version}

-- by where the head ends
pub line_at : (bytes : List ℕ) (end : Option ℕ) (line : Option (List ℕ × List ℕ)) → end ≡ head_end (take max_head bytes) → IsLineAt bytes end line → ReadsLine bytes line
line_at bytes end line is said = subst (λ (o : Option ℕ). IsLineAt bytes o line) is said

-- ---- of a head that is accepted

pub accepted_of : {A : Type 0} {x y : A} → accepted x ≡ accepted y → x ≡ y
accepted_of e = cc

pub isnt_open : (s : Bool) (r : Request) (rest : List ℕ) → (let said : HeadDecision = accepted (r, rest) in said) ≡ cond s (refuse head_too_large) undecided → ⊥
isnt_open true r rest is = cc
isnt_open false r rest is = cc

validated_is : (s t u v : Bool) (r x : Request) (rest more : List ℕ)
    → (let said : HeadDecision = accepted (r, rest) in said) ≡ cond s (refuse head_too_large) (cond t (refuse wrong_version) (cond u (refuse not_one_host) (cond v (refuse bad_head) (accepted (x, more))))) → r ≡ x
validated_is true t u v r x rest more is = absurd cc
validated_is false true u v r x rest more is = absurd cc
validated_is false false true v r x rest more is = absurd cc
validated_is false false false true r x rest more is = absurd cc
validated_is false false false false r x rest more is = ap (λ (p : Request × List ℕ). p.0) (accepted_of is)

accepted_at : (bytes : List ℕ) (end : Option ℕ) (line : Option (List ℕ × List ℕ)) (r : Request) (rest : List ℕ) → IsLineAt bytes end line → ReadsHeadAt bytes end (accepted (r, rest)) → line ≡ Some (r.method, r.request_target)
accepted_at bytes None line r rest none said = absurd (isnt_open (nat_lt max_head (length bytes)) r rest said)
accepted_at bytes (Some n) line r rest (None, none, is) (inl (h, reads, said)) = absurd (none h reads)
accepted_at bytes (Some n) line r rest (Some k, also, is) (inl (h, reads, said)) =
    let same = (request_unique (take n bytes) k h [] [] also reads).0 in
    let request = validated_is _ _ _ _ r (request_of h.method h.target (map name_and_value h.fields)) rest (drop n bytes) said in
    is ∙ ap (λ (x : RequestHead). Some (line_in x)) same ∙ sym (ap (λ (x : Request). Some (x.method, x.request_target)) request)
accepted_at bytes (Some n) line r rest said (inr (none, is)) = absurd cc

pub accepted_line : (bytes : List ℕ) (line : Option (List ℕ × List ℕ)) (r : Request) (rest : List ℕ) → ReadsLine bytes line → ReadsHead bytes (accepted (r, rest)) → line ≡ Some (r.method, r.request_target)
accepted_line bytes line r rest reads said = accepted_at bytes (head_end (take max_head bytes)) line r rest reads said
