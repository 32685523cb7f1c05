-- What fewer of a connection's bytes say of its head than came.
use Rattle.std.proofs.Common.{arith, ◌≡◌, ℕ, zero, suc, ◌+◌, ◌≤◌, ◌<◌, Bool, true, false, cond, ltb, List, [], ◌∷◌, length, map, take, drop, Option, Some, None, refl, sym, ap, subst, ◌∙◌, inl, inr}
use Rattle.std.proofs.lemmas.Bool.{le-ltb, lt-ltb}
use Rattle.std.proofs.lemmas.List.{drop-take, length-take, length-take-le, take-append-drop, take-take}
use Rattle.httparse.specs.Spans.{name_and_value}
use Rattle.wire.specs.declared.place.ScanState.{ScanState}
use Rattle.wire.specs.declared.place.ScanState.TheVariants.{Leading}
use Rattle.wire.specs.Heads.{end_from, end_or, head_end, max_head, place_after}
use Rattle.wire.proofs.HeadEnds.{end_more}
use Rattle.requests.specs.Decision.{undecided, refused, accepted}
use Rattle.requests.specs.Heads.{HeadDecision, ReadsHead, ReadsHeadAt, ReadsWholeHead, Request, request_of}
use Rattle.requests.specs.Refusals.{bad_head, head_too_large, not_one_host, refuse, wrong_version}
use Rattle.requests.proofs.Cuts.{prefix_more, prefix_short, prefix_within}
use Rattle.requests.proofs.Lines.{accepted_of, isnt_open}

pub same_end : {m n : ℕ} → Some m ≡ Some n → m ≡ n
same_end is = cc

-- ---- where the head ends

past_by : (o : Option ScanState) (k e n : ℕ) (found : ScanState → Option ℕ) → n < k → ((q : ScanState) → found q ≡ Some e → n < e) → end_or k o found ≡ Some e → n < e
past_by None k e n found low later h = let is : k ≡ e = same_end h in omega (arith, low, is)
past_by (Some q) k e n found low later h = later q h

end_past : (p : ScanState) (n : ℕ) (bytes : List ℕ) (e : ℕ) → end_from p n bytes ≡ Some e → n < e
end_past p n [] e h = absurd cc
end_past p n (b ∷ bytes) e h =
    past_by (place_after p b) (n + 1) e n (λ q. end_from q (n + 1) bytes) (omega arith) (λ q f. let low = end_past q (n + 1) bytes e f in omega (arith, low)) h

front_by : (o : Option ScanState) (k e : ℕ) (whole front : ScanState → Option ℕ) → ((q : ScanState) → whole q ≡ Some e → front q ≡ Some e) → end_or k o whole ≡ Some e → end_or k o front ≡ Some e
front_by None k e whole front later h = h
front_by (Some q) k e whole front later h = later q h

end_front : (p : ScanState) (n m : ℕ) (bytes : List ℕ) (e : ℕ) → e ≤ n + m → end_from p n bytes ≡ Some e → end_from p n (take m bytes) ≡ Some e
end_front p n m [] e low h = absurd cc
end_front p n zero (b ∷ bytes) e low h = let past = end_past p n (b ∷ bytes) e h in absurd (omega (arith, low, past))
end_front p n (suc m) (b ∷ bytes) e low h =
    front_by (place_after p b) (n + 1) e (λ q. end_from q (n + 1) bytes) (λ q. end_from q (n + 1) (take m bytes)) (λ q f. end_front q (n + 1) m bytes e (omega (arith, low)) f) h

-- a front that has the head's end
pub end_in_front : (bytes : List ℕ) (e m : ℕ) → head_end (take max_head bytes) ≡ Some e → e ≤ m → head_end (take max_head (take m bytes)) ≡ Some e
end_in_front bytes e m at low =
    let short = prefix_short bytes e at in
    let whole : List ℕ = take max_head (take m bytes) in
    let here : head_end (take e bytes) ≡ Some e = ap head_end (sym (take-take e max_head bytes short)) ∙ end_front Leading 0 e (take max_head bytes) e (omega arith) at in
    let front : take e whole ≡ take e bytes = take-take e max_head (take m bytes) short ∙ take-take e m bytes low in
    ap head_end (sym (take-append-drop e whole)) ∙ end_more Leading 0 (take e whole) (drop e whole) e (ap head_end front ∙ here)

-- a front that hasn't
no_end : (bytes : List ℕ) (m : ℕ) (o : Option ℕ) → head_end (take max_head (take m bytes)) ≡ o → ((e : ℕ) → head_end (take max_head bytes) ≡ Some e → m < e) → o ≡ None
no_end bytes m None is past = refl
no_end bytes m (Some k) is past =
    let there : head_end (take max_head bytes) ≡ Some k = ap (λ (b : List ℕ). head_end (take max_head b)) (sym (take-append-drop m bytes)) ∙ prefix_more (take m bytes) (drop m bytes) k is in
    let within = prefix_within (take m bytes) k is in
    let few = length-take m bytes in
    let more = past k there in
    absurd (omega (arith, within, few, more))

-- ---- what is said of it

-- nothing, while the end hasn't come and may come
pub reads_open : (bytes : List ℕ) (m : ℕ) → m ≤ max_head → ((e : ℕ) → head_end (take max_head bytes) ≡ Some e → m < e) → ReadsHead (take m bytes) undecided
reads_open bytes m short past =
    let few = length-take m bytes in
    let within : length (take m bytes) ≤ max_head = omega (arith, few, short) in
    subst (λ (o : Option ℕ). ReadsHeadAt (take m bytes) o undecided) (sym (no_end bytes m (head_end (take max_head (take m bytes))) refl past))
    (sym (ap (λ (t : Bool). cond t (refuse head_too_large) undecided) (le-ltb max_head (length (take m bytes)) within)))

-- the first byte too many
pub reads_long : (bytes : List ℕ) → head_end (take max_head bytes) ≡ None → max_head < length bytes → ReadsHead (take (max_head + 1) bytes) (refuse head_too_large)
reads_long bytes none long =
    let same : head_end (take max_head (take (max_head + 1) bytes)) ≡ None = ap head_end (take-take max_head (max_head + 1) bytes (omega arith)) ∙ none in
    let all = length-take-le (max_head + 1) bytes (omega (arith, long)) in
    let longer : max_head < length (take (max_head + 1) bytes) = omega (arith, all) in
    subst (λ (o : Option ℕ). ReadsHeadAt (take (max_head + 1) bytes) o (refuse head_too_large)) (sym same)
    (sym (ap (λ (t : Bool). cond t (refuse head_too_large) undecided) (lt-ltb max_head (length (take (max_head + 1) bytes)) longer)))

-- the same with the first k bytes after it
abbrev pub with_first : ℕ → HeadDecision → HeadDecision
with_first k undecided = undecided
with_first k (refused r) = refused r
with_first k (accepted (request, rest)) = accepted (request, take k rest)

first_by : (s t u v : Bool) (request : Request) (rest : List ℕ) (k : ℕ)
    → cond s (refuse head_too_large) (cond t (refuse wrong_version) (cond u (refuse not_one_host) (cond v (refuse bad_head) (accepted (request, take k rest)))))
    ≡ with_first k (cond s (refuse head_too_large) (cond t (refuse wrong_version) (cond u (refuse not_one_host) (cond v (refuse bad_head) (accepted (request, rest))))))
first_by true t u v request rest k = refl
first_by false true u v request rest k = refl
first_by false false true v request rest k = refl
first_by false false false true request rest k = refl
first_by false false false false request rest k = refl

whole_first : (head rest : List ℕ) (k : ℕ) (said : HeadDecision) → ReadsWholeHead head rest said → ReadsWholeHead head (take k rest) (with_first k said)
whole_first head rest k said (inl (h, reads, is)) = inl (h, reads, ap (with_first k) is ∙ sym (first_by _ _ _ _ _ rest k))
whole_first head rest k said (inr (none, is)) = inr (none, ap (with_first k) is)

pub reads_front : (bytes : List ℕ) (e k : ℕ) (said : HeadDecision) → head_end (take max_head bytes) ≡ Some e → ReadsHead bytes said → ReadsHead (take (e + k) bytes) (with_first k said)
reads_front bytes e k said at says =
    let whole : ReadsWholeHead (take e bytes) (drop e bytes) said = subst (λ (o : Option ℕ). ReadsHeadAt bytes o said) at says in
    let low : e ≤ e + k = omega arith in
    subst (λ (o : Option ℕ). ReadsHeadAt (take (e + k) bytes) o (with_first k said)) (sym (end_in_front bytes e (e + k) at low))
    (subst (λ (head : List ℕ). ReadsWholeHead head (drop e (take (e + k) bytes)) (with_first k said)) (sym (take-take e (e + k) bytes low))
    (subst (λ (rest : List ℕ). ReadsWholeHead (take e bytes) rest (with_first k said)) (sym (drop-take e k bytes)) (whole_first (take e bytes) (drop e bytes) k said whole)))

-- ---- of a head that is accepted

rest_is : (s t u v : Bool) (r x : Request) (rest more : List ℕ)
    → (let said : HeadDecision = accepted (r, rest) in said) ≡ cond s (refuse head_too_large) (cond t (refuse wrong_version) (cond u (refuse not_one_host) (cond v (refuse bad_head) (accepted (x, more))))) → rest ≡ more
rest_is true t u v r x rest more is = absurd cc
rest_is false true u v r x rest more is = absurd cc
rest_is false false true v r x rest more is = absurd cc
rest_is false false false true r x rest more is = absurd cc
rest_is false false false false r x rest more is = ap (λ (p : Request × List ℕ). p.1) (accepted_of is)

-- its end, behind which stands the rest
abbrev pub EndsAt : List ℕ → Option ℕ → List ℕ → Type 0
EndsAt bytes o rest = (e : ℕ) × (o ≡ Some e) × (rest ≡ drop e bytes)

pub ends_at : (bytes : List ℕ) (o : Option ℕ) (request : Request) (rest : List ℕ) → ReadsHeadAt bytes o (accepted (request, rest)) → EndsAt bytes o rest
ends_at bytes None request rest said = absurd (isnt_open (ltb max_head (length bytes)) request rest said)
ends_at bytes (Some n) request rest (inl (h, reads, said)) = (n, refl, rest_is _ _ _ _ request (request_of h.method h.target (map name_and_value h.fields)) rest (drop n bytes) said)
ends_at bytes (Some n) request rest (inr (none, is)) = absurd cc
