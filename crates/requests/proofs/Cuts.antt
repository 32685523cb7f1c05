-- What a prefix says stays said, whatever bytes follow, and nothing else is said of it.
use Rattle.std.proofs.Common.{arith, ◌≡◌, ◌≢◌, ℕ, zero, suc, ◌≤◌, ◌<◌, Bool, true, false, cond, ltb, List, [], ◌∷◌, ◌++◌, length, take, drop, Option, Some, None, refl, sym, ap, subst, ◌∙◌, length-append, inl, inr}
use Rattle.std.proofs.lemmas.Bool.{ltb-true, lt-ltb}
use Rattle.std.proofs.lemmas.List.{take-append-le, drop-append-le, length-take}
use Rattle.httparse.specs.Grammar.{RequestHead}
use Rattle.httparse.proofs.GrammarLemmas.{request_unique}
use Rattle.wire.specs.declared.place.ScanState.TheVariants.{Leading}
use Rattle.wire.specs.Heads.{head_end, max_head}
use Rattle.wire.proofs.HeadEnds.{end_more, end_within}
use Rattle.requests.specs.Decision.{Decision, undecided, accepted}
use Rattle.requests.specs.Refusals.{head_too_large, bad_head, wrong_version, not_one_host, refuse}
use Rattle.requests.specs.Heads.{Request, validated_head, with_more, ReadsHead, ReadsHeadAt, ReadsWholeHead}

-- ---- the head's end

pub take_prefix : (n : ℕ) (xs ys : List ℕ) → (zs : List ℕ) × (take n (xs ++ ys) ≡ take n xs ++ zs)
take_prefix zero xs ys = ([], refl)
take_prefix (suc n) [] ys = (take (suc n) ys, refl)
take_prefix (suc n) (x ∷ xs) ys = let rest = take_prefix n xs ys in (rest.0, ap (λ (s : List ℕ). x ∷ s) rest.1)

pub prefix_within : (bytes : List ℕ) (m : ℕ) → head_end (take max_head bytes) ≡ Some m → m ≤ length bytes
prefix_within bytes m h =
    let low = end_within Leading 0 (take max_head bytes) m h in
    let taken = length-take max_head bytes in
    omega (arith, low, taken)

pub prefix_short : (bytes : List ℕ) (m : ℕ) → head_end (take max_head bytes) ≡ Some m → m ≤ max_head
prefix_short bytes m h =
    let low = end_within Leading 0 (take max_head bytes) m h in
    let taken = length-take max_head bytes in
    omega (arith, low, taken)

pub prefix_more : (bytes more : List ℕ) (m : ℕ) → head_end (take max_head bytes) ≡ Some m → head_end (take max_head (bytes ++ more)) ≡ Some m
prefix_more bytes more m h =
    let split = take_prefix max_head bytes more in
    ap head_end split.1 ∙ end_more Leading 0 (take max_head bytes) split.0 m h

-- ---- what is said

four : (s t u v : Bool) (request : Request) (rest more : List ℕ)
    → cond s (refuse head_too_large) (cond t (refuse wrong_version) (cond u (refuse not_one_host) (cond v (refuse bad_head) (accepted (request, rest ++ more)))))
    ≡ with_more more (cond s (refuse head_too_large) (cond t (refuse wrong_version) (cond u (refuse not_one_host) (cond v (refuse bad_head) (accepted (request, rest))))))
four true t u v request rest more = refl
four false true u v request rest more = refl
four false false true v request rest more = refl
four false false false true request rest more = refl
four false false false false request rest more = refl

validated_more : (h : RequestHead) (rest more : List ℕ) → validated_head h (rest ++ more) ≡ with_more more (validated_head h rest)
validated_more h rest more = four _ _ _ _ _ rest more

whole_more : (bytes rest more : List ℕ) (prefix : Decision (Request × List ℕ)) → ReadsWholeHead bytes rest prefix → ReadsWholeHead bytes (rest ++ more) (with_more more prefix)
whole_more bytes rest more prefix (inl (h, reads, is)) = inl (h, reads, ap (with_more more) is ∙ sym (validated_more h rest more))
whole_more bytes rest more prefix (inr (none, is)) = inr (none, ap (with_more more) is)

too_long : (s : Bool) (prefix : Decision (Request × List ℕ)) → prefix ≡ cond s (refuse head_too_large) undecided → prefix ≢ undecided → (s ≡ true) × (prefix ≡ refuse head_too_large)
too_long true prefix is decided = (refl, is)
too_long false prefix is decided = absurd (decided is)

at_more : (bytes more : List ℕ) (o : Option ℕ) (prefix : Decision (Request × List ℕ)) → head_end (take max_head bytes) ≡ o → prefix ≢ undecided → ReadsHeadAt bytes o prefix → ReadsHead (bytes ++ more) (with_more more prefix)
at_more bytes more None prefix end decided says =
    let is = too_long (ltb max_head (length bytes)) prefix says decided in
    let long : max_head < length bytes = ltb-true max_head (length bytes) is.0 in
    let longer : max_head < length (bytes ++ more) = (let both = length-append bytes more in omega (arith, long, both)) in
    let same : head_end (take max_head (bytes ++ more)) ≡ None = ap head_end (take-append-le max_head bytes more (omega (arith, long))) ∙ end in
    subst (λ (e : Option ℕ). ReadsHeadAt (bytes ++ more) e (with_more more prefix)) (sym same)
    (ap (with_more more) is.1 ∙ sym (ap (λ (t : Bool). cond t (refuse head_too_large) undecided) (lt-ltb max_head (length (bytes ++ more)) longer)))
at_more bytes more (Some n) prefix end decided says =
    let low = prefix_within bytes n end in
    subst (λ (e : Option ℕ). ReadsHeadAt (bytes ++ more) e (with_more more prefix)) (sym (prefix_more bytes more n end))
    (subst (λ (head : List ℕ). ReadsWholeHead head (drop n (bytes ++ more)) (with_more more prefix)) (sym (take-append-le n bytes more low))
    (subst (λ (rest : List ℕ). ReadsWholeHead (take n bytes) rest (with_more more prefix)) (sym (drop-append-le n bytes more low)) (whole_more (take n bytes) (drop n bytes) more prefix says)))

pub reads_more : (bytes more : List ℕ) (prefix : Decision (Request × List ℕ)) → ReadsHead bytes prefix → prefix ≢ undecided → ReadsHead (bytes ++ more) (with_more more prefix)
reads_more bytes more prefix says decided = at_more bytes more (head_end (take max_head bytes)) prefix refl decided says

-- ---- nothing else is said

whole_one : (bytes rest : List ℕ) (f g : Decision (Request × List ℕ)) → ReadsWholeHead bytes rest f → ReadsWholeHead bytes rest g → f ≡ g
whole_one bytes rest f g (inl (h, reads, is)) (inl (k, too, that)) = is ∙ ap (λ (x : RequestHead). validated_head x rest) (request_unique bytes h k [] [] reads too).0 ∙ sym that
whole_one bytes rest f g (inl (h, reads, is)) (inr (none, that)) = absurd (none h reads)
whole_one bytes rest f g (inr (none, is)) (inl (k, too, that)) = absurd (none k too)
whole_one bytes rest f g (inr (none, is)) (inr (none', that)) = is ∙ sym that

at_one : (bytes : List ℕ) (o : Option ℕ) (f g : Decision (Request × List ℕ)) → ReadsHeadAt bytes o f → ReadsHeadAt bytes o g → f ≡ g
at_one bytes None f g is that = is ∙ sym that
at_one bytes (Some n) f g is that = whole_one (take n bytes) (drop n bytes) f g is that

pub reads_one : (bytes : List ℕ) (f g : Decision (Request × List ℕ)) → ReadsHead bytes f → ReadsHead bytes g → f ≡ g
reads_one bytes f g is that = at_one bytes (head_end (take max_head bytes)) f g is that

-- by where the head ends
pub reads_at : (bytes : List ℕ) (end : Option ℕ) (prefix : Decision (Request × List ℕ)) → end ≡ head_end (take max_head bytes) → ReadsHeadAt bytes end prefix → ReadsHead bytes prefix
reads_at bytes end prefix is says = subst (λ (o : Option ℕ). ReadsHeadAt bytes o prefix) is says
