-- A printed reply is read as its status, its body and the end.
use Rattle.std.proofs.Common.{arith, ◌≡◌, ℕ, ◌+◌, ◌-◌, ◌≤◌, ◌<◌, Bool, true, false, cond, leb, List, [], ◌∷◌, ◌++◌, length, map, Option, Some, None, refl, sym, ap, ap₂, subst, ◌∙◌, append_assoc, append-nil}
use Rattle.std.proofs.lemmas.Bool.{lt-leb, le-leb, ne_eqb}
use Rattle.std.proofs.lemmas.List.{length-append}
use Rattle.std.specs.Prelude.{◌==◌}
use Rattle.std.specs.Fmt.{decimal}
use Rattle.httparse.specs.Grammar.{ResponseHead, IsResponseHead, print_response, status_code}
use Rattle.httparse.specs.Spans.{name_and_value}
use Rattle.wire.specs.declared.place.ScanState.{ScanState}
use Rattle.wire.specs.declared.place.ScanState.TheVariants.{Leading}
use Rattle.wire.specs.Heads.{max_fields, max_head, place_after}
use Rattle.wire.specs.Lengths.{length_in}
use Rattle.wire.proofs.Lengths.{decimal_read}
use Rattle.wire.proofs.Lines.{Goes, EndsAtLast}
use Rattle.wireclient.specs.Reads.{Items, Checked, CheckedWhereEnded, Reaches, framed_by_length, framing_of, max_body, start}
use Rattle.wireclient.specs.Reply.{by_length, HeadCheck, ReplyItem, head, whole, end, heading, body, ended, Next, fails, goes_to, begun, headed, step}
use Rattle.wireclient.proofs.Leading.{reaches_append, one_byte}
use Rattle.wireclient.proofs.Lengthened.{more_of_body}
use Rattle.wireclient.proofs.Heads.{checked_so, next_so}
use Rattle.wireclient.proofs.Checking.{within_limit}
use Rattle.wireclient.proofs.Printed.{head_ends}

-- ---- a byte that doesn't end the head

unchecked : (t : Bool) (bytes : List ℕ) (o : Option ScanState) (m : ScanState) → o ≡ Some m → CheckedWhereEnded t bytes o None
unchecked true bytes o m is = tt
unchecked false bytes (Some p) m is = tt
unchecked false bytes None m is = absurd cc

goes_on : (t : Bool) (bytes : List ℕ) (o : Option ScanState) (m : ScanState) → t ≡ false → o ≡ Some m → cond t fails (headed None bytes o) ≡ goes_to (heading bytes m)
goes_on true bytes o m t-is o-is = absurd cc
goes_on false bytes (Some p) m t-is o-is = let same : p ≡ m = cc in ap (λ (q : ScanState). goes_to (heading bytes q)) same
goes_on false bytes None m t-is o-is = absurd cc

walked : (seen : List ℕ) (p q : ScanState) (bytes : List ℕ) → length seen + length bytes ≤ max_head → Goes p bytes q → Reaches (heading seen p) bytes (heading (seen ++ bytes) q) []
walked seen p q [] fits goes = (ap₂ (λ (xs : List ℕ) (r : ScanState). heading xs r) (append-nil seen) (sym goes), refl)
walked seen p q (b ∷ bytes) fits goes =
    let long = length-append seen (b ∷ []) in
    let next : step None (heading seen p) b ≡ goes_to (heading (seen ++ b ∷ []) goes.0) =
    goes_on (leb max_head (length seen)) (seen ++ b ∷ []) (place_after p b) goes.0 (lt-leb _ _ (omega (arith, fits))) goes.1 in
    let rest = walked (seen ++ b ∷ []) goes.0 q bytes (omega (arith, long, fits)) goes.2 in
    let same : Reaches (heading (seen ++ b ∷ []) goes.0) bytes (heading (seen ++ b ∷ bytes) q) [] = subst (λ (xs : List ℕ). Reaches (heading (seen ++ b ∷ []) goes.0) bytes (heading xs q) []) (append_assoc seen (b ∷ []) bytes) rest in (
      None,
      [],
      unchecked (leb max_head (length seen)) (seen ++ b ∷ []) (place_after p b) goes.0 goes.1,
      subst (λ (n : Next). Reaches n.0 bytes (heading (seen ++ b ∷ bytes) q) []) (sym next) same,
      sym (ap (λ (n : Next). n.1 ++ []) next),
    )

-- ---- the byte that ends it

head_read : (seen : List ℕ) (p : ScanState) (j : HeadCheck) → length seen < max_head → place_after p 10 ≡ None → Checked (seen ++ 10 ∷ []) j → Reaches (heading seen p) (10 ∷ []) (begun j).0 (begun j).1
head_read seen p j fits ends checked =
    let next : step j (heading seen p) 10 ≡ begun j = next_so (leb max_head (length seen)) (seen ++ 10 ∷ []) (place_after p 10) j (lt-leb _ _ fits) ends in
    subst (λ (n : Next). Reaches (heading seen p) (10 ∷ []) n.0 n.1) next
    (one_byte (heading seen p) (step j (heading seen p) 10).0 10 j (checked_so (leb max_head (length seen)) (seen ++ 10 ∷ []) (place_after p 10) j checked) refl)

pub whole_head_read : (bytes : List ℕ) (j : HeadCheck) → length bytes ≤ max_head → EndsAtLast bytes → Checked bytes j → Reaches start bytes (begun j).0 (begun j).1
whole_head_read bytes j fits e checked =
    let long : length bytes ≡ length e.seen + 1 = ap (λ (xs : List ℕ). length xs) e.is ∙ length-append e.seen (10 ∷ []) in
    let before : Reaches start e.seen (heading e.seen e.place) [] = walked [] Leading e.place e.seen (omega (arith, long, fits)) e.goes in
    let last : Reaches (heading e.seen e.place) (10 ∷ []) (begun j).0 (begun j).1 = head_read e.seen e.place j (omega (arith, long, fits)) e.ends (subst (λ (xs : List ℕ). Checked xs j) e.is checked) in
    subst (λ (xs : List ℕ). Reaches start xs (begun j).0 (begun j).1) (sym e.is)
    (reaches_append start (heading e.seen e.place) (begun j).0 e.seen (10 ∷ []) [] (begun j).1 before last)

-- ---- the body

last_of_body : (t : Bool) (bytes : List ℕ) (left : ℕ) → t ≡ true → cond t (ended, whole bytes ∷ end ∷ []) (goes_to (body left bytes)) ≡ (ended, whole bytes ∷ end ∷ [])
last_of_body true bytes left is = refl
last_of_body false bytes left is = absurd cc

body_read : (left : ℕ) (seen : List ℕ) (b : ℕ) (bytes : List ℕ) → left ≡ length bytes + 1 → Reaches (body left seen) (b ∷ bytes) ended (whole (seen ++ b ∷ bytes) ∷ end ∷ [])
body_read left seen b [] is =
    let next = last_of_body (leb left 1) (seen ++ b ∷ []) (left - 1) (le-leb _ _ (omega (arith, is))) in (
      None,
      [],
      tt,
      (sym (ap (λ (n : Next). n.0) next), refl),
      sym (ap (λ (n : Next). n.1 ++ []) next),
    )
body_read left seen b (c ∷ bytes) is =
    let next = more_of_body (leb left 1) (seen ++ b ∷ []) (left - 1) (lt-leb _ _ (omega (arith, is))) in
    let rest = body_read (left - 1) (seen ++ b ∷ []) c bytes (omega (arith, is)) in
    let emitted : List ReplyItem = whole (seen ++ b ∷ c ∷ bytes) ∷ end ∷ [] in
    let same : Reaches (body (left - 1) (seen ++ b ∷ [])) (c ∷ bytes) ended (whole (seen ++ b ∷ c ∷ bytes) ∷ end ∷ []) =
    subst (λ (xs : List ℕ). Reaches (body (left - 1) (seen ++ b ∷ [])) (c ∷ bytes) ended (whole xs ∷ end ∷ [])) (append_assoc seen (b ∷ []) (c ∷ bytes)) rest in (
      None,
      whole (seen ++ b ∷ c ∷ bytes) ∷ end ∷ [],
      tt,
      subst (λ (n : Next). Reaches n.0 (c ∷ bytes) ended (whole (seen ++ b ∷ c ∷ bytes) ∷ end ∷ [])) (sym next) same,
      sym (ap (λ (n : Next). n.1 ++ whole (seen ++ b ∷ c ∷ bytes) ∷ end ∷ []) next),
    )

-- ---- both

body_begins : (status n : ℕ) → 0 < n → begun (Some (status, by_length n)) ≡ (body n [], head status ∷ [])
body_begins status n some = go (n == 0) (ne_eqb n 0 (λ e. absurd (omega (arith, e, some))))
  where
    go : (t : Bool) → t ≡ false → ◌≡◌ {A = Next} (cond t (ended, head status ∷ whole [] ∷ end ∷ []) (body n [], head status ∷ [])) (body n [], head status ∷ [])
    go true is = absurd cc
    go false is = refl

pub reply_read : (h : ResponseHead) (bytes : List ℕ) → IsResponseHead h → length (print_response h) ≤ max_head → length h.fields ≤ max_fields
    → framing_of (map name_and_value h.fields) ≡ Some (by_length (length bytes))
    → Items (print_response h ++ bytes) (head (status_code h) ∷ whole bytes ∷ end ∷ [])
reply_read h bytes is fits few framed =
    let j : HeadCheck = Some (status_code h, by_length (length bytes)) in
    let checked : Checked (print_response h) (Some (status_code h, by_length (length bytes))) = (h, (is, sym (append-nil (print_response h))), few, refl, framed) in
    let first = whole_head_read (print_response h) (Some (status_code h, by_length (length bytes))) fits (head_ends h is) checked in
    (ended, after bytes first)
  where
    after : (bytes : List ℕ) → Reaches start (print_response h) (begun (Some (status_code h, by_length (length bytes)))).0 (begun (Some (status_code h, by_length (length bytes)))).1
        → Reaches start (print_response h ++ bytes) ended (head (status_code h) ∷ whole bytes ∷ end ∷ [])
    after [] first = subst (λ (xs : List ℕ). Reaches start xs ended (head (status_code h) ∷ whole [] ∷ end ∷ [])) (sym (append-nil (print_response h))) first
    after (b ∷ bytes) first =
        reaches_append start (body (length (b ∷ bytes)) []) ended (print_response h) (b ∷ bytes) (head (status_code h) ∷ []) (whole (b ∷ bytes) ∷ end ∷ [])
        (subst (λ (n : Next). Reaches start (print_response h) n.0 n.1) (body_begins (status_code h) (length (b ∷ bytes)) (omega arith)) first)
        (body_read (length (b ∷ bytes)) [] b bytes (omega arith))

-- ---- a printed length

pub length_reads : (n : ℕ) → n ≤ max_body → framed_by_length (length_in (decimal n)) ≡ Some (by_length n)
length_reads n fits = ap framed_by_length (decimal_read n (omega (arith, fits))) ∙ within_limit (leb n max_body) n (le-leb _ _ fits)
