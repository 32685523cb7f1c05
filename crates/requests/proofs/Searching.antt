-- A search for a head's end that goes on where the last one stopped.
use Rattle.std.proofs.Common.{arith, ◌≡◌, ℕ, ◌+◌, ◌≤◌, ◌<◌, List, [], ◌++◌, length, take, drop, get_or, Some, None, sym, ap, subst, ◌∙◌, length-append, append-nil, append_assoc}
use Rattle.std.proofs.lemmas.List.{drop_all}
use Rattle.wire.specs.declared.place.ScanState.{ScanState}
use Rattle.wire.specs.Heads.{end_from, head_end, max_head, place_after}
use Rattle.wire.proofs.HeadEnds.{ends_here}
use Rattle.requests.specs.declared.head_end.Searched.{Searched}
use Rattle.requests.specs.HeadEnds.{FindsAlike, IsSearchedTo, IsWithin, end_after}
use Rattle.requests.proofs.Cuts.{take_prefix}

-- where the same is found whatever bytes follow, it is found where none do
abbrev pub GoesOn : List ℕ → ScanState → ℕ → ScanState → ℕ → Type 0
GoesOn bytes p m q n = (more : List ℕ) → end_from p m (drop m (bytes ++ more)) ≡ end_from q n (drop n (bytes ++ more))

alone : (p q : ScanState) (m n : ℕ) (bytes : List ℕ) → GoesOn bytes p m q n → end_from p m (drop m bytes) ≡ end_from q n (drop n bytes)
alone p q m n bytes same = subst (λ (xs : List ℕ). end_from p m (drop m xs) ≡ end_from q n (drop n xs)) (append-nil bytes) (same [])

pub ended : (p q : ScanState) (m n b d : ℕ) (bytes : List ℕ) → GoesOn bytes p m q n → n < length bytes → b ≡ get_or bytes n d → place_after q b ≡ None → Some (n + 1) ≡ end_from p m (drop m bytes)
ended p q m n b d bytes same lt is last =
    sym (alone p q m n bytes same ∙ ap (λ (xs : List ℕ). end_from q n (drop n xs)) (sym (append-nil bytes)) ∙ ends_here q n b d bytes [] lt is last)

pub none_at_end : (p q : ScanState) (m n : ℕ) (bytes : List ℕ) → GoesOn bytes p m q n → n ≡ length bytes → None ≡ end_from p m (drop m bytes)
none_at_end p q m n bytes same is =
    let past : length bytes ≤ n = omega (arith, is) in
    sym (alone p q m n bytes same ∙ ap (end_from q n) (drop_all n bytes past))

-- ---- what is kept

pub found_here : (bytes : List ℕ) (s : Searched) → IsSearchedTo bytes s → end_after s (take max_head bytes) ≡ head_end (take max_head bytes)
found_here bytes s to = sym (subst (λ (xs : List ℕ). head_end (take max_head xs) ≡ end_after s (take max_head xs)) (append-nil bytes) (to []))

pub searched_on : (bytes : List ℕ) (s t : Searched) → IsSearchedTo bytes s → FindsAlike (take max_head bytes) s t → IsSearchedTo bytes t
searched_on bytes s t to same more =
    let prefix = take_prefix max_head bytes more in
    to more ∙ ap (end_after s) prefix.1 ∙ same prefix.0 ∙ sym (ap (end_after t) prefix.1)

pub searched_more : (bytes more : List ℕ) (s : Searched) → IsSearchedTo bytes s → IsSearchedTo (bytes ++ more) s
searched_more bytes more s to next =
    subst (λ (xs : List ℕ). head_end (take max_head xs) ≡ end_after s (take max_head xs)) (sym (append_assoc bytes more next)) (to (more ++ next))

pub within_more : (bytes more : List ℕ) (s : Searched) → IsWithin (take max_head bytes) s → IsWithin (take max_head (bytes ++ more)) s
within_more bytes more s within =
    let prefix = take_prefix max_head bytes more in
    let longer : length (take max_head (bytes ++ more)) ≡ length (take max_head bytes) + length prefix.0 = ap (λ (xs : List ℕ). length xs) prefix.1 ∙ length-append (take max_head bytes) prefix.0 in
    omega (arith, within, longer)
