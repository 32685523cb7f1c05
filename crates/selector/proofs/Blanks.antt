-- Dropping the blanks at either end of a text.
use Rattle.std.proofs.Common.{◌≡◌, ◌≢◌, ℕ, ◌+◌, ◌-◌, Bool, true, false, cond, eqb, List, [], ◌∷◌, ◌++◌, length, drop, reverse, Option, Some, None, refl, sym, ap, ◌∙◌, arith, eqb-true, take-append-drop, lit<}
use Rattle.std.specs.Prelude.{IfSome}
use Rattle.std.specs.Char.{encode_utf8}
use Rattle.std.specs.Str.Pattern.{FindsCharPrefix, FindsCharSuffix, CutsPrefixes, CutsSuffixes, IsTrimStartMatches, IsTrimEndMatches}
use Rattle.std.proofs.lemmas.List.{reverse-append, reverse-reverse, drop_all}
use Rattle.std.proofs.lemmas.Str.Pattern.{drop_at_char}
use Rattle.selector.specs.Grammar.{without_leading_blanks, without_trailing_blanks}

cut_leading : (ns s r : List ℕ) → CutsPrefixes (FindsCharPrefix 32) s ns r → without_leading_blanks r ≡ without_leading_blanks s
cut_leading [] s r h = ap without_leading_blanks h
cut_leading (n ∷ ns) s r h =
    let m = h.0 in
    let whole : m ≡ 32 ∷ drop n m = drop_at_char 32 m 0 n h.2 (lit< tt) in
    ap without_leading_blanks h.3 ∙ sym (ap without_leading_blanks whole) ∙ cut_leading ns s m h.1

no_blank_first : (r : List ℕ) → ((rest : List ℕ) → r ≢ 32 ∷ rest) → without_leading_blanks r ≡ r
no_blank_first [] h = refl
no_blank_first (b ∷ bs) h = go (eqb b 32) refl
  where
    go : (t : Bool) → eqb b 32 ≡ t → cond t (without_leading_blanks bs) (b ∷ bs) ≡ b ∷ bs
    go true e = absurd (h bs (ap (λ x. x ∷ bs) (eqb-true b 32 e)))
    go false e = refl

leading_done : (r : List ℕ) (o : Option ℕ) → FindsCharPrefix 32 r o → IfSome o (λ n. n ≡ 0) → without_leading_blanks r ≡ r
unfolding encode_utf8
leading_done r None h e = no_blank_first r h
leading_done r (Some n) h e = let ends : n ≡ 0 + 1 = h.ends in absurd (omega arith)

pub trim_start : (s r : List ℕ) → IsTrimStartMatches (FindsCharPrefix 32) s r → r ≡ without_leading_blanks s
trim_start s r h = sym (leading_done r h.1.0 h.1.1 h.1.2) ∙ cut_leading h.0.0 s r h.0.1

cut_trailing : (ns s r : List ℕ) → CutsSuffixes (FindsCharSuffix 32) s ns r → without_leading_blanks (reverse r) ≡ without_leading_blanks (reverse s)
cut_trailing [] s r h = ap (λ x. without_leading_blanks (reverse x)) h
cut_trailing (n ∷ ns) s r h =
    let m = h.0 in
    let end : drop (length m - n) m ≡ 32 ∷ [] = drop_at_char 32 m (length m - n) (length m) h.2.1 (lit< tt) ∙ ap (λ x. 32 ∷ x) (drop_all (length m) m (omega arith)) in
    let whole : m ≡ r ++ 32 ∷ [] = sym (take-append-drop (length m - n) m) ∙ ap (λ (x : List ℕ). x ++ drop (length m - n) m) (sym h.3) ∙ ap (λ (x : List ℕ). r ++ x) end in
    sym (ap without_leading_blanks (ap reverse whole ∙ reverse-append r (32 ∷ []))) ∙ cut_trailing ns s m h.1

no_blank_last : (q : List ℕ) → ((prefix : List ℕ) → reverse q ≢ prefix ++ 32 ∷ []) → without_leading_blanks q ≡ q
no_blank_last q h = no_blank_first q (λ rest e. h (reverse rest) (ap reverse e ∙ reverse-append (32 ∷ []) rest))

trailing_done : (r : List ℕ) (o : Option ℕ) → FindsCharSuffix 32 r o → IfSome o (λ n. n ≡ 0) → without_leading_blanks (reverse r) ≡ reverse r
unfolding encode_utf8
trailing_done r None h e = no_blank_last (reverse r) (λ prefix q. h prefix (sym (reverse-reverse r) ∙ q))
trailing_done r (Some n) h e = let ends : n ≡ 1 = h.0 in absurd (omega arith)

pub trim_end : (s r : List ℕ) → IsTrimEndMatches (FindsCharSuffix 32) s r → r ≡ without_trailing_blanks s
trim_end s r h = sym (reverse-reverse r) ∙ ap reverse (sym (trailing_done r h.1.0 h.1.1 h.1.2) ∙ cut_trailing h.0.0 s r h.0.1)
