-- Reference tokens, read from what is written.
use Rattle.std.proofs.Common.{◌≡◌, ◌≢◌, ℕ, suc, ◌<◌, List, [], ◌∷◌, ◌++◌, length, get_or, Option, Some, None, option_map, option_and_then, refl, sym, ap, ◌∙◌, arith, append_assoc, ne_eqb}
use Rattle.json_patch.specs.Pointers.{Pointer, token, after_tilde, tokens, pointer}

abbrev pub Lacks : ℕ → List ℕ → Type 0
Lacks c xs = (i : ℕ) → i < length xs → get_or xs i 0 ≢ c

pub no_escape : (s : List ℕ) → ((rest : List ℕ) → s ≢ 48 ∷ rest) → ((rest : List ℕ) → s ≢ 49 ∷ rest) → after_tilde s ≡ None
no_escape [] zero one = refl
no_escape (b ∷ more) zero one = rw (ne_eqb b 48 (λ e. zero more (ap (λ x. x ∷ more) e)), ne_eqb b 49 (λ e. one more (ap (λ x. x ∷ more) e)))

pub no_slash : (s : List ℕ) → 0 < length s → ((rest : List ℕ) → s ≢ 47 ∷ rest) → pointer s ≡ None
no_slash [] some slash = absurd (omega arith)
no_slash (b ∷ more) some slash = rw (ne_eqb b 47 (λ e. slash more (ap (λ x. x ∷ more) e)))

-- what comes after what is read already
abbrev pub and_then_token : List ℕ → Option (List ℕ) → Option (List ℕ)
and_then_token t o = option_map (λ more. t ++ more) o

abbrev pub and_then_tokens : Pointer → Option Pointer → Option Pointer
and_then_tokens ts o = option_map (λ more. ts ++ more) o

nothing_before : (o : Option (List ℕ)) → o ≡ and_then_token [] o
nothing_before None = refl
nothing_before (Some t) = refl

one_before : (b : ℕ) (t : List ℕ) (o : Option (List ℕ)) → option_map (λ more. b ∷ more) (and_then_token t o) ≡ and_then_token (b ∷ t) o
one_before b t None = refl
one_before b t (Some more) = refl

pub token-tilde : (before after : List ℕ) → Lacks 126 before → token (before ++ 126 ∷ after) ≡ and_then_token before (after_tilde after)
token-tilde [] after lacks = nothing_before (after_tilde after)
token-tilde (b ∷ before) after lacks =
    rw (ne_eqb b 126 (lacks 0 (omega arith)))
    (ap (option_map (λ more. b ∷ more)) (token-tilde before after (λ i less. lacks (suc i) (omega arith))) ∙ one_before b before (after_tilde after))

pub token-plain : (xs : List ℕ) → Lacks 126 xs → token xs ≡ Some xs
token-plain [] lacks = refl
token-plain (b ∷ xs) lacks = rw (ne_eqb b 126 (lacks 0 (omega arith))) (ap (option_map (λ more. b ∷ more)) (token-plain xs (λ i less. lacks (suc i) (omega arith))))

three_before : (t before meant : List ℕ) (o : Option (List ℕ)) → and_then_token ((t ++ before) ++ meant) o ≡ and_then_token t (and_then_token before (and_then_token meant o))
three_before t before meant None = refl
three_before t before meant (Some more) = ap Some (append_assoc (t ++ before) meant more ∙ append_assoc t before (meant ++ more))

module _ (whole : Option (List ℕ)) (t rest before after : List ℕ) (so_far : and_then_token t (token rest) ≡ whole) (cut : rest ≡ before ++ 126 ∷ after) (lacks : Lacks 126 before) where
  split : and_then_token t (and_then_token before (after_tilde after)) ≡ whole
  split = ap (and_then_token t) (sym (ap token cut ∙ token-tilde before after lacks)) ∙ so_far

  pub escape_read : (new meant more : List ℕ) → after_tilde after ≡ and_then_token meant (token more) → new ≡ (t ++ before) ++ meant → and_then_token new (token more) ≡ whole
  escape_read new meant more is new_is =
      ap (λ n. and_then_token n (token more)) new_is ∙ three_before t before meant (token more) ∙ ap (λ o. and_then_token t (and_then_token before o)) (sym is) ∙ split

  pub escape_bad : after_tilde after ≡ None → None ≡ whole
  escape_bad is = ap (λ o. and_then_token t (and_then_token before o)) (sym is) ∙ split

pub last_read : (whole : Option (List ℕ)) (t rest new : List ℕ) → and_then_token t (token rest) ≡ whole → Lacks 126 rest → new ≡ t ++ rest → Some new ≡ whole
last_read whole t rest new so_far lacks is = ap Some is ∙ sym (ap (and_then_token t) (token-plain rest lacks)) ∙ so_far

-- ---- several

one_more : (ts : Pointer) (t : List ℕ) (o : Option Pointer) → and_then_tokens (ts ++ t ∷ []) o ≡ and_then_tokens ts (option_map (λ more. t ∷ more) o)
one_more ts t None = refl
one_more ts t (Some more) = ap Some (append_assoc ts (t ∷ []) more)

module _ (whole : Option Pointer) (ts : Pointer) (left after : List (List ℕ)) (s : List ℕ) (so_far : and_then_tokens ts (tokens left) ≡ whole) (is : left ≡ s ∷ after) where
  pub token_read : (new : Pointer) (t : List ℕ) → Some t ≡ token s → new ≡ ts ++ t ∷ [] → and_then_tokens new (tokens after) ≡ whole
  token_read new t reads new_is =
      ap (λ n. and_then_tokens n (tokens after)) new_is ∙ one_more ts t (tokens after)
      ∙ ap (λ o. and_then_tokens ts (option_and_then (λ u. option_map (λ more. u ∷ more) (tokens after)) o)) reads
      ∙ ap (λ l. and_then_tokens ts (tokens l)) (sym is) ∙ so_far

  pub token_bad : None ≡ token s → None ≡ whole
  token_bad reads = ap (λ o. and_then_tokens ts (option_and_then (λ u. option_map (λ more. u ∷ more) (tokens after)) o)) reads ∙ ap (λ l. and_then_tokens ts (tokens l)) (sym is) ∙ so_far
