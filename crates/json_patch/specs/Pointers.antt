-- JSON Pointer (RFC 6901): a pointer's text. A pointer is the list of its reference tokens, each a text.
use Rattle.std.specs.Prelude.{ℕ, ◌==◌, List, [], ◌∷◌, Option, Some, None, option_map, option_and_then, if◌then◌else◌}
use Rattle.std.specs.List.{slice_split}

abbrev pub Pointer : Type 0
Pointer = List (List ℕ)

-- Section 3: a `~` has a `0` or a `1` after it. Section 4: `~0` stands for `~`, and `~1` for `/`.
abbrev mutual
  -- the token that is written so
  pub token : List ℕ → Option (List ℕ)
  token [] = Some []
  token (b ∷ more) = if b == 126 then after_tilde more else option_map (λ t. b ∷ t) (token more)

  pub after_tilde : List ℕ → Option (List ℕ)
  after_tilde [] = None
  after_tilde (b ∷ more) = if b == 48 then option_map (λ t. 126 ∷ t) (token more) else (if b == 49 then option_map (λ t. 47 ∷ t) (token more) else None)

abbrev pub tokens : List (List ℕ) → Option Pointer
tokens [] = Some []
tokens (s ∷ more) = option_and_then (λ t. option_map (λ ts. t ∷ ts) (tokens more)) (token s)

-- the pieces between the slashes of a text
abbrev pub between_slashes : List ℕ → List (List ℕ)
between_slashes text = slice_split (λ b. b == 47) text

-- Section 3: a `/` is before each token, so the empty text has none.
abbrev pub pointer : List ℕ → Option Pointer
pointer [] = Some []
pointer (b ∷ more) = if b == 47 then tokens (between_slashes more) else None
