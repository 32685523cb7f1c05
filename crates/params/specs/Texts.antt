-- What the text of each kind of parameter says; none where it is no such text.
use Rattle.std.specs.Prelude.{◌≡◌, ◌<◌, ◌≤◌, ◌++◌, decimal, ℕ, Bool, true, false, not, ◌&&◌, ◌||◌, ◌==◌, if◌then◌else◌, nat_le, List, ◌∷◌, length, Option, Some, None, codes}
use Rattle.std.specs.List.{list_any, list_all, before_first, after_first}
use Rattle.std.specs.Str.{bytes_eq}
use Rattle.names.specs.Decimals.{version_of}
use Rattle.params.specs.declared.params.VersionMatch.{VersionMatch}
use Rattle.params.specs.declared.params.VersionMatch.TheVariants.{Exact, NotOlderThan}
use Rattle.params.specs.Values.{Token}

abbrev pub truth_of : List ℕ → Option Bool
truth_of text =
    if bytes_eq text (codes "true") || bytes_eq text (codes "1") then Some true
    else if bytes_eq text (codes "false") || bytes_eq text (codes "0") then Some false
    else None

abbrev pub match_of : List ℕ → Option VersionMatch
match_of text =
    if bytes_eq text (codes "Exact") then Some Exact
    else if bytes_eq text (codes "NotOlderThan") then Some NotOlderThan
    else None

-- a printable character of ASCII
abbrev pub is_printable : ℕ → Bool
is_printable b = nat_le 32 b && nat_le b 126

-- a manager's name has 1 to 128 of them
abbrev pub is_manager : List ℕ → Bool
is_manager text = not (length text == 0) && nat_le (length text) 128 && list_all is_printable text

abbrev pub manager_of : List ℕ → Option (List ℕ)
manager_of text = if is_manager text then Some text else None

abbrev pub is_dot : ℕ → Bool
is_dot b = b == 46

-- the two texts that the first dot parts
abbrev pub cut_at_dot : List ℕ → Option (List ℕ × List ℕ)
cut_at_dot text = if list_any is_dot text then Some (before_first is_dot text, after_first is_dot text) else None

-- a version, and two texts that aren't empty
abbrev pub token_with : Option ℕ → List ℕ → List ℕ → Option Token
token_with (Some r) (b ∷ bs) (c ∷ cs) = Some (record { revision = r; namespace = b ∷ bs; name = c ∷ cs })
token_with _ _ _ = None

abbrev pub token_at : List ℕ → Option (List ℕ × List ℕ) → Option Token
token_at revision (Some place) = token_with (version_of revision) place.0 place.1
token_at revision None = None

abbrev pub token_cut : Option (List ℕ × List ℕ) → Option Token
token_cut (Some cut) = token_at cut.0 (cut_at_dot cut.1)
token_cut None = None

-- version, namespace and name with dots between them, of which the name may have more
abbrev pub token_of : List ℕ → Option Token
token_of text = token_cut (cut_at_dot text)

-- ---- the text of a token

abbrev pub token_text : Token → List ℕ
token_text t = decimal t.revision ++ 46 ∷ (t.namespace ++ 46 ∷ t.name)

abbrev pub is_dotless : List ℕ → Bool
is_dotless text = list_all (λ b. not (is_dot b)) text

-- a token that can be read: of a version, and of names of which the namespace has no dot
pub record IsToken (t : Token) : Type 0 where
  pub revision : t.revision ≤ 9223372036854775807
  pub dotless : is_dotless t.namespace ≡ true
  pub namespace : 0 < length t.namespace
  pub name : 0 < length t.name

-- what is written of a token is read as that token
abbrev pub ReadsBack : Token → Type 0
ReadsBack t = IsToken t → token_of (token_text t) ≡ Some t
