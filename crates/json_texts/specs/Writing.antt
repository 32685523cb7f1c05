-- A JSON text that is being written (RFC 8259), and what appending to it gives.
use Rattle.std.specs.Prelude.{◌≡◌, ℕ, Bool, true, false, List, [], ◌∷◌, ◌++◌, IsUtf8, refl}
use Rattle.std.specs.Coded.{Coded, code_by, coded×, coded_list, coded_ℕ, coded_bool}
use Rattle.json.specs.Print.{quoted, print, ends_value}
use Rattle.json.specs.Token.{Token}
use Rattle.json.specs.Written.{Written}
use Rattle.serde_json.specs.Data.{Members}
use Rattle.serde_json.specs.Written.{comma_if, members_text}

-- the bytes so far, and whether a value ends there, behind which a comma stands before the next
pub record Writing : Type 0 where
  pub text : List ℕ
  pub later : Bool

abbrev pub writing_code : Coded Writing
writing_code = code_by (List ℕ × Bool) (coded× (coded_list coded_ℕ) coded_bool) (λ w. (w.text, w.later)) (λ p. record { text = p.0; later = p.1 }) (λ _. refl)

-- nothing so far
abbrev pub blank : Writing
blank = record { text = []; later = false }

-- one more value, which has this text
abbrev pub with_text : List ℕ → Writing → Writing
with_text t w = record { text = w.text ++ (comma_if w.later ++ t); later = true }

-- a member's name and the colon
abbrev pub with_name : List ℕ → Writing → Writing
with_name k w = record { text = w.text ++ (comma_if w.later ++ (quoted k ++ 58 ∷ [])); later = false }

-- an opening brace or bracket
abbrev pub with_opening : ℕ → Writing → Writing
with_opening b w = record { text = w.text ++ (comma_if w.later ++ b ∷ []); later = false }

-- a closing brace or bracket
abbrev pub with_closing : ℕ → Writing → Writing
with_closing b w = record { text = w.text ++ b ∷ []; later = true }

-- the text goes on by the members that `prefix` puts before others, whatever these are
abbrev pub AppendsMembers : (Members → Members) → Writing → Writing → Type 0
AppendsMembers prefix old new = (rest : Members) → new.text ++ members_text new.later rest ≡ old.text ++ members_text old.later (prefix rest)

-- ---- for private clauses: what the library's writer holds

abbrev pub bytes_of : Written → List ℕ
bytes_of w = w.before ++ print w.tokens

-- whether the library's writer puts the comma that is due itself; behind a text that was taken as it is it has begun anew
pub record Follows (later is_behind_text : Bool) (ts : List Token) : Type 0 where
  pub own : is_behind_text ≡ false → ends_value ts ≡ later
  pub anew : is_behind_text ≡ true → ts ≡ []
  pub due : is_behind_text ≡ true → later ≡ true

-- that, and that the bytes are UTF-8: tokens are always
pub record IsWriting (later is_behind_text : Bool) (w : Written) : Type 0 where
  pub follows : Follows later is_behind_text w.tokens
  pub utf8 : IsUtf8 w.before
