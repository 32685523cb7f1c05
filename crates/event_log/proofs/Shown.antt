-- Bytes are shown as a text, or as digits.
use Rattle.std.proofs.Common.{◌≡◌, ℕ, Bool, true, false, List, ap, cond, refl}
use Rattle.std.specs.Str.{IsUtf8, is_utf8}
use Rattle.std.proofs.lemmas.Str.{IsUtf8-from_is_utf8, is_utf8-from_IsUtf8}
use Rattle.event_log.specs.ScriptLines.{bytes_line, digits_line, text_line}

pub text_shown : (id : ℕ) (bytes : List ℕ) → IsUtf8 bytes → bytes_line id bytes ≡ text_line id bytes
text_shown id bytes text = ap (λ (b : Bool). cond b (text_line id bytes) (digits_line id bytes)) (is_utf8-from_IsUtf8 bytes text)

pub digits_shown : (id : ℕ) (bytes : List ℕ) → (IsUtf8 bytes → ⊥) → bytes_line id bytes ≡ digits_line id bytes
digits_shown id bytes none = go (is_utf8 bytes) (λ is. none (IsUtf8-from_is_utf8 bytes is))
  where
    go : (b : Bool) → (b ≡ true → ⊥) → cond b (text_line id bytes) (digits_line id bytes) ≡ digits_line id bytes
    go true isnt = absurd (isnt refl)
    go false isnt = refl
