-- The texts of what was written, and texts that are pushed in turn.
use Rattle.std.proofs.Common.{◌≡◌, ◌∙◌, ◌<◌, ◌+◌, ℕ, Bool, true, false, cond, ap, sym, refl, List, [], ◌∷◌, ◌++◌, length, drop, append_assoc}
use Rattle.std.specs.List.{slice_index_or}
use Rattle.std.specs.Str.{IsUtf8, is_utf8}
use Rattle.std.proofs.lemmas.Str.{IsUtf8-from_is_utf8, is_utf8-from_IsUtf8}
use Rattle.std.proofs.lemmas.List.{drop_more}
use Rattle.scripts.specs.Piped.{bytes_text, out_text, written_text}

pub text_shown : (id : ℕ) (bytes : List ℕ) → IsUtf8 bytes → written_text id bytes ≡ out_text id bytes
text_shown id bytes text = ap (λ (b : Bool). cond b (out_text id bytes) (bytes_text id bytes)) (is_utf8-from_IsUtf8 bytes text)

pub digits_shown : (id : ℕ) (bytes : List ℕ) → (IsUtf8 bytes → ⊥) → written_text id bytes ≡ bytes_text id bytes
digits_shown id bytes none = go (is_utf8 bytes) (λ is. none (IsUtf8-from_is_utf8 bytes is))
  where
    go : (b : Bool) → (b ≡ true → ⊥) → cond b (out_text id bytes) (bytes_text id bytes) ≡ bytes_text id bytes
    go true isnt = absurd (isnt refl)
    go false isnt = refl

-- the texts of some elements are the first's, and then the others': one is pushed
module _ {A : Type 0} (texts : List A → List ℕ) (text : A → List ℕ) (first : (x : A) (xs : List A) → texts (x ∷ xs) ≡ text x ++ texts xs) where
  pub one_pushed : (xs : List A) (i : ℕ) (d x : A) (old new line all : List ℕ) → i < length xs → x ≡ slice_index_or xs i d → new ≡ old ++ line → line ≡ text x → old ++ texts (drop i xs) ≡ all → new ++ texts (drop (i + 1) xs) ≡ all
  one_pushed xs i d x old new line all lt at pushed is before =
      let rest = texts (drop (i + 1) xs) in
      ap (λ (t : List ℕ). t ++ rest) (pushed ∙ ap (λ (t : List ℕ). old ++ t) (is ∙ ap text at))
      ∙ append_assoc old (text (slice_index_or xs i d)) rest
      ∙ ap (λ (t : List ℕ). old ++ t) (sym (ap texts (drop_more xs i d lt) ∙ first (slice_index_or xs i d) (drop (i + 1) xs)))
      ∙ before
