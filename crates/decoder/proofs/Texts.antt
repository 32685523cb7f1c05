-- Bytes as JSON.
use Rattle.std.proofs.Common.{◌≡◌, ℕ, Bool, true, false, cond, List, Option, Some, None, refl, ap, ◌∙◌}
use Rattle.std.specs.Prelude.{◌↔◌, IsTrue}
use Rattle.std.specs.declared.result.Result.TheVariants.{Ok, Err}
use Rattle.std.specs.Str.{IsUtf8, is_utf8}
use Rattle.std.proofs.lemmas.Str.{IsUtf8-from_is_utf8, is_utf8-from_IsUtf8}
use Rattle.serde_json.specs.Data.{Data}
use Rattle.serde_json.specs.Read.{read}
use Rattle.decoder.specs.declared.malformed.Malformed.TheVariants as malformed
use Rattle.decoder.specs.Members.{or_malformed, value_in}

pub isnt : {P : Type 0} (b : Bool) → (IsTrue b ↔ P) → b ≡ false → ¬ P
isnt true same is p = absurd cc
isnt false same is p = let wrong : false ≡ true = same.1 p in absurd cc

pub value_read : (bytes : List ℕ) (d : Data) → IsUtf8 bytes → read bytes ≡ Some d → value_in bytes ≡ Ok d
value_read bytes d text is = ap (λ (t : Bool). or_malformed malformed.Json (cond t (read bytes) None)) (is_utf8-from_IsUtf8 bytes text) ∙ ap (or_malformed malformed.Json) is

unread : (t : Bool) (r : Option Data) → (t ≡ true → r ≡ None) → or_malformed malformed.Json (cond t r None) ≡ Err malformed.Json
unread true r none = ap (or_malformed malformed.Json) (none refl)
unread false r none = refl

pub value_unread : (bytes : List ℕ) → (IsUtf8 bytes → read bytes ≡ None) → value_in bytes ≡ Err malformed.Json
value_unread bytes none = unread (is_utf8 bytes) (read bytes) (λ t. none (IsUtf8-from_is_utf8 bytes t))
