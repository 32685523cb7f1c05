-- A query with a selector.
use Rattle.std.proofs.Common.{◌≡◌, ℕ, false, List, [], ◌∷◌, length, codes, refl}
use Rattle.std.specs.Prelude.{◌==◌}
use Rattle.form_urlencoded.specs.Form.{append_pair}
use Rattle.reflector.specs.Requests.{with_selector}

pub with_filled : (s q : List ℕ) → (length s == 0) ≡ false → append_pair q (codes "labelSelector") s ≡ with_selector s q
with_filled [] q h = absurd cc
with_filled (b ∷ bs) q h = refl
