-- The two texts that the first slash parts.
use Rattle.std.proofs.Common.{◌≡◌, ◌+◌, ◌<◌, ℕ, Bool, true, false, cond, not, ◌||◌, List, [], ◌∷◌, length, Option, None, Some, MatchOption, option_map, Bor, refl, ap₂, arith}
use Rattle.std.specs.List.{list_any, position_or_len, before_first, after_first}
use Rattle.names.proofs.Found.{list_any-none}
use Rattle.programs.specs.Resources.{cut_at_slash, is_slash}

some_of : (bs : List ℕ) → position_or_len is_slash bs < length bs → list_any is_slash bs ≡ true
some_of [] below = absurd (omega arith)
some_of (b ∷ bs) below = go (is_slash b) (some_of bs) below
  where
    go : (t : Bool) → (position_or_len is_slash bs < length bs → list_any is_slash bs ≡ true) → cond (not t) (1 + position_or_len is_slash bs) 0 < length (b ∷ bs) → (t || list_any is_slash bs) ≡ true
    go true rest h = refl
    go false rest h = rest (omega arith)

pub cut : (bs : List ℕ) (r : Option (Bor (List ℕ) × Bor (List ℕ)))
    → MatchOption r (position_or_len is_slash bs ≡ length bs) (λ x. (position_or_len is_slash bs < length bs) × (x.0.now ≡ before_first is_slash bs) × (x.1.now ≡ after_first is_slash bs))
    → option_map (λ x. (x.0.now, x.1.now)) r ≡ cut_at_slash bs
cut bs None h = rw (list_any-none is_slash bs h) refl
cut bs (Some x) h = rw (some_of bs h.0) (ap₂ (λ prefix back. Some (prefix, back)) h.1 h.2)
