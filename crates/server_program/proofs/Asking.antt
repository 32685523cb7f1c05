-- What a text says of disturbances: the parts of it, and what they ask for.
use Rattle.std.proofs.Common.{◌≡◌, ◌∙◌, ◌+◌, ◌<◌, ℕ, Bool, true, false, cond, not, ◌||◌, List, [], ◌∷◌, length, take, Option, None, Some, MatchOption, Bor, ap, sym, subst, refl, arith, codes}
use Rattle.std.specs.Prelude.{IfSome, unwrap_or}
use Rattle.std.specs.List.{list_any, position_or_len, before_first, after_first}
use Rattle.std.proofs.Math.Seq.{take-length}
use Rattle.programs.specs.Numbers.{IsNumber}
use Rattle.polling.specs.declared.disturbances.Disturbances.{Disturbances}
use Rattle.server_program.specs.Disturbing.{AsksFor, is_colon, kinds_text, names_in, of_seed, seed_text, with_kinds}

some_of : (bs : List ℕ) → position_or_len is_colon bs < length bs → list_any is_colon bs ≡ true
some_of [] below = absurd (omega arith)
some_of (b ∷ bs) below = go (is_colon b) (some_of bs) below
  where
    go : (t : Bool) → (position_or_len is_colon bs < length bs → list_any is_colon bs ≡ true) → cond (not t) (1 + position_or_len is_colon bs) 0 < length (b ∷ bs) → (t || list_any is_colon bs) ≡ true
    go true rest h = refl
    go false rest h = rest (omega arith)

none_of : (bs : List ℕ) → position_or_len is_colon bs ≡ length bs → list_any is_colon bs ≡ false
none_of [] e = refl
none_of (b ∷ bs) e = go (is_colon b) (none_of bs) e
  where
    go : (t : Bool) → (position_or_len is_colon bs ≡ length bs → list_any is_colon bs ≡ false) → cond (not t) (1 + position_or_len is_colon bs) 0 ≡ length (b ∷ bs) → (t || list_any is_colon bs) ≡ false
    go true rest h = absurd (omega arith)
    go false rest h = rest (omega arith)

abbrev pub IsCut : List ℕ → Option (Bor (List ℕ) × Bor (List ℕ)) → Type 0
IsCut bs r = MatchOption r (position_or_len is_colon bs ≡ length bs) (λ x. (position_or_len is_colon bs < length bs) × (x.0.now ≡ before_first is_colon bs) × (x.1.now ≡ after_first is_colon bs))

pub seed_of_cut : (text all : Bor (List ℕ)) (r : Option (Bor (List ℕ) × Bor (List ℕ))) → IsCut text.now r → (unwrap_or r (text, all)).0.now ≡ seed_text text.now
seed_of_cut text all None h = sym (ap (λ n. take n text.now) h ∙ take-length text.now)
seed_of_cut text all (Some x) h = h.1

pub kinds_of_cut : (text all : Bor (List ℕ)) (r : Option (Bor (List ℕ) × Bor (List ℕ))) → IsCut text.now r → all.now ≡ codes "cuts,holds,expiries" → (unwrap_or r (text, all)).1.now ≡ kinds_text text.now
kinds_of_cut text all None h is = rw (none_of text.now h) is
kinds_of_cut text all (Some x) h is = rw (some_of text.now h.0) h.2

pub asks : (text said kinds : List ℕ) (seed : ℕ) (names : List (List ℕ)) (r : Option Disturbances) → said ≡ seed_text text → kinds ≡ kinds_text text → IsNumber said seed → names ≡ names_in kinds
    → r ≡ with_kinds (of_seed seed) names → IfSome r (AsksFor text)
asks text said kinds seed names None before behind read parted is = tt
asks text said kinds seed names (Some asked) before behind read parted is = (
  seed,
  subst (λ t. IsNumber t seed) before read,
  sym (is ∙ ap (with_kinds (of_seed seed)) (parted ∙ ap names_in behind)),
)
