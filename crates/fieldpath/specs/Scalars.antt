-- The scalars and key fields that values of the crate stand for.
use Rattle.std.specs.Prelude.{List, [], ◌∷◌, ℕ, Bool, true, false, ◌&&◌, map, String, string_bytes}
use Rattle.std.specs.declared.alloc.Global.{Global}
use Rattle.std.specs.Ordering.{nat_cmp, is_lt}
use Rattle.std.specs.Cmp.Lexicographic.{slice_cmp}
use Rattle.fieldpath.specs.Elements as pure
use Rattle.fieldpath.specs.Elements.{KeyFields}
use Rattle.fieldpath.specs.declared.scalar.Scalar.{Scalar}
use Rattle.fieldpath.specs.declared.scalar.Scalar.TheVariants as made

abbrev pub scalar : Scalar → pure.Scalar
scalar (made.Str s) = pure.text (string_bytes s)
scalar (made.Int n) = pure.whole n
scalar (made.Bool b) = pure.truth b

abbrev pub key_fields : List (String Global × Scalar) → KeyFields
key_fields fs = map (λ f. (string_bytes f.0, scalar f.1)) fs

-- each above the one before it, in byte order
abbrev pub ascend_from : List ℕ → List (List ℕ) → Bool
ascend_from n [] = true
ascend_from n (m ∷ ms) = is_lt (slice_cmp nat_cmp n m) && ascend_from m ms

abbrev pub ascend : List (List ℕ) → Bool
ascend [] = true
ascend (n ∷ ns) = ascend_from n ns

abbrev pub names : KeyFields → List (List ℕ)
names ks = map (λ k. k.0) ks

-- one or more, with names that strictly ascend
abbrev pub are_keys : KeyFields → Bool
are_keys [] = false
are_keys (k ∷ ks) = ascend (names (k ∷ ks))
