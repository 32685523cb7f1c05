-- A field put in its place.
use Rattle.std.proofs.Common.{◌≡◌, ℕ, suc, ◌+◌, ◌≤◌, Bool, true, false, cond, not, ltb, List, [], ◌∷◌, length, Some, None, unwrap_or, String, Global, string_bytes, Ordering, Less, Equal, Greater, nat_cmp, refl, ap, arith}
use Rattle.std.proofs.lemmas.Bool.{ltb-false}
use Rattle.std.proofs.lemmas.List.Sums.{prefix_len-le-length}
use Rattle.std.specs.Cmp.Lexicographic.{slice_cmp}
use Rattle.std.specs.List.{position_or_len, insert}
use Rattle.std.specs.Ordering.{is_ge}
use Rattle.schema.specs.Shape.{shape, field, fields_in}
use Rattle.api_types.specs.TypesFile.{put_field}
use Rattle.schema.specs.declared.schema.Schema.{Schema}

abbrev Field : Type 0
Field = String Global × Schema

abbrev pub is_past : String Global → Field → Bool
is_past name f = is_ge (slice_cmp nat_cmp (string_bytes f.0) (string_bytes name))

unwrapped : (b : Bool) (n l : ℕ) → n ≤ l → ltb n l ≡ b → unwrap_or (cond b (Some n) None) l ≡ n
unwrapped true n l le is = refl
unwrapped false n l le is = let ge = ltb-false n l is in omega arith

pub place_is : (p : Field → Bool) (fs : List Field) → unwrap_or (cond (ltb (position_or_len p fs) (length fs)) (Some (position_or_len p fs)) None) (length fs) ≡ position_or_len p fs
place_is p fs = unwrapped _ (position_or_len p fs) (length fs) (prefix_len-le-length (λ f. not (p f)) fs) refl

put_next : (name : String Global) (s : Schema) (f : Field) (fs : List Field) (o : Ordering) → slice_cmp nat_cmp (string_bytes f.0) (string_bytes name) ≡ o
    → fields_in (insert fs (position_or_len (is_past name) fs) (name, s)) ≡ put_field (string_bytes name) (shape s) (fields_in fs)
    → fields_in (insert (f ∷ fs) (position_or_len (is_past name) (f ∷ fs)) (name, s)) ≡ put_field (string_bytes name) (shape s) (fields_in (f ∷ fs))
put_next name s f fs Less is later =
    let next : 1 + position_or_len (is_past name) fs ≡ suc (position_or_len (is_past name) fs) = omega arith in
    rw (is, next) (ap (field (string_bytes f.0) (shape f.1)) later)
put_next name s f fs Equal is later = rw is refl
put_next name s f fs Greater is later = rw is refl

pub put_in_place : (name : String Global) (s : Schema) (fs : List Field) → fields_in (insert fs (position_or_len (is_past name) fs) (name, s)) ≡ put_field (string_bytes name) (shape s) (fields_in fs)
put_in_place name s [] = refl
put_in_place name s (f ∷ fs) = put_next name s f fs _ refl (put_in_place name s fs)
