-- A type's `metadata`, and the fields of a well-formed struct.
use Rattle.std.proofs.Common.{◌≡◌, ◌||◌, ℕ, Bool, true, false, cond, List, [], ◌∷◌, Option, Some, None, is_none, refl, subst}
use Rattle.std.proofs.lemmas.Bool.{and_parts}
use Rattle.std.specs.Cmp.Lexicographic.{bytes_decides}
use Rattle.std.specs.List.{list_all}
use Rattle.std.specs.Str.{bytes_eq}
use Rattle.schema.specs.Among.{is_in}
use Rattle.schema.specs.Lawful.{are_well_formed, is_well_formed}
use Rattle.schema.specs.ObjectShape.{IsMetadata, field_of, metadata, system_names}
use Rattle.schema.specs.Shape.{Shape, Fields, no_fields, field, shape_at}

-- a field of a well-formed struct is so
pub well_formed_at : (f : List ℕ) (t : Shape) (all : Fields) → are_well_formed all ≡ true → shape_at f all ≡ Some t → is_well_formed t ≡ true
well_formed_at f t no_fields h is = absurd cc
well_formed_at f t (field k s more) h is =
    let parts = and_parts (is_well_formed s) (are_well_formed more) h in by_name (bytes_eq k f) parts.0 (well_formed_at f t more parts.1) is
  where
    by_name : (b : Bool) → is_well_formed s ≡ true → (shape_at f more ≡ Some t → is_well_formed t ≡ true) → cond b (Some s) (shape_at f more) ≡ Some t → is_well_formed t ≡ true
    by_name true one later there = let same : s ≡ t = cc in subst (λ u. is_well_formed u ≡ true) same one
    by_name false one later there = later there

none : (o : Option Shape) → is_none o ≡ true → o ≡ None
none None h = refl
none (Some s) h = absurd cc

none_among : (names : List (List ℕ)) (k : List ℕ) (s : Shape) → is_in names k ≡ true → list_all (λ n. is_none (field_of n s)) names ≡ true → field_of k s ≡ None
none_among [] k s among all = absurd cc
none_among (n ∷ names) k s among all =
    let parts = and_parts (is_none (field_of n s)) (list_all (λ n. is_none (field_of n s)) names) all in
    by_name (bytes_eq n k) refl parts.0 (λ later. none_among names k s later parts.1) among
  where
    by_name : (b : Bool) → bytes_eq n k ≡ b → is_none (field_of n s) ≡ true → (is_in names k ≡ true → field_of k s ≡ None) → (b || is_in names k) ≡ true → field_of k s ≡ None
    by_name true same one later there = subst (λ m. field_of m s ≡ None) ((bytes_decides n k).0 same) (none (field_of n s) one)
    by_name false same one later there = later there

-- no field has a name of the system's
pub no_field : (k : List ℕ) (s : Shape) → is_in system_names k ≡ true → IsMetadata s → field_of k s ≡ None
no_field k s among is = none_among system_names k s among is.others

pub metadata_is : IsMetadata metadata
metadata_is = record { granular = refl; labels = refl; annotations = refl; others = refl }
