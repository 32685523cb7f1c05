-- Whether a write refuses unknown fields (Kubernetes documentation, "Kubernetes API Concepts", "Field validation").
use Rattle.std.specs.Prelude.{ℕ, Bool, List, [], ◌∷◌, if◌then◌else◌, codes}
use Rattle.std.specs.Str.{bytes_eq}
use Rattle.params.specs.declared.parameter.Parameter.TheVariants.{FieldValidation}
use Rattle.params.specs.Parameters.{name_of}
use Rattle.params.specs.Query.{Pairs}

-- the value, or another where it is empty
abbrev pub filled_or : List ℕ → List ℕ → List ℕ
filled_or other [] = other
filled_or other (b ∷ bs) = b ∷ bs

-- the first value of a name that isn't empty; absence is the empty value
abbrev pub first_filled_at : List ℕ → Pairs → List ℕ
first_filled_at name [] = []
first_filled_at name (p ∷ ps) = if bytes_eq p.0 name then filled_or (first_filled_at name ps) p.1 else first_filled_at name ps

-- what is asked for in another way, or of nobody, is dropped
abbrev pub is_strict : Pairs → Bool
is_strict pairs = bytes_eq (first_filled_at (name_of FieldValidation) pairs) (codes "Strict")
