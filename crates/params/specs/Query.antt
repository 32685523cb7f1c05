-- The pairs of a query, and the value of a parameter in it.
use Rattle.std.specs.Prelude.{ℕ, List, [], ◌∷◌, map, if◌then◌else◌}
use Rattle.std.specs.Str.{bytes_eq}
use Rattle.std.specs.Str.Lossy.{utf8_lossy}
use Rattle.form_urlencoded.specs.Form.{raw_pairs, decode}
use Rattle.params.specs.declared.parameter.Parameter.{Parameter}
use Rattle.params.specs.Parameters.{name_of}

-- name and value
abbrev pub Pairs : Type 0
Pairs = List (List ℕ × List ℕ)

-- the text that encoded bytes stand for (URL Standard, "application/x-www-form-urlencoded parsing")
abbrev pub text_of : List ℕ → List ℕ
text_of bytes = utf8_lossy (decode bytes)

abbrev pub pair_in : List ℕ × List ℕ → List ℕ × List ℕ
pair_in pair = (text_of pair.0, text_of pair.1)

abbrev pub pairs_in : List ℕ → Pairs
pairs_in query = map pair_in (raw_pairs query)

-- the value at the first place of a name; absence is the empty value
abbrev pub first_at : List ℕ → Pairs → List ℕ
first_at name [] = []
first_at name (p ∷ ps) = if bytes_eq p.0 name then p.1 else first_at name ps

abbrev pub value_of : Parameter → Pairs → List ℕ
value_of parameter pairs = first_at (name_of parameter) pairs
