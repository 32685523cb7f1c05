-- The labels of an object (Kubernetes documentation, "Labels and Selectors").
use Rattle.std.specs.Prelude.{ℕ, List, Option}
use Rattle.std.specs.Map.{lookup}
use Rattle.std.specs.Str.{bytes_eq}

-- the labels of an object: key and value
abbrev pub Labels : Type 0
Labels = List (List ℕ × List ℕ)

-- the value at a key, if the object has the key
abbrev pub value_at : List ℕ → Labels → Option (List ℕ)
value_at key labels = lookup (bytes_eq key) labels
