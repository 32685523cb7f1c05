-- What a list or a watch was asked for (Kubernetes documentation, "Kubernetes API Concepts", "Resource URIs").
use Rattle.std.specs.Prelude.{ℕ, Bool, true, List, ◌++◌, Option, Some, None, codes}
use Rattle.std.specs.Str.{bytes_eq}

-- the objects of one type, in a namespace or, without one, in all
pub record Wanted : Type 0 where
  pub group : List ℕ
  pub version : List ℕ
  pub kind : List ℕ
  pub plural : List ℕ
  pub namespace : Option (List ℕ)

abbrev pub api_version_of : Wanted → List ℕ
api_version_of wanted = wanted.group ++ codes "/" ++ wanted.version

abbrev pub is_in : Option (List ℕ) → List ℕ → Bool
is_in None namespace = true
is_in (Some asked) namespace = bytes_eq namespace asked
