-- The index by namespace.
use Rattle.std.specs.Prelude.{ℕ, List, [], ◌∷◌}
use Rattle.indexer.specs.Objects.{Stored}
use Rattle.indexer.specs.declared.by_namespace.ByNamespace.{ByNamespace}

-- an object's only key is its namespace
abbrev pub namespace_keys : ByNamespace → Stored → List (List ℕ)
namespace_keys b o = o.namespace ∷ []
