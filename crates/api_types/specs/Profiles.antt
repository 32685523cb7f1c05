-- What types follow beside what their file declares.
use Rattle.std.specs.Prelude.{ℕ, Bool, true, false, ◌==◌, List, [], ◌∷◌, codes}
use Rattle.schema.specs.ObjectShape.{metadata}
use Rattle.schema.specs.Shape.{set, keyed, Shape, text, truth, struct_of, map_of, list_of, no_fields, field}
use Rattle.api_types.specs.declared.profile.Profile.{Profile}
use Rattle.api_types.specs.declared.profile.Profile.TheVariants.{Plain, Discovered, Kubernetes}

-- whether documents tell clients of types that follow it (Kubernetes docs, "The Kubernetes API", "Discovery API")
abbrev pub is_discovered : Profile → Bool
is_discovered Plain = false
is_discovered Discovered = true
is_discovered (Kubernetes epoch) = true

-- whether its objects have the metadata that controllers write
abbrev pub is_kubernetes : Profile → Bool
is_kubernetes Plain = false
is_kubernetes Discovered = false
is_kubernetes (Kubernetes epoch) = true

abbrev pub is_same : Profile → Profile → Bool
is_same Plain Plain = true
is_same Discovered Discovered = true
is_same (Kubernetes epoch) (Kubernetes other) = epoch == other
is_same _ _ = false

-- one of the objects that own an object (Kubernetes docs, "Owners and Dependents")
abbrev pub reference : Shape
reference =
    struct_of (field (codes "apiVersion") text (field (codes "blockOwnerDeletion") truth (field (codes "controller") truth
    (field (codes "kind") text (field (codes "name") text (field (codes "uid") text no_fields)))))) false

-- what controllers write beside labels and annotations: finalizers, a prefix of names, and owners
abbrev pub own_metadata : Shape
own_metadata =
    struct_of (field (codes "annotations") (map_of text false) (field (codes "finalizers") (list_of text set) (field (codes "generateName") text
    (field (codes "labels") (map_of text false) (field (codes "ownerReferences") (list_of reference (keyed (codes "uid" ∷ []))) no_fields))))) false

-- the `metadata` of types that follow it
abbrev pub metadata_of : Profile → Shape
metadata_of Plain = metadata
metadata_of Discovered = metadata
metadata_of (Kubernetes epoch) = own_metadata
