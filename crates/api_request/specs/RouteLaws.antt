-- What paths lead where, by their parts between slashes (Kubernetes docs, "Kubernetes API Concepts", "Resource URIs").
use Rattle.std.specs.Prelude.{◌≡◌, ℕ, ◌<◌, true, false, List, [], ◌∷◌, length, map, Option, Some, None, option_map, codes}
use Rattle.std.specs.declared.result.Result.{Result}
use Rattle.std.specs.Char.{is_ascii}
use Rattle.std.specs.List.{join_with_byte, list_all}
use Rattle.matchit.specs.Seek.{has_slash, slash}
use Rattle.api_types.specs.Discovered.{are_discovered, discovered}
use Rattle.api_types.specs.TypesFile.{ServedShape, type_number}
use Rattle.api_request.specs.declared.method.Method.{Method}
use Rattle.api_request.specs.declared.reason.Reason.TheVariants.{NotFound}
use Rattle.api_request.specs.declared.resource.Resource.{Resource}
use Rattle.api_request.specs.declared.resource.Resource.TheVariants.{AllNamespaces, Collection, Object, Status}
use Rattle.api_request.specs.Admit.{RequestInfo, admitted, kind_with, not_admitted, place_admitted, place_of}
use Rattle.api_request.specs.Calls.{Denied, Target}

-- a part of a path: at least one ASCII character, and no slash
pub record IsPart (part : List ℕ) : Type 0 where
  pub some : 0 < length part
  pub ascii : list_all is_ascii part ≡ true
  pub whole : has_slash part ≡ false

-- these parts, each behind a slash
abbrev pub path_of : List (List ℕ) → List ℕ
path_of parts = slash ∷ join_with_byte slash parts

abbrev pub path_of_all : List ℕ → List ℕ → List ℕ → List ℕ
path_of_all group version plural = path_of (codes "apis" ∷ group ∷ version ∷ plural ∷ [])

abbrev pub path_of_collection : List ℕ → List ℕ → List ℕ → List ℕ → List ℕ
path_of_collection group version namespace plural = path_of (codes "apis" ∷ group ∷ version ∷ codes "namespaces" ∷ namespace ∷ plural ∷ [])

abbrev pub path_of_object : List ℕ → List ℕ → List ℕ → List ℕ → List ℕ → List ℕ
path_of_object group version namespace plural name = path_of (codes "apis" ∷ group ∷ version ∷ codes "namespaces" ∷ namespace ∷ plural ∷ name ∷ [])

abbrev pub path_of_status : List ℕ → List ℕ → List ℕ → List ℕ → List ℕ → List ℕ
path_of_status group version namespace plural name =
    path_of (codes "apis" ∷ group ∷ version ∷ codes "namespaces" ∷ namespace ∷ plural ∷ name ∷ codes "status" ∷ [])

-- a place of a type, where the type is served
abbrev pub place_for : Resource → Option (List ℕ) → Option (List ℕ) → Option ℕ → Option RequestInfo
place_for resource namespace name kind = option_map (λ k. record { resource = resource; kind = k; namespace = namespace; name = name }) kind

-- all objects of a type
abbrev pub PathsOfAll : Type 0
PathsOfAll =
    (types : List ServedShape) (group version plural : List ℕ) → IsPart group → IsPart version → IsPart plural
    → place_of types (path_of_all group version plural) ≡ place_for AllNamespaces None None (type_number group version plural types)

-- all objects of a type in a namespace
abbrev pub PathsOfCollections : Type 0
PathsOfCollections =
    (types : List ServedShape) (group version namespace plural : List ℕ) → IsPart group → IsPart version → IsPart namespace → IsPart plural
    → place_of types (path_of_collection group version namespace plural) ≡ place_for Collection (Some namespace) None (type_number group version plural types)

-- an object in a namespace
abbrev pub PathsOfObjects : Type 0
PathsOfObjects =
    (types : List ServedShape) (group version namespace plural name : List ℕ) → IsPart group → IsPart version → IsPart namespace → IsPart plural → IsPart name
    → place_of types (path_of_object group version namespace plural name) ≡ place_for Object (Some namespace) (Some name) (type_number group version plural types)

-- an object's status, where the objects of the type have one
abbrev pub PathsOfStatus : Type 0
PathsOfStatus =
    (types : List ServedShape) (group version namespace plural name : List ℕ) → IsPart group → IsPart version → IsPart namespace → IsPart plural → IsPart name
    → place_of types (path_of_status group version namespace plural name)
    ≡ place_for Status (Some namespace) (Some name) (kind_with types Status (type_number group version plural types))

-- ---- documents

-- where documents tell of types, the places of objects are as they were
abbrev pub DocumentsLeavePlaces : Type 0
DocumentsLeavePlaces = (types : List ServedShape) (path : List ℕ) → place_of (map discovered types) path ≡ place_of types path

-- by the place of objects that the path leads to, if there is one
abbrev pub admitted_at : Option RequestInfo → Option Method → Option (List ℕ) → Result Target Denied
admitted_at None method media = not_admitted NotFound (codes "no such path") None
admitted_at (Some place) method media = place_admitted place method media

-- where none tells of them, only requests of objects are admitted
abbrev pub OnlyObjects : Type 0
OnlyObjects =
    (types : List ServedShape) (method : Option Method) (path : List ℕ) (media : Option (List ℕ)) → are_discovered types ≡ false → admitted types method path media ≡ admitted_at (place_of types path) method media
