-- Documents of discovery beside the places of objects.
use Rattle.std.proofs.Common.{◌≡◌, ℕ, suc, false, cond, List, [], ◌∷◌, map, Option, Some, None, refl, ap, ◌∙◌}
use Rattle.std.specs.Prelude.{codes, option_and_then, option_map, slice_get, unwrap_or}
use Rattle.std.specs.Char.{is_ascii}
use Rattle.std.specs.List.{list_all}
use Rattle.std.proofs.lemmas.Option.{slice_get-map}
use Rattle.matchit.specs.Params.{named}
use Rattle.matchit.specs.Seek.{first}
use Rattle.api_types.specs.Discovered.{discovered}
use Rattle.api_types.specs.Subresources as subresources
use Rattle.api_types.specs.TypesFile.{ServedShape, is_named, number_from}
use Rattle.discovery.specs.Paths.{document_at}
use Rattle.api_request.specs.Admit.{Parts, RequestInfo, document_admitted, has_status, kind_in, kind_with, parts_by, path_admitted, place_by, place_in, place_of, routes}
use Rattle.api_request.specs.RouteLaws.{DocumentsLeavePlaces, OnlyObjects, admitted_at}
use Rattle.api_request.specs.declared.resource.Resource.{Resource}
use Rattle.api_request.specs.declared.resource.Resource.TheVariants.{AllNamespaces, Collection, Object, Status}

numbers_still : (n : ℕ) (group version plural : List ℕ) (ts : List ServedShape) → number_from n group version plural (map discovered ts) ≡ number_from n group version plural ts
numbers_still n group version plural [] = refl
numbers_still n group version plural (t ∷ ts) = ap (cond (is_named group version plural t) (Some n)) (numbers_still (suc n) group version plural ts)

status_still : (ts : List ServedShape) (n : ℕ) → has_status (map discovered ts) n ≡ has_status ts n
status_still ts n = ap (λ o. unwrap_or (option_map subresources.has_status o) false) (slice_get-map discovered ts n) ∙ go (slice_get ts n)
  where
    go : (o : Option ServedShape) → unwrap_or (option_map subresources.has_status (option_map discovered o)) false ≡ unwrap_or (option_map subresources.has_status o) false
    go None = refl
    go (Some t) = refl

then_same : {A B : Type 0} (f g : A → Option B) (o : Option A) → ((a : A) → f a ≡ g a) → option_and_then f o ≡ option_and_then g o
then_same f g None same = refl
then_same f g (Some a) same = same a

kind_still : (ts : List ServedShape) (parts : Parts) → kind_in (map discovered ts) parts ≡ kind_in ts parts
kind_still ts parts =
    then_same _ _ (named (codes "group") parts) (λ group.
    then_same _ _ (named (codes "version") parts) (λ version.
    then_same _ _ (named (codes "plural") parts) (λ plural. numbers_still 0 group version plural ts)))

with_still : (ts : List ServedShape) (r : Resource) (kind : Option ℕ) → kind_with (map discovered ts) r kind ≡ kind_with ts r kind
with_still ts Status kind = then_same _ _ kind (λ n. ap (λ b. cond b (Some n) None) (status_still ts n))
with_still ts AllNamespaces kind = refl
with_still ts Collection kind = refl
with_still ts Object kind = refl

abbrev placed_at : Resource → Parts → ℕ → RequestInfo
placed_at r parts kind = record { resource = r; kind = kind; namespace = named (codes "namespace") parts; name = named (codes "name") parts }

place_still : (ts : List ServedShape) (r : Resource) (parts : Parts) → place_in (map discovered ts) r parts ≡ place_in ts r parts
place_still ts r parts = ap (λ o. option_map (placed_at r parts) (kind_with (map discovered ts) r o)) (kind_still ts parts) ∙ ap (option_map (placed_at r parts)) (with_still ts r (kind_in ts parts))

pub places_still : DocumentsLeavePlaces
places_still ts path =
    ap (λ o. cond (list_all is_ascii path) o None)
    (then_same (place_by (map discovered ts) path) (place_by ts path) (first routes path) (λ r. place_still ts r.value (parts_by path r)))

pub only_objects : OnlyObjects
only_objects types method path media none = go (place_of types path)
  where
    go : (o : Option RequestInfo) → path_admitted types o method path media ≡ admitted_at o method media
    go None = ap (λ b. document_admitted (cond b (document_at types path) None) method) none
    go (Some place) = refl
