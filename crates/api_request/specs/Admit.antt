-- Which calls are served: the route of a path, its methods, the media type of its body
-- (Kubernetes docs, "Kubernetes API Concepts", "Resource URIs", "Custom Resources", "Status subresource"; RFC 9110, sections 8.3 and 10.2.1).
use Rattle.std.specs.Prelude.{◌≡◌, ℕ, Bool, true, false, ◌||◌, ◌==◌, List, [], ◌∷◌, Option, Some, None, option_map, option_and_then, if◌then◌else◌, slice_get, unwrap_or, codes}
use Rattle.std.specs.declared.result.Result.{Result}
use Rattle.std.specs.declared.result.Result.TheVariants.{Ok, Err}
use Rattle.std.specs.Bool.{then_some}
use Rattle.std.specs.Char.{is_ascii}
use Rattle.std.specs.List.{list_all, list_any, join_by, before_first}
use Rattle.std.specs.Str.{bytes_eq, str_eq_ignore_ascii_case}
use Rattle.matchit.specs.Rows.{RowsOf}
use Rattle.matchit.specs.Router.{RouteOf, nearest, route_from}
use Rattle.matchit.specs.Order.{placed}
use Rattle.matchit.specs.Route.{Scan, parse_route}
use Rattle.matchit.specs.Seek.{first}
use Rattle.matchit.specs.Params.{walk, named}
use Rattle.api_types.specs.Subresources as subresources
use Rattle.api_types.specs.TypesFile.{ServedShape, type_number}
use Rattle.discovery.specs.declared.document.Document.{Document}
use Rattle.discovery.specs.Paths.{document_in}
use Rattle.objects.specs.declared.manager.Subresource.{Subresource}
use Rattle.objects.specs.declared.manager.Subresource.TheVariants as subresource
use Rattle.api_request.specs.declared.method.Method.{Method}
use Rattle.api_request.specs.declared.method.Method.TheVariants.{Get, Post, Put, Patch, Delete}
use Rattle.api_request.specs.declared.reason.Reason.{Reason}
use Rattle.api_request.specs.declared.reason.Reason.TheVariants.{NotFound, MethodNotAllowed, UnsupportedMediaType}
use Rattle.api_request.specs.declared.resource.Resource.{Resource}
use Rattle.api_request.specs.declared.resource.Resource.TheVariants.{AllNamespaces, Collection, Object, Status}
use Rattle.api_request.specs.declared.verb.Verb.{Verb}
use Rattle.api_request.specs.declared.verb.Verb.TheVariants as verb
use Rattle.api_request.specs.Calls.{Scope, of_all, of_namespace, of_object, Target, of_objects, of_document, Denied}

-- ---- methods (RFC 9110, section 9.1: they are known by their bytes)

abbrev pub name_of : Method → List ℕ
name_of Get = codes "GET"
name_of Post = codes "POST"
name_of Put = codes "PUT"
name_of Patch = codes "PATCH"
name_of Delete = codes "DELETE"

abbrev pub method_named : List ℕ → Option Method
method_named s =
    if bytes_eq s (name_of Get) then Some Get
    else (if bytes_eq s (name_of Post) then Some Post
    else (if bytes_eq s (name_of Put) then Some Put
    else (if bytes_eq s (name_of Patch) then Some Patch
    else (if bytes_eq s (name_of Delete) then Some Delete else None))))

-- the methods that are served on what a path leads to, in the order of their names
abbrev pub methods_of : Resource → List Method
methods_of AllNamespaces = Get ∷ []
methods_of Collection = Get ∷ Post ∷ []
methods_of Object = Delete ∷ Get ∷ Patch ∷ Put ∷ []
methods_of Status = Get ∷ Patch ∷ Put ∷ []

abbrev pub serves : Resource → Method → Bool
serves r m = list_any (λ n. bytes_eq (name_of n) (name_of m)) (methods_of r)

-- as they stand in `Allow`
abbrev pub allowed : Resource → List ℕ
allowed r = join_by name_of (codes ", ") (methods_of r)

-- ---- routes

abbrev pub all_path : List ℕ
all_path = codes "/apis/{group}/{version}/{plural}"

abbrev pub collection_path : List ℕ
collection_path = codes "/apis/{group}/{version}/namespaces/{namespace}/{plural}"

abbrev pub object_path : List ℕ
object_path = codes "/apis/{group}/{version}/namespaces/{namespace}/{plural}/{name}"

abbrev pub status_path : List ℕ
status_path = codes "/apis/{group}/{version}/namespaces/{namespace}/{plural}/{name}/status"

abbrev pub Rows : Type 0
Rows = RowsOf (RouteOf Resource)

abbrev pub with_scan : {E : Type 0} → Result Scan E → Resource → Rows → Rows
with_scan (Ok s) r rows = placed (s.pattern, route_from s r) rows
with_scan (Err e) r rows = rows

abbrev pub with_route : List ℕ → Resource → Rows → Rows
with_route path r rows = with_scan (parse_route path) r rows

-- a route that can be read, and that none of these rows conflicts with
abbrev pub FitsIn : {E : Type 0} → Rows → Result Scan E → Type 0
FitsIn rows (Ok s) = nearest s.pattern rows ≡ None
FitsIn rows (Err e) = ⊥

-- the table
unfoldable pub routes : Rows
routes = with_route status_path Status (with_route object_path Object (with_route collection_path Collection (with_route all_path AllNamespaces [])))

-- the parts of a path by the names in its route
abbrev pub Parts : Type 0
Parts = List (List ℕ × List ℕ)

abbrev pub parts_by : List ℕ → RouteOf Resource → Parts
parts_by path r = walk r.pattern r.text path r.names 0 0

-- what a path leads to: a type's number, a namespace and a name
pub record RequestInfo : Type 0 where
  pub resource : Resource
  pub kind : ℕ
  pub namespace : Option (List ℕ)
  pub name : Option (List ℕ)

abbrev pub kind_in : List ServedShape → Parts → Option ℕ
kind_in types parts =
    option_and_then (λ group. option_and_then (λ version. option_and_then (λ plural. type_number group version plural types)
    (named (codes "plural") parts)) (named (codes "version") parts)) (named (codes "group") parts)

-- whether objects of the type with this number have a status
abbrev pub has_status : List ServedShape → ℕ → Bool
has_status types kind = unwrap_or (option_map subresources.has_status (slice_get types kind)) false

-- a type, where it has the resource
abbrev pub kind_with : List ServedShape → Resource → Option ℕ → Option ℕ
kind_with types Status kind = option_and_then (λ n. if has_status types n then Some n else None) kind
kind_with types resource kind = kind

abbrev pub place_in : List ServedShape → Resource → Parts → Option RequestInfo
place_in types resource parts =
    option_map (λ kind. record { resource = resource; kind = kind; namespace = named (codes "namespace") parts; name = named (codes "name") parts }) (kind_with types resource (kind_in types parts))

abbrev pub place_by : List ServedShape → List ℕ → RouteOf Resource → Option RequestInfo
place_by types path r = place_in types r.value (parts_by path r)

-- nothing in a path is percent-decoded, and it is of ASCII characters alone
abbrev pub place_of : List ServedShape → List ℕ → Option RequestInfo
place_of types path = if list_all is_ascii path then option_and_then (place_by types path) (first routes path) else None

-- ---- media types

abbrev pub is_blank : ℕ → Bool
is_blank b = b == 32 || b == 9

abbrev pub without_leading : List ℕ → List ℕ
without_leading [] = []
without_leading (b ∷ bs) = if is_blank b then without_leading bs else b ∷ bs

-- a byte before what is left of those after it
abbrev pub unless_last_blank : ℕ → List ℕ → List ℕ
unless_last_blank b [] = if is_blank b then [] else b ∷ []
unless_last_blank b (c ∷ cs) = b ∷ c ∷ cs

abbrev pub without_trailing : List ℕ → List ℕ
without_trailing [] = []
without_trailing (b ∷ bs) = unless_last_blank b (without_trailing bs)

-- what stands before the parameters, without the blanks round it
abbrev pub media_type : List ℕ → List ℕ
media_type field = without_trailing (without_leading (before_first (λ b. b == 59) field))

abbrev pub apply_type : List ℕ
apply_type = codes "application/apply-patch+yaml"

abbrev pub json_type : List ℕ
json_type = codes "application/json"

-- JSON, or no media type at all
abbrev pub is_json : Option (List ℕ) → Bool
is_json None = true
is_json (Some field) = str_eq_ignore_ascii_case (media_type field) json_type

abbrev pub is_apply : Option (List ℕ) → Bool
is_apply None = false
is_apply (Some field) = str_eq_ignore_ascii_case (media_type field) apply_type

-- ---- verbs ("API Verbs")

-- what a method asks with a body of this media type, if that is taken; a GET has none
abbrev pub verb_asked : Method → Option (List ℕ) → Option Verb
verb_asked Get field = Some verb.Get
verb_asked Post field = then_some (is_json field) verb.Create
verb_asked Put field = then_some (is_json field) verb.Update
verb_asked Patch field = then_some (is_apply field) verb.Apply
verb_asked Delete field = then_some (is_json field) verb.Delete

-- ---- the three in turn

abbrev pub not_admitted : Reason → List ℕ → Option (List ℕ) → Result Target Denied
not_admitted r message allow = Err (record { reason = r; message = message; allow = allow })

abbrev pub is_status : Resource → Bool
is_status Status = true
is_status resource = false

abbrev pub subresource_at : Resource → Subresource
subresource_at Status = subresource.Status
subresource_at resource = subresource.Main

-- which objects a namespace and a name say
abbrev pub scope_named : Subresource → Option (List ℕ) → Option (List ℕ) → Scope
scope_named sub None name = of_all
scope_named sub (Some namespace) None = of_namespace namespace
scope_named sub (Some namespace) (Some name) = of_object namespace name sub

abbrev pub scope_at : RequestInfo → Scope
scope_at place = scope_named (subresource_at place.resource) place.namespace place.name

abbrev pub target_at : RequestInfo → Verb → Target
target_at place verb = of_objects place.kind (scope_at place) verb

abbrev pub verb_admitted : RequestInfo → Option Verb → Result Target Denied
verb_admitted place None = not_admitted UnsupportedMediaType (codes "media type not served") None
verb_admitted place (Some verb) = Ok (target_at place verb)

abbrev pub method_served : Resource → Option Method → Option Method
method_served r None = None
method_served r (Some m) = if serves r m then Some m else None

abbrev pub method_admitted : RequestInfo → Option Method → Option (List ℕ) → Result Target Denied
method_admitted place None media = not_admitted MethodNotAllowed (codes "method not served here") (Some (allowed place.resource))
method_admitted place (Some m) media = verb_admitted place (verb_asked m media)

abbrev pub place_admitted : RequestInfo → Option Method → Option (List ℕ) → Result Target Denied
place_admitted place method media = method_admitted place (method_served place.resource method) media

-- ---- documents, which tell clients of the types (Kubernetes docs, "The Kubernetes API", "Discovery API", "OpenAPI V3")

-- served by GET alone
abbrev pub document_got : Document → Option Method → Result Target Denied
document_got document (Some Get) = Ok (of_document document)
document_got document method = not_admitted MethodNotAllowed (codes "method not served here") (Some (name_of Get))

abbrev pub document_admitted : Option Document → Option Method → Result Target Denied
document_admitted None method = not_admitted NotFound (codes "no such path") None
document_admitted (Some document) method = document_got document method

-- ---- both

-- by the place that the path leads to, or else the document that is there
abbrev pub path_admitted : List ServedShape → Option RequestInfo → Option Method → List ℕ → Option (List ℕ) → Result Target Denied
path_admitted types None method path media = document_admitted (document_in types path) method
path_admitted types (Some place) method path media = place_admitted place method media

-- what a request asks, by its method (of those that are known), its path and its `Content-Type`, or why it is refused
abbrev pub admitted : List ServedShape → Option Method → List ℕ → Option (List ℕ) → Result Target Denied
admitted types method path media = path_admitted types (place_of types path) method path media
