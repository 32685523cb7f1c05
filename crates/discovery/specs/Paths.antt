-- Which path has which document
-- (Kubernetes docs, "The Kubernetes API", "Discovery API", "OpenAPI V3"; RFC 9110, section 15.5.6).
use Rattle.std.specs.Prelude.{ℕ, suc, List, [], ◌∷◌, ◌++◌, Option, Some, None, option_map, slice_get, if◌then◌else◌, codes}
use Rattle.std.specs.Str.{bytes_eq}
use Rattle.json.specs.Json.{Json}
use Rattle.json.specs.Print.{print}
use Rattle.json.specs.Tree.{json_tokens}
use Rattle.api_types.specs.Discovered.{are_discovered}
use Rattle.api_types.specs.TypesFile.{ServedShape}
use Rattle.discovery.specs.declared.document.ServerDocument.{ServerDocument}
use Rattle.discovery.specs.declared.document.ServerDocument.TheVariants.{Version, CoreGroup, Groups, OpenApiIndex}
use Rattle.discovery.specs.declared.document.TypeDocument.{TypeDocument}
use Rattle.discovery.specs.declared.document.TypeDocument.TheVariants.{Group, Resources, OpenApi}
use Rattle.discovery.specs.declared.document.Document.{Document}
use Rattle.discovery.specs.declared.document.Document.TheVariants.{OfServer, OfType}
use Rattle.discovery.specs.Groups.{group_version}
use Rattle.discovery.specs.Documents.{version_info, api_versions, group_list, group, resource_list}
use Rattle.discovery.specs.OpenApi.{open_api, open_api_index, open_api_path}

-- what a document of the server says, of these types
abbrev pub server_value : List ServedShape → ServerDocument → Json
server_value types Version = version_info
server_value types CoreGroup = api_versions
server_value types Groups = group_list types
server_value types OpenApiIndex = open_api_index types

-- what one of a type's group or version says
abbrev pub type_value : List ServedShape → ServedShape → TypeDocument → Json
type_value types t Group = group types t
type_value types t Resources = resource_list types t
type_value types t OpenApi = open_api types t

-- that of the type with a number, where there is one
abbrev pub value_of : List ServedShape → Document → Option Json
value_of types (OfServer document) = Some (server_value types document)
value_of types (OfType number document) = option_map (λ t. type_value types t document) (slice_get types number)

-- as compact JSON
abbrev pub text_of : List ServedShape → Document → Option (List ℕ)
text_of types document = option_map (λ j. print (json_tokens j)) (value_of types document)

-- ---- paths

-- of a type's group
abbrev pub group_path : ServedShape → List ℕ
group_path t = codes "/apis/" ++ t.group

-- of a type's group and version
abbrev pub version_path : ServedShape → List ℕ
version_path t = codes "/apis/" ++ group_version t

-- the documents that are there whatever the types are
abbrev pub server_document_at : List ℕ → Option ServerDocument
server_document_at path =
    if bytes_eq path (codes "/version") then Some Version
    else (if bytes_eq path (codes "/api") then Some CoreGroup
    else (if bytes_eq path (codes "/apis") then Some Groups
    else (if bytes_eq path (codes "/openapi/v3") then Some OpenApiIndex else None)))

-- those of a type's group and version
abbrev pub type_document_at : List ℕ → ServedShape → Option TypeDocument
type_document_at path t =
    if bytes_eq path (group_path t) then Some Group
    else (if bytes_eq path (version_path t) then Some Resources
    else (if bytes_eq path (open_api_path t) then Some OpenApi else None))

-- that of the first type that has one at the path, by the type's number
abbrev pub document_or : Option TypeDocument → ℕ → Option Document → Option Document
document_or None number other = other
document_or (Some document) number other = Some (OfType number document)

-- the numbers count from one on
abbrev pub first_from : ℕ → List ℕ → List ServedShape → Option Document
first_from number path [] = None
first_from number path (t ∷ ts) = document_or (type_document_at path t) number (first_from (suc number) path ts)

abbrev pub first_at : List ℕ → List ServedShape → Option Document
first_at path types = first_from 0 path types

-- the server's, or else the types'
abbrev pub server_or : Option ServerDocument → Option Document → Option Document
server_or None other = other
server_or (Some document) other = Some (OfServer document)

-- the document at a path, of these types; nothing in a path is percent-decoded
abbrev pub document_at : List ServedShape → List ℕ → Option Document
document_at types path = server_or (server_document_at path) (first_at path types)

-- ---- of a server's types

-- the document at a path, where documents tell clients of these types
abbrev pub document_in : List ServedShape → List ℕ → Option Document
document_in types path = if are_discovered types then document_at types path else None

-- the text of a document
abbrev pub text_in : List ServedShape → Document → Option (List ℕ)
text_in types document = if are_discovered types then text_of types document else None
