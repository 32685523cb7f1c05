-- The documents of discovery, as JSON values with their members in the order in which a Kubernetes server prints them
-- (Kubernetes docs, "The Kubernetes API", "Discovery API", "Unaggregated discovery"; the types APIVersions, APIGroupList, APIGroup and APIResourceList
-- of its API's package `meta/v1`).
use Rattle.std.specs.Prelude.{ℕ, Bool, true, List, [], ◌∷◌, ◌++◌, map, if◌then◌else◌, codes}
use Rattle.std.specs.Char.{to_ascii_lowercase}
use Rattle.json.specs.Json.{Json, boolean, string, array, object, Items, no_items, item, Members, no_members, member}
use Rattle.api_types.specs.Subresources.{has_status}
use Rattle.api_types.specs.TypesFile.{ServedShape}
use Rattle.discovery.specs.Groups.{group_version, is_like, firsts}
use Rattle.discovery.specs.declared.likeness.Likeness.TheVariants.{Group, Version}

-- ---- arrays and objects of what types add to them

-- what each adds before what the later ones do
abbrev pub items_by : {X : Type 0} → (X → Items → Items) → List X → Items
items_by add [] = no_items
items_by add (x ∷ xs) = add x (items_by add xs)

-- the same of members
abbrev pub members_by : {X : Type 0} → (X → Members → Members) → List X → Members
members_by add [] = no_members
members_by add (x ∷ xs) = add x (members_by add xs)

-- an array of texts
abbrev pub texts : List (List ℕ) → Items
texts = items_by (λ s rest. item (string s) rest)

-- ---- the version of the server

-- the release of Kubernetes whose discovery this is
abbrev pub release : List ℕ
release = codes "v1.30.0"

-- (the type Info of Kubernetes' package `version`)
abbrev pub version_info : Json
version_info =
    object (member (codes "major") (string (codes "1")) (member (codes "minor") (string (codes "30")) (member (codes "gitVersion") (string release)
    (member (codes "gitCommit") (string []) (member (codes "gitTreeState") (string []) (member (codes "buildDate") (string [])
    (member (codes "goVersion") (string []) (member (codes "compiler") (string []) (member (codes "platform") (string []) no_members)))))))))

-- ---- groups

-- the core group has no version here
abbrev pub api_versions : Json
api_versions =
    object (member (codes "kind") (string (codes "APIVersions")) (member (codes "versions") (array no_items) (member (codes "serverAddressByClientCIDRs") (array no_items) no_members)))

-- a group's version
abbrev pub version_entry : ServedShape → Json
version_entry t = object (member (codes "groupVersion") (string (group_version t)) (member (codes "version") (string t.version) no_members))

-- where it is one of the group of a type
abbrev pub add_version : ServedShape → ServedShape → Items → Items
add_version t u rest = if is_like Group t u then item (version_entry u) rest else rest

-- the versions of a type's group, in the order of the types file
abbrev pub version_entries : List ServedShape → ServedShape → Items
version_entries types t = items_by (add_version t) (firsts Version types)

-- a group, by the first of its types, whose version is preferred
abbrev pub group_members : List ServedShape → ServedShape → Members
group_members types t =
    member (codes "name") (string t.group) (member (codes "versions") (array (version_entries types t)) (member (codes "preferredVersion") (version_entry t) no_members))

-- one of a list of groups
abbrev pub add_group : List ServedShape → ServedShape → Items → Items
add_group types t rest = item (object (group_members types t)) rest

-- all groups, in the order of the types file
abbrev pub group_list : List ServedShape → Json
group_list types =
    object (member (codes "kind") (string (codes "APIGroupList")) (member (codes "apiVersion") (string (codes "v1"))
    (member (codes "groups") (array (items_by (add_group types) (firsts Group types))) no_members)))

-- one group
abbrev pub group : List ServedShape → ServedShape → Json
group types t = object (member (codes "kind") (string (codes "APIGroup")) (member (codes "apiVersion") (string (codes "v1")) (group_members types t)))

-- ---- resources

-- the kind in small letters, as `kubectl` takes it for one object
abbrev pub singular : ServedShape → List ℕ
singular t = map to_ascii_lowercase t.kind

-- what is served of objects ("Kubernetes API Concepts", "API Verbs")
abbrev pub object_verbs : Items
object_verbs = texts (codes "create" ∷ codes "delete" ∷ codes "get" ∷ codes "list" ∷ codes "patch" ∷ codes "update" ∷ codes "watch" ∷ [])

-- what is served of their status
abbrev pub status_verbs : Items
status_verbs = texts (codes "get" ∷ codes "patch" ∷ codes "update" ∷ [])

-- a resource: its name, the name of one, and what is served of it
abbrev pub resource_entry : List ℕ → List ℕ → List ℕ → Items → Json
resource_entry name one kind verbs =
    object (member (codes "name") (string name) (member (codes "singularName") (string one) (member (codes "namespaced") (boolean true)
    (member (codes "kind") (string kind) (member (codes "verbs") (array verbs) no_members)))))

-- the objects of a type
abbrev pub object_resource : ServedShape → Json
object_resource t = resource_entry t.plural (singular t) t.kind object_verbs

-- their status
abbrev pub status_resource : ServedShape → Json
status_resource t = resource_entry (t.plural ++ codes "/status") [] t.kind status_verbs

-- both, where objects have one
abbrev pub add_status : ServedShape → Items → Items
add_status u rest = if has_status u then item (status_resource u) rest else rest

-- those of a type, where it is of the version of another
abbrev pub add_resources : ServedShape → ServedShape → Items → Items
add_resources t u rest = if is_like Version t u then item (object_resource u) (add_status u rest) else rest

-- the resources of a type's version, in the order of the types file
abbrev pub resource_list : List ServedShape → ServedShape → Json
resource_list types t =
    object (member (codes "kind") (string (codes "APIResourceList")) (member (codes "apiVersion") (string (codes "v1")) (member (codes "groupVersion") (string (group_version t))
    (member (codes "resources") (array (items_by (add_resources t) types)) no_members))))
