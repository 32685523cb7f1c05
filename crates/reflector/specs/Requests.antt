-- The requests of a client (Kubernetes API Concepts, "Resource URIs", "Retrieving large results sets in chunks",
-- "Efficient detection of changes", "Watch bookmarks"; their queries are forms of the URL Standard, section 5).
use Rattle.std.specs.Prelude.{ℕ, List, [], ◌∷◌, ◌++◌, Option, Some, None, option_map, codes, decimal}
use Rattle.form_urlencoded.specs.Form.{append_pair}
use Rattle.wireclient.specs.Request.{request}
use Rattle.decoder.specs.Wanted.{Wanted, api_version_of}
use Rattle.reflector.specs.Client.{SyncPhase, first, next, streaming, Client}

-- what is mirrored, and how: the wanted objects that the selector's text selects, in pages of so many
pub record Settings : Type 0 where
  pub wanted : Wanted
  pub selector : List ℕ
  pub page : ℕ

abbrev pub namespace_part : Option (List ℕ) → List ℕ
namespace_part None = []
namespace_part (Some namespace) = codes "/namespaces/" ++ namespace

abbrev pub path_of : Wanted → List ℕ
path_of wanted = codes "/apis/" ++ api_version_of wanted ++ namespace_part wanted.namespace ++ codes "/" ++ wanted.plural

-- the empty text selects all, and isn't sent
abbrev pub with_selector : List ℕ → List ℕ → List ℕ
with_selector [] query = query
with_selector (b ∷ bs) query = append_pair query (codes "labelSelector") (b ∷ bs)

abbrev pub with_token : Option (List ℕ) → List ℕ → List ℕ
with_token None query = query
with_token (Some token) query = append_pair query (codes "continue") token

abbrev pub list_query : Settings → Option (List ℕ) → List ℕ
list_query s token = with_selector s.selector (with_token token (append_pair [] (codes "limit") (decimal s.page)))

abbrev pub watch_query : Settings → ℕ → List ℕ
watch_query s revision =
    with_selector s.selector (append_pair (append_pair (append_pair [] (codes "watch") (codes "true")) (codes "resourceVersion") (decimal revision)) (codes "allowWatchBookmarks") (codes "true"))

-- by the revision of the cache; a client that follows has one, and without one it would begin with a list
abbrev pub query_at : Settings → SyncPhase → Option ℕ → List ℕ
query_at s first revision = list_query s None
query_at s (next r token paged_list) revision = list_query s (Some token)
query_at s streaming None = list_query s None
query_at s streaming (Some r) = watch_query s r

-- the bytes that ask what the client asks next
abbrev pub request_of : Settings → Client → List ℕ
request_of s c = request (codes "GET") (path_of s.wanted ++ 63 ∷ query_at s c.sync (option_map (λ now. now.revision) c.cache)) None
