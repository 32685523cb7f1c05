-- The lines of a watch (WatchEvent v1 meta; Kubernetes docs, "Kubernetes API Concepts", "Efficient detection of changes", "Watch bookmarks",
-- "410 Gone responses"). What is copied is the text of an object that stands; what is printed anew is an object that was deleted, for its version.
use Rattle.std.specs.Prelude.{ℕ, List, [], ◌∷◌, ◌++◌, codes, decimal}
use Rattle.serde_json.specs.Data.{Data, string, object, no_members, put}
use Rattle.serde_json.specs.Written.{compact_text}
use Rattle.history.specs.History.{Key, Object}
use Rattle.history.specs.Seen.{SeenKind, Added, Modified, Deleted, SeenChange}
use Rattle.answers.specs.Status.{status_value}
use Rattle.watchline.specs.declared.event.EventType.{EventType}
use Rattle.watchline.specs.declared.event.EventType.TheVariants as event
use Rattle.watchline.specs.Versions.{text_at_version}

abbrev pub type_text : EventType → List ℕ
type_text event.Added = codes "ADDED"
type_text event.Modified = codes "MODIFIED"
type_text event.Deleted = codes "DELETED"
type_text event.Bookmark = codes "BOOKMARK"
type_text event.Error = codes "ERROR"

-- what happened, the text of its object, and a line feed
abbrev pub line : EventType → List ℕ → List ℕ
line what text = codes "{\"type\":\"" ++ type_text what ++ codes "\",\"object\":" ++ text ++ (codes "}" ++ 10 ∷ [])

-- ---- changes and objects

abbrev pub type_of : SeenKind → EventType
type_of Added = event.Added
type_of Modified = event.Modified
type_of Deleted = event.Deleted

-- the text of an object that stands is copied; one that was deleted is shown as it stood before, at the deletion's revision
abbrev pub text_shown : SeenKind → Object → List ℕ
text_shown Added o = o.body
text_shown Modified o = o.body
text_shown Deleted o = text_at_version o.revision o.body

abbrev pub deleted_line : ℕ → List ℕ → List ℕ
deleted_line revision text = line event.Deleted (text_at_version revision text)

abbrev pub line_of : SeenChange → List ℕ
line_of x = line (type_of x.kind) (text_shown x.kind x.object)

-- an object that stood when the watch was opened
abbrev pub added : Key × Object → SeenChange
added e = record { kind = Added; key = e.0; object = e.1 }

-- ---- bookmarks

-- an object of the type that has a version alone: all changes up to it were sent
abbrev pub bookmark_value : List ℕ → List ℕ → List ℕ → Data
bookmark_value api_version kind version =
    object (put (codes "apiVersion") (string api_version) (put (codes "kind") (string kind)
    (put (codes "metadata") (object (put (codes "resourceVersion") (string version) no_members)) no_members)))

abbrev pub bookmark_line : List ℕ → List ℕ → ℕ → List ℕ
bookmark_line api_version kind revision = line event.Bookmark (compact_text (bookmark_value api_version kind (decimal revision)))

-- ---- the error that ends a watch

abbrev pub expired_message : ℕ → ℕ → List ℕ
expired_message revision compacted = codes "too old resource version: " ++ decimal revision ++ codes " (" ++ decimal compacted ++ codes ")"

abbrev pub expired_value : List ℕ → Data
expired_value message = status_value 410 (codes "Expired") message

-- changes after this revision were forgotten, up to the compacted number
abbrev pub error_line : ℕ → ℕ → List ℕ
error_line revision compacted = line event.Error (compact_text (expired_value (expired_message revision compacted)))
