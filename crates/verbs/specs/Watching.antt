-- Bookmarks of watches of served types (Kubernetes docs, "Kubernetes API Concepts", "Watch bookmarks").
use Rattle.std.specs.Prelude.{List, Option, Some, None, slice_get}
use Rattle.api_types.specs.TypesFile.{ServedShape}
use Rattle.watchline.specs.Watches.{Cursor, BookmarkTurn, bookmarked}
use Rattle.api_validation.specs.Envelope.{api_version_of}

-- a bookmark is an object of the watch's type; none is told of a type that isn't served, which no call opens a watch of
abbrev pub bookmarked_as : Option ServedShape → Cursor → BookmarkTurn
bookmarked_as None w = record { line = None; next = w }
bookmarked_as (Some t) w = bookmarked (api_version_of t) t.kind w

-- the line of a bookmark, if one is due, and where the watch then stands
abbrev pub bookmarked_in : List ServedShape → Cursor → BookmarkTurn
bookmarked_in types w = bookmarked_as (slice_get types w.kind) w
