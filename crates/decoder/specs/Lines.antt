-- A line of a watch (Kubernetes API Concepts, "Efficient detection of changes", "Watch bookmarks", "410 Gone responses").
use Rattle.std.specs.Prelude.{ℕ, ◌||◌, if◌then◌else◌, List, codes}
use Rattle.std.specs.declared.result.Result.TheVariants.{Ok, Err}
use Rattle.std.specs.Str.{bytes_eq}
use Rattle.serde_json.specs.Data.{Data}
use Rattle.indexer.specs.Objects.{Stored}
use Rattle.decoder.specs.declared.malformed.Malformed.TheVariants.{Object, LineType}
use Rattle.decoder.specs.Wanted.{Wanted, api_version_of}
use Rattle.decoder.specs.Members.{Read, ◌>>=◌, or_malformed, value_in, members_of, at, text_at, is_of, metadata_in, version_in}
use Rattle.decoder.specs.Objects.{object_of}

pub data Line : Type 0 where
  put : Stored → Line  -- it was added or modified
  deleted : Stored → Line  -- as it stood before, with the deletion's revision
  bookmark : ℕ → Line  -- all changes up to this revision have been told
  error : Line

-- a bookmark's object has its type and a version
abbrev pub bookmark_of : Wanted → Data → Read ℕ
bookmark_of wanted d =
    members_of d >>= λ top.
    is_of (api_version_of wanted) wanted.kind top >>= λ u.
    metadata_in top >>= λ metadata.
    version_in metadata

-- by the line's type; an error ends the watch whatever its Status says
abbrev pub line_by_type : Wanted → List ℕ → Data → Read Line
line_by_type wanted name value =
    if bytes_eq name (codes "ADDED") || bytes_eq name (codes "MODIFIED") then (object_of wanted value >>= λ o. Ok (put o))
    else if bytes_eq name (codes "DELETED") then (object_of wanted value >>= λ o. Ok (deleted o))
    else if bytes_eq name (codes "BOOKMARK") then (bookmark_of wanted value >>= λ r. Ok (bookmark r))
    else if bytes_eq name (codes "ERROR") then Ok error
    else Err LineType

abbrev pub line_of : Wanted → Data → Read Line
line_of wanted d =
    members_of d >>= λ top.
    or_malformed LineType (text_at (codes "type") top) >>= λ name.
    or_malformed Object (at (codes "object") top) >>= λ value.
    line_by_type wanted name value

-- what the line says
abbrev pub line_in : Wanted → List ℕ → Read Line
line_in wanted bytes = value_in bytes >>= λ d. line_of wanted d
