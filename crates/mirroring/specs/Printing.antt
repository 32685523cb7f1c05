-- What a mirror prints of a client.
use Rattle.std.specs.Prelude.{ℕ, List, [], ◌∷◌, ◌++◌, flat_map, Option, Some, None, codes, decimal}
use Rattle.indexer.specs.Objects.{Stored}
use Rattle.reflector.specs.Client.{Notice, added, updated, deleted}

abbrev pub object_line : List ℕ → Stored → List ℕ
object_line what o = what ++ (32 ∷ (o.namespace ++ (47 ∷ (o.name ++ (32 ∷ (decimal o.revision ++ 10 ∷ []))))))

-- what happened, and the object's namespace, name and version; a deleted one is told as it was last
abbrev pub notice_line : Notice → List ℕ
notice_line (added new) = object_line (codes "added") new
notice_line (updated old new) = object_line (codes "updated") new
notice_line (deleted old) = object_line (codes "deleted") old

-- the revision of the first list, where there is one
abbrev pub synced_line : Option ℕ → List ℕ
synced_line None = []
synced_line (Some r) = codes "synced " ++ (decimal r ++ 10 ∷ [])

abbrev pub mirror_text : Option ℕ → List Notice → List ℕ
mirror_text first notices = synced_line first ++ flat_map notice_line notices
