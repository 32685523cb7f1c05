-- What callers see of an indexer.
use Rattle.std.specs.Prelude.{ℕ, Bool, false, List, [], map, Option, None, Some, string_bytes}
use Rattle.std.specs.FinMap.{get}
use Rattle.std.specs.List.{position, slice_index_or}
use Rattle.std.specs.Str.{bytes_eq}
use Rattle.indexer.specs.declared.indexer.Indexer.{Indexer}
use Rattle.indexer.specs.Kept.{IndexedObjects, indexed_objects_in}
use Rattle.indexer.specs.Objects.{Place, Stored, is_among}

-- the objects, each with its keys in each index
abbrev pub indexed_objects_of : {I : Type 0} → Indexer I → IndexedObjects
indexed_objects_of i = indexed_objects_in i.objects

abbrev pub indexes_of : {I : Type 0} → Indexer I → List I
indexes_of i = i.indexes.items

abbrev pub names_of : {I : Type 0} → Indexer I → List (List ℕ)
names_of i = map string_bytes i.names.items

abbrev pub has_one : Option (Stored × List (List (List ℕ))) → ℕ → List ℕ → Bool
has_one None i k = false
has_one (Some held) i k = is_among (slice_index_or held.1 i []) k

abbrev pub is_under_number : IndexedObjects → Option ℕ → List ℕ → Place → Bool
is_under_number held None k p = false
is_under_number held (Some i) k p = has_one (get held p) i k

-- whether the object at this place has the key in the index of this name
abbrev pub is_under : IndexedObjects → List (List ℕ) → List ℕ → List ℕ → Place → Bool
is_under held names name k p = is_under_number held (position (λ n. bytes_eq n name) names) k p
