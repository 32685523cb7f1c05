-- What an indexer keeps, and that every index follows the objects.
use Rattle.std.specs.Prelude.{◌≡◌, ℕ, Bool, false, List, map, Option, None, Some}
use Rattle.std.specs.BTreeMap.{BTreeMap, get}
use Rattle.std.specs.FinMap.{FinMap, entries, from_entries}
use Rattle.indexer.specs.declared.entry.Entry.{Entry}
use Rattle.indexer.specs.declared.object.ObjectKey.{ObjectKey}
use Rattle.indexer.specs.Keys.{key_cmp}
use Rattle.indexer.specs.Objects.{Place, place_cmp, place_of, Stored, shared_of, kept_of, texts_at, is_among, under_at}
use Rattle.indexer.specs.Postings.{Postings}

-- objects by place, each with its keys in each index
abbrev pub IndexedObjects : Type 0
IndexedObjects = FinMap place_cmp (Stored × List (List (List ℕ)))

abbrev pub seen_of : Entry → Stored × List (List (List ℕ))
seen_of e = (shared_of e.object, kept_of e.keys.items)

abbrev pub indexed_objects_in : BTreeMap ObjectKey Entry → IndexedObjects
indexed_objects_in objects = from_entries (map (λ e. (place_of e.0, seen_of e.1)) objects.entries)

-- the objects without their keys in the indexes, in order of places
abbrev pub objects_in : IndexedObjects → List (Place × Stored)
objects_in held = map (λ e. (e.0, e.1.0)) (entries held)

-- whether an object has the key in index number i
abbrev pub has_key : Option Entry → ℕ → List ℕ → Bool
has_key None i k = false
has_key (Some entry) i k = is_among (texts_at entry.keys.items i) k

-- under each key of each index stand just the objects that have it
abbrev pub HoldsPostings : BTreeMap ObjectKey Entry → List Postings → Type 0
HoldsPostings objects postings = (i : ℕ) (k : List ℕ) (q : ObjectKey) → under_at postings i k q ≡ has_key (get key_cmp objects q) i k
