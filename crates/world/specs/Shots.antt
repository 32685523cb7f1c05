-- Copies of indexes.
use Rattle.std.specs.Prelude.{◌≡◌, ◌<◌, ℕ, Bool, ◌&&◌, List, length, map, String, Vec, string_bytes}
use Rattle.std.specs.declared.alloc.Global.{Global}
use Rattle.std.specs.Cmp.Lexicographic.{slice_cmp}
use Rattle.std.specs.List.{AllByRecursion, list_any}
use Rattle.std.specs.List.Sorted.{IsStrictlySortedBy}
use Rattle.std.specs.Ordering.{eq_by_cmp, nat_cmp}
use Rattle.std.specs.Str.{bytes_eq}
use Rattle.indexer.specs.Indexer.{is_under}
use Rattle.indexer.specs.Kept.{IndexedObjects}
use Rattle.indexer.specs.Objects.{Place, place_cmp, place_of}
use Rattle.indexer.specs.declared.object.ObjectKey.{ObjectKey}
use Rattle.world.specs.declared.trace.IndexShot.{IndexShot}

-- a key of an index, and the places under it
abbrev pub key_seen : String Global × Vec ObjectKey Global → List ℕ × List Place
key_seen e = (string_bytes e.0, map place_of e.1.items)

-- whether the place stands under this key
abbrev pub is_listed : List ℕ → Place → List (List ℕ × List Place) → Bool
is_listed key p es = list_any (λ e. bytes_eq e.0 key && list_any (eq_by_cmp place_cmp p) e.1) es

-- the places under a key strictly ascend, and there are some
abbrev pub IsPosting : List ℕ × List Place → Type 0
IsPosting e = IsStrictlySortedBy place_cmp e.1 × (0 < length e.1)

-- the copy is the index of this name: under each key stand just the objects that have it, keys and places strictly ascend, and no key is
-- without a place
pub record ShowsIndex (held : IndexedObjects) (names : List (List ℕ)) (s : IndexShot) : Type 0 where
  pub members : (key : List ℕ) (q : ObjectKey) → is_listed key (place_of q) (map key_seen s.keys.items) ≡ is_under held names (string_bytes s.name) key (place_of q)
  pub ascending : IsStrictlySortedBy (slice_cmp nat_cmp) (map (λ e. string_bytes e.0) s.keys.items)
  pub filled : AllByRecursion (λ e. IsPosting (key_seen e)) s.keys.items

-- ---- for private clauses

-- the places beside a key strictly ascend, and are those under it in the index of this name
abbrev pub IsCopied : IndexedObjects → List (List ℕ) → List ℕ → String Global × Vec ObjectKey Global → Type 0
IsCopied held names name e =
    IsStrictlySortedBy place_cmp (map place_of e.1.items)
    × ((q : ObjectKey) → list_any (eq_by_cmp place_cmp (place_of q)) (map place_of e.1.items) ≡ is_under held names name (string_bytes e.0) (place_of q))
