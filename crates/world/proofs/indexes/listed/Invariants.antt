use Rattle.std.proofs.Common.{◌≡◌, ◌&&◌, ℕ, List, map, take, string_bytes}
use Rattle.std.specs.List.{AllByRecursion}
use Rattle.indexer.specs.Indexer.{indexed_objects_of, is_under, names_of}
use Rattle.indexer.specs.Objects.{is_among, place_of}
use Rattle.indexer.specs.declared.object.ObjectKey.{ObjectKey}
use Rattle.world.specs.Shots.{IsCopied, is_listed, key_seen}
use Rattle.world.proofs.indexes.listed.Given as goal

abbrev pub invariant-loop-text : goal.invariant-loop-text
invariant-loop-text g l =
    ((key : List ℕ) (q : ObjectKey)
    → is_listed key (place_of q) (map key_seen l.keys.items) ≡ (is_among (map (λ t. t.now) (take l.text-index l.texts)) key && is_under (indexed_objects_of l.indexer) (names_of l.indexer) l.name key (place_of q)))
    × (map (λ e. string_bytes e.0) l.keys.items ≡ map (λ t. t.now) (take l.text-index l.texts))
    × AllByRecursion (IsCopied (indexed_objects_of l.indexer) (names_of l.indexer) l.name) l.keys.items
