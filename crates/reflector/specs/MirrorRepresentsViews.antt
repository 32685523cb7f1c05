-- What is kept, beside a client.
use Rattle.std.specs.Prelude.{◌≡◌, ℕ, List, map}
use Rattle.indexer.specs.Indexer.{indexed_objects_of, indexes_of, names_of}
use Rattle.indexer.specs.Objects.{Stored}
use Rattle.reflector.specs.declared.mirror.Mirror.{Mirror}
use Rattle.reflector.specs.Client.{Client}
use Rattle.reflector.specs.MirrorViews.{Keys, Mirrors}
use Rattle.reflector.specs.Views.{notice_seen}

-- an object's keys in each of these indexes
abbrev pub keys_in : {I : Type 0} → (I → Stored → List (List ℕ)) → List I → Keys
keys_in keys indexes = λ s. map (λ b. keys b s) indexes

-- what is kept is what the client keeps
abbrev pub MirrorRepresents : {I : Type 0} → (I → Stored → List (List ℕ)) → Mirror I → Client → Type 0
MirrorRepresents keys m c = Mirrors (keys_in keys (indexes_of m.indexer)) (indexed_objects_of m.indexer) m.revision (map notice_seen m.notices.items) c

-- the index functions and their names stay
pub record SameIndexes {I : Type 0} (old new : Mirror I) : Type 0 where
  pub indexes : indexes_of new.indexer ≡ indexes_of old.indexer
  pub names : names_of new.indexer ≡ names_of old.indexer
