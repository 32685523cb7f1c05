-- An indexer that holds what a client keeps.
use Rattle.std.specs.Prelude.{◌≡◌, ℕ, ◌+◌, cond, List, map, Option, is_some, option_map}
use Rattle.std.specs.FinMap as fin
use Rattle.indexer.specs.Kept.{IndexedObjects}
use Rattle.indexer.specs.Objects.{Place, place_cmp, Stored}
use Rattle.reflector.specs.Client.{Objects, Notice, Client, kept}

-- an object's keys in each index
abbrev pub Keys : Type 0
Keys = Stored → List (List (List ℕ))

abbrev pub with_keys : Keys → List (Place × Stored) → List (Place × (Stored × List (List (List ℕ))))
with_keys ks es = map (λ e. (e.0, (e.1, ks e.1))) es

-- each object with its keys
abbrev pub keyed : Keys → Objects → IndexedObjects
keyed ks o = fin.from_sorted {R = place_cmp} (with_keys ks (fin.entries o))

-- how many there are with one more at this place
abbrev pub len_with : IndexedObjects → Place → ℕ
len_with held p = cond (is_some (fin.get held p)) (fin.len held) (fin.len held + 1)

-- held are the client's objects, each under its keys in every index; the revision and the waiting notices are its own
pub record Mirrors (ks : Keys) (held : IndexedObjects) (at : Option ℕ) (waiting : List Notice) (c : Client) : Type 0 where
  pub objects : held ≡ keyed ks (kept c.cache)
  pub revision : at ≡ option_map (λ now. now.revision) c.cache
  pub notices : waiting ≡ c.notices
