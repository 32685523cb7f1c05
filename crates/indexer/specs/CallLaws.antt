-- What an indexer holds after a list of calls.
use Rattle.std.specs.Prelude.{◌≡◌, ℕ, List, [], ◌∷◌, IfSome}
use Rattle.std.specs.FinMap.{empty, get, insert, remove}
use Rattle.indexer.specs.Kept.{IndexedObjects}
use Rattle.indexer.specs.Objects.{Place, Stored}
use Rattle.indexer.specs.PutAll.{put_all}

pub data Call : Type 0 where
  put_one : Stored → Call
  remove_at : Place → Call
  replace_by : List Stored → Call
  clear_all : Call

-- ks gives an object's keys in each index
abbrev pub after : (Stored → List (List (List ℕ))) → Call → IndexedObjects → IndexedObjects
after ks (put_one o) held = insert held (o.namespace, o.name) (o, ks o)
after ks (remove_at p) held = remove held p
after ks (replace_by os) held = put_all ks os empty
after ks clear_all held = empty

abbrev pub after_all : (Stored → List (List (List ℕ))) → List Call → IndexedObjects → IndexedObjects
after_all ks [] held = held
after_all ks (call ∷ calls) held = after_all ks calls (after ks call held)

-- each object stands in every index under its keys by the index's function
abbrev pub IsFollowed : (Stored → List (List (List ℕ))) → IndexedObjects → Type 0
IsFollowed ks held = (p : Place) → IfSome (get held p) (λ h. h.1 ≡ ks h.0)
