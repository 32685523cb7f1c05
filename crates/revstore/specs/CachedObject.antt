-- What is held of the objects that stand now: each in the slot that its key has.
use Rattle.std.specs.Prelude.{◌≡◌, ℕ, ◌+◌, ◌*◌, ◌%◌, ◌<◌, ◌^◌, fold, get_or, length, IfSome, List, Option, option_map}
use Rattle.std.specs.FinMap as fin
use Rattle.history.specs.History.{History, Key, current_objects}
use Rattle.history.specs.Read.{key_of}
use Rattle.revstore.specs.Shared.{object_in}
use Rattle.revstore.specs.declared.cached.CachedObject.{CachedObject}
use Rattle.revstore.specs.declared.cached.ObjectCache.{ObjectCache}

-- a sum of bytes, each weighed by its place
abbrev pub next_sum : ℕ → ℕ → ℕ
next_sum sum byte = (sum * 37 % 2 ^ 32 + byte) % 2 ^ 32

-- the sum of a text's bytes, from a number on
abbrev pub sum_of : ℕ → List ℕ → ℕ
sum_of start text = fold next_sum start text

-- the number of the slot that a key has
abbrev pub slot_of : Key → ℕ
slot_of k = sum_of (sum_of k.kind k.namespace) k.name % 64

-- it stands under the key, or nothing does
abbrev pub IsCurrent : History → CachedObject → Type 0
IsCurrent h cached = option_map object_in cached.object ≡ fin.get (current_objects h) (key_of cached.key.value)

-- each is in the slot of its key, and stands now
abbrev pub AreCached : History → List (Option CachedObject) → Type 0
AreCached h slots = (i : ℕ) (d : Option CachedObject) → i < length slots → IfSome (get_or slots i d) (λ cached. (slot_of (key_of cached.key.value) ≡ i) × IsCurrent h cached)

-- so are those in these slots
abbrev pub AreIn : History → ObjectCache → Type 0
AreIn h slots = AreCached h slots.all.items
