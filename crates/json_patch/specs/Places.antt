-- What lies at a pointer (RFC 6901, section 4), and a value that is changed there.
--
-- An array's token is an index, from 0: digits with no 0 before another, and no sign. An object's is a member's name.
use Rattle.std.specs.Prelude.{ℕ, zero, suc, List, [], ◌∷◌, Option, Some, None, option_map, option_and_then, unwrap_or}
use Rattle.serde_json.specs.Data.{Data, null, boolean, number, string, array, object, Items, no_items, item, Members, put}
use Rattle.serde_json.specs.Find.{get_item, get_member, index_of}
use Rattle.json_values.specs.Members.{less}
use Rattle.json_patch.specs.Pointers.{Pointer}

-- what an array's items or an object's members give; another value has nothing inside
abbrev pub inside : {A : Type 0} → (Items → Option A) → (Members → Option A) → Data → Option A
inside f g null = None
inside f g (boolean b) = None
inside f g (number n) = None
inside f g (string s) = None
inside f g (array ds) = f ds
inside f g (object ms) = g ms

-- the value at one token
abbrev pub child : List ℕ → Data → Option Data
child t = inside (λ ds. option_and_then (λ i. get_item i ds) (index_of t)) (get_member t)

-- the value at a pointer
abbrev pub find : Pointer → Data → Option Data
find [] d = Some d
find (t ∷ ts) d = option_and_then (find ts) (child t d)

-- what an array or an object becomes; another value stays
abbrev pub changed : (Items → Items) → (Members → Members) → Data → Data
changed f g null = null
changed f g (boolean b) = boolean b
changed f g (number n) = number n
changed f g (string s) = string s
changed f g (array ds) = array (f ds)
changed f g (object ms) = object (g ms)

-- the items, changed at the index that a token is
abbrev pub at_index : List ℕ → (ℕ → Items → Items) → Items → Items
at_index t f ds = unwrap_or (option_map (λ i. f i ds) (index_of t)) ds

-- the items, with d at a place that they have
abbrev pub set_item : Data → ℕ → Items → Items
set_item d n no_items = no_items
set_item d zero (item e ds) = item d ds
set_item d (suc n) (item e ds) = item e (set_item d n ds)

-- the items without the one at a place
abbrev pub less_item : ℕ → Items → Items
less_item n no_items = no_items
less_item zero (item e ds) = ds
less_item (suc n) (item e ds) = item e (less_item n ds)

-- the value, with d at a token where it has something
abbrev pub with_child : List ℕ → Data → Data → Data
with_child t d = changed (at_index t (set_item d)) (put t d)

-- the value without what it has at a token
abbrev pub without_child : List ℕ → Data → Data
without_child t = changed (at_index t less_item) (less t)

-- the value, with what is at a token changed by f; none where nothing is there, or f gives none
abbrev pub in_child : List ℕ → (Data → Option Data) → Data → Option Data
in_child t f whole = option_and_then (λ e. option_map (λ d. with_child t d whole) (f e)) (child t whole)
