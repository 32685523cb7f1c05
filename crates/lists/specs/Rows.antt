-- How the rows of a list are read: for a page at once, for a watch a few at a time, until there are enough or none are left.
use Rattle.std.specs.Prelude.{ℕ, suc, ◌+◌, ◌==◌, if◌then◌else◌, min, List, [], ◌∷◌, length, filter, Option, Some, None, nat_lt, Bool, false}
use Rattle.std.specs.FinMap as fin
use Rattle.selector.specs.Requirement.{Requirement, selects}
use Rattle.history.specs.History.{Key, Object, Objects, last_revision}
use Rattle.history.specs.Page.{is_past, listed}
use Rattle.lists.specs.Labels.{attributes_of}
use Rattle.lists.specs.Lists.{max_page}

-- those whose labels and names meet the requirements
abbrev pub matching : List Requirement → List (Key × Object) → List (Key × Object)
matching requirements = filter (λ e. selects requirements (attributes_of e.0 e.1.body))

-- a namespace and a name, after which rows are read, or none
abbrev pub Start : Type 0
Start = Option (List ℕ × List ℕ)

abbrev pub place_of : Key → Start
place_of k = Some (k.namespace, k.name)

-- the rows from a start on; none where nothing is left to be read
abbrev pub rows_left : ℕ → Option (List ℕ) → Objects → Option Start → List (Key × Object)
rows_left kind namespace s None = []
rows_left kind namespace s (Some start) = listed kind namespace start s

-- what is left falls with each reading, the last one included
abbrev pub to_read : ℕ → Option (List ℕ) → Objects → Option Start → ℕ
to_read kind namespace s None = 0
to_read kind namespace s (Some start) = suc (length (listed kind namespace start s))

-- more than a page holds, so that it can be told whether one is left
abbrev pub is_over : Option ℕ → ℕ → Bool
is_over None n = false
is_over (Some limit) n = nat_lt limit n

-- how many a page asks for, so that it can be told whether one is left; or all
abbrev pub asked_for : ℕ → ℕ
asked_for limit = if limit == 0 then last_revision else min limit max_page + 1

-- what stands under a key, as rows
abbrev pub rows_of : Key → Option Object → List (Key × Object)
rows_of k None = []
rows_of k (Some o) = (k, o) ∷ []

-- the row of a key, where an object stands there and the rows are read from before it on
abbrev pub row_at : Start → Objects → Key → List (Key × Object)
row_at start s k = if is_past start k then rows_of k (fin.get s k) else []

-- the key of a name in the namespace
abbrev pub key_in : ℕ → List ℕ → List ℕ → Key
key_in kind namespace name = record { kind = kind; namespace = namespace; name = name }
