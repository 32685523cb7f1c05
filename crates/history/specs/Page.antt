-- The part of the objects, or of the changes, that a question to the store asks for. Pages of a list, which are of selected objects, stand in `Seen`.
use Rattle.std.specs.Prelude.{ℕ, Bool, true, List, Option, Some, None, ◌&&◌, ◌==◌, filter, take}
use Rattle.std.specs.Ordering.{is_eq, is_gt, ordering_then}
use Rattle.std.specs.FinMap as fin
use Rattle.history.specs.History.{Key, Object, Objects, Change, text_cmp}

abbrev pub is_in_namespace : Option (List ℕ) → Key → Bool
is_in_namespace None k = true
is_in_namespace (Some ns) k = is_eq (text_cmp k.namespace ns)

-- of the type, and in the namespace if one is named
abbrev pub is_within : ℕ → Option (List ℕ) → Key → Bool
is_within kind ns k = (k.kind == kind) && is_in_namespace ns k

-- after this namespace and name, if they are given
abbrev pub is_past : Option (List ℕ × List ℕ) → Key → Bool
is_past None k = true
is_past (Some after) k = is_gt (ordering_then (text_cmp k.namespace after.0) (text_cmp k.name after.1))

-- the objects of the type and namespace after this place, in the order of keys
abbrev pub listed : ℕ → Option (List ℕ) → Option (List ℕ × List ℕ) → Objects → List (Key × Object)
listed kind ns after s = filter (λ e. is_within kind ns e.0 && is_past after e.0) (fin.entries s)

-- the first `max` of them
abbrev pub page : ℕ → Option (List ℕ) → Option (List ℕ × List ℕ) → ℕ → Objects → List (Key × Object)
page kind ns after max s = take max (listed kind ns after s)

-- those of these changes that are of the type and namespace
abbrev pub picked : ℕ → Option (List ℕ) → List Change → List Change
picked kind ns = filter (λ c. is_within kind ns c.key)

-- the first `max` of them
abbrev pub changes_within : ℕ → Option (List ℕ) → ℕ → List Change → List Change
changes_within kind ns max cs = take max (picked kind ns cs)
