-- How the changes that a watch sees are read: a few at a time, until there are enough or none are left. Words of private clauses, step by step
-- as the code goes; what a pump reads is said without them.
use Rattle.std.specs.Prelude.{ℕ, Bool, suc, ◌-◌, ◌<◌, ◌≤◌, if◌then◌else◌, List, [], ◌∷◌, length, Option, Some, None, option_map}
use Rattle.std.specs.FinMap as fin
use Rattle.std.specs.List.{AllByRecursion, flat_map}
use Rattle.selector.specs.Requirement.{Requirement, selects}
use Rattle.history.specs.History.{Change, Key, Objects, later}
use Rattle.history.specs.Page.{picked}
use Rattle.history.specs.Seen.{SeenChange, SeenKind, Added, Modified, seen_by}
use Rattle.history.specs.View.{View, state_in}
use Rattle.lists.specs.Labels.{attributes_of}

-- a body, where its labels and its name meet the requirements: the type and the namespace are those of the changes that are read
abbrev pub body_if_selected : List Requirement → Key → Option (List ℕ) → Option (List ℕ)
body_if_selected requirements k None = None
body_if_selected requirements k (Some b) = if selects requirements (attributes_of k b) then Some b else None

abbrev pub seen_by_labels : List Requirement → Objects → Change → List SeenChange
seen_by_labels requirements s c = seen_by c.revision c.key (body_if_selected requirements c.key (option_map (λ o. o.body) (fin.get s c.key))) (body_if_selected requirements c.key c.body)

-- how a change that leaves an object is seen where all are selected, by whether one stood before
abbrev pub kind_of_put : Bool → SeenKind
kind_of_put stood = if stood then Modified else Added

-- what is seen of each of these changes, by what stood just before it
abbrev pub seen_each : List Requirement → View → List Change → List SeenChange
seen_each requirements v = flat_map (λ c. seen_by_labels requirements (state_in v (c.revision - 1)) c)

-- the changes of the type and namespace after a revision; none where nothing is left to be read
abbrev pub changes_past : ℕ → Option (List ℕ) → View → Option ℕ → List Change
changes_past kind namespace v None = []
changes_past kind namespace v (Some after) = picked kind namespace (later after v.changes)

-- what is left falls with each reading, the last one included
abbrev pub to_read : ℕ → Option (List ℕ) → View → Option ℕ → ℕ
to_read kind namespace v None = 0
to_read kind namespace v (Some after) = suc (length (picked kind namespace (later after v.changes)))

-- each change is after the first of these revisions, and not after the second
abbrev pub AreBetween : ℕ → ℕ → List Change → Type 0
AreBetween low high = AllByRecursion (λ c. (low < c.revision) × (c.revision ≤ high))

-- nothing is left to be read, or what is after a revision that can be read from
abbrev pub IsNotBelow : ℕ → Option ℕ → Type 0
IsNotBelow low None = Unit {0}
IsNotBelow low (Some after) = low ≤ after

-- the revision of the last of these
abbrev pub revision_of_last : List Change → Option ℕ
revision_of_last [] = None
revision_of_last (c ∷ []) = Some c.revision
revision_of_last (c ∷ d ∷ cs) = revision_of_last (d ∷ cs)
