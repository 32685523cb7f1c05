-- How a watch begins (Kubernetes docs, "Kubernetes API Concepts", "Semantics for watch").
use Rattle.std.specs.Prelude.{ℕ, nat_lt, ◌==◌, if◌then◌else◌, List, [], ◌∷◌, Option, Some, None}
use Rattle.std.specs.FinMap as fin
use Rattle.std.specs.declared.result.Result.{Result}
use Rattle.std.specs.declared.result.Result.TheVariants.{Ok, Err}
use Rattle.selector.specs.Requirement.{Requirement}
use Rattle.history.specs.History.{Key, Object}
use Rattle.history.specs.Seen.{selected}
use Rattle.params.specs.Values.{Values, Watch}
use Rattle.answers.specs.WatchFrom.{WatchFrom}
use Rattle.answers.specs.declared.watch_from.InitialEvents.{InitialEvents}
use Rattle.answers.specs.declared.watch_from.InitialEvents.TheVariants.{Changes, Objects, NoneSelected}
use Rattle.lists.specs.declared.refusal.Refusal.{Refusal}
use Rattle.lists.specs.declared.refusal.Refusal.TheVariants.{Expired}
use Rattle.lists.specs.Labels.{selection_of}
use Rattle.watchline.specs.Watches.{HistoryWindow, Cursor, InitialLeft, no_initial_left, initial_left_from}

-- ---- the cursor of a watch that nothing was sent on

-- a client that names a version knows all up to it
abbrev pub sent_of : InitialEvents → ℕ → ℕ
sent_of Changes position = position
sent_of Objects position = 0
sent_of NoneSelected position = 0

abbrev pub left_of : InitialEvents → InitialLeft
left_of Changes = no_initial_left
left_of Objects = initial_left_from None
left_of NoneSelected = no_initial_left

abbrev pub first_cursor : WatchFrom → Cursor
first_cursor from = record {
  kind = from.kind;
  namespace = from.namespace;
  requirements = from.requirements;
  bookmarks = from.bookmarks;
  position = from.position;
  sent = sent_of from.initial from.position;
  left = left_of from.initial;
}

-- ---- what a request for a watch opens

abbrev pub initial_of : List (Key × Object) → InitialEvents
initial_of [] = NoneSelected
initial_of (e ∷ es) = Objects

abbrev pub from_parts : ℕ → Option (List ℕ) → List Requirement → Watch → ℕ → InitialEvents → WatchFrom
from_parts kind namespace requirements watch position initial =
    record { kind = kind; namespace = namespace; requirements = requirements; position = position; initial = initial; bookmarks = watch.has_bookmarks; timeout = watch.timeout }

-- the revision that it begins at, and what it sends first: without a version the objects that stand now, from a version on the changes after
-- it, unless some of them were forgotten
abbrev pub starts : HistoryWindow → Option ℕ → InitialEvents → Result (ℕ × InitialEvents) Refusal
starts s None objects = Ok (s.current, objects)
starts s (Some v) objects = if v == 0 then Ok (s.current, objects) else (if nat_lt v s.compacted then Err (Expired v s.compacted) else Ok (v, Changes))

abbrev pub opened_by : (ℕ → InitialEvents → WatchFrom) → Result (ℕ × InitialEvents) Refusal → Result WatchFrom Refusal
opened_by from (Ok p) = Ok (from p.0 p.1)
opened_by from (Err refusal) = Err refusal

-- what the selection has now
abbrev pub initial_in : HistoryWindow → ℕ → Option (List ℕ) → List Requirement → InitialEvents
initial_in s kind namespace requirements = initial_of (fin.entries (selected (selection_of kind namespace requirements) (s.at s.current)))

abbrev pub started : HistoryWindow → ℕ → Option (List ℕ) → Values → Watch → Result WatchFrom Refusal
started s kind namespace values watch =
    opened_by (from_parts kind namespace values.selector watch) (starts s values.version (initial_in s kind namespace values.selector))
