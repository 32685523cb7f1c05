-- The first of some objects whose texts are kept, and what is read of an answer to find them.
use Rattle.std.specs.Prelude.{◌≡◌, ℕ, Bool, List, [], filter, map, take}
use Rattle.sqlite_schema.specs.Program.{lets_of}
use Rattle.sqlite.specs.Command.{Command}
use Rattle.sqlite.specs.Command.TheVariants.{Select}
use Rattle.sqlite.specs.Order.{Row}
use Rattle.history.specs.History.{Key, Object, last_revision}
use Rattle.revtable.specs.Decoded.{entry_shown}
use Rattle.revtable.specs.Rows.{IsAnswer}
use Rattle.revtable.specs.Spans.{Stored}

-- those whose texts are kept
abbrev pub kept_among : (List ℕ → Bool) → List (Key × Object) → List (Key × Object)
kept_among kept = filter (λ e. kept e.1.body)

-- the first `max` of them
abbrev pub first_kept : (List ℕ → Bool) → ℕ → List (Key × Object) → List (Key × Object)
first_kept kept max es = take max (kept_among kept es)

-- a query that reads no table of its own making
abbrev pub IsBare : Command → Type 0
IsBare (Select q names) = lets_of q ≡ []
IsBare _ = ⊥

-- the first kept among the rows of an answer, which are no more than there are revisions
abbrev pub AreFirstKept : List ℕ → Row → Stored → (List ℕ → Bool) → ℕ → List (Key × Object) → Type 0
AreFirstKept sql params st kept max found =
    (rows : List Row) × IsAnswer sql params st rows × (found ≡ first_kept kept max (map entry_shown (take last_revision rows)))
