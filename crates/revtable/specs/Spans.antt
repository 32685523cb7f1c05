-- Rows with a span of revisions. Each holds what a change left under its key, from the change's revision on until the key's
-- next change ended it.
use Rattle.std.specs.Prelude.{◌≡◌, ℕ, Bool, true, false, ◌&&◌, ◌==◌, not, nat_le, nat_lt, is_none, List, [], ◌∷◌, ◌++◌, map, filter, reverse, slice_get, Option, Some, None}
use Rattle.std.specs.List.{flat_map}
use Rattle.std.specs.Ordering.{nat_cmp, on}
use Rattle.std.specs.declared.cmp.Ordering.{Ordering}
use Rattle.sqlite_keyed.specs.Lists.{sort_by, update_where}
use Rattle.std.specs.FinMap as fin
use Rattle.history.specs.History.{Key, Change, History, is_same_key}
use Rattle.history.specs.Kept.{IsPruned}
use Rattle.history.specs.Whole.{AreThere}

pub record Span : Type 0 where
  pub first : ℕ
  pub key : Key
  -- the revision that ended it, if one did, and whether that was a deletion
  pub ended : Option ℕ
  pub gone : Bool
  pub body : List ℕ

-- ---- the rows of changes

-- the first of these changes that is of the key
abbrev pub next_of : Key → List Change → Option Change
next_of k cs = slice_get (filter (λ c. is_same_key k c.key) cs) 0

abbrev pub span_until : Key → ℕ → List ℕ → Option Change → Span
span_until k r body None = record { first = r; key = k; ended = None; gone = false; body = body }
span_until k r body (Some next) = record { first = r; key = k; ended = Some next.revision; gone = is_none next.body; body = body }

-- a deletion leaves no row
abbrev pub spans_until : Key → ℕ → Option (List ℕ) → Option Change → List Span
spans_until k r None next = []
spans_until k r (Some body) next = span_until k r body next ∷ []

-- a row for each change that left an object: the next change of its key ends it
abbrev pub spans_of : List Change → List Span
spans_of [] = []
spans_of (c ∷ cs) = spans_until c.key c.revision c.body (next_of c.key cs) ++ spans_of cs

-- ---- the changes of rows

-- what a row began with
abbrev pub made_by : Span → Change
made_by s = record { revision = s.first; key = s.key; body = Some s.body }

-- what it ended with, if that was a deletion
abbrev pub deletion_at : Key → Option ℕ → Bool → List Change
deletion_at k None gone = []
deletion_at k (Some r) false = []
deletion_at k (Some r) true = record { revision = r; key = k; body = None } ∷ []

abbrev pub deletion_by : Span → List Change
deletion_by s = deletion_at s.key s.ended s.gone

abbrev pub by_revision : Change → Change → Ordering
by_revision = on (λ c. c.revision) nat_cmp

-- the changes that the rows began with and the deletions that ended some, merged by revision
abbrev pub changes_in : List Span → List Change
changes_in spans = sort_by by_revision (map made_by spans ++ flat_map deletion_by spans)

-- ---- what stands

-- not ended up to a revision
abbrev pub is_past : ℕ → Option ℕ → Bool
is_past r None = true
is_past r (Some ended) = nat_lt r ended

-- it stands at a revision
abbrev pub is_current_at : ℕ → Span → Bool
is_current_at r s = nat_le s.first r && is_past r s.ended

-- ---- a write and a compaction

abbrev pub end_at : ℕ → Bool → Span → Span
end_at r gone s = record s { ended = Some r; gone = gone }

-- the key's row that nothing ended is ended
abbrev pub ended_by : Key → ℕ → Bool → List Span → List Span
ended_by k r gone = update_where (λ s. is_same_key k s.key && is_none s.ended) (end_at r gone)

-- the same of the row that began at a revision
abbrev pub ended_from : ℕ → ℕ → Bool → List Span → List Span
ended_from n r gone = update_where (λ s. (s.first == n) && is_none s.ended) (end_at r gone)

-- the last row of a key
abbrev pub last_span : Key → List Span → Option Span
last_span k spans = slice_get (reverse (filter (λ s. is_same_key k s.key) spans)) 0

abbrev pub is_ended : ℕ → Option ℕ → Bool
is_ended c None = false
is_ended c (Some ended) = nat_lt 0 ended && nat_le ended c

-- without those that ended up to a revision
abbrev pub without_ended : ℕ → List Span → List Span
without_ended c = filter (λ s. not (is_ended c s.ended))

-- ---- all that stands in the two tables

pub record Stored : Type 0 where
  pub spans : List Span
  pub current : ℕ
  pub compacted : ℕ

abbrev pub stored_of : History → Stored
stored_of h = record { spans = spans_of h.changes; current = h.current; compacted = h.compacted }

abbrev pub history_of : Stored → History
history_of st = record { changes = changes_in st.spans; current = st.current; compacted = st.compacted }

-- once the rows of the next change are written: the row that stands under its key ends, and one begins
abbrev pub rows_put : ℕ → Key → Option (List ℕ) → Stored → Stored
rows_put r k body st = record { spans = ended_by k r (is_none body) st.spans ++ spans_until k r body None; current = st.current; compacted = st.compacted }

-- once it is compacted
abbrev pub pruned_in : ℕ → ℕ → Stored → Stored
pruned_in current compacted st = record { spans = without_ended compacted st.spans; current = current; compacted = compacted }

-- what stands is what the kept changes of a history are, of which each deletion is of an object that is there
pub record IsWritten (st : Stored) : Type 0 where
  pub pruned : IsPruned (history_of st)
  pub there : AreThere fin.empty (changes_in st.spans)
  pub rows : st.spans ≡ spans_of (changes_in st.spans)
