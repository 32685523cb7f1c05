-- The rows of the two tables: one for each span, and one for the two numbers (SQLite, "CREATE TABLE", "STRICT Tables").
use Rattle.std.specs.Prelude.{◌≡◌, ℕ, ◌<◌, pos, suc, Bool, true, false, List, [], ◌∷◌, map, Option, Some, None, codes, IsTrue, Result, Ok, Err, slice_get, unwrap_or}
use Rattle.std.specs.List.{AllByRecursion}
use Rattle.sqlite.specs.Collation.TheVariants.{Binary}
use Rattle.sqlite.specs.declared.types.Value.{Value}
use Rattle.sqlite.specs.declared.types.Value.TheVariants.{Null, Int, Text as Words}
use Rattle.sqlite.specs.Order.{Row, column}
use Rattle.sqlite.specs.State.{State, HasCleanDisk}
use Rattle.sqlite.specs.Held.{Held, state}
use Rattle.sqlite_trees.specs.declared.store.Store.{Ghosts}
use Rattle.sqlite.specs.Effect.{Database, Reads}
use Rattle.sqlite.specs.Listing.{understood}
use Rattle.sqlite_resolve.specs.declared.compiled.Compiled.{Compiled}
use Rattle.sqlite_resolve.specs.declared.error.CompileError.{CompileError}
use Rattle.sqlite.specs.Command.{Command}
use Rattle.sqlite.specs.Command.TheVariants.{Nothing}
use Rattle.sqlite.specs.Tree.{IsAscending}
use Rattle.sqlite.specs.Table.{Table as SqlTable}
use Rattle.sqlite.specs.Schema.{Schema}
use Rattle.sqlite.specs.Change.{created, indexed}
use Rattle.sqlite_schema.specs.declared.schema.Index.{Index}
use Rattle.sqlite.specs.Kind.TheVariants.{Integer, Text}
use Rattle.history.specs.History.{Change}
use Rattle.revtable.specs.Spans.{Span, Stored}

abbrev pub object_table : SqlTable
object_table = record {
  name = codes "object";
  tree = 0;
  columns = (record { name = codes "first"; kind = Integer; is_strict = true; not_null = false; default = Null; collation = Binary })
      ∷ (record { name = codes "kind"; kind = Integer; is_strict = true; not_null = true; default = Null; collation = Binary })
      ∷ (record { name = codes "namespace"; kind = Text; is_strict = true; not_null = true; default = Null; collation = Binary })
      ∷ (record { name = codes "name"; kind = Text; is_strict = true; not_null = true; default = Null; collation = Binary })
      ∷ (record { name = codes "ended"; kind = Integer; is_strict = true; not_null = false; default = Null; collation = Binary })
      ∷ (record { name = codes "gone"; kind = Integer; is_strict = true; not_null = true; default = Null; collation = Binary })
      ∷ (record { name = codes "body"; kind = Text; is_strict = true; not_null = true; default = Null; collation = Binary }) ∷ [];
  key = Some 0;
  primary = 0 ∷ [];
  uniques = (2 ∷ 3 ∷ 4 ∷ 0 ∷ []) ∷ [];
  orders = (record { digits = 0 }) ∷ [];
  checks = [];
  references = [];
  computed = [];
  stamps = record { places = []; terms = []; formats = [] };
  is_counted = false;
}

abbrev pub marks_table : SqlTable
marks_table = record {
  name = codes "marks";
  tree = 0;
  columns = (record { name = codes "current"; kind = Integer; is_strict = true; not_null = false; default = Null; collation = Binary })
      ∷ (record { name = codes "compacted"; kind = Integer; is_strict = true; not_null = true; default = Null; collation = Binary }) ∷ [];
  key = Some 0;
  primary = 0 ∷ [];
  uniques = [];
  orders = [];
  checks = [];
  references = [];
  computed = [];
  stamps = record { places = []; terms = []; formats = [] };
  is_counted = false;
}

abbrev pub no_schema : Schema
no_schema = record { tables = []; indexes = []; views = [] }

-- the table of objects, with the index by key and first revision, which its UNIQUE makes
abbrev pub object_schema : Schema
object_schema = created no_schema object_table

-- and the index by the revision that ended a row
abbrev pub ended_index : Index
ended_index = record { name = codes "object_ended"; tree = 0; table = 0; columns = 5 ∷ []; order = record { digits = 0 }; is_unique = false }

abbrev pub indexed_schema : Schema
indexed_schema = indexed object_schema object_table ended_index

-- and the table of the two numbers
abbrev pub the_schema : Schema
the_schema = created indexed_schema marks_table

-- the tree of the second table: two indexes lie between
abbrev pub marks_tree : ℕ
marks_tree = 3

abbrev pub number_value : Option ℕ → Value
number_value None = Null
number_value (Some n) = Int (pos n)

abbrev pub flag : Bool → ℕ
flag false = 0
flag true = 1

-- the row of a span: its rowid, and a column each
abbrev pub row_of : Span → Row
row_of s = Int (pos s.first) ∷ Null ∷ Int (pos s.key.kind) ∷ Words s.key.namespace ∷ Words s.key.name ∷ number_value s.ended ∷ Int (pos (flag s.gone)) ∷ Words s.body ∷ []

abbrev pub marks_row : ℕ → ℕ → Row
marks_row current compacted = Int (pos current) ∷ Null ∷ Int (pos compacted) ∷ []

abbrev pub body_value : Option (List ℕ) → Value
body_value None = Null
body_value (Some body) = Words body

-- the row that shows a change
abbrev pub shown : Change → Row
shown c = Int (pos c.revision) ∷ Int (pos c.key.kind) ∷ Words c.key.namespace ∷ Words c.key.name ∷ body_value c.body ∷ []

abbrev pub number_in : Value → ℕ
number_in (Int (pos n)) = n
number_in _ = 0

abbrev pub number_or_none : Value → Option ℕ
number_or_none (Int (pos n)) = Some n
number_or_none _ = None

abbrev pub flag_in : Value → Bool
flag_in (Int (pos (suc n))) = true
flag_in _ = false

abbrev pub text_in : Value → List ℕ
text_in (Words t) = t
text_in _ = []

abbrev pub body_in : Value → Option (List ℕ)
body_in (Words t) = Some t
body_in _ = None

-- the span that a row keeps
abbrev pub span_in : Row → Span
span_in row = record {
  first = number_in (column row 0);
  key = record { kind = number_in (column row 2); namespace = text_in (column row 3); name = text_in (column row 4) };
  ended = number_or_none (column row 5);
  gone = flag_in (column row 6);
  body = text_in (column row 7);
}

abbrev pub stored_in : Database → Stored
stored_in db = record {
  spans = map span_in (db.trees 0);
  current = number_in (column (unwrap_or (slice_get (db.trees marks_tree) 0) []) 0);
  compacted = number_in (column (unwrap_or (slice_get (db.trees marks_tree) 0) []) 2);
}

-- each row began after those before it, as rows by their rowids do
abbrev pub IsOrdered : List Span → Type 0
IsOrdered = IsAscending (λ a b. a.first < b.first)

-- all began before a revision
abbrev pub AreBelow : ℕ → List Span → Type 0
AreBelow n = AllByRecursion (λ s. s.first < n)

-- what a database holds in which this stands
pub record HasRows (st : Stored) (db : Database) : Type 0 where
  pub schema : db.schema ≡ the_schema
  pub rows : db.trees 0 ≡ map row_of st.spans
  pub marks : db.trees marks_tree ≡ marks_row st.current st.compacted ∷ []

-- As long as it is open, this stands in its tables. A connection that a fault shut answers nothing more.
pub record Keeps (st : Stored) (s : State) : Type 0 where
  pub autocommit : s.in_transaction ≡ false
  pub rows : IsTrue s.is_open → HasRows st s.now × (s.committed ≡ s.now)

-- A transaction that began where `start` stood and has made this of it, as long as its connection is open.
pub record Amid (start st : Stored) (s : State) : Type 0 where
  pub inside : IsTrue s.in_transaction
  pub rows : IsTrue s.is_open → HasRows start s.committed × HasRows st s.now

-- what a transaction that failed began from
abbrev pub Undone : Stored → State → Type 0
Undone start s = IsTrue s.is_open → HasRows start s.committed

-- a store that never lost a page, whatever was done
abbrev pub IsAlwaysClean : {S : Type 0} → Ghosts S → Type 0
IsAlwaysClean {S} g = (c : Held S) → HasCleanDisk (state g c)

-- the command that a text is
abbrev pub command_in : Result Compiled CompileError → Command
command_in (Ok c) = c.command
command_in (Err e) = Nothing

-- rows that the text reads from a database in which this stands
abbrev pub IsAnswer : List ℕ → Row → Stored → List Row → Type 0
IsAnswer sql params st rows = (db : Database) × HasRows st db × Reads (command_in (understood the_schema sql)) db params rows

-- ---- what the statements leave that make the tables

pub record IsMade (schema : Schema) (s : State) : Type 0 where
  pub schema_is : s.now.schema ≡ schema
  pub settled : s.committed ≡ s.now
  pub autocommit : s.in_transaction ≡ false
  pub is_open : IsTrue s.is_open
  pub objects : s.now.trees 0 ≡ []
