-- What the texts of the statements mean.
use Rattle.std.proofs.Common.{◌≡◌, ℕ, pos, negsuc, List, [], ◌∷◌, codes, true, false, Some, None, Ok, refl}
use Rattle.sqlite.specs.declared.types.Value.TheVariants.{Null, Int}
use Rattle.sqlite.specs.Term.{Term, lit, col, op2}
use Rattle.sqlite.specs.Collation.TheVariants.{Binary}
use Rattle.sqlite_sql.specs.declared.ops.CompareOp.TheVariants.{Eq, Gt, Ge, Le}
use Rattle.sqlite_sql.specs.declared.ops.BinaryOp.TheVariants.{Compare, Or, Is}
use Rattle.sqlite_sql.specs.declared.aggregate.AggregateOp.TheVariants.{CountRows as Count}
use Rattle.sqlite_sql.specs.Group.{Aggregate, Grouping}
use Rattle.sqlite.specs.Query.{Query, inner, end}
use Rattle.sqlite.specs.Source.TheVariants.{Values}
use Rattle.sqlite.specs.Command.TheVariants.{Insert, Select, Update, Delete, CreateTable, CreateIndex}
use Rattle.sqlite.specs.Compile.{index_defined_by, table_defined_by}
use Rattle.sqlite_tied.specs.Compute.{everything}
use Rattle.sqlite.specs.Listing.{understood, reads_listing}
use Rattle.sqlite.proofs.Callers.{IsPlain, command_of, statement_of}
use Rattle.revtable.specs.Rows.{ended_index, indexed_schema, object_table, object_schema, marks_table, the_schema, no_schema}

-- ---- the tables

abbrev pub create_text : List ℕ
create_text = codes "CREATE TABLE object (first INTEGER PRIMARY KEY, kind INTEGER NOT NULL, namespace TEXT NOT NULL, name TEXT NOT NULL, ended INTEGER, gone INTEGER NOT NULL, body TEXT NOT NULL, UNIQUE (kind, namespace, name, first)) STRICT"

pub create_is : (command_of (understood no_schema create_text) ≡ CreateTable) × (statement_of create_text (understood no_schema create_text) ≡ create_text) × (table_defined_by create_text ≡ Ok object_table)
unfolding understood everything
create_is = (refl, refl, refl)

pub create_plain : IsPlain (understood no_schema create_text)
unfolding understood everything
create_plain = (refl, refl)

abbrev pub index_text : List ℕ
index_text = codes "CREATE INDEX object_ended ON object (ended)"

pub index_is : (command_of (understood object_schema index_text) ≡ CreateIndex 0) × (statement_of index_text (understood object_schema index_text) ≡ index_text) × (index_defined_by object_table index_text ≡ Ok ended_index)
unfolding understood everything
index_is = (refl, refl, refl)

pub index_plain : IsPlain (understood object_schema index_text)
unfolding understood everything
index_plain = (refl, refl)

abbrev pub create_marks_text : List ℕ
create_marks_text = codes "CREATE TABLE marks (current INTEGER PRIMARY KEY, compacted INTEGER NOT NULL) STRICT"

pub create_marks_is : (command_of (understood indexed_schema create_marks_text) ≡ CreateTable) × (statement_of create_marks_text (understood indexed_schema create_marks_text) ≡ create_marks_text) × (table_defined_by create_marks_text ≡ Ok marks_table)
unfolding understood everything
create_marks_is = (refl, refl, refl)

pub create_marks_plain : IsPlain (understood indexed_schema create_marks_text)
unfolding understood everything
create_marks_plain = (refl, refl)

-- ---- the two numbers

abbrev pub begin_text : List ℕ
begin_text = codes "INSERT INTO marks (current, compacted) VALUES (?1, ?1)"

abbrev pub begin_terms : List Term
begin_terms = col 0 0 ∷ lit Null ∷ col 0 0 ∷ []

pub begin_is : command_of (understood the_schema begin_text) ≡ Insert 1 (Values begin_terms 3)
unfolding understood everything
begin_is = refl

pub begin_plain : IsPlain (understood the_schema begin_text)
unfolding understood everything
begin_plain = (refl, refl)

abbrev pub set_text : List ℕ
set_text = codes "UPDATE marks SET current = ?1, compacted = ?2"

abbrev pub set_query : Query
set_query = record {
  from = inner 3 end;
  filter = [];
  group = None;
  project = col 1 0 ∷ col 0 0 ∷ lit Null ∷ col 0 1 ∷ [];
  distinct = false;
  collations = [];
  order = [];
  limit = lit (Int (negsuc 0));
  offset = lit (Int (pos 0));
}

pub set_is : command_of (understood the_schema set_text) ≡ Update 1 (record { lets = []; body = set_query })
unfolding understood everything
set_is = refl

pub set_plain : IsPlain (understood the_schema set_text)
unfolding understood everything
set_plain = (refl, refl)

abbrev pub marks_text : List ℕ
marks_text = codes "SELECT current, compacted FROM marks"

abbrev pub marks_query : Query
marks_query = record {
  from = inner 3 end;
  filter = [];
  group = None;
  project = col 1 0 ∷ col 1 2 ∷ [];
  distinct = false;
  collations = [];
  order = [];
  limit = lit (Int (negsuc 0));
  offset = lit (Int (pos 0));
}

pub marks_is : (command_of (understood the_schema marks_text) ≡ Select (record { lets = []; body = marks_query }) (codes "current" ∷ codes "compacted" ∷ [])) × (reads_listing the_schema marks_text ≡ false)
unfolding understood everything
marks_is = (refl, refl)

pub marks_plain : IsPlain (understood the_schema marks_text)
unfolding understood everything
marks_plain = (refl, refl)

-- ---- a write

-- the last row of a key
abbrev pub last_text : List ℕ
last_text = codes "SELECT first FROM object WHERE kind = ?1 AND namespace = ?2 AND name = ?3 ORDER BY first DESC LIMIT 1"

abbrev pub key_tests : List Term
key_tests = op2 (Compare Eq Binary) (col 1 2) (col 0 0) ∷ op2 (Compare Eq Binary) (col 1 3) (col 0 1) ∷ op2 (Compare Eq Binary) (col 1 4) (col 0 2) ∷ []

abbrev pub last_query : Query
last_query = record {
  from = inner 0 end;
  filter = key_tests;
  group = None;
  project = col 1 0 ∷ [];
  distinct = false;
  collations = [];
  order = (col 1 0, record { collation = Binary; descending = true }) ∷ [];
  limit = lit (Int (pos 1));
  offset = lit (Int (pos 0));
}

pub last_is : (command_of (understood the_schema last_text) ≡ Select (record { lets = []; body = last_query }) (codes "first" ∷ [])) × (reads_listing the_schema last_text ≡ false)
unfolding understood everything
last_is = (refl, refl)

pub last_plain : IsPlain (understood the_schema last_text)
unfolding understood everything
last_plain = (refl, refl)

-- the end of a row
abbrev pub end_text : List ℕ
end_text = codes "UPDATE object SET ended = ?2, gone = ?3 WHERE first = ?1 AND ended IS NULL"

abbrev pub end_query : Query
end_query = record {
  from = inner 0 end;
  filter = op2 (Compare Eq Binary) (col 1 0) (col 0 0) ∷ op2 (Is Binary) (col 1 5) (lit Null) ∷ [];
  group = None;
  project = col 1 0 ∷ col 1 0 ∷ lit Null ∷ col 1 2 ∷ col 1 3 ∷ col 1 4 ∷ col 0 1 ∷ col 0 2 ∷ col 1 7 ∷ [];
  distinct = false;
  collations = [];
  order = [];
  limit = lit (Int (negsuc 0));
  offset = lit (Int (pos 0));
}

pub end_is : command_of (understood the_schema end_text) ≡ Update 0 (record { lets = []; body = end_query })
unfolding understood everything
end_is = refl

pub end_plain : IsPlain (understood the_schema end_text)
unfolding understood everything
end_plain = (refl, refl)

abbrev pub insert_text : List ℕ
insert_text = codes "INSERT INTO object (first, kind, namespace, name, ended, gone, body) VALUES (?1, ?2, ?3, ?4, NULL, 0, ?5)"

abbrev pub terms : List Term
terms = col 0 0 ∷ lit Null ∷ col 0 1 ∷ col 0 2 ∷ col 0 3 ∷ lit Null ∷ lit (Int (pos 0)) ∷ col 0 4 ∷ []

pub insert_is : command_of (understood the_schema insert_text) ≡ Insert 0 (Values terms 8)
unfolding understood everything
insert_is = refl

pub insert_plain : IsPlain (understood the_schema insert_text)
unfolding understood everything
insert_plain = (refl, refl)

-- ---- a compaction

abbrev pub delete_text : List ℕ
delete_text = codes "DELETE FROM object WHERE ended > 0 AND ended <= ?1"

abbrev pub delete_query : Query
delete_query = record {
  from = inner 0 end;
  filter = op2 (Compare Gt Binary) (col 1 5) (lit (Int (pos 0))) ∷ op2 (Compare Le Binary) (col 1 5) (col 0 0) ∷ [];
  group = None;
  project = col 1 0 ∷ [];
  distinct = false;
  collations = [];
  order = [];
  limit = lit (Int (negsuc 0));
  offset = lit (Int (pos 0));
}

pub delete_is : command_of (understood the_schema delete_text) ≡ Delete 0 (record { lets = []; body = delete_query })
unfolding understood everything
delete_is = refl

pub delete_plain : IsPlain (understood the_schema delete_text)
unfolding understood everything
delete_plain = (refl, refl)

-- ---- what stands at a revision

abbrev pub columns : List Term
columns = col 1 0 ∷ col 1 2 ∷ col 1 3 ∷ col 1 4 ∷ col 1 7 ∷ []

abbrev pub names : List (List ℕ)
names = codes "first" ∷ codes "kind" ∷ codes "namespace" ∷ codes "name" ∷ codes "body" ∷ []

-- the tests that a row stands at the revision of a parameter
abbrev pub stands_tests : Term → List Term
stands_tests to = op2 (Compare Le Binary) (col 1 0) to ∷ op2 Or (op2 (Is Binary) (col 1 5) (lit Null)) (op2 (Compare Gt Binary) (col 1 5) to) ∷ []

-- the row that stood under a key
abbrev pub newest_text : List ℕ
newest_text = codes "SELECT first, kind, namespace, name, body FROM object WHERE kind = ?1 AND namespace = ?2 AND name = ?3 AND first <= ?4 AND (ended IS NULL OR ended > ?4) ORDER BY first DESC LIMIT 1"

abbrev pub newest_query : Query
newest_query = record {
  from = inner 0 end;
  filter = op2 (Compare Eq Binary) (col 1 2) (col 0 0) ∷ op2 (Compare Eq Binary) (col 1 3) (col 0 1) ∷ op2 (Compare Eq Binary) (col 1 4) (col 0 2) ∷ stands_tests (col 0 3);
  group = None;
  project = columns;
  distinct = false;
  collations = [];
  order = (col 1 0, record { collation = Binary; descending = true }) ∷ [];
  limit = lit (Int (pos 1));
  offset = lit (Int (pos 0));
}

pub newest_is : (command_of (understood the_schema newest_text) ≡ Select (record { lets = []; body = newest_query }) names) × (reads_listing the_schema newest_text ≡ false)
unfolding understood everything
newest_is = (refl, refl)

pub newest_plain : IsPlain (understood the_schema newest_text)
unfolding understood everything
newest_plain = (refl, refl)

-- the rows that stand and pass further tests, in the order of keys
abbrev pub page_query : List Term → Query
page_query asked = record {
  from = inner 0 end;
  filter = asked;
  group = None;
  project = columns;
  distinct = false;
  collations = [];
  order = (col 1 3, record { collation = Binary; descending = false }) ∷ (col 1 4, record { collation = Binary; descending = false }) ∷ [];
  limit = col 0 1;
  offset = lit (Int (pos 0));
}

-- of a type, in one namespace, perhaps after a name
abbrev pub in_text : List ℕ
in_text = codes "SELECT first, kind, namespace, name, body FROM object WHERE kind = ?3 AND namespace = ?4 AND name >= ?5 AND first <= ?1 AND (ended IS NULL OR ended > ?1) ORDER BY namespace, name LIMIT ?2"

abbrev pub in_tests : List Term
in_tests = op2 (Compare Eq Binary) (col 1 2) (col 0 2) ∷ op2 (Compare Eq Binary) (col 1 3) (col 0 3) ∷ op2 (Compare Ge Binary) (col 1 4) (col 0 4) ∷ stands_tests (col 0 0)

pub in_is : (command_of (understood the_schema in_text) ≡ Select (record { lets = []; body = page_query in_tests }) names) × (reads_listing the_schema in_text ≡ false)
unfolding understood everything
in_is = (refl, refl)

pub in_plain : IsPlain (understood the_schema in_text)
unfolding understood everything
in_plain = (refl, refl)

-- of a type, in the namespaces from a text on
abbrev pub from_text : List ℕ
from_text = codes "SELECT first, kind, namespace, name, body FROM object WHERE kind = ?3 AND namespace >= ?4 AND first <= ?1 AND (ended IS NULL OR ended > ?1) ORDER BY namespace, name LIMIT ?2"

abbrev pub from_tests : List Term
from_tests = op2 (Compare Eq Binary) (col 1 2) (col 0 2) ∷ op2 (Compare Ge Binary) (col 1 3) (col 0 3) ∷ stands_tests (col 0 0)

pub from_is : (command_of (understood the_schema from_text) ≡ Select (record { lets = []; body = page_query from_tests }) names) × (reads_listing the_schema from_text ≡ false)
unfolding understood everything
from_is = (refl, refl)

pub from_plain : IsPlain (understood the_schema from_text)
unfolding understood everything
from_plain = (refl, refl)

-- ---- the changes after one revision up to another, of a type and perhaps a namespace

abbrev pub within_tests : List Term
within_tests = op2 (Compare Eq Binary) (col 1 2) (col 0 2) ∷ op2 Or (op2 (Is Binary) (col 0 3) (lit Null)) (op2 (Compare Eq Binary) (col 1 3) (col 0 3)) ∷ []

-- those that left an object
abbrev pub made_text : List ℕ
made_text = codes "SELECT first, kind, namespace, name, body FROM object WHERE first > ?1 AND first <= ?2 AND kind = ?3 AND (?4 IS NULL OR namespace = ?4) ORDER BY first LIMIT ?5"

abbrev pub made_query : Query
made_query = record {
  from = inner 0 end;
  filter = op2 (Compare Gt Binary) (col 1 0) (col 0 0) ∷ op2 (Compare Le Binary) (col 1 0) (col 0 1) ∷ within_tests;
  group = None;
  project = columns;
  distinct = false;
  collations = [];
  order = (col 1 0, record { collation = Binary; descending = false }) ∷ [];
  limit = col 0 4;
  offset = lit (Int (pos 0));
}

pub made_is : (command_of (understood the_schema made_text) ≡ Select (record { lets = []; body = made_query }) names) × (reads_listing the_schema made_text ≡ false)
unfolding understood everything
made_is = (refl, refl)

pub made_plain : IsPlain (understood the_schema made_text)
unfolding understood everything
made_plain = (refl, refl)

-- deletions
abbrev pub deleted_text : List ℕ
deleted_text = codes "SELECT ended, kind, namespace, name, NULL FROM object WHERE ended > ?1 AND ended <= ?2 AND gone = 1 AND kind = ?3 AND (?4 IS NULL OR namespace = ?4) ORDER BY ended LIMIT ?5"

abbrev pub deleted_query : Query
deleted_query = record {
  from = inner 0 end;
  filter = op2 (Compare Gt Binary) (col 1 5) (col 0 0) ∷ op2 (Compare Le Binary) (col 1 5) (col 0 1) ∷ op2 (Compare Eq Binary) (col 1 6) (lit (Int (pos 1))) ∷ within_tests;
  group = None;
  project = col 1 5 ∷ col 1 2 ∷ col 1 3 ∷ col 1 4 ∷ lit Null ∷ [];
  distinct = false;
  collations = [];
  order = (col 1 5, record { collation = Binary; descending = false }) ∷ [];
  limit = col 0 4;
  offset = lit (Int (pos 0));
}

abbrev pub deleted_names : List (List ℕ)
deleted_names = codes "ended" ∷ codes "kind" ∷ codes "namespace" ∷ codes "name" ∷ codes "NULL" ∷ []

pub deleted_is : (command_of (understood the_schema deleted_text) ≡ Select (record { lets = []; body = deleted_query }) deleted_names) × (reads_listing the_schema deleted_text ≡ false)
unfolding understood everything
deleted_is = (refl, refl)

pub deleted_plain : IsPlain (understood the_schema deleted_text)
unfolding understood everything
deleted_plain = (refl, refl)

-- ---- the number of rows

abbrev pub count_text : List ℕ
count_text = codes "SELECT COUNT(*) FROM object"

abbrev pub count_all : Aggregate
count_all = record { op = Count; distinct = false; collation = Binary; argument = lit Null }

abbrev pub count_grouping : Grouping
count_grouping = record { keys = []; collations = []; aggregates = count_all ∷ []; having = [] }

abbrev pub count_query : Query
count_query = record {
  from = inner 0 end;
  filter = [];
  group = Some count_grouping;
  project = col 1 0 ∷ [];
  distinct = false;
  collations = [];
  order = [];
  limit = lit (Int (negsuc 0));
  offset = lit (Int (pos 0));
}

pub count_is : (command_of (understood the_schema count_text) ≡ Select (record { lets = []; body = count_query }) (codes "COUNT(*)" ∷ [])) × (reads_listing the_schema count_text ≡ false)
unfolding understood everything
count_is = (refl, refl)

pub count_plain : IsPlain (understood the_schema count_text)
unfolding understood everything
count_plain = (refl, refl)
