-- What CREATE and INSERT leave.
use Rattle.std.proofs.Common.{◌≡◌, ℕ, pos, List, [], ◌∷◌, ◌++◌, map, cond, Bool, true, false, Some, None, Ok, refl, sym, ap, subst, ◌∙◌, arith, Option, Bor, option_map}
use Rattle.std.proofs.lemmas.Int.{ints}
use Rattle.std.proofs.lemmas.Bool.Decides.{nat_tests}
use Rattle.sqlite_value.proofs.OrderLemmas.{value_cmp-Int}
use Rattle.sqlite_sql.specs.Ops.{unary}
use Rattle.sqlite.specs.declared.types.Value.{Value}
use Rattle.sqlite.specs.declared.types.Value.TheVariants.{Null, Int, Text as Words}
use Rattle.sqlite.specs.Source.TheVariants.{Values}
use Rattle.sqlite.specs.Command.TheVariants.{Insert, CreateIndex, CreateTable}
use Rattle.sqlite.specs.Kind.TheVariants.{Integer}
use Rattle.sqlite.specs.Change.{created, indexed, next_tree, KeepsRows}
use Rattle.sqlite.specs.Does.{Tally, Does, lacks_sequence}
use Rattle.sqlite.specs.Listing.{understood}
use Rattle.sqlite.specs.Effect.{Database}
use Rattle.sqlite.specs.State.{State, mode_of, Writes, Executes}
use Rattle.sqlite.specs.Steps.{IsEmpty}
use Rattle.sqlite.specs.Values.{bound_value, or_null}
use Rattle.sqlite.specs.Table.{Table as SqlTable}
use Rattle.sqlite.proofs.Callers.{statement_of, runs_as, one_step}
use Rattle.sqlite.specs.Edit.{edit_of, edited}
use Rattle.sqlite.specs.Cast.{cast}
use Rattle.sqlite.specs.Rowids.TheVariants.{Chosen}
use Rattle.sqlite.specs.Rows.{Written}
use Rattle.sqlite.specs.Tree.{Trees, put_row}
use Rattle.sqlite.specs.Order.{Row}
use Rattle.history.specs.History.{Key}
use Rattle.revtable.specs.Rows.{ended_index, indexed_schema, object_table, object_schema, marks_table, marks_tree, marks_row, no_schema, the_schema, body_value, row_of, stored_in, AreBelow, HasRows, IsMade, Keeps}
use Rattle.revtable.specs.Spans.{Span, Stored}
use Rattle.revtable.proofs.Texts.{create_text, create_is, create_plain, create_marks_text, create_marks_is, create_marks_plain, index_text, index_is, index_plain, begin_text, begin_terms, begin_is, begin_plain, insert_text, terms, insert_is, insert_plain}
use Rattle.revtable.proofs.Outcomes.{went, same_value, stored_back}

-- ---- CREATE

pub makes_objects : (old new : State) (count : ℕ) → IsEmpty old → Executes create_text [] old new (Ok count) → IsMade object_schema new
makes_objects old new count was h =
    let has = was.2 in
    let w = subst (λ t. Writes old new None CreateTable t [] count) create_is.1 (runs_as create_text [] old new no_schema has CreateTable create_is.0 create_plain count h) in
    let all = went w.changed in
    let first = went all.1 in
    let made = first.1 in
    let both : Ok made.table ≡ Ok object_table = sym made.defined ∙ create_is.2 in
    let same : made.table ≡ object_table = cc in
    let schema : first.0.schema ≡ object_schema = made.is ∙ ap (λ s. created s made.table) has ∙ ap (created no_schema) same in
    let plain : lacks_sequence first.0.schema ≡ false = ap lacks_sequence schema in
    let now : new.now ≡ first.0 = ap (λ (p : Tally × Database). p.1) (same_value all.2) ∙ same_value (rw plain at first.2) in
    record {
      schema_is = ap (λ (d : Database). d.schema) now ∙ schema;
      settled = w.shown.committed_is ∙ rw was.0.autocommit refl;
      autocommit = w.shown.mode ∙ was.0.autocommit;
      is_open = w.shown.is_open;
      objects = ap (λ (d : Database). d.trees 0) now ∙ subst (λ s. first.0.trees (next_tree s) ≡ []) has made.empty;
    }

pub makes_index : (old new : State) (count : ℕ) → IsMade object_schema old → Executes index_text [] old new (Ok count) → IsMade indexed_schema new
makes_index old new count was h =
    let has = was.schema_is in
    let w = subst (λ t. Writes old new None (CreateIndex 0) t [] count) index_is.1 (runs_as index_text [] old new object_schema has (CreateIndex 0) index_is.0 index_plain count h) in
    let all = went (subst (λ s. Does old.step_limit (mode_of old) [] (record old.now { schema = s }) index_text None (CreateIndex 0) (Ok (w.tally, new.now))) has w.changed) in
    let made = all.1 in
    let both : Ok made.index ≡ Ok ended_index = sym made.defined ∙ index_is.2 in
    let same : made.index ≡ ended_index = cc in
    let schema : all.0.schema ≡ indexed_schema = made.is ∙ ap (indexed object_schema object_table) same in
    let now : new.now ≡ all.0 = ap (λ (p : Tally × Database). p.1) (same_value all.2) in
    record {
      schema_is = ap (λ (d : Database). d.schema) now ∙ schema;
      settled = w.shown.committed_is ∙ rw was.autocommit refl;
      autocommit = w.shown.mode ∙ was.autocommit;
      is_open = w.shown.is_open;
      objects = ap (λ (d : Database). d.trees 0) now ∙ made.rows.0 ∙ was.objects;
    }

pub makes_marks : (old new : State) (count : ℕ) → IsMade indexed_schema old → Executes create_marks_text [] old new (Ok count) → IsMade the_schema new × (new.now.trees marks_tree ≡ [])
makes_marks old new count was h =
    let has = was.schema_is in
    let w = subst (λ t. Writes old new None CreateTable t [] count) create_marks_is.1 (runs_as create_marks_text [] old new indexed_schema has CreateTable create_marks_is.0 create_marks_plain count h) in
    let all = went w.changed in
    let first = went all.1 in
    let made = first.1 in
    let both : Ok made.table ≡ Ok marks_table = sym made.defined ∙ create_marks_is.2 in
    let same : made.table ≡ marks_table = cc in
    let schema : first.0.schema ≡ the_schema = made.is ∙ ap (λ s. created s made.table) has ∙ ap (created indexed_schema) same in
    let plain : lacks_sequence first.0.schema ≡ false = ap lacks_sequence schema in
    let now : new.now ≡ first.0 = ap (λ (p : Tally × Database). p.1) (same_value all.2) ∙ same_value (rw plain at first.2) in
    let kept : first.0.trees 0 ≡ old.now.trees 0 = (subst (λ s. KeepsRows s.tables old.now.trees first.0.trees) has made.others).0 in (
      record {
        schema_is = ap (λ (d : Database). d.schema) now ∙ schema;
        settled = w.shown.committed_is ∙ rw was.autocommit refl;
        autocommit = w.shown.mode ∙ was.autocommit;
        is_open = w.shown.is_open;
        objects = ap (λ (d : Database). d.trees 0) now ∙ kept ∙ was.objects;
      },
      ap (λ (d : Database). d.trees marks_tree) now ∙ subst (λ s. first.0.trees (next_tree s) ≡ []) has made.empty,
    )

-- ---- INSERT

either : (b : Bool) (x : Value) → cond b x x ≡ x
either true x = refl
either false x = refl

pub cast_null : cast Integer Null ≡ Null
unfolding unary
cast_null = either _ Null

pub cast_int : (n : ℕ) → cast Integer (Int (pos n)) ≡ Int (pos n)
unfolding unary
cast_int n = either _ (Int (pos n))

-- a row that began last goes to the end
puts_last : (new : Span) (spans : List Span) → AreBelow new.first spans → put_row (row_of new) (map row_of spans) ≡ map row_of (spans ++ new ∷ [])
puts_last new [] below = refl
puts_last new (s ∷ spans) below =
    let less = value_cmp-Int (pos s.first) (pos new.first) in
    let before = below.0 in
    rw less (rw (puts_last new spans below.1) (grind (arith, ints, nat_tests)))

abbrev pub begun : ℕ → Key → List ℕ → Span
begun r k body = record { first = r; key = k; ended = None; gone = false; body = body }

-- the parameters that bind a row which begins
abbrev pub bound_row : ℕ → Key → List ℕ → Row
bound_row r k body = Int (pos r) ∷ Int (pos k.kind) ∷ Words k.namespace ∷ Words k.name ∷ Words body ∷ []

-- the table of the numbers, where it stands
abbrev pub placed_marks : SqlTable
placed_marks = record marks_table { tree = marks_tree }

apart : marks_tree ≡ 0 → ⊥
apart e = absurd (omega (arith, e))

pub adds : (old new : State) (r : ℕ) (k : Key) (body : List ℕ) (st : Stored) (count : ℕ) → HasRows st old.now → AreBelow r st.spans → Executes insert_text (bound_row r k body) old new (Ok count)
    → HasRows (record { spans = st.spans ++ begun r k body ∷ []; current = st.current; compacted = st.compacted }) new.now
adds old new r k body st count was below h =
    let it = begun r k body in
    let params = bound_row r k body in
    let db = old.now.trees in
    let command = Insert 0 (Values terms 8) in
    let w = runs_as insert_text params old new the_schema was.schema command insert_is insert_plain count h in
    let text = statement_of insert_text (understood the_schema insert_text) in
    let done = went (subst (λ s. Does old.step_limit (mode_of old) params (record old.now { schema = s }) text None command (Ok (w.tally, new.now))) was.schema w.changed) in
    let now = ap (λ (p : Tally × Database). p.1) (same_value (went (went done.2).2).2) in
    let given = went done.1 in
    let written = went (went given.2).2 in
    let counted = went written.2 in
    let trees : done.0.trees ≡ written.0 = ap (λ (it : Written). it.trees) (same_value counted.2) ∙ same_value counted.1 in
    let step = one_step the_schema _ db written.0 (edit_of db object_table [] Chosen 0 given.0) refl written.1 in
    let edit : edited db (edit_of db object_table [] Chosen 0 given.0) ≡ map row_of (st.spans ++ it ∷ []) =
    ap (λ all. edited db (edit_of db object_table [] Chosen 0 all)) given.1.1 ∙ rw (was.rows, cast_null, cast_int r, cast_int k.kind, cast_int 0) (puts_last it st.spans below) in
    record {
      schema = ap (λ (d : Database). d.schema) now;
      rows = ap (λ (d : Database). d.trees 0) now ∙ ap (λ (t : Trees). t 0) trees ∙ step.rows ∙ edit;
      marks = ap (λ (d : Database). d.trees marks_tree) now ∙ ap (λ (t : Trees). t marks_tree) trees ∙ step.tables.1.0 apart ∙ was.marks;
    }

-- the first row of the two numbers
pub begins_marks : (old new : State) (r count : ℕ) → IsMade the_schema old → old.now.trees marks_tree ≡ [] → Executes begin_text (Int (pos r) ∷ []) old new (Ok count)
    → Keeps (record { spans = []; current = r; compacted = r }) new × (stored_in new.now ≡ record { spans = []; current = r; compacted = r })
begins_marks old new r count was none h =
    let st : Stored = record { spans = []; current = r; compacted = r } in
    let params = Int (pos r) ∷ [] in
    let db = old.now.trees in
    let command = Insert 1 (Values begin_terms 3) in
    let w = runs_as begin_text params old new the_schema was.schema_is command begin_is begin_plain count h in
    let text = statement_of begin_text (understood the_schema begin_text) in
    let done = went (subst (λ s. Does old.step_limit (mode_of old) params (record old.now { schema = s }) text None command (Ok (w.tally, new.now))) was.schema_is w.changed) in
    let now = ap (λ (p : Tally × Database). p.1) (same_value (went (went done.2).2).2) in
    let given = went done.1 in
    let written = went (went given.2).2 in
    let counted = went written.2 in
    let trees : done.0.trees ≡ written.0 = ap (λ (it : Written). it.trees) (same_value counted.2) ∙ same_value counted.1 in
    let step = one_step the_schema _ db written.0 (edit_of db placed_marks [] Chosen 0 given.0) refl written.1 in
    let edit : edited db (edit_of db placed_marks [] Chosen 0 given.0) ≡ marks_row r r ∷ [] =
    ap (λ all. edited db (edit_of db placed_marks [] Chosen 0 all)) given.1.1 ∙ rw (none, cast_null, cast_int r) refl in
    let has : HasRows st new.now = record {
      schema = ap (λ (d : Database). d.schema) now;
      rows = ap (λ (d : Database). d.trees 0) now ∙ ap (λ (t : Trees). t 0) trees ∙ step.tables.0 (λ e. apart (sym e)) ∙ was.objects;
      marks = ap (λ (d : Database). d.trees marks_tree) now ∙ ap (λ (t : Trees). t marks_tree) trees ∙ step.rows ∙ edit;
    } in (
      record { autocommit = w.shown.mode ∙ was.autocommit; rows = λ live. (has, w.shown.committed_is ∙ rw was.autocommit refl) },
      stored_back st new.now has,
    )

-- ---- parameters

pub bound_body : (b : Option (Bor (List ℕ))) → bound_value (or_null (λ s. Words s.now) b) ≡ body_value (option_map (λ s. s.now) b)
bound_body None = refl
bound_body (Some s) = refl
