-- What a statement that fails leaves, and what a query leaves.
use Rattle.std.proofs.Common.{◌≡◌, ◌⊎◌, inl, inr, ℕ, pos, List, [], map, Bool, true, false, Some, None, Ok, Err, Result, IfOk, refl, sym, ap, ap₂, subst, ◌∙◌, Option, IsTrue, true≢false, slice_get, unwrap_or}
use Rattle.std.proofs.lemmas.Bool.{cases_Bool}
use Rattle.std.specs.Prelude.{Vec, IfErr}
use Rattle.std.specs.declared.alloc.Global.{Global}
use Rattle.sqlite.specs.Order.{Row, column}
use Rattle.sqlite.specs.declared.types.Value.TheVariants.{Int}
use Rattle.sqlite.specs.declared.error.Error.{Error}
use Rattle.sqlite.specs.Effect.{Database, Reads}
use Rattle.sqlite_resolve.specs.declared.compiled.Compiled.{Compiled}
use Rattle.sqlite_schema.specs.declared.command.Command.{Command}
use Rattle.sqlite_schema.specs.declared.command.Command.TheVariants.{Select, Insert, InsertOr, Update, Delete, CreateTable, CreateIndex, DropTable, DropIndex, Begin, Commit, Rollback, Savepoint as Save, Release, RollbackTo, Nothing, CreateView, DropView, Rows}
use Rattle.sqlite_schema.specs.declared.command.Returning.{Returning}
use Rattle.sqlite.specs.Listing.{understood, reads_listing}
use Rattle.sqlite.specs.State.{State, Executes, Shown, IsUnchanged, FailsToQuery, FailsToShow, ShowsRows, Fails, IsNotRun, IsRolledBack, ExecutesIn, RunsCommand, Runs, ReleasesAt, shows_rows}
use Rattle.sqlite.proofs.Callers.{IsPlain, command_of, reads_as}
use Rattle.sqlite_resolve.specs.declared.error.CompileError.{CompileError}
use Rattle.sqlite_keyed.proofs.ListLemmas.{map_back}
use Rattle.revtable.specs.Rows.{the_schema, row_of, span_in, stored_in, number_in, number_or_none, number_value, flag, flag_in, command_in, HasRows, IsAnswer, Keeps}
use Rattle.revtable.specs.Spans.{Span, Stored}

-- a part that gave a value did not stop on the way
pub went : {B E R : Type 0} {b : B} {Stops : E → Type 0} → ((stop : E) × Stops stop × (Ok b ≡ Err stop)) ⊎ R → R
went (inl stopped) = absurd (let e = stopped.2 in cc)
went (inr on) = on

pub same_value : {B E : Type 0} {a b : B} → ◌≡◌ {A = Result B E} (Ok a) (Ok b) → a ≡ b
same_value e = cc

-- ---- a call that ends with the connection open began so, and one that begins outside of a transaction ends so

pub record Goes (old new : State) : Type 0 where
  pub autocommit : old.in_transaction ≡ false → new.in_transaction ≡ false
  pub was_open : IsTrue new.is_open → IsTrue old.is_open

goes_by : (old new : State) → IsUnchanged old new → Goes old new
goes_by old new u = record { autocommit = λ auto. u.0.mode ∙ auto; was_open = λ _. u.0.was_open }

goes_back : (old new : State) → IsRolledBack old new → Goes old new
goes_back old new r = record { autocommit = λ _. r.autocommit; was_open = r.was_open }

module _ (old new : State) where
  goes_not_run : (sql : List ℕ) (params : Row) (e : Error) → IsNotRun old new sql params e → Goes old new
  unfolding IsNotRun
  goes_not_run sql params e (inl h) = goes_by old new h.1
  goes_not_run sql params e (inr h) = goes_back old new h.3

  goes_failed : (sql : List ℕ) (c : Compiled) (params : Row) (e : Error) → RunsCommand old new sql c params (Err e) → Goes old new
  goes_failed sql c params e (inl h) = goes_by old new h.1
  goes_failed sql c params e (inr h) = goes_back old new h.3

  goes_refused : (sql : List ℕ) (params : Row) (e : Error) → Executes sql params old new (Err e) → Goes old new
  unfolding ExecutesIn
  goes_refused sql params e (inl h) = goes_not_run sql params e h
  goes_refused sql params e (inr h) = elim (cases_Bool (shows_rows false h.0)) [
    | inl shows ↦ goes_by old new (rw shows at h.2).1
    | inr runs ↦ goes_failed sql h.0 _ e (rw runs at h.2)
  ]

  goes_unshown : (sql : List ℕ) (c : Compiled) (params : Row) (e : Error) (r : Option Returning) → FailsToShow old new sql c params e r → Goes old new
  goes_unshown sql c params e None h = goes_by old new h.3
  goes_unshown sql c params e (Some what) h = goes_failed sql c params e h

  goes_unanswered : (sql : List ℕ) (params : Row) (e : Error) → FailsToQuery sql params old new e → Goes old new
  unfolding FailsToQuery
  goes_unanswered sql params e (inl h) = goes_not_run sql params e h
  goes_unanswered sql params e (inr h) = goes_unshown sql h.0 _ e h.0.returning h.2

  open_as_shown : (sql : List ℕ) (c : Compiled) (params : Row) (rows : List Row) (r : Option Returning) → ShowsRows old new sql c params rows r → IsTrue old.is_open × Goes old new
  open_as_shown sql c params rows None h = (h.3.0.was_open, goes_by old new h.3)
  open_as_shown sql c params rows (Some what) h = (h.1.shown.was_open, record { autocommit = λ auto. h.1.shown.mode ∙ auto; was_open = λ _. h.1.shown.was_open })

  -- what answers was open
  pub open_if_shown : (sql : List ℕ) (params : Row) (rows : List Row) → Shown sql params old new rows → IsTrue old.is_open × Goes old new
  unfolding Shown
  open_if_shown sql params rows h = open_as_shown sql h.0 _ rows h.0.returning h.2

  released_open : (at : ℕ) → ReleasesAt old new at → IsTrue old.is_open
  released_open at (inl h) = h.1.0.was_open
  released_open at (inr h) = h.1.0.was_open

  open_if_run : (r : Option Returning) (command : Command) (text : List ℕ) (params : Row) (count : ℕ) → old.in_transaction ≡ false → Runs old new r command text params count → IsTrue old.is_open
  open_if_run r (Select q names) text params count auto h = absurd h
  open_if_run r (Insert at from) text params count auto h = h.shown.was_open
  open_if_run r (InsertOr at how from clauses) text params count auto h = h.shown.was_open
  open_if_run r (Update at q) text params count auto h = h.shown.was_open
  open_if_run r (Delete at q) text params count auto h = h.shown.was_open
  open_if_run r CreateTable text params count auto h = h.shown.was_open
  open_if_run r (CreateIndex at) text params count auto h = h.shown.was_open
  open_if_run r (DropTable at) text params count auto h = h.shown.was_open
  open_if_run r (DropIndex at) text params count auto h = h.shown.was_open
  open_if_run r Begin text params count auto h = h.1.was_open
  open_if_run r Commit text params count auto h = h.1.was_open
  open_if_run r Rollback text params count auto h = absurd (true≢false (sym h.0 ∙ auto))
  open_if_run r (Save name) text params count auto h = h.0.0.was_open
  open_if_run r (Release name) text params count auto h = released_open h.0 h.2
  open_if_run r (RollbackTo name) text params count auto h = h.2.2.was_open
  open_if_run r (Rows values width names) text params count auto h = h.0.0.was_open
  open_if_run r Nothing text params count auto h = h.0.0.was_open
  open_if_run r CreateView text params count auto h = h.shown.was_open
  open_if_run r (DropView at) text params count auto h = h.shown.was_open

  -- what ran outside of a transaction was open
  pub open_if_ran : (sql : List ℕ) (params : Row) (count : ℕ) → old.in_transaction ≡ false → Executes sql params old new (Ok count) → IsTrue old.is_open
  unfolding ExecutesIn
  open_if_ran sql params count auto h = elim (cases_Bool (shows_rows false h.0)) [
    | inl shows ↦ absurd (let e = (rw shows at h.2).0 in cc)
    | inr runs ↦ open_if_run h.0.returning h.0.command _ _ count auto (rw runs at h.2)
  ]

-- ---- what a call leaves as it was

pub record IsSame (old new : State) : Type 0 where
  pub now : new.now ≡ old.now
  pub committed : new.committed ≡ old.committed
  pub autocommit : new.in_transaction ≡ false

pub record IsKept (st : Stored) (s : State) : Type 0 where
  pub has : HasRows st s.now
  pub settled : s.committed ≡ s.now
  pub autocommit : s.in_transaction ≡ false
  pub is_open : IsTrue s.is_open

pub kept_by : (st : Stored) (s : State) → Keeps st s → IsTrue s.is_open → IsKept st s
kept_by st s keeps live = let was = keeps.rows live in record { has = was.0; settled = was.1; autocommit = keeps.autocommit; is_open = live }

module _ (st : Stored) (old new : State) (kept : IsKept st old) where
  pub same_if_unchanged : IsUnchanged old new → IsSame old new
  same_if_unchanged u = record { now = u.0.now_is; committed = u.0.committed_is; autocommit = u.0.mode ∙ kept.autocommit }

  same_if_failed : (big : Type 0) (e : Error) → IsTrue new.is_open → Fails old new big e → IsSame old new
  same_if_failed big e live f =
      let undone = f.3.undone live in
      record { now = undone.0 ∙ kept.settled; committed = undone.1; autocommit = f.3.autocommit }

  not_run : (sql : List ℕ) (params : Row) (e : Error) → IsTrue new.is_open → IsNotRun old new sql params e → IsSame old new
  unfolding IsNotRun
  not_run sql params e live (inl h) = same_if_unchanged h.1
  not_run sql params e live (inr h) = same_if_failed ⊥ e live h

  -- a statement that is refused or fails leaves everything as it was
  refused : (sql : List ℕ) (params : Row) (e : Error) → IsTrue new.is_open → Executes sql params old new (Err e) → IsSame old new
  unfolding ExecutesIn
  refused sql params e live (inl h) = not_run sql params e live h
  refused sql params e live (inr h) = elim (cases_Bool (shows_rows false h.0)) [
    | inl shows ↦ same_if_unchanged (rw shows at h.2).1
    | inr runs ↦ elim (rw runs at h.2) [ inl r ↦ same_if_unchanged r.1 | inr f ↦ same_if_failed _ e live f ]
  ]

  pub same_keeps : IsSame old new → HasRows st new.now × (new.committed ≡ new.now)
  same_keeps same = (subst (HasRows st) (sym same.now) kept.has, same.committed ∙ kept.settled ∙ sym same.now)

-- ---- the rows say what stands

number_back : (o : Option ℕ) → number_or_none (number_value o) ≡ o
number_back None = refl
number_back (Some n) = refl

flag_back : (b : Bool) → flag_in (Int (pos (flag b))) ≡ b
flag_back true = refl
flag_back false = refl

back : (s : Span) → span_in (row_of s) ≡ s
back s = rw (number_back s.ended, flag_back s.gone) refl

abbrev stored_by : List Row → List Row → Stored
stored_by rows marks = record { spans = map span_in rows; current = number_in (column (unwrap_or (slice_get marks 0) []) 0); compacted = number_in (column (unwrap_or (slice_get marks 0) []) 2) }

pub stored_back : (st : Stored) (db : Database) → HasRows st db → stored_in db ≡ st
stored_back st db h = ap₂ stored_by h.rows h.marks ∙ ap (λ l. record { spans = l; current = st.current; compacted = st.compacted }) (map_back row_of span_in back st.spans)

-- ---- queries

module _ (sql : List ℕ) (plain : IsPlain (understood the_schema sql)) (old new : State) (params : Row) (st : Stored) (kept : IsKept st old) where
  query_failed : (e : Error) → IsTrue new.is_open → FailsToQuery sql params old new e → IsSame old new
  unfolding FailsToQuery
  query_failed e live (inl h) = not_run st old new kept sql params e live h
  query_failed e live (inr h) =
      let known = sym h.1.is ∙ ap (λ s. understood s sql) kept.has.schema in
      let bare = subst IsPlain (sym known) plain in
      let f = subst (FailsToShow old new sql h.0 _ e) bare.0 h.2 in
      same_if_unchanged st old new kept f.3

  query_shown : (rows : List Row) → Shown sql params old new rows → IsSame old new
  unfolding Shown
  query_shown rows h =
      let known = sym h.1.is ∙ ap (λ s. understood s sql) kept.has.schema in
      let bare = subst IsPlain (sym known) plain in
      let s = subst (ShowsRows old new sql h.0 _ rows) bare.0 h.2 in
      same_if_unchanged st old new kept s.3

  -- a query leaves everything as it was, whatever it answers
  after_query : (r : Result (Vec Row Global) Error) → IsTrue new.is_open → IfOk r (λ rows. Shown sql params old new rows.items) → IfErr r (FailsToQuery sql params old new)
      → HasRows st new.now × (new.committed ≡ new.now)
  after_query (Ok rows) live ok err = same_keeps st old new kept (query_shown rows.items ok)
  after_query (Err e) live ok err = same_keeps st old new kept (query_failed e live err)

pub when_ok : {A E : Type 0} (r : Result A E) (P Q : A → Type 0) → ((a : A) → P a → Q a) → IfOk r P → IfOk r Q
when_ok (Ok a) P Q f h = f a h
when_ok (Err e) P Q f h = tt

-- ---- a connection that may be shut

goes_asked : (sql : List ℕ) (old new : State) (params : Row) (r : Result (Vec Row Global) Error) → IfOk r (λ rows. Shown sql params old new rows.items) → IfErr r (FailsToQuery sql params old new) → Goes old new
goes_asked sql old new params (Ok rows) ok err = (open_if_shown old new sql params rows.items ok).1
goes_asked sql old new params (Err e) ok err = goes_unanswered old new sql params e err

-- a query leaves what the connection keeps
pub asked_keeps : (sql : List ℕ) → IsPlain (understood the_schema sql) → (old new : State) (params : Row) (st : Stored) (r : Result (Vec Row Global) Error) → Keeps st old
    → IfOk r (λ rows. Shown sql params old new rows.items) → IfErr r (FailsToQuery sql params old new) → Keeps st new
asked_keeps sql plain old new params st r keeps ok err =
    let goes = goes_asked sql old new params r ok err in
    record { autocommit = goes.autocommit keeps.autocommit; rows = λ live. after_query sql plain old new params st (kept_by st old keeps (goes.was_open live)) r live ok err }

pub same_command : (r : Result Compiled CompileError) → command_of r ≡ command_in r
same_command (Ok c) = refl
same_command (Err e) = refl

-- an answer is one to the rows that the connection keeps
pub shows : (sql : List ℕ) → IsPlain (understood the_schema sql) → reads_listing the_schema sql ≡ false → (old new : State) (params : Row) (st : Stored) (r : Result (Vec Row Global) Error) → Keeps st old
    → IfOk r (λ rows. Shown sql params old new rows.items) → IfOk r (λ rows. IsAnswer sql params st rows.items)
shows sql plain unlisted old new params st r keeps ok = when_ok r _ _ (λ rows h.
    let was = (keeps.rows (open_if_shown old new sql params rows.items h).0).0 in (
      old.now,
      was,
      subst (λ k. Reads k old.now params rows.items) (same_command (understood the_schema sql)) (reads_as sql params old new the_schema was.schema _ refl plain unlisted rows.items h),
    )) ok

-- what a command finds of the rows that stand
pub answered : {E : Type 0} (sql : List ℕ) (command : Command) (params : Row) (st : Stored) (r : Result (Vec Row Global) E) (found : List Row) → command_of (understood the_schema sql) ≡ command
    → ((db : Database) (rows : List Row) → HasRows st db → Reads command db params rows → rows ≡ found)
    → IfOk r (λ rows. IsAnswer sql params st rows.items) → IfOk r (λ rows. rows.items ≡ found)
answered sql command params st r found is finds ok =
    when_ok r _ _ (λ rows h. finds h.0 rows.items h.1 (subst (λ k. Reads k h.0 params rows.items) (sym (same_command (understood the_schema sql)) ∙ is) h.2)) ok
