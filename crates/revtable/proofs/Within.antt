-- What a transaction shows on its way, and what its end leaves.
use Rattle.std.proofs.Common.{◌≡◌, ◌⊎◌, inl, inr, ℕ, List, Some, None, Ok, Err, Result, IfOk, OnErr, true, false, refl, sym, ap, subst, ◌∙◌, Option, true≢false}
use Rattle.std.specs.Prelude.{Vec, IfErr}
use Rattle.std.specs.declared.alloc.Global.{Global}
use Rattle.sqlite.specs.Order.{Row}
use Rattle.sqlite.specs.declared.error.Error.{Error}
use Rattle.sqlite.specs.Effect.{Database, Reads}
use Rattle.sqlite_schema.specs.declared.command.Command.{Command}
use Rattle.sqlite_resolve.specs.declared.compiled.Compiled.{Compiled}
use Rattle.sqlite_schema.specs.declared.command.Returning.{Returning}
use Rattle.sqlite.specs.Listing.{understood, reads_listing}
use Rattle.sqlite.specs.State.{State, Shown, Shows, IsUnchanged, FailsToQuery, FailsToShow, ShowsRows, IsNotRun, IsRolledBack, IsTooLate, KeepsCommit, Executes, ExecutesInside, RunsCommand}
use Rattle.sqlite.specs.Steps.{FailsToCommit}
use Rattle.sqlite.proofs.Callers.{IsPlain, command_of, reads_as}
use Rattle.sqlite.proofs.InsideLemmas.{inside_keeps, unchanged_keeps}
use Rattle.revtable.specs.Rows.{the_schema, stored_in, Amid, HasRows, IsAnswer, Keeps, Undone}
use Rattle.revtable.specs.Spans.{Stored}
use Rattle.revtable.proofs.Outcomes.{open_if_shown, same_command, stored_back, when_ok}

-- ---- queries on its way

module _ (sql : List ℕ) (plain : IsPlain (understood the_schema sql)) (old new : State) (params : Row) where
  unchanged_by : (rows : List Row) → old.now.schema ≡ the_schema → Shown sql params old new rows → IsUnchanged old new
  unfolding Shown
  unchanged_by rows schema h =
      let known = sym h.1.is ∙ ap (λ s. understood s sql) schema in
      let bare = subst IsPlain (sym known) plain in
      (subst (ShowsRows old new sql h.0 _ rows) bare.0 h.2).3

  pub asked_within : (start st : Stored) (r : Result (Vec Row Global) Error) → reads_listing the_schema sql ≡ false → Amid start st old → IfOk r (λ rows. Shown sql params old new rows.items)
      → IfOk r (λ rows. IsAnswer sql params st rows.items × Amid start st new)
  asked_within start st r unlisted amid ok = when_ok r _ _ (λ rows h.
      let was = amid.rows (open_if_shown old new sql params rows.items h).0 in
      let same = unchanged_by rows.items was.1.schema h in (
        (
          old.now,
          was.1,
          subst (λ k. Reads k old.now params rows.items) (same_command (understood the_schema sql)) (reads_as sql params old new the_schema was.1.schema _ refl plain unlisted rows.items h),
        ),
        record { inside = same.0.mode ∙ amid.inside; rows = λ live. (subst (HasRows start) (sym same.0.committed_is) was.0, subst (HasRows st) (sym same.0.now_is) was.1) },
      )) ok

-- what a command finds of the rows that a transaction shows
pub answered_within : (sql : List ℕ) (command : Command) (params : Row) (start st : Stored) (new : State) (r : Result (Vec Row Global) Error) (found : List Row) → command_of (understood the_schema sql) ≡ command
    → ((db : Database) (rows : List Row) → HasRows st db → Reads command db params rows → rows ≡ found)
    → IfOk r (λ rows. IsAnswer sql params st rows.items × Amid start st new) → IfOk r (λ rows. (rows.items ≡ found) × Amid start st new)
answered_within sql command params start st new r found is finds ok =
    when_ok r _ _ (λ rows h. (finds h.0.0 rows.items h.0.1 (subst (λ k. Reads k h.0.0 params rows.items) (sym (same_command (understood the_schema sql)) ∙ is) h.0.2), h.1)) ok

pub on_err : {T E : Type 0} (r : Result T E) (P : Type 0) → P → OnErr r P
on_err (Ok x) P p = tt
on_err (Err e) P p = p

pub undone : (start st : Stored) (s : State) → Amid start st s → Undone start s
undone start st s amid live = (amid.rows live).0

module _ (old new : State) where
  not_run_whole : (sql : List ℕ) (params : Row) (e : Error) → IsNotRun old new sql params e → IsUnchanged old new ⊎ IsRolledBack old new
  unfolding IsNotRun
  not_run_whole sql params e (inl h) = inl h.1
  not_run_whole sql params e (inr h) = inr h.3

  failed_whole : (sql : List ℕ) (c : Compiled) (params : Row) (e : Error) → RunsCommand old new sql c params (Err e) → IsUnchanged old new ⊎ IsRolledBack old new
  failed_whole sql c params e (inl h) = inl h.1
  failed_whole sql c params e (inr h) = inr h.3

  unshown_whole : (sql : List ℕ) (c : Compiled) (params : Row) (e : Error) (r : Option Returning) → FailsToShow old new sql c params e r → IsUnchanged old new ⊎ IsRolledBack old new
  unshown_whole sql c params e None h = inl h.3
  unshown_whole sql c params e (Some what) h = failed_whole sql c params e h

  unasked_whole : (sql : List ℕ) (params : Row) (e : Error) → FailsToQuery sql params old new e → IsUnchanged old new ⊎ IsRolledBack old new
  unfolding FailsToQuery
  unasked_whole sql params e (inl h) = not_run_whole sql params e h
  unasked_whole sql params e (inr h) = unshown_whole sql h.0 _ e h.0.returning h.2

  pub undone_by : (start st : Stored) → Amid start st old → KeepsCommit old new → Undone start new
  undone_by start st amid keeps live = subst (HasRows start) (sym (keeps.committed live)) (amid.rows (keeps.was_open live)).0

  -- a query that fails leaves what the transaction began from
  pub unasked_within : (sql : List ℕ) (params : Row) (start st : Stored) (r : Result (Vec Row Global) Error) → Amid start st old
      → IfErr r (λ e. FailsToQuery sql params old new e ⊎ IsTooLate sql params old new e) → OnErr r (Undone start new)
  unasked_within sql params start st (Ok rows) amid err = tt
  unasked_within sql params start st (Err e) amid (inl h) = undone_by start st amid (unchanged_keeps old new (unasked_whole sql params e h))
  unasked_within sql params start st (Err e) amid (inr h) = undone_by start st amid (unchanged_keeps old new (inl h.5))

  -- and so does a statement
  pub refused_within : (sql : List ℕ) (params : Row) (e : Error) (start st : Stored) → Amid start st old → ExecutesInside 0 sql params old new (Err e) → Undone start new
  refused_within sql params e start st amid h = undone_by start st amid (inside_keeps old new 0 false sql params (Err e) h)

-- a statement that ran on its way
pub ran_within : (old new : State) (sql : List ℕ) (params : Row) (count : ℕ) (start st next : Stored) → Amid start st old → ExecutesInside 0 sql params old new (Ok count)
    → (HasRows st old.now → Executes sql params old new (Ok count) → HasRows next new.now) → Amid start next new
ran_within old new sql params count start st next amid h writes =
    let was = amid.rows h.1.was_open in
    record { inside = h.1.mode; rows = λ live. (subst (HasRows start) (sym h.1.committed_is) was.0, writes was.1 h.0) }

-- ---- its end

pub begins : (st : Stored) (s : State) → Keeps st s → Amid st st (record s { in_transaction = true })
begins st s keeps = record { inside = refl; rows = λ live. let was = keeps.rows live in (subst (HasRows st) (sym was.1) was.0, was.0) }

pub committed : (old new : State) (start st : Stored) → Amid start st old → Shows old new old.now old.now false → Keeps st new × (stored_in new.now ≡ st)
committed old new start st amid s =
    let has = subst (HasRows st) (sym s.now_is) (amid.rows s.was_open).1 in
    (record { autocommit = s.mode; rows = λ live. (has, s.committed_is ∙ sym s.now_is) }, stored_back st new.now has)

pub rolled_back : (old new : State) (start : Stored) → Undone start old → IsRolledBack old new → Keeps start new
rolled_back old new start undone r =
    record {
      autocommit = r.autocommit;
      rows = λ live. let back = r.undone live in (subst (HasRows start) (sym back.0) (undone (r.was_open live)), back.1 ∙ sym back.0);
    }

-- a commit that fails has undone everything
pub uncommitted : (old new : State) (e : Error) (start st : Stored) → Amid start st old → FailsToCommit old new e → Keeps start new
uncommitted old new e start st amid (inl h) = rolled_back old new start (undone start st old amid) h.3
uncommitted old new e start st amid (inr h) = absurd (true≢false (sym amid.inside ∙ h.1))
