-- Rows of a query that are read one at a time: what stays of the connection, and what the rows so far say of the answer.
use Rattle.std.proofs.Common.{◌≡◌, ◌⊎◌, ◌&&◌, inl, inr, ℕ, ◌+◌, ◌-◌, ◌^◌, ◌<◌, ◌≤◌, Bool, true, false, cond, List, [], ◌∷◌, ◌++◌, length, map, take, Option, Some, None, Ok, Err, Result, is_some, IsTrue, IfOk, true≢false, refl, sym, ap, ap₂, subst, ◌∙◌, append-nil, length-append, arith}
use Rattle.std.proofs.lemmas.List.{length-map, map-append}
use Rattle.std.proofs.lemmas.List.Elements.{filter-append}
use Rattle.std.specs.FinMap as fin
use Rattle.std.specs.Prelude.{Vec}
use Rattle.std.specs.declared.alloc.Global.{Global}
use Rattle.sqlite.specs.Order.{Row}
use Rattle.sqlite.specs.declared.error.Error.{Error}
use Rattle.sqlite.specs.Effect.{Database, Reads}
use Rattle.sqlite.specs.Command.{Command}
use Rattle.sqlite.specs.Command.TheVariants.{Select}
use Rattle.sqlite.specs.Given.{Returns, HasBegun, HasGiven}
use Rattle.sqlite.specs.Held.{Held, state}
use Rattle.sqlite.specs.Listing.{understood, reads_listing}
use Rattle.sqlite.specs.State.{State, IsUnchanged, Shown, Begins, FailsToQuery}
use Rattle.sqlite.specs.Clock.{timed}
use Rattle.sqlite.proofs.Callers.{IsPlain, EndsIn, begins_shown, command_of, given_begin, reads_as}
use Rattle.sqlite_resolve.specs.declared.compiled.Compiled.{Compiled}
use Rattle.sqlite_resolve.specs.declared.error.CompileError.{CompileError}
use Rattle.sqlite_sql.specs.Program.{Ends}
use Rattle.sqlite_trees.specs.declared.store.Store.{Ghosts}
use Rattle.sqlite_keyed.proofs.ListLemmas.{map_back}
use Rattle.history.specs.History.{History, IsHistory, Key, Object, Objects, last_revision, state_at}
use Rattle.history.specs.Page.{is_past, is_within, listed}
use Rattle.history.proofs.Lists.{filter_both}
use Rattle.history.specs.declared.object.Entry.{Entry}
use Rattle.revtable.specs.Asked.{as_change, begins, in_later, in_one}
use Rattle.revtable.specs.Decoded.{entry_shown}
use Rattle.revtable.specs.Kept.{first_kept, kept_among, AreFirstKept, IsBare}
use Rattle.history.specs.Read.{entry_of}
use Rattle.revtable.specs.Rows.{the_schema, command_in, shown, HasRows, IsAnswer, Keeps}
use Rattle.revtable.specs.Spans.{Stored}
use Rattle.revtable.proofs.Halves.{begins_all, begins_none, begins_one, take_both}
use Rattle.revtable.proofs.Numbers.{objects_few, take_nothing, take_whole}
use Rattle.revtable.proofs.Outcomes.{asked_keeps, kept_by, open_if_shown, same_command, same_if_unchanged, same_keeps, when_ok}
use Rattle.revtable.proofs.Texts.{from_is, from_text, in_is, in_text}

-- ---- what is found among the rows that were read

abbrev pub found_in : (List ℕ → Bool) → List Row → List (Key × Object)
found_in kept rows = kept_among kept (map entry_shown rows)

pub found_both : (kept : List ℕ → Bool) (xs ys : List Row) → found_in kept (xs ++ ys) ≡ found_in kept xs ++ found_in kept ys
found_both kept xs ys = ap (kept_among kept) (map-append entry_shown xs ys) ∙ filter-append (λ (e : Key × Object). kept e.1.body) (map entry_shown xs) (map entry_shown ys)

take_prefix : {X : Type 0} (n : ℕ) (xs ys : List X) → length xs ≤ n → take n (xs ++ ys) ≡ xs ++ take (n - length xs) ys
take_prefix n xs ys le =
    let whole : take n xs ≡ xs = take_whole n xs le in
    take_both n xs ys ∙ ap (λ l. l ++ take (n - length l) ys) whole

-- nothing is left, or as many rows were read as there may be, or enough were found
abbrev pub IsDone : ℕ → List (Key × Object) → List Row → List Row → Type 0
IsDone max found given tail = (tail ≡ []) ⊎ ((length given ≡ last_revision) ⊎ (length found ≡ max))

pub found_first : (kept : List ℕ → Bool) (max : ℕ) (given tail : List Row) → length given ≤ last_revision → length (found_in kept given) ≤ max → IsDone max (found_in kept given) given tail
    → found_in kept given ≡ first_kept kept max (map entry_shown (take last_revision (given ++ tail)))
found_first kept max given tail few fits done =
    let more = take (last_revision - length given) tail in
    let others = found_in kept more in
    sym (ap (λ rows. take max (found_in kept rows)) (take_prefix last_revision given tail few)
    ∙ ap (take max) (found_both kept given more) ∙ take_prefix max (found_in kept given) others fits
    ∙ ap (λ l. found_in kept given ++ l) (none done) ∙ append-nil (found_in kept given))
  where
    none : IsDone max (found_in kept given) given tail → take (max - length (found_in kept given)) (found_in kept (take (last_revision - length given) tail)) ≡ []
    none (inl nothing) =
        ap (λ l. take (max - length (found_in kept given)) (found_in kept (take (last_revision - length given) l))) nothing
        ∙ ap (λ l. take (max - length (found_in kept given)) (found_in kept l)) (take_nothing (last_revision - length given)) ∙ take_nothing (max - length (found_in kept given))
    none (inr (inl all)) =
        let left : last_revision - length given ≡ 0 = omega (arith, all) in
        ap (λ n. take (max - length (found_in kept given)) (found_in kept (take n tail))) left ∙ take_nothing (max - length (found_in kept given))
    none (inr (inr enough)) =
        let left : max - length (found_in kept given) ≡ 0 = omega (arith, enough) in
        ap (λ n. take n (found_in kept (take (last_revision - length given) tail))) left

counted : (kept : List ℕ → Bool) (given : List Row) (found : List Entry) → map entry_of found ≡ found_in kept given → length (found_in kept given) ≡ length found
counted kept given found is = ap length (sym is) ∙ length-map found entry_of

-- one more row
one_at_most : (kept : List ℕ → Bool) (e : Key × Object) → length (kept_among kept (e ∷ [])) ≤ 1
one_at_most kept e = go (kept e.1.body)
  where
    go : (b : Bool) → length (cond b (e ∷ []) []) ≤ 1
    go true = omega arith
    go false = omega arith

pub still_fits : (kept : List ℕ → Bool) (max : ℕ) (row : Row) (old new : List Entry) → map entry_of new ≡ map entry_of old ++ kept_among kept (entry_shown row ∷ []) → length old < max → length new ≤ max
still_fits kept max row old new is lt =
    let count : length new ≡ length old + length (kept_among kept (entry_shown row ∷ [])) =
    sym (length-map new entry_of) ∙ ap length is ∙ length-append (map entry_of old) (kept_among kept (entry_shown row ∷ [])) ∙ ap (λ n. n + length (kept_among kept (entry_shown row ∷ []))) (length-map old entry_of) in
    let few : length (kept_among kept (entry_shown row ∷ [])) ≤ 1 = one_at_most kept (entry_shown row) in
    omega (arith, count, few, lt)

pub found_next : (kept : List ℕ → Bool) (given : List Row) (row : Row) (old new : List Entry) → map entry_of old ≡ found_in kept given → map entry_of new ≡ map entry_of old ++ kept_among kept (entry_shown row ∷ [])
    → map entry_of new ≡ found_in kept (given ++ row ∷ [])
found_next kept given row old new was is = is ∙ ap (λ l. l ++ kept_among kept (entry_shown row ∷ [])) was ∙ sym (found_both kept given (row ∷ []))

-- ---- what a connection keeps while rows are read

pub unchanged_keeps : (old new : State) (st : Stored) → IsUnchanged old new → Keeps st old → Keeps st new
unchanged_keeps old new st same keeps = record {
  autocommit = same.0.mode ∙ keeps.autocommit;
  rows = λ live. let was = kept_by st old keeps same.0.was_open in same_keeps st old new was (same_if_unchanged st old new was same);
}

pub failed_keeps : (sql : List ℕ) → IsPlain (understood the_schema sql) → (old new : State) (params : Row) (st : Stored) (e : Error) → Keeps st old → FailsToQuery sql params old new e → Keeps st new
failed_keeps sql plain old new params st e keeps failed = asked_keeps sql plain old new params st (Err e) keeps tt failed

never_both : (r : Result Compiled CompileError) → IsPlain r → ¬ Returns r
never_both (Ok c) plain some = absurd (let none = rw plain.0 at some in cc)
never_both (Err e) plain some = plain

bare_ends : (command : Command) (db : Database) (params : Row) → IsBare command → EndsIn command db params
bare_ends (Select q names) db params bare = subst (Ends db.trees params []) (sym bare) tt
bare_ends _ db params bare = absurd bare

module _ (sql : List ℕ) (plain : IsPlain (understood the_schema sql)) (unlisted : reads_listing the_schema sql ≡ false) (bare : IsBare (command_in (understood the_schema sql)))
    (params : Row) (st : Stored) where
  -- the rows of a whole answer
  pub whole_answer : (old new : State) (rows : List Row) → Keeps st old → Shown sql params old new rows → IsAnswer sql params st rows
  whole_answer old new rows keeps h =
      let was = keeps.rows (open_if_shown old new sql params rows h).0 in (
        old.now,
        was.0,
        subst (λ k. Reads k old.now params rows) (same_command (understood the_schema sql)) (reads_as sql params old new the_schema was.0.schema _ refl plain unlisted rows h),
      )

  still : (s : State) → IsTrue s.is_open → IsUnchanged s s
  still s live = (
    record { was_open = live; is_open = live; now_is = refl; committed_is = refl; mode = refl },
    record { changes = refl; last_rowid = refl },
    refl,
  )

  -- the rows that were read begin an answer
  pub prefix_answer : (s : State) (rows : List Row) → IsTrue s.is_open → Keeps st s → Begins sql params s rows → (tail : List Row) × IsAnswer sql params st (rows ++ tail)
  prefix_answer s rows live keeps h =
      let is = (keeps.rows live).0 in
      let all = begins_shown sql params s s rows h (still s live) (λ c db it from.
      bare_ends c.command db (timed params c.formats it.now) (subst (λ r. IsBare (command_in r)) (ap (λ schema. understood schema sql) (sym is.schema) ∙ it.is) bare)) in
      (all.0, whole_answer s s (rows ++ all.0) keeps all.1)

  module _ {S : Type 0} (g : Ghosts S) where
    pub begun : (old new : Held S) → Keeps st (state g old) → HasBegun g sql params old new → HasGiven g sql params new [] × IsUnchanged (state g old) (state g new)
    begun old new keeps (inl h) = h
    begun old new keeps (inr h) =
        let live = (open_if_shown (state g old) (state g new) sql params _ h.1).0 in
        absurd (never_both _ plain (subst (λ schema. Returns (understood schema sql)) ((keeps.rows live).0.schema) h.0))

    open_while : (now : Held S) (given : List Row) → HasGiven g sql params now given → IsTrue (state g now).is_open
    unfolding HasGiven
    open_while now given it = it.0.is_open

    -- where as many rows were read as there may be, or enough were found
    pub stopped : (kept : List ℕ → Bool) (max : ℕ) (now : Held S) (given : List Row) (found : List Entry) → Keeps st (state g now) → HasGiven g sql params now given → map entry_of found ≡ found_in kept given
        → length given ≤ last_revision → length found ≤ max → (length given ≡ last_revision) ⊎ (max ≤ length found) → AreFirstKept sql params st kept max (map entry_of found)
    stopped kept max now given found keeps it is few fits done =
        let count : length (found_in kept given) ≡ length found = counted kept given found is in
        let all = prefix_answer (state g now) given (open_while now given it) keeps (given_begin g sql params now given it) in
        let whole : (length given ≡ last_revision) ⊎ (length (found_in kept given) ≡ max) = elim done [ inl read ↦ inl read | inr enough ↦ inr (omega (arith, count, fits, enough)) ] in
        (given ++ all.0, all.1, is ∙ found_first kept max given all.0 few (omega (arith, count, fits)) (inr whole))

    -- where no row is left
    pub ended : (kept : List ℕ → Bool) (max : ℕ) (now new : Held S) (given : List Row) (found : List Entry) → Keeps st (state g now) → Shown sql params (state g now) (state g new) given
        → map entry_of found ≡ found_in kept given → length given ≤ last_revision → length found ≤ max → AreFirstKept sql params st kept max (map entry_of found)
    ended kept max now new given found keeps shown is few fits =
        let count : length (found_in kept given) ≡ length found = counted kept given found is in (
          given,
          whole_answer (state g now) (state g new) given keeps shown,
          is ∙ found_first kept max given [] few (omega (arith, count, fits)) (inl refl) ∙ ap (λ rows. first_kept kept max (map entry_shown (take last_revision rows))) (append-nil given),
        )

-- ---- what a text finds first among the rows that keep the changes

abbrev show : Key × Object → Row
show e = shown (as_change e)

read_back : (es : List (Key × Object)) → length es ≤ last_revision → map entry_shown (take last_revision (map show (take last_revision es))) ≡ es
read_back es few =
    ap (λ l. map entry_shown (take last_revision (map show l))) (take_whole last_revision es few)
    ∙ ap (map entry_shown) (take_whole last_revision (map show es) (subst (λ n. n ≤ last_revision) (sym (length-map es show)) few)) ∙ map_back show entry_shown (λ e. refl) es

pub kept_answered : {E : Type 0} (sql : List ℕ) (command : Command) (params : Row) (st : Stored) (kept : List ℕ → Bool) (max : ℕ) (r : Result (Vec Entry Global) E) (es : List (Key × Object))
    → command_of (understood the_schema sql) ≡ command → ((db : Database) (rows : List Row) → HasRows st db → Reads command db params rows → rows ≡ map show (take last_revision es))
    → length es ≤ last_revision → IfOk r (λ v. AreFirstKept sql params st kept max (map entry_of v.items)) → IfOk r (λ v. map entry_of v.items ≡ first_kept kept max es)
kept_answered sql command params st kept max r es is finds few ok = when_ok r _ _ (λ v h.
    let rows = finds h.1.0 h.0 h.1.1 (subst (λ k. Reads k h.1.0 params h.0) (sym (same_command (understood the_schema sql)) ∙ is) h.1.2) in
    h.2 ∙ ap (λ rows. first_kept kept max (map entry_shown (take last_revision rows))) rows ∙ ap (first_kept kept max) (read_back es few)) ok

-- ---- of one namespace, and then of those after it

pub kept_both : (kept : List ℕ → Bool) (max left : ℕ) (xs ys found more : List (Key × Object)) → found ≡ first_kept kept max xs → left ≡ max - length found → more ≡ first_kept kept left ys → found ++ more ≡ first_kept kept max (xs ++ ys)
kept_both kept max left xs ys found more is_found is_left is_more =
    ap₂ (λ a b. a ++ b) is_found (is_more ∙ ap (λ n. first_kept kept n ys) (is_left ∙ ap (λ l. max - length l) is_found))
    ∙ sym (ap (take max) (filter-append (λ (e : Key × Object). kept e.1.body) xs ys) ∙ take_both max (kept_among kept xs) (kept_among kept ys))

-- nothing more is asked for
pub kept_full : (kept : List ℕ → Bool) (max : ℕ) (xs ys found : List (Key × Object)) → found ≡ first_kept kept max xs → max - length found ≡ 0 → found ≡ first_kept kept max (xs ++ ys)
kept_full kept max xs ys found is_found full =
    sym (append-nil found) ∙ kept_both kept max 0 xs ys found [] is_found (sym full) refl

-- ---- the texts that are asked

pub in_bare : IsBare (command_in (understood the_schema in_text))
in_bare = subst IsBare (sym in_is.0 ∙ same_command (understood the_schema in_text)) refl

pub from_bare : IsBare (command_in (understood the_schema from_text))
from_bare = subst IsBare (sym from_is.0 ∙ same_command (understood the_schema from_text)) refl

pub last_fits : last_revision < 2 ^ 63
last_fits = omega arith

-- ---- where a page begins

pub none_listed : (kept : List ℕ → Bool) (max kind : ℕ) (ns : Option (List ℕ)) (after : Option (List ℕ × List ℕ)) (s : Objects) → begins ns after ≡ None → [] ≡ first_kept kept max (listed kind ns after s)
none_listed kept max kind ns after s e = sym (ap (first_kept kept max) (begins_none kind ns after s e) ∙ take_nothing max)

pub one_listed : (kind : ℕ) (ns : Option (List ℕ)) (after : Option (List ℕ × List ℕ)) (s : Objects) (first : List ℕ) (name : Option (List ℕ)) → is_some ns ≡ true → begins ns after ≡ Some (first, name)
    → in_one kind first name s ≡ listed kind ns after s
one_listed kind None after s first name named e = absurd (true≢false (sym named))
one_listed kind (Some ns) after s first name named e = sym (begins_one kind ns after s first name e)

pub all_listed : (kind : ℕ) (ns : Option (List ℕ)) (after : Option (List ℕ × List ℕ)) (s : Objects) (first : List ℕ) (name : Option (List ℕ)) → is_some ns ≡ false → begins ns after ≡ Some (first, name)
    → in_one kind first name s ++ in_later kind first s ≡ listed kind ns after s
all_listed kind None after s first name named e = sym (begins_all kind after s first name e)
all_listed kind (Some ns) after s first name named e = absurd (true≢false named)

-- ---- where all are kept

pub every_kept : (es : List (Key × Object)) → kept_among (λ text. true) es ≡ es
every_kept [] = refl
every_kept (e ∷ es) = ap (λ l. e ∷ l) (every_kept es)

-- ---- how many there can be

pub kept_few : (h : History) (r : ℕ) (kept : List ℕ → Bool) (kind : ℕ) (ns : Option (List ℕ)) (after : Option (List ℕ × List ℕ)) → IsHistory h → length (kept_among kept (listed kind ns after (state_at h.changes r))) ≤ last_revision
kept_few h r kept kind ns after is =
    subst (λ (l : List (Key × Object)). length l ≤ last_revision) (sym (filter_both (λ (e : Key × Object). kept e.1.body) (λ (e : Key × Object). is_within kind ns e.0 && is_past after e.0) (fin.entries (state_at h.changes r))))
    (objects_few h r _ is)
