-- What the DELETE of rows that ended takes out and leaves.
use Rattle.std.proofs.Common.{◌≡◌, ℕ, ℤ, pos, List, [], ◌∷◌, map, Bool, true, false, cond, not, ◌&&◌, ◌||◌, None, Ok, refl, sym, ap, subst, ◌∙◌, arith, ◌<◌, filter, IsPermutation}
use Rattle.std.specs.List.{AllByRecursion, flat_map, list_any}
use Rattle.std.specs.Ordering.{int_eq}
use Rattle.std.proofs.lemmas.Int.{ints}
use Rattle.std.proofs.lemmas.Bool.Decides.{nat_tests}
use Rattle.std.proofs.lemmas.List.Sorted.{list_any-IsPermutation, IsPermutation-map}
use Rattle.sqlite.specs.declared.types.Value.{Value}
use Rattle.sqlite.specs.declared.types.Value.TheVariants.{Null, Int}
use Rattle.sqlite.specs.Command.TheVariants.{Delete}
use Rattle.sqlite.specs.Query.{IsAnswerAs, output, Output, end, matches_as}
use Rattle.sqlite.specs.Program.{overlay}
use Rattle.sqlite.specs.Order.{Row}
use Rattle.sqlite.specs.Tree.{Trees, without_rowid, has_rowid, rowid}
use Rattle.sqlite.specs.Edit.{edit_of, without_all, id_in}
use Rattle.sqlite.specs.Rowids.TheVariants.{Given}
use Rattle.sqlite.specs.Rows.{Written}
use Rattle.sqlite.specs.Does.{Tally, Does}
use Rattle.sqlite.specs.Effect.{Database}
use Rattle.sqlite.specs.State.{State, mode_of, Executes}
use Rattle.sqlite.specs.Listing.{understood}
use Rattle.sqlite.proofs.Callers.{statement_of, runs_as, one_step}
use Rattle.sqlite_rules.specs.Calls.{ids_of}
use Rattle.sqlite_sql.specs.Term.{Env}
use Rattle.sqlite_value.proofs.OrderLemmas.{value_cmp-Int}
use Rattle.sqlite_keyed.proofs.ListLemmas.{map-map, filter-map, filter_same, filter_all, all_of, all_both, all_weaker}
use Rattle.history.proofs.Lists.{filter_both}
use Rattle.history.proofs.CurrentObjects.{filter_same_on}
use Rattle.revtable.specs.Rows.{object_table, the_schema, row_of, marks_tree, HasRows, IsOrdered}
use Rattle.revtable.specs.Spans.{Span, Stored, is_ended, without_ended}
use Rattle.revtable.proofs.Made.{kept_if}
use Rattle.revtable.proofs.Outcomes.{went, same_value}
use Rattle.revtable.proofs.Where.{delete_tests}
use Rattle.revtable.proofs.Texts.{delete_text, delete_query, delete_is, delete_plain}

abbrev is_among : List ℤ → Span → Bool
is_among ids it = list_any (λ id. int_eq (pos it.first) id) ids

has_id : (id : ℤ) (it : Span) → has_rowid id (row_of it) ≡ int_eq (pos it.first) id
has_id id it = rw (value_cmp-Int (pos it.first) id) refl

without_one : (id : ℤ) (cs : List Span) → without_rowid id (map row_of cs) ≡ map row_of (filter (λ it. not (int_eq (pos it.first) id)) cs)
without_one id cs = filter-map (λ r. not (has_rowid id r)) row_of cs ∙ ap (map row_of) (filter_same _ _ (λ it. ap not (has_id id it)) cs)

neither : (a b : Bool) → (not a && not b) ≡ not (a || b)
neither true b = refl
neither false b = refl

without_these : (ids : List ℤ) (cs : List Span) → without_all (map row_of cs) ids ≡ map row_of (filter (λ it. not (is_among ids it)) cs)
without_these [] cs = ap (map row_of) (sym (filter_all _ cs (all_of (λ it. true ≡ true) (λ it. refl) cs)))
without_these (id ∷ ids) cs =
    ap (λ rows. without_all rows ids) (without_one id cs) ∙ without_these ids (filter (λ it. not (int_eq (pos it.first) id)) cs)
    ∙ ap (map row_of) (filter_both (λ it. not (is_among ids it)) (λ it. not (int_eq (pos it.first) id)) cs ∙ filter_same _ _ (λ it. neither (int_eq (pos it.first) id) (is_among ids it)) cs)

-- ---- the ids of some of the changes name just these

abbrev id_row : Span → Row
id_row it = Int (pos it.first) ∷ []

abbrev is_same : Span → Span → Bool
is_same it other = int_eq (pos it.first) (pos other.first)

among_rows : (it : Span) (cs : List Span) → is_among (ids_of (map id_row cs)) it ≡ list_any (is_same it) cs
among_rows it [] = refl
among_rows it (c ∷ cs) = ap (λ b. is_same it c || b) (among_rows it cs)

itself : (it : Span) → is_same it it ≡ true
itself it = grind (arith, ints, nat_tests)

apart_below : (it other : Span) → it.first < other.first → is_same it other ≡ false
apart_below it other lt = grind (arith, ints, nat_tests)

apart_above : (it other : Span) → other.first < it.first → is_same it other ≡ false
apart_above it other lt = grind (arith, ints, nat_tests)

none_above : (x : Span) (p : Span → Bool) (cs : List Span) → AllByRecursion (λ c. x.first < c.first) cs → list_any (is_same x) (filter p cs) ≡ false
none_above x p [] up = refl
none_above x p (c ∷ cs) up = go (p c) (none_above x p cs up.1)
  where
    go : (b : Bool) → list_any (is_same x) (filter p cs) ≡ false → list_any (is_same x) (cond b (c ∷ filter p cs) (filter p cs)) ≡ false
    go true more = rw (apart_below x c up.0) more
    go false more = more

-- of rising changes, those that a test picks are found among the picked
picked : (p : Span → Bool) (cs : List Span) → IsOrdered cs → AllByRecursion (λ it. list_any (is_same it) (filter p cs) ≡ p it) cs
picked p [] up = tt
picked p (c ∷ cs) up = (here (p c) refl, all_both (λ it. c.first < it.first) (λ it. list_any (is_same it) (filter p cs) ≡ p it) _ (λ it lt h. there (p c) it lt h) cs up.0 (picked p cs up.1))
  where
    here : (b : Bool) → p c ≡ b → list_any (is_same c) (cond b (c ∷ filter p cs) (filter p cs)) ≡ b
    here true e = rw (itself c) refl
    here false e = none_above c p cs up.0

    there : (b : Bool) (it : Span) → c.first < it.first → list_any (is_same it) (filter p cs) ≡ p it → list_any (is_same it) (cond b (c ∷ filter p cs) (filter p cs)) ≡ p it
    there true it lt h = rw (apart_above it c lt) h
    there false it lt h = h

-- what is left when the rows of the picked changes, in any order, are taken out by their ids
without_picked : (p : Span → Bool) (cs : List Span) (rows : List Row) → IsOrdered cs → IsPermutation (map id_row (filter p cs)) rows
    → without_all (map row_of cs) (ids_of rows) ≡ map row_of (filter (λ it. not (p it)) cs)
without_picked p cs rows up same =
    without_these (ids_of rows) cs
    ∙ ap (map row_of) (filter_same_on (λ it. not (is_among (ids_of rows) it)) (λ it. not (p it)) cs
    (all_weaker (λ it. list_any (is_same it) (filter p cs) ≡ p it) _
    (λ it h. ap not (sym (list_any-IsPermutation (λ id. int_eq (pos it.first) id) _ _ (IsPermutation-map (λ r. id_in (rowid r)) _ _ same)) ∙ among_rows it (filter p cs) ∙ h)) cs (picked p cs up)))

-- ---- what the statement finds

module _ (c : ℕ) where
  abbrev pub bound_delete : Row
  bound_delete = Int (pos c) ∷ []

  abbrev is_gone : Span → Bool
  is_gone s = is_ended c s.ended

  abbrev env_of : Span → Env
  env_of s = bound_delete ∷ row_of s ∷ []

  matched : (lost : Value) (trees : Trees) (all : List Span) → trees 0 ≡ map row_of all → matches_as lost trees delete_query.filter delete_query.from (bound_delete ∷ []) ≡ map env_of (filter is_gone all)
  matched lost trees all is = ap (flat_map (λ row. matches_as lost trees delete_query.filter end (bound_delete ∷ row ∷ []))) is ∙ go all
    where
      go : (ss : List Span) → flat_map (λ row. matches_as lost trees delete_query.filter end (bound_delete ∷ row ∷ [])) (map row_of ss) ≡ map env_of (filter is_gone ss)
      go [] = refl
      go (s ∷ ss) = rw (delete_tests c s) (kept_if (is_gone s) env_of s _ (filter is_gone ss) (go ss))

  abbrev shows : Span → Output
  shows s = ([], id_row s)

  -- the ids that the query finds, in any order
  found : (trees : Trees) (all : List Span) (rows : List Row) → trees 0 ≡ map row_of all → IsAnswerAs Null delete_query (overlay trees []) bound_delete rows → IsPermutation (map id_row (filter is_gone all)) rows
  found trees all rows is a =
      let old = filter is_gone all in
      let staged : a.staged ≡ map env_of old = a.grouped ∙ matched Null trees all is in
      let kept : a.kept ≡ map shows old = a.distinct ∙ ap (map (output delete_query)) staged ∙ map-map (output delete_query) env_of old in
      let same : IsPermutation (map (λ (o : Output). o.1) (map shows old)) (map (λ (o : Output). o.1) a.ordered) = IsPermutation-map (λ (o : Output). o.1) _ _ (subst (λ l. IsPermutation l a.ordered) kept a.same) in
      subst (IsPermutation (map id_row old)) (sym a.shown) (subst (λ l. IsPermutation l (map (λ (o : Output). o.1) a.ordered)) (map-map (λ (o : Output). o.1) shows old) same)

  pub deletes : (old new : State) (count : ℕ) (st : Stored) → HasRows st old.now → IsOrdered st.spans → Executes delete_text bound_delete old new (Ok count)
      → HasRows (record { spans = without_ended c st.spans; current = st.current; compacted = st.compacted }) new.now
  deletes old new count st was rising h =
      let db = old.now.trees in
      let command = Delete 0 (record { lets = []; body = delete_query }) in
      let w = runs_as delete_text bound_delete old new the_schema was.schema command delete_is delete_plain count h in
      let text = statement_of delete_text (understood the_schema delete_text) in
      let done = went (subst (λ s. Does old.step_limit (mode_of old) bound_delete (record old.now { schema = s }) text None command (Ok (w.tally, new.now))) was.schema w.changed) in
      let now = ap (λ (p : Tally × Database). p.1) (same_value (went (went done.2).2).2) in
      let given = went done.1 in
      let written = went given.2 in
      let trees : done.0.trees ≡ written.0 = ap (λ (it : Written). it.trees) (same_value written.2) in
      let step = one_step the_schema _ db written.0 (edit_of db object_table (ids_of given.0) Given 0 []) refl written.1 in
      let left = ap (λ l. without_all l (ids_of given.0)) was.rows ∙ without_picked is_gone st.spans given.0 rising (found db st.spans given.0 was.rows (given.1.answer Null)) in
      record {
        schema = ap (λ (d : Database). d.schema) now;
        rows = ap (λ (d : Database). d.trees 0) now ∙ ap (λ (t : Trees). t 0) trees ∙ step.rows ∙ left;
        marks = ap (λ (d : Database). d.trees marks_tree) now ∙ ap (λ (t : Trees). t marks_tree) trees ∙ step.tables.1.0 (λ e. absurd (omega (arith, e))) ∙ was.marks;
      }
