-- What an UPDATE that ends a row leaves, and one of the two numbers.
use Rattle.std.proofs.Common.{◌≡◌, ℕ, pos, List, [], ◌∷◌, map, Bool, true, false, cond, not, ◌&&◌, ◌==◌, ◌⊎◌, inl, inr, is_eq, int_cmp, Greater, None, Ok, refl, sym, ap, ap₂, subst, ◌∙◌, arith, ◌<◌, filter, IsPermutation}
use Rattle.std.specs.Prelude.{if◌then◌else◌, is_none}
use Rattle.std.specs.List.{AllByRecursion, flat_map}
use Rattle.std.proofs.Common.{eqb-true}
use Rattle.std.proofs.lemmas.Int.{ints}
use Rattle.std.proofs.lemmas.Bool.Decides.{nat_tests}
use Rattle.std.proofs.lemmas.List.Sorted.{IsPermutation-map, length_permutation}
use Rattle.sqlite.specs.declared.types.Value.{Value}
use Rattle.sqlite.specs.declared.types.Value.TheVariants.{Null, Int, Text as Words}
use Rattle.sqlite.specs.Command.TheVariants.{Update}
use Rattle.sqlite.specs.Query.{IsAnswerAs, output, Output, end, matches_as}
use Rattle.sqlite.specs.Program.{overlay}
use Rattle.sqlite.specs.Order.{Row}
use Rattle.sqlite.specs.Tree.{Trees, put_row, without_rowid, has_rowid}
use Rattle.sqlite.specs.Edit.{edit_of, edited}
use Rattle.sqlite.specs.Rowids.TheVariants.{Given}
use Rattle.sqlite.specs.Rows.{Written}
use Rattle.sqlite.specs.Does.{Tally, Does}
use Rattle.sqlite.specs.Effect.{Database}
use Rattle.sqlite.specs.State.{State, mode_of, Executes}
use Rattle.sqlite.specs.Listing.{understood}
use Rattle.sqlite.proofs.Callers.{statement_of, runs_as, one_step, one_permutation}
use Rattle.sqlite_rules.specs.Calls.{ids_of}
use Rattle.sqlite_sql.specs.Term.{Env}
use Rattle.sqlite_value.proofs.OrderLemmas.{value_cmp-Int}
use Rattle.sqlite_keyed.proofs.ListLemmas.{map-map}
use Rattle.revtable.specs.Rows.{object_table, the_schema, row_of, flag, marks_tree, marks_row, HasRows, IsOrdered}
use Rattle.revtable.specs.Spans.{Span, Stored, end_at, ended_from}
use Rattle.revtable.proofs.Inserts.{cast_null, cast_int, placed_marks}
use Rattle.revtable.proofs.Made.{kept_if}
use Rattle.revtable.proofs.Outcomes.{went, same_value}
use Rattle.revtable.proofs.Texts.{end_text, end_query, end_is, end_plain, set_text, set_query, set_is, set_plain}
use Rattle.revtable.proofs.Where.{end_tests}

-- ---- one row in place of another

abbrev is_from : ℕ → Span → Bool
is_from n s = (s.first == n) && is_none s.ended

none_changed : (n r : ℕ) (g : Bool) (spans : List Span) → filter (is_from n) spans ≡ [] → ended_from n r g spans ≡ spans
none_changed n r g [] e = refl
none_changed n r g (x ∷ xs) e = go (is_from n x) e (none_changed n r g xs)
  where
    go : (b : Bool) → cond b (x ∷ filter (is_from n) xs) (filter (is_from n) xs) ≡ [] → (filter (is_from n) xs ≡ [] → ended_from n r g xs ≡ xs) → cond b (end_at r g x) x ∷ ended_from n r g xs ≡ x ∷ xs
    go true none more = absurd cc
    go false none more = ap (λ l. x ∷ l) (more none)

has_first : (n : ℕ) (s : Span) → has_rowid (pos n) (row_of s) ≡ (s.first == n)
has_first n s = rw (value_cmp-Int (pos s.first) (pos n)) (same s.first)
  where
    same : (m : ℕ) → is_eq (int_cmp (pos m) (pos n)) ≡ (m == n)
    same m = grind (arith, ints, nat_tests)

differ : (n m : ℕ) → n < m → (m == n) ≡ false
differ n m lt = grind (arith, nat_tests)

differ_below : (n m : ℕ) → n < m → (n == m) ≡ false
differ_below n m lt = grind (arith, nat_tests)

itself : (n : ℕ) → (n == n) ≡ true
itself n = grind (arith, nat_tests)

without_later : (n : ℕ) (xs : List Span) → AllByRecursion (λ s. n < s.first) xs → without_rowid (pos n) (map row_of xs) ≡ map row_of xs
without_later n [] h = refl
without_later n (x ∷ xs) h = ap₂ (λ b l. cond (not b) (row_of x ∷ l) l) (has_first n x ∙ differ n x.first h.0) (without_later n xs h.1)

above : (a b : ℕ) → b < a → int_cmp (pos a) (pos b) ≡ Greater
above a b lt = grind (arith, ints, nat_tests)

put_first : (new : Span) (xs : List Span) → AllByRecursion (λ s. new.first < s.first) xs → put_row (row_of new) (map row_of xs) ≡ row_of new ∷ map row_of xs
put_first new [] h = refl
put_first new (x ∷ xs) h = rw (value_cmp-Int (pos x.first) (pos new.first), above x.first new.first h.0) refl

put_later : (new x : Span) (rows : List Row) → x.first < new.first → put_row (row_of new) (row_of x ∷ rows) ≡ row_of x ∷ put_row (row_of new) rows
put_later new x rows lt =
    let less = value_cmp-Int (pos x.first) (pos new.first) in
    rw less (grind (arith, ints, nat_tests))

first_is : (n : ℕ) (s : Span) → is_from n s ≡ true → s.first ≡ n
first_is n s e = eqb-true s.first n (left (s.first == n) (is_none s.ended) e)
  where
    left : (a b : Bool) → (a && b) ≡ true → a ≡ true
    left true b e = refl
    left false b e = e

one_changed : (r : ℕ) (g : Bool) (s : Span) (spans : List Span) → IsOrdered spans → filter (is_from s.first) spans ≡ s ∷ []
    → put_row (row_of (end_at r g s)) (without_rowid (pos s.first) (map row_of spans)) ≡ map row_of (ended_from s.first r g spans)
one_changed r g s [] up e = absurd cc
one_changed r g s (x ∷ xs) up e = go (is_from s.first x) refl e (one_changed r g s xs up.1)
  where
    go : (b : Bool) → is_from s.first x ≡ b → cond b (x ∷ filter (is_from s.first) xs) (filter (is_from s.first) xs) ≡ s ∷ []
        → (filter (is_from s.first) xs ≡ s ∷ [] → put_row (row_of (end_at r g s)) (without_rowid (pos s.first) (map row_of xs)) ≡ map row_of (ended_from s.first r g xs))
        → put_row (row_of (end_at r g s)) (without_rowid (pos s.first) (row_of x ∷ map row_of xs)) ≡ map row_of (cond b (end_at r g x) x ∷ ended_from s.first r g xs)
    go true here one more =
        let parts : (x ≡ s) × (filter (is_from s.first) xs ≡ []) = (cc, cc) in
        let later : AllByRecursion (λ t. s.first < t.first) xs = subst (λ (y : Span). AllByRecursion (λ t. y.first < t.first) xs) parts.0 up.0 in
        let gone : has_rowid (pos s.first) (row_of x) ≡ true = has_first s.first x ∙ ap (λ (y : Span). y.first == s.first) parts.0 ∙ itself s.first in
        ap (λ b. put_row (row_of (end_at r g s)) (cond (not b) (row_of x ∷ without_rowid (pos s.first) (map row_of xs)) (without_rowid (pos s.first) (map row_of xs)))) gone
        ∙ ap (put_row (row_of (end_at r g s))) (without_later s.first xs later)
        ∙ put_first (end_at r g s) xs later
        ∙ ap₂ (λ (y : Span) l. row_of (end_at r g y) ∷ map row_of l) (sym parts.0) (sym (none_changed s.first r g xs parts.1))
    go false here one more =
        let below : x.first < s.first = found_below xs up.0 one in
        let stays : has_rowid (pos s.first) (row_of x) ≡ false = has_first s.first x ∙ differ_below x.first s.first below in
        ap (λ b. put_row (row_of (end_at r g s)) (cond (not b) (row_of x ∷ without_rowid (pos s.first) (map row_of xs)) (without_rowid (pos s.first) (map row_of xs)))) stays
        ∙ put_later (end_at r g s) x (without_rowid (pos s.first) (map row_of xs)) below
        ∙ ap (λ l. row_of x ∷ l) (more one)
      where
        found_below : (ys : List Span) → AllByRecursion (λ t. x.first < t.first) ys → filter (is_from s.first) ys ≡ s ∷ [] → x.first < s.first
        found_below [] all none = absurd cc
        found_below (y ∷ ys) all is = by_test (is_from s.first y) is (found_below ys all.1)
          where
            by_test : (b : Bool) → cond b (y ∷ filter (is_from s.first) ys) (filter (is_from s.first) ys) ≡ s ∷ [] → (filter (is_from s.first) ys ≡ s ∷ [] → x.first < s.first) → x.first < s.first
            by_test true h more = let same : y ≡ s = cc in subst (λ (t : Span). x.first < t.first) same all.0
            by_test false h more = more h

-- at most one row begins at a revision

none_of : (n : ℕ) (xs : List Span) → AllByRecursion (λ t. n < t.first) xs → filter (is_from n) xs ≡ []
none_of n [] h = refl
none_of n (x ∷ xs) h = ap (λ b. cond (b && is_none x.ended) (x ∷ filter (is_from n) xs) (filter (is_from n) xs)) (differ n x.first h.0) ∙ none_of n xs h.1

found_one : (n : ℕ) (spans : List Span) → IsOrdered spans → (filter (is_from n) spans ≡ []) ⊎ ((s : Span) × (s.first ≡ n) × (filter (is_from n) spans ≡ s ∷ []))
found_one n [] up = inl refl
found_one n (x ∷ xs) up = go (is_from n x) refl (found_one n xs up.1)
  where
    go : (b : Bool) → is_from n x ≡ b → (filter (is_from n) xs ≡ []) ⊎ ((s : Span) × (s.first ≡ n) × (filter (is_from n) xs ≡ s ∷ []))
        → (cond b (x ∷ filter (is_from n) xs) (filter (is_from n) xs) ≡ []) ⊎ ((s : Span) × (s.first ≡ n) × (cond b (x ∷ filter (is_from n) xs) (filter (is_from n) xs) ≡ s ∷ []))
    go true here more = inr (x, first_is n x here, ap (λ l. x ∷ l) (none_of n xs (subst (λ m. AllByRecursion (λ t. m < t.first) xs) (first_is n x here) up.0)))
    go false here more = more

-- ---- what the statement finds

-- how a parameter that says so is bound
pub bound_gone : (b : Bool) → Int (if b then pos 1 else pos 0) ≡ Int (pos (flag b))
bound_gone true = refl
bound_gone false = refl

module _ (n r : ℕ) (g : Bool) where
  abbrev pub bound_end : Row
  bound_end = Int (pos n) ∷ Int (pos r) ∷ Int (pos (flag g)) ∷ []

  abbrev env_of : Span → Env
  env_of s = bound_end ∷ row_of s ∷ []

  -- the rowid of the row, and what it becomes
  abbrev becomes : Span → Row
  becomes s = Int (pos s.first) ∷ Int (pos s.first) ∷ Null ∷ Int (pos s.key.kind) ∷ Words s.key.namespace ∷ Words s.key.name ∷ Int (pos r) ∷ Int (pos (flag g)) ∷ Words s.body ∷ []

  matched : (lost : Value) (trees : Trees) (all : List Span) → trees 0 ≡ map row_of all → matches_as lost trees end_query.filter end_query.from (bound_end ∷ []) ≡ map env_of (filter (is_from n) all)
  matched lost trees all is = ap (flat_map (λ row. matches_as lost trees end_query.filter end (bound_end ∷ row ∷ []))) is ∙ go all
    where
      go : (ss : List Span) → flat_map (λ row. matches_as lost trees end_query.filter end (bound_end ∷ row ∷ [])) (map row_of ss) ≡ map env_of (filter (is_from n) ss)
      go [] = refl
      go (s ∷ ss) = rw (end_tests n (Int (pos r) ∷ Int (pos (flag g)) ∷ []) s) (kept_if (is_from n s) env_of s _ (filter (is_from n) ss) (go ss))

  abbrev shows : Span → Output
  shows s = ([], becomes s)

  found : (trees : Trees) (all : List Span) (rows : List Row) → trees 0 ≡ map row_of all → IsAnswerAs Null end_query (overlay trees []) bound_end rows → IsPermutation (map becomes (filter (is_from n) all)) rows
  found trees all rows is a =
      let mine = filter (is_from n) all in
      let staged : a.staged ≡ map env_of mine = a.grouped ∙ matched Null trees all is in
      let kept : a.kept ≡ map shows mine = a.distinct ∙ ap (map (output end_query)) staged ∙ map-map (output end_query) env_of mine in
      let same : IsPermutation (map (λ (o : Output). o.1) (map shows mine)) (map (λ (o : Output). o.1) a.ordered) = IsPermutation-map (λ (o : Output). o.1) _ _ (subst (λ l. IsPermutation l a.ordered) kept a.same) in
      subst (IsPermutation (map becomes mine)) (sym a.shown) (subst (λ l. IsPermutation l (map (λ (o : Output). o.1) a.ordered)) (map-map (λ (o : Output). o.1) shows mine) same)

  no_rows : (rows : List Row) → IsPermutation [] rows → rows ≡ []
  no_rows [] h = refl
  no_rows (x ∷ rows) h = absurd (omega (arith, length_permutation _ _ h))

  -- the rows that are left
  changed_rows : (db : Trees) (spans : List Span) (rows : List Row) → db 0 ≡ map row_of spans → IsOrdered spans → IsPermutation (map becomes (filter (is_from n) spans)) rows
      → edited db (edit_of db object_table (ids_of rows) Given 1 rows) ≡ map row_of (ended_from n r g spans)
  changed_rows db spans rows was up same = go (found_one n spans up)
    where
      go : (filter (is_from n) spans ≡ []) ⊎ ((s : Span) × (s.first ≡ n) × (filter (is_from n) spans ≡ s ∷ [])) → edited db (edit_of db object_table (ids_of rows) Given 1 rows) ≡ map row_of (ended_from n r g spans)
      go (inl none) =
          let is : rows ≡ [] = no_rows rows (subst (λ l. IsPermutation (map becomes l) rows) none same) in
          ap (λ all. edited db (edit_of db object_table (ids_of all) Given 1 all)) is ∙ was ∙ ap (map row_of) (sym (none_changed n r g spans none))
      go (inr one) =
          let s = one.0 in
          let is : rows ≡ becomes s ∷ [] = one_permutation (becomes s) rows (subst (λ l. IsPermutation (map becomes l) rows) one.2 same) in
          let from : filter (is_from s.first) spans ≡ s ∷ [] = subst (λ m. filter (is_from m) spans ≡ s ∷ []) (sym one.1) one.2 in
          let step : edited db (edit_of db object_table (ids_of (becomes s ∷ [])) Given 1 (becomes s ∷ [])) ≡ map row_of (ended_from s.first r g spans) =
          rw (was, cast_null, cast_int s.first, cast_int s.key.kind, cast_int r, cast_int (flag g)) (one_changed r g s spans up from) in
          ap (λ all. edited db (edit_of db object_table (ids_of all) Given 1 all)) is ∙ step ∙ ap (λ m. map row_of (ended_from m r g spans)) one.1

  pub ends_row : (old new : State) (count : ℕ) (st : Stored) → HasRows st old.now → IsOrdered st.spans → Executes end_text bound_end old new (Ok count)
      → HasRows (record { spans = ended_from n r g st.spans; current = st.current; compacted = st.compacted }) new.now
  ends_row old new count st was up h =
      let db = old.now.trees in
      let command = Update 0 (record { lets = []; body = end_query }) in
      let w = runs_as end_text bound_end old new the_schema was.schema command end_is end_plain count h in
      let text = statement_of end_text (understood the_schema end_text) in
      let done = went (subst (λ s. Does old.step_limit (mode_of old) bound_end (record old.now { schema = s }) text None command (Ok (w.tally, new.now))) was.schema w.changed) in
      let now = ap (λ (p : Tally × Database). p.1) (same_value (went (went done.2).2).2) in
      let given = went done.1 in
      let written = went given.2 in
      let trees : done.0.trees ≡ written.0 = ap (λ (it : Written). it.trees) (same_value written.2) in
      let step = one_step the_schema _ db written.0 (edit_of db object_table (ids_of given.0) Given 1 given.0) refl written.1 in
      record {
        schema = ap (λ (d : Database). d.schema) now;
        rows = ap (λ (d : Database). d.trees 0) now ∙ ap (λ (t : Trees). t 0) trees ∙ step.rows ∙ changed_rows db st.spans given.0 was.rows up (found db st.spans given.0 was.rows (given.1.answer Null));
        marks = ap (λ (d : Database). d.trees marks_tree) now ∙ ap (λ (t : Trees). t marks_tree) trees ∙ step.tables.1.0 (λ e. absurd (omega (arith, e))) ∙ was.marks;
      }

-- ---- the two numbers

module _ (current compacted : ℕ) where
  abbrev pub bound_marks : Row
  bound_marks = Int (pos current) ∷ Int (pos compacted) ∷ []

  abbrev new_marks : ℕ → Row
  new_marks old = Int (pos old) ∷ Int (pos current) ∷ Null ∷ Int (pos compacted) ∷ []

  found_marks : (trees : Trees) (c p : ℕ) (rows : List Row) → trees marks_tree ≡ marks_row c p ∷ [] → IsAnswerAs Null set_query (overlay trees []) bound_marks rows → rows ≡ new_marks c ∷ []
  found_marks trees c p rows is a =
      let one : Output = ([], new_marks c) in
      let env : Env = bound_marks ∷ marks_row c p ∷ [] in
      let staged : a.staged ≡ env ∷ [] = a.grouped ∙ ap (flat_map (λ row. matches_as Null (overlay trees []) set_query.filter end (bound_marks ∷ row ∷ []))) is in
      let kept : a.kept ≡ one ∷ [] = a.distinct ∙ ap (map (output set_query)) staged in
      let ordered = one_permutation one a.ordered (subst (λ l. IsPermutation l a.ordered) kept a.same) in
      a.shown ∙ ap (map (λ (o : Output). o.1)) ordered

  has_current : (c : ℕ) → is_eq (int_cmp (pos c) (pos c)) ≡ true
  has_current c = grind (arith, ints, nat_tests)

  one_row : (db : Trees) (c p : ℕ) → db marks_tree ≡ marks_row c p ∷ [] → edited db (edit_of db placed_marks (ids_of (new_marks c ∷ [])) Given 1 (new_marks c ∷ [])) ≡ marks_row current compacted ∷ []
  one_row db c p is = rw (is, cast_null, cast_int current, cast_int compacted, value_cmp-Int (pos c) (pos c), has_current c) refl

  pub sets_marks : (old new : State) (count : ℕ) (st : Stored) → HasRows st old.now → Executes set_text bound_marks old new (Ok count) → HasRows (record { spans = st.spans; current = current; compacted = compacted }) new.now
  sets_marks old new count st was h =
      let db = old.now.trees in
      let command = Update 1 (record { lets = []; body = set_query }) in
      let w = runs_as set_text bound_marks old new the_schema was.schema command set_is set_plain count h in
      let text = statement_of set_text (understood the_schema set_text) in
      let done = went (subst (λ s. Does old.step_limit (mode_of old) bound_marks (record old.now { schema = s }) text None command (Ok (w.tally, new.now))) was.schema w.changed) in
      let now = ap (λ (p : Tally × Database). p.1) (same_value (went (went done.2).2).2) in
      let given = went done.1 in
      let written = went given.2 in
      let trees : done.0.trees ≡ written.0 = ap (λ (it : Written). it.trees) (same_value written.2) in
      let step = one_step the_schema _ db written.0 (edit_of db placed_marks (ids_of given.0) Given 1 given.0) refl written.1 in
      let rows : given.0 ≡ new_marks st.current ∷ [] = found_marks db st.current st.compacted given.0 was.marks (given.1.answer Null) in
      record {
        schema = ap (λ (d : Database). d.schema) now;
        rows = ap (λ (d : Database). d.trees 0) now ∙ ap (λ (t : Trees). t 0) trees ∙ step.tables.0 (λ e. absurd (omega (arith, e))) ∙ was.rows;
        marks = ap (λ (d : Database). d.trees marks_tree) now ∙ ap (λ (t : Trees). t marks_tree) trees ∙ step.rows
            ∙ ap (λ all. edited db (edit_of db placed_marks (ids_of all) Given 1 all)) rows ∙ one_row db st.current st.compacted was.marks;
      }
