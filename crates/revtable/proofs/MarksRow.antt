-- The row of the two numbers: what the query finds.
use Rattle.std.proofs.Common.{◌≡◌, ℕ, pos, List, [], ◌∷◌, map, Some, None, is_some, sym, ap, subst, ◌∙◌, IsPermutation, slice_get, true≢false, unwrap_or}
use Rattle.std.specs.List.{flat_map}
use Rattle.sqlite.specs.declared.types.Value.TheVariants.{Null, Int}
use Rattle.sqlite.specs.Order.{Row}
use Rattle.sqlite.specs.Query.{output, Output, matches_as, end, IsAnswerAs}
use Rattle.sqlite.specs.Program.{overlay}
use Rattle.sqlite.specs.Effect.{Answers, Database, Reads}
use Rattle.sqlite.specs.Listing.{understood}
use Rattle.sqlite.proofs.Callers.{one_permutation}
use Rattle.sqlite_sql.specs.Term.{Env}
use Rattle.revtable.specs.Decoded.{marks_shown}
use Rattle.revtable.specs.Rows.{the_schema, marks_row, marks_tree, IsAnswer}
use Rattle.revtable.specs.Spans.{Stored}
use Rattle.revtable.proofs.Outcomes.{same_command}
use Rattle.revtable.proofs.Texts.{marks_text, marks_query, marks_is}

pub finds_marks : (db : Database) (c p : ℕ) (rows : List Row) → db.trees marks_tree ≡ marks_row c p ∷ [] → Answers db (record { lets = []; body = marks_query }) [] rows → rows ≡ (Int (pos c) ∷ Int (pos p) ∷ []) ∷ []
finds_marks db c p rows is h =
    let a : IsAnswerAs Null marks_query (overlay db.trees []) [] rows = h.answer Null in
    let one : Output = ([], Int (pos c) ∷ Int (pos p) ∷ []) in
    let env : Env = [] ∷ marks_row c p ∷ [] in
    let staged : a.staged ≡ env ∷ [] = a.grouped ∙ ap (flat_map (λ row. matches_as Null (overlay db.trees []) marks_query.filter end ([] ∷ row ∷ []))) is in
    let kept : a.kept ≡ one ∷ [] = a.distinct ∙ ap (map (output marks_query)) staged in
    let ordered = one_permutation one a.ordered (subst (λ l. IsPermutation l a.ordered) kept a.same) in
    a.shown ∙ ap (map (λ (o : Output). o.1)) ordered

pub marks_are : (rows : List Row) (row : Row) (c p : ℕ) → rows ≡ (Int (pos c) ∷ Int (pos p) ∷ []) ∷ [] → Some row ≡ slice_get rows 0 → marks_shown row ≡ (c, p)
marks_are rows row c p is first = ap (λ o. marks_shown (unwrap_or o [])) (first ∙ ap (λ l. slice_get l 0) is)

asked_rows : (st : Stored) (rows : List Row) → IsAnswer marks_text [] st rows → rows ≡ (Int (pos st.current) ∷ Int (pos st.compacted) ∷ []) ∷ []
asked_rows st rows h = finds_marks h.0 st.current st.compacted rows h.1.marks (subst (λ k. Reads k h.0 [] rows) (sym (same_command (understood the_schema marks_text)) ∙ marks_is.0) h.2)

pub asked_marks : (st : Stored) (rows : List Row) (row : Row) → IsAnswer marks_text [] st rows → Some row ≡ slice_get rows 0 → marks_shown row ≡ (st.current, st.compacted)
asked_marks st rows row h first =
    marks_are rows row st.current st.compacted (asked_rows st rows h) first

-- there is one
pub asked_one : (st : Stored) (rows : List Row) → IsAnswer marks_text [] st rows → None ≡ slice_get rows 0 → ⊥
asked_one st rows h none = true≢false (sym (ap is_some (none ∙ ap (λ l. slice_get l 0) (asked_rows st rows h))))
