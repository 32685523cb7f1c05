-- The number of rows.
use Rattle.std.proofs.Common.{◌≡◌, ℕ, pos, List, [], ◌∷◌, map, true, Some, refl, sym, ap, subst, ◌∙◌, length, min, IsPermutation, filter}
use Rattle.std.specs.List.{flat_map}
use Rattle.sqlite.specs.declared.types.Value.{Value}
use Rattle.sqlite.specs.declared.types.Value.TheVariants.{Null, Int}
use Rattle.sqlite.specs.Order.{Row}
use Rattle.sqlite.specs.Tree.{Trees}
use Rattle.sqlite.specs.Query.{output, Output, matches_as, end, IsAnswerAs}
use Rattle.sqlite.specs.Program.{overlay}
use Rattle.sqlite.specs.Effect.{Answers, Database}
use Rattle.sqlite.proofs.Callers.{one_permutation}
use Rattle.std.proofs.lemmas.List.{length-map}
use Rattle.std.specs.List.{AllZip}
use Rattle.std.proofs.lemmas.List.Sorted.{length_permutation}
use Rattle.sqlite_sql.specs.Term.{Env, eval}
use Rattle.sqlite.specs.Term.{lit}
use Rattle.sqlite_sql.specs.Group.{IsSummary, Summarizes, value_over}
use Rattle.history.specs.History.{Change}
use Rattle.history.specs.Kept.{with_body}
use Rattle.revtable.specs.Rows.{row_of}
use Rattle.revtable.specs.Spans.{Span, made_by, spans_of}
use Rattle.revtable.proofs.Nexts.{made_all}
use Rattle.revtable.proofs.Texts.{count_grouping, count_all, count_query}

matched : (lost : Value) (trees : Trees) (spans : List Span) → trees 0 ≡ map row_of spans → matches_as lost trees count_query.filter count_query.from ([] ∷ []) ≡ map (λ s. [] ∷ row_of s ∷ []) spans
matched lost trees spans is = ap (flat_map (λ row. matches_as lost trees count_query.filter end ([] ∷ row ∷ []))) is ∙ go spans
  where
    go : (ss : List Span) → flat_map (λ row. matches_as lost trees count_query.filter end ([] ∷ row ∷ [])) (map row_of ss) ≡ map (λ s. [] ∷ row_of s ∷ []) ss
    go [] = refl
    go (s ∷ ss) = ap (λ l. ([] ∷ row_of s ∷ []) ∷ l) (go ss)

abbrev most : ℕ
most = 9223372036854775807

same_some : {A : Type 0} {a b : A} → Some a ≡ Some b → a ≡ b
same_some e = cc

one_value : (group : List Env) (values : Row) → AllZip (λ a v. value_over group a ≡ Some v) (count_all ∷ []) values → values ≡ Int (pos (min (length group) most)) ∷ []
one_value group [] h = absurd h
one_value group (v ∷ []) h = ap (λ x. x ∷ []) (sym (same_some h.0)) ∙ ap (λ n. Int (pos (min n most)) ∷ []) (length-map group (eval (lit Null)))
one_value group (v ∷ w ∷ more) h = absurd h.1

one_row : (group : List Env) (rows : List Row) → AllZip (IsSummary count_grouping) (group ∷ []) rows → rows ≡ (Int (pos (min (length group) most)) ∷ []) ∷ []
one_row group [] h = absurd h
one_row group (r ∷ []) h = ap (λ x. x ∷ []) (h.0.2 ∙ one_value group h.0.0 h.0.1)
one_row group (r ∷ q ∷ more) h = absurd h.1

counted : (all staged : List Env) → Summarizes count_grouping [] all staged → staged ≡ ([] ∷ (Int (pos (min (length all) most)) ∷ []) ∷ []) ∷ []
counted all staged g =
    let order : List Env = g.grouping.0 in
    let rows : g.rows ≡ (Int (pos (min (length order) most)) ∷ []) ∷ [] = one_row order g.rows (subst (λ l. AllZip (IsSummary count_grouping) l g.rows) g.grouping.2 g.summaries) in
    g.having ∙ ap (λ l. filter (λ env. true) (map (λ r. [] ∷ r ∷ []) l)) rows ∙ ap (λ n. ([] ∷ (Int (pos (min n most)) ∷ []) ∷ []) ∷ []) (length_permutation all order g.grouping.1)

pub finds_count : (db : Database) (cs : List Change) (rows : List Row) → db.trees 0 ≡ map row_of (spans_of cs) → Answers db (record { lets = []; body = count_query }) [] rows
    → rows ≡ (Int (pos (min (length (with_body cs)) most)) ∷ []) ∷ []
finds_count db cs rows is h =
    let a : IsAnswerAs Null count_query (overlay db.trees []) [] rows = h.answer Null in
    let number : Value = Int (pos (min (length (spans_of cs)) most)) in
    let all : List Env = map (λ s. [] ∷ row_of s ∷ []) (spans_of cs) in
    let staged : a.staged ≡ ([] ∷ (number ∷ []) ∷ []) ∷ [] =
    counted _ a.staged a.grouped ∙ ap (λ (l : List Env). ([] ∷ (Int (pos (min (length l) most)) ∷ []) ∷ []) ∷ []) (matched Null db.trees (spans_of cs) is)
    ∙ ap (λ n. ([] ∷ (Int (pos (min n most)) ∷ []) ∷ []) ∷ []) (length-map (spans_of cs) (λ (s : Span). [] ∷ row_of s ∷ [])) in
    let one : Output = ([], number ∷ []) in
    let kept : a.kept ≡ one ∷ [] = a.distinct ∙ ap (map (output count_query)) staged in
    let ordered = one_permutation one a.ordered (subst (λ l. IsPermutation l a.ordered) kept a.same) in
    let as_many : length (spans_of cs) ≡ length (with_body cs) = sym (length-map (spans_of cs) made_by) ∙ ap length (made_all cs) in
    a.shown ∙ ap (λ os. map (λ (o : Output). o.1) os) ordered ∙ ap (λ n. (Int (pos (min n most)) ∷ []) ∷ []) as_many
