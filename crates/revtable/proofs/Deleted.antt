-- The deletions of a span: what the query finds.
use Rattle.std.proofs.Common.{◌≡◌, ℕ, pos, List, [], ◌∷◌, ◌++◌, map, Bool, true, false, cond, ◌&&◌, Option, Some, None, refl, ap, ap₂, subst, ◌∙◌, arith, ◌<◌, take, Less, IsPermutation, filter}
use Rattle.std.specs.Prelude.{nat_le, nat_lt, is_none}
use Rattle.std.specs.List.{flat_map}
use Rattle.std.specs.FinMap as fin
use Rattle.std.proofs.lemmas.Int.{ints}
use Rattle.std.proofs.lemmas.Bool.Decides.{nat_tests}
use Rattle.std.proofs.lemmas.List.Sorted.{IsPermutation-trans, IsPermutation-map}
use Rattle.sqlite.specs.declared.types.Value.{Value}
use Rattle.sqlite.specs.declared.types.Value.TheVariants.{Null, Int, Text as Words}
use Rattle.sqlite.specs.Order.{Row}
use Rattle.sqlite.specs.Tree.{Trees, IsAscending}
use Rattle.sqlite.specs.Query.{output, Output, matches_as, end, IsAnswerAs, output_cmp}
use Rattle.sqlite.specs.Program.{overlay}
use Rattle.sqlite.specs.Effect.{Answers, Database}
use Rattle.sqlite_sql.specs.Term.{Env}
use Rattle.sqlite_sql.proofs.QueryLemmas.{output_cmp_total}
use Rattle.sqlite_value.proofs.OrderLemmas.{value_cmp-Int}
use Rattle.sqlite_keyed.proofs.SortLemmas.{sorted_unique}
use Rattle.sqlite_keyed.proofs.ListLemmas.{map-map, ascending-map, ascending-filter, ascending_weaker, IsPermutation-filter}
use Rattle.history.specs.History.{Key, Change, later, up_to}
use Rattle.history.specs.Page.{changes_within, is_within}
use Rattle.history.specs.Whole.{AreThere}
use Rattle.revtable.specs.Asked.{deletions}
use Rattle.revtable.specs.Rows.{row_of, shown, number_value}
use Rattle.revtable.specs.Spans.{Span, deletion_at, deletion_by, made_by, spans_of}
use Rattle.revtable.proofs.Made.{in_parts, is_wanted, kept_if, take-map}
use Rattle.revtable.proofs.Merged.{changes_of_rows}
use Rattle.revtable.proofs.Where.{bound_span, deleted_tests, is_ended_in}
use Rattle.revtable.proofs.Texts.{deleted_query}

-- ---- the deletions that ended rows are those among the changes

filter-append : (p : Change → Bool) (xs ys : List Change) → filter p (xs ++ ys) ≡ filter p xs ++ filter p ys
filter-append p [] ys = refl
filter-append p (x ∷ xs) ys = go (p x) (filter-append p xs ys)
  where
    go : (b : Bool) → filter p (xs ++ ys) ≡ filter p xs ++ filter p ys → cond b (x ∷ filter p (xs ++ ys)) (filter p (xs ++ ys)) ≡ cond b (x ∷ filter p xs) (filter p xs) ++ filter p ys
    go true more = ap (λ l. x ∷ l) more
    go false more = more

none_made : (spans : List Span) → deletions (map made_by spans) ≡ []
none_made [] = refl
none_made (s ∷ ss) = none_made ss

all_deleted : (spans : List Span) → deletions (flat_map deletion_by spans) ≡ flat_map deletion_by spans
all_deleted [] = refl
all_deleted (s ∷ ss) = go s.ended s.gone (all_deleted ss)
  where
    go : (o : Option ℕ) (g : Bool) → deletions (flat_map deletion_by ss) ≡ flat_map deletion_by ss → deletions (deletion_at s.key o g ++ flat_map deletion_by ss) ≡ deletion_at s.key o g ++ flat_map deletion_by ss
    go None g more = more
    go (Some n) false more = more
    go (Some n) true more = ap (λ l. record { revision = n; key = s.key; body = None } ∷ l) more

pub deletions_of_rows : (cs : List Change) → AreThere fin.empty cs → IsPermutation (deletions cs) (flat_map deletion_by (spans_of cs))
deletions_of_rows cs there =
    subst (IsPermutation (deletions cs))
    (filter-append (λ c. is_none c.body) (map made_by (spans_of cs)) (flat_map deletion_by (spans_of cs)) ∙ ap (λ l. l ++ deletions (flat_map deletion_by (spans_of cs))) (none_made (spans_of cs)) ∙ all_deleted (spans_of cs))
    (IsPermutation-filter (λ c. is_none c.body) _ _ (changes_of_rows cs there))

-- ---- what the query finds

module _ (from to kind : ℕ) (ns : Option (List ℕ)) (max : ℕ) where
  abbrev is_gone : Span → Bool
  is_gone s = is_ended_in from to s.ended && (s.gone && is_within kind ns s.key)

  abbrev wanted : Change → Bool
  wanted = is_wanted from to kind ns max

  abbrev env_of : Span → Env
  env_of s = bound_span from to kind ns max ∷ row_of s ∷ []

  matched : (lost : Value) (spans : List Span) (trees : Trees) → trees 0 ≡ map row_of spans
      → matches_as lost trees deleted_query.filter deleted_query.from (bound_span from to kind ns max ∷ []) ≡ map env_of (filter is_gone spans)
  matched lost spans trees is = ap (flat_map (λ row. matches_as lost trees deleted_query.filter end (bound_span from to kind ns max ∷ row ∷ []))) is ∙ go spans
    where
      go : (ss : List Span) → flat_map (λ row. matches_as lost trees deleted_query.filter end (bound_span from to kind ns max ∷ row ∷ [])) (map row_of ss) ≡ map env_of (filter is_gone ss)
      go [] = refl
      go (s ∷ ss) = rw (deleted_tests from to kind ns max s) (kept_if (is_gone s) env_of s _ (filter is_gone ss) (go ss))

  abbrev shows_end : Key → Option ℕ → Output
  shows_end k o = (number_value o ∷ [], number_value o ∷ Int (pos k.kind) ∷ Words k.namespace ∷ Words k.name ∷ Null ∷ [])

  abbrev shows_span : Span → Output
  shows_span s = shows_end s.key s.ended

  abbrev shows : Change → Output
  shows c = (Int (pos c.revision) ∷ [], shown c)

  grouped : (a b c : Bool) → ((a && b) && c) ≡ (a && (b && c))
  grouped true b c = refl
  grouped false b c = refl

  and_false : (b : Bool) → (b && false) ≡ false
  and_false true = refl
  and_false false = refl

  one_more : (s : Span) (rest : List Span) (ds : List Change) → map shows_span (filter is_gone rest) ≡ map shows (filter wanted ds) → (o : Option ℕ) → s.ended ≡ o → (g : Bool)
      → map shows_span (cond (is_ended_in from to o && (g && is_within kind ns s.key)) (s ∷ filter is_gone rest) (filter is_gone rest)) ≡ map shows (filter wanted (deletion_at s.key o g ++ ds))
  one_more s rest ds more None e g = more
  one_more s rest ds more (Some n) e false = ap (λ b. map shows_span (cond b (s ∷ filter is_gone rest) (filter is_gone rest))) (and_false (nat_lt from n && nat_le n to)) ∙ more
  one_more s rest ds more (Some n) e true =
      ap (λ b. map shows_span (cond b (s ∷ filter is_gone rest) (filter is_gone rest))) (grouped (nat_lt from n) (nat_le n to) (is_within kind ns s.key))
      ∙ go (nat_lt from n && (nat_le n to && is_within kind ns s.key))
    where
      d : Change
      d = record { revision = n; key = s.key; body = None }

      go : (b : Bool) → map shows_span (cond b (s ∷ filter is_gone rest) (filter is_gone rest)) ≡ map shows (cond b (d ∷ filter wanted ds) (filter wanted ds))
      go true = ap₂ (λ (x : Output) l. x ∷ l) (ap (shows_end s.key) e) more
      go false = more

  all_gone : (spans : List Span) → map shows_span (filter is_gone spans) ≡ map shows (filter wanted (flat_map deletion_by spans))
  all_gone [] = refl
  all_gone (s ∷ ss) = one_more s ss (flat_map deletion_by ss) (all_gone ss) s.ended refl s.gone

  older_first : (a b : Change) → a.revision < b.revision → output_cmp deleted_query (shows a) (shows b) ≡ Less
  older_first a b lt = rw (value_cmp-Int (pos a.revision) (pos b.revision)) (grind (arith, ints, nat_tests))

  pub finds_deleted : (db : Database) (cs : List Change) (rows : List Row) → db.trees 0 ≡ map row_of (spans_of cs) → IsAscending (λ a b. a.revision < b.revision) cs → AreThere fin.empty cs
      → Answers db (record { lets = []; body = deleted_query }) (bound_span from to kind ns max) rows → rows ≡ map shown (changes_within kind ns max (deletions (up_to to (later from cs))))
  finds_deleted db cs rows is rising there h =
      let a : IsAnswerAs Null deleted_query (overlay db.trees []) (bound_span from to kind ns max) rows = h.answer Null in
      let spans = spans_of cs in
      let mine = filter is_gone spans in
      let these = filter wanted (deletions cs) in
      let staged : a.staged ≡ map env_of mine = a.grouped ∙ matched Null spans db.trees is in
      let kept : a.kept ≡ map shows (filter wanted (flat_map deletion_by spans)) = a.distinct ∙ ap (map (output deleted_query)) staged ∙ map-map (output deleted_query) env_of mine ∙ all_gone spans in
      let same : IsPermutation (map shows these) (map shows (filter wanted (flat_map deletion_by spans))) = IsPermutation-map shows _ _ (IsPermutation-filter wanted _ _ (deletions_of_rows cs there)) in
      let up : IsAscending (λ x y. output_cmp deleted_query x y ≡ Less) (map shows these) =
      ascending-map (λ x y. output_cmp deleted_query x y ≡ Less) shows these (ascending_weaker _ _ older_first these (ascending-filter _ wanted (deletions cs) (ascending-filter _ (λ (c : Change). is_none c.body) cs rising))) in
      let order : a.ordered ≡ map shows these = sorted_unique (output_cmp deleted_query) (output_cmp_total deleted_query) _ a.ordered up (IsPermutation-trans _ _ _ same (subst (λ l. IsPermutation l a.ordered) kept a.same)) a.sorted in
      a.shown ∙ ap (λ os. take max (map (λ (o : Output). o.1) os)) order ∙ ap (take max) (map-map (λ (o : Output). o.1) shows these ∙ ap (map shown) (in_parts from to kind ns max (λ c. is_none c.body) cs))
      ∙ take-map shown max (filter (λ c. is_within kind ns c.key) (deletions (up_to to (later from cs))))
