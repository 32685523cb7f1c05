-- The rows that an object began with, and that of a key: what the queries find.
use Rattle.std.proofs.Common.{◌≡◌, ℕ, zero, suc, pos, List, [], ◌∷◌, ◌++◌, map, Bool, true, false, cond, ◌&&◌, Option, refl, sym, ap, subst, ◌∙◌, arith, ◌<◌, take, reverse, slice_get, Less, IsPermutation, filter, is_some}
use Rattle.std.specs.Prelude.{nat_le, nat_lt}
use Rattle.std.specs.Option.{option_to_list}
use Rattle.std.specs.List.{flat_map}
use Rattle.std.proofs.lemmas.Int.{ints}
use Rattle.std.proofs.lemmas.Bool.Decides.{nat_tests}
use Rattle.std.proofs.lemmas.List.Sorted.{IsPermutation-reverse, IsPermutation-sym, IsPermutation-trans}
use Rattle.sqlite.specs.declared.types.Value.{Value}
use Rattle.sqlite.specs.declared.types.Value.TheVariants.{Null, Int}
use Rattle.sqlite.specs.Order.{Row}
use Rattle.sqlite.specs.Tree.{Trees, IsAscending}
use Rattle.sqlite.specs.Query.{output, Output, matches_as, end, IsAnswerAs, output_cmp}
use Rattle.sqlite.specs.Program.{overlay}
use Rattle.sqlite.specs.Effect.{Answers, Database}
use Rattle.sqlite_sql.specs.Term.{Env}
use Rattle.sqlite_sql.proofs.QueryLemmas.{output_cmp_total}
use Rattle.sqlite_value.proofs.OrderLemmas.{value_cmp-Int}
use Rattle.sqlite_keyed.proofs.SortLemmas.{sorted_unique}
use Rattle.sqlite_keyed.proofs.ListLemmas.{map-map, ascending-map, ascending-filter, ascending_weaker, filter-map, filter_same}
use Rattle.history.specs.History.{Key, Change, is_same_key, later, up_to}
use Rattle.history.specs.Kept.{with_body}
use Rattle.history.specs.Page.{changes_within, is_within}
use Rattle.history.proofs.Lists.{filter_both, filter_turned}
use Rattle.revtable.specs.Rows.{row_of, shown, IsOrdered}
use Rattle.revtable.specs.Spans.{Span, last_span, made_by, spans_of}
use Rattle.revtable.proofs.Lists.{map-reverse, ascending-reverse}
use Rattle.revtable.proofs.Nexts.{made_all}
use Rattle.revtable.proofs.Where.{bound_key, bound_span, last_tests, made_tests}
use Rattle.revtable.proofs.Texts.{last_query, made_query}

pub take-map : {X Y : Type 0} (f : X → Y) (n : ℕ) (xs : List X) → take n (map f xs) ≡ map f (take n xs)
take-map f zero xs = refl
take-map f (suc n) [] = refl
take-map f (suc n) (x ∷ xs) = ap (λ l. f x ∷ l) (take-map f n xs)

pub kept_if : {X : Type 0} (b : Bool) (f : Span → X) (s : Span) (rest : List X) (ss : List Span) → rest ≡ map f ss → cond b (f s ∷ []) [] ++ rest ≡ map f (cond b (s ∷ ss) ss)
kept_if true f s rest ss is = ap (λ l. f s ∷ l) is
kept_if false f s rest ss is = is

-- ---- the last row of a key

module _ (k : Key) where
  abbrev of_key : Span → Bool
  of_key s = is_same_key k s.key

  abbrev key_env : Span → Env
  key_env s = bound_key k [] ∷ row_of s ∷ []

  matched_last : (lost : Value) (spans : List Span) (trees : Trees) → trees 0 ≡ map row_of spans → matches_as lost trees last_query.filter last_query.from (bound_key k [] ∷ []) ≡ map key_env (filter of_key spans)
  matched_last lost spans trees is = ap (flat_map (λ row. matches_as lost trees last_query.filter end (bound_key k [] ∷ row ∷ []))) is ∙ go spans
    where
      go : (ss : List Span) → flat_map (λ row. matches_as lost trees last_query.filter end (bound_key k [] ∷ row ∷ [])) (map row_of ss) ≡ map key_env (filter of_key ss)
      go [] = refl
      go (s ∷ ss) = rw (last_tests k s) (kept_if (of_key s) key_env s _ (filter of_key ss) (go ss))

  abbrev first_of : Span → Row
  first_of s = Int (pos s.first) ∷ []

  abbrev shows_first : Span → Output
  shows_first s = (first_of s, first_of s)

  later_first : (a b : Span) → a.first < b.first → output_cmp last_query (shows_first b) (shows_first a) ≡ Less
  later_first a b lt = rw (value_cmp-Int (pos a.first) (pos b.first)) (grind (arith, ints, nat_tests))

  one_of : (ss : List Span) → take 1 (map first_of ss) ≡ map first_of (option_to_list (slice_get ss 0))
  one_of [] = refl
  one_of (s ∷ ss) = refl

  pub finds_last : (db : Database) (spans : List Span) (rows : List Row) → db.trees 0 ≡ map row_of spans → IsOrdered spans → Answers db (record { lets = []; body = last_query }) (bound_key k []) rows
      → rows ≡ map (λ s. Int (pos s.first) ∷ []) (option_to_list (last_span k spans))
  finds_last db spans rows is rising h =
      let a : IsAnswerAs Null last_query (overlay db.trees []) (bound_key k []) rows = h.answer Null in
      let mine = filter of_key spans in
      let staged : a.staged ≡ map key_env mine = a.grouped ∙ matched_last Null spans db.trees is in
      let kept : a.kept ≡ map shows_first mine = a.distinct ∙ ap (map (output last_query)) staged ∙ map-map (output last_query) key_env mine in
      let up : IsAscending (λ x y. output_cmp last_query x y ≡ Less) (reverse (map shows_first mine)) =
      ascending-reverse (λ x y. output_cmp last_query y x ≡ Less) (map shows_first mine) (ascending-map (λ x y. output_cmp last_query y x ≡ Less) shows_first mine (ascending_weaker _ _ later_first mine (ascending-filter _ of_key spans rising))) in
      let order : a.ordered ≡ reverse (map shows_first mine) = sorted_unique (output_cmp last_query) (output_cmp_total last_query) _ a.ordered up (IsPermutation-trans _ _ _ (IsPermutation-sym _ _ (IsPermutation-reverse (map shows_first mine))) (subst (λ l. IsPermutation l a.ordered) kept a.same)) a.sorted in
      a.shown ∙ ap (λ os. take 1 (map (λ (o : Output). o.1) os)) order ∙ ap (λ os. take 1 (map (λ (o : Output). o.1) os)) (sym (map-reverse shows_first mine)) ∙ ap (take 1) (map-map (λ (o : Output). o.1) shows_first (reverse mine)) ∙ one_of (reverse mine)

-- ---- the changes of a span that left an object

module _ (from to kind : ℕ) (ns : Option (List ℕ)) (max : ℕ) where
  abbrev pub is_wanted : Change → Bool
  is_wanted c = nat_lt from c.revision && (nat_le c.revision to && is_within kind ns c.key)

  abbrev env_of : Span → Env
  env_of s = bound_span from to kind ns max ∷ row_of s ∷ []

  matched : (lost : Value) (spans : List Span) (trees : Trees) → trees 0 ≡ map row_of spans
      → matches_as lost trees made_query.filter made_query.from (bound_span from to kind ns max ∷ []) ≡ map env_of (filter (λ s. is_wanted (made_by s)) spans)
  matched lost spans trees is = ap (flat_map (λ row. matches_as lost trees made_query.filter end (bound_span from to kind ns max ∷ row ∷ []))) is ∙ go spans
    where
      go : (ss : List Span) → flat_map (λ row. matches_as lost trees made_query.filter end (bound_span from to kind ns max ∷ row ∷ [])) (map row_of ss) ≡ map env_of (filter (λ s. is_wanted (made_by s)) ss)
      go [] = refl
      go (s ∷ ss) = rw (made_tests from to kind ns max s) (kept_if (is_wanted (made_by s)) env_of s _ (filter (λ t. is_wanted (made_by t)) ss) (go ss))

  abbrev shows : Span → Output
  shows s = (Int (pos s.first) ∷ [], shown (made_by s))

  older_first : (a b : Span) → a.first < b.first → output_cmp made_query (shows a) (shows b) ≡ Less
  older_first a b lt = rw (value_cmp-Int (pos a.first) (pos b.first)) (grind (arith, ints, nat_tests))

  -- the same test, cut at both ends and then picked
  pub in_parts : (p : Change → Bool) (cs : List Change) → filter is_wanted (filter p cs) ≡ filter (λ c. is_within kind ns c.key) (filter p (up_to to (later from cs)))
  in_parts p cs =
      filter_turned is_wanted p cs
      ∙ ap (filter p) (sym (ap (filter (λ c. is_within kind ns c.key)) (filter_both (λ c. nat_le c.revision to) (λ c. nat_lt from c.revision) cs)
      ∙ filter_both (λ c. is_within kind ns c.key) (λ c. nat_lt from c.revision && nat_le c.revision to) cs
      ∙ filter_same _ _ (λ c. grouped (nat_lt from c.revision) (nat_le c.revision to) (is_within kind ns c.key)) cs))
      ∙ filter_turned p (λ c. is_within kind ns c.key) (up_to to (later from cs))
    where
      grouped : (a b c : Bool) → ((a && b) && c) ≡ (a && (b && c))
      grouped true b c = refl
      grouped false b c = refl

  pub finds_made : (db : Database) (cs : List Change) (rows : List Row) → db.trees 0 ≡ map row_of (spans_of cs) → IsOrdered (spans_of cs) → Answers db (record { lets = []; body = made_query }) (bound_span from to kind ns max) rows
      → rows ≡ map shown (changes_within kind ns max (with_body (up_to to (later from cs))))
  finds_made db cs rows is rising h =
      let a : IsAnswerAs Null made_query (overlay db.trees []) (bound_span from to kind ns max) rows = h.answer Null in
      let spans = spans_of cs in
      let mine = filter (λ s. is_wanted (made_by s)) spans in
      let staged : a.staged ≡ map env_of mine = a.grouped ∙ matched Null spans db.trees is in
      let kept : a.kept ≡ map shows mine = a.distinct ∙ ap (map (output made_query)) staged ∙ map-map (output made_query) env_of mine in
      let up : IsAscending (λ x y. output_cmp made_query x y ≡ Less) (map shows mine) =
      ascending-map (λ x y. output_cmp made_query x y ≡ Less) shows mine (ascending_weaker _ _ older_first mine (ascending-filter _ (λ (s : Span). is_wanted (made_by s)) spans rising)) in
      let order : a.ordered ≡ map shows mine = sorted_unique (output_cmp made_query) (output_cmp_total made_query) _ a.ordered up (subst (λ l. IsPermutation l a.ordered) kept a.same) a.sorted in
      let these : map made_by mine ≡ filter (λ c. is_within kind ns c.key) (with_body (up_to to (later from cs))) = sym (filter-map is_wanted made_by spans) ∙ ap (filter is_wanted) (made_all cs) ∙ in_parts (λ c. is_some c.body) cs in
      a.shown ∙ ap (λ os. take max (map (λ (o : Output). o.1) os)) order ∙ ap (take max) (map-map (λ (o : Output). o.1) shows mine ∙ sym (map-map shown made_by mine) ∙ ap (map shown) these)
      ∙ take-map shown max (filter (λ c. is_within kind ns c.key) (with_body (up_to to (later from cs))))
