-- The objects of a page, and that of a key: what the queries find.
use Rattle.std.proofs.Common.{◌≡◌, ◌⊎◌, inl, inr, ℕ, pos, List, [], ◌∷◌, map, Bool, true, false, cond, ◌&&◌, Option, refl, sym, ap, subst, ◌∙◌, arith, take, Less, Equal, Greater, Ordering, IsPermutation, filter, ◌==◌, is_eq}
use Rattle.std.proofs.Common.{eqb-true}
use Rattle.std.specs.Ordering.{nat_cmp, ordering_then}
use Rattle.std.specs.List.{flat_map, list_all, AllByRecursion}
use Rattle.std.specs.Cmp.{nat_cmp_total}
use Rattle.std.specs.FinMap as fin
use Rattle.std.proofs.lemmas.Cmp.{tied_itself}
use Rattle.std.proofs.lemmas.List.Sorted.{IsPermutation-sym, IsPermutation-trans, IsPermutation-map, length_permutation}
use Rattle.sqlite.specs.declared.types.Value.{Value}
use Rattle.sqlite.specs.declared.types.Value.TheVariants.{Null, Int, Text as Words}
use Rattle.sqlite.specs.Order.{Row}
use Rattle.sqlite.specs.Term.{Term}
use Rattle.sqlite.specs.Tree.{Trees, IsAscending}
use Rattle.sqlite.specs.Query.{output, Output, matches_as, end, IsAnswerAs, output_cmp}
use Rattle.sqlite.specs.Program.{overlay}
use Rattle.sqlite.specs.Effect.{Answers, Database}
use Rattle.sqlite.proofs.Callers.{one_permutation}
use Rattle.sqlite_sql.specs.Term.{Env, holds}
use Rattle.sqlite_sql.proofs.QueryLemmas.{output_cmp_total}
use Rattle.sqlite_value.proofs.OrderLemmas.{value_cmp-Text}
use Rattle.sqlite_keyed.proofs.SortLemmas.{sorted_unique}
use Rattle.sqlite_keyed.proofs.ListLemmas.{map-map, ascending-map, ascending-filter, ascending_weaker, filter-map, filter_same, all_both, IsPermutation-filter}
use Rattle.history.specs.History.{Key, Change, text_cmp, key_cmp, is_same_key, state_at, IsRising}
use Rattle.revtable.specs.Asked.{as_change, is_in_one, is_from, in_one, in_from, under}
use Rattle.history.specs.Kept.{is_last_up_to}
use Rattle.history.proofs.Keys.{tied}
use Rattle.history.proofs.Lists.{filter_both}
use Rattle.revtable.specs.Rows.{row_of, shown}
use Rattle.revtable.specs.Spans.{Span, made_by, spans_of, is_current_at}
use Rattle.revtable.proofs.Entries.{Entry, entries_ascend, current_objects_entries}
use Rattle.revtable.proofs.Made.{kept_if, take-map}
use Rattle.revtable.proofs.Nexts.{current_objects_spans}
use Rattle.revtable.proofs.Where.{bound_key, bound_page, bound_in, bound_from, in_tests_are, from_tests_are, newest_tests}
use Rattle.revtable.proofs.Texts.{page_query, newest_query, in_tests, from_tests}

-- what the query of a page finds: the rows that stand and whose keys are wanted
module _ (asked : List Term) (rest : Row) (wanted : Key → Bool) (r max : ℕ) where
  abbrev env_of : Span → Env
  env_of s = bound_page r max rest ∷ row_of s ∷ []

  abbrev is_on_page : Span → Bool
  is_on_page s = is_current_at r s && wanted s.key

  abbrev pub AreTests : Type 0
  AreTests = (s : Span) → list_all (holds (env_of s)) asked ≡ is_on_page s

  matched : AreTests → (lost : Value) (trees : Trees) (spans : List Span) → trees 0 ≡ map row_of spans
      → matches_as lost trees (page_query asked).filter (page_query asked).from (bound_page r max rest ∷ []) ≡ map env_of (filter is_on_page spans)
  matched tests lost trees spans is = ap (flat_map (λ row. matches_as lost trees asked end (bound_page r max rest ∷ row ∷ []))) is ∙ go spans
    where
      go : (ss : List Span) → flat_map (λ row. matches_as lost trees asked end (bound_page r max rest ∷ row ∷ [])) (map row_of ss) ≡ map env_of (filter is_on_page ss)
      go [] = refl
      go (s ∷ ss) = rw (tests s) (kept_if (is_on_page s) env_of s _ (filter is_on_page ss) (go ss))

-- the changes that the rows began with which stand and are wanted
wanted_made : (wanted : Key → Bool) (r lo top : ℕ) (cs : List Change) → IsRising lo cs top
    → map made_by (filter (λ s. is_current_at r s && wanted s.key) (spans_of cs)) ≡ filter (λ c. wanted c.key) (filter (is_last_up_to r cs) cs)
wanted_made wanted r lo top cs rise =
    ap (map made_by) (sym (filter_both (λ (s : Span). wanted s.key) (is_current_at r) (spans_of cs))) ∙ sym (filter-map (λ c. wanted c.key) made_by (filter (is_current_at r) (spans_of cs)))
    ∙ ap (filter (λ c. wanted c.key)) (current_objects_spans r lo top cs rise)

abbrev shows : Change → Output
shows it = (Words it.key.namespace ∷ Words it.key.name ∷ [], shown it)

-- ---- the order

all_pass : {X : Type 0} (p : X → Bool) (xs : List X) → AllByRecursion (λ x. p x ≡ true) (filter p xs)
all_pass p [] = tt
all_pass p (x ∷ xs) = go (p x) refl (all_pass p xs)
  where
    go : (b : Bool) → p x ≡ b → AllByRecursion (λ y. p y ≡ true) (filter p xs) → AllByRecursion (λ y. p y ≡ true) (cond b (x ∷ filter p xs) (filter p xs))
    go true e more = (e, more)
    go false e more = more

ascending_with : {X : Type 0} (R : X → X → Type 0) (P : X → Type 0) (xs : List X) → IsAscending R xs → AllByRecursion P xs → IsAscending (λ a b. P a × (P b × R a b)) xs
ascending_with R P [] up all = tt
ascending_with R P (x ∷ xs) up all = (all_both (R x) P (λ y. P x × (P y × R x y)) (λ y lt p. (all.0, (p, lt))) xs up.0 all.1, ascending_with R P xs up.1 all.1)

less_by_name : (a b : Ordering) → ordering_then a b ≡ Less → ordering_then a (ordering_then b Equal) ≡ Less
less_by_name Less b e = refl
less_by_name Equal Less e = refl
less_by_name Equal Equal e = e
less_by_name Equal Greater e = e
less_by_name Greater b e = e

pub same_kind : (a b : Key) → a.kind ≡ b.kind → key_cmp a b ≡ ordering_then (text_cmp a.namespace b.namespace) (text_cmp a.name b.name)
same_kind a b e = ap (λ o. ordering_then o (ordering_then (text_cmp a.namespace b.namespace) (text_cmp a.name b.name))) (ap (λ n. nat_cmp a.kind n) (sym e) ∙ tied_itself nat_cmp_total a.kind)

lesser_first : (asked : List Term) (e f : Entry) → e.0.kind ≡ f.0.kind → key_cmp e.0 f.0 ≡ Less → output_cmp (page_query asked) (shows (as_change e)) (shows (as_change f)) ≡ Less
lesser_first asked e f is lt = rw (value_cmp-Text e.0.namespace f.0.namespace, value_cmp-Text e.0.name f.0.name) (less_by_name _ _ (sym (same_kind e.0 f.0 is) ∙ lt))

pub finds_page : (asked : List Term) (rest : Row) (wanted : Key → Bool) (kind : ℕ) (db : Database) (changes : List Change) (r max top : ℕ) (rows : List Row) → AreTests asked rest wanted r max
    → ((k : Key) → wanted k ≡ true → k.kind ≡ kind) → db.trees 0 ≡ map row_of (spans_of changes) → IsRising 0 changes top → Answers db (record { lets = []; body = page_query asked }) (bound_page r max rest) rows
    → rows ≡ map (λ e. shown (as_change e)) (take max (filter (λ e. wanted e.0) (fin.entries (state_at changes r))))
finds_page asked rest wanted kind db changes r max top rows tests of_kind is rising h =
    let a : IsAnswerAs Null (page_query asked) (overlay db.trees []) (bound_page r max rest) rows = h.answer Null in
    let spans = filter (is_on_page asked rest wanted r max) (spans_of changes) in
    let mine = map made_by spans in
    let staged : a.staged ≡ map (env_of asked rest wanted r max) spans = a.grouped ∙ matched asked rest wanted r max tests Null db.trees (spans_of changes) is in
    let kept : a.kept ≡ map shows mine =
    a.distinct ∙ ap (map (output (page_query asked))) staged ∙ map-map (output (page_query asked)) (env_of asked rest wanted r max) spans ∙ sym (map-map shows made_by spans) in
    let es = fin.entries (state_at changes r) in
    let there = filter (λ (e : Entry). wanted e.0) es in
    let show : Entry → Output = λ e. shows (as_change e) in
    let same : IsPermutation mine (map as_change there) =
    subst (λ l. IsPermutation l (map as_change there)) (sym (wanted_made wanted r 0 top changes rising))
    (subst (IsPermutation (filter (λ (c : Change). wanted c.key) (filter (is_last_up_to r changes) changes))) (filter-map (λ (c : Change). wanted c.key) as_change es)
    (IsPermutation-filter (λ (c : Change). wanted c.key) _ _ (current_objects_entries r 0 top changes rising))) in
    let facts = ascending_with (λ e f. key_cmp e.0 f.0 ≡ Less) (λ e. wanted e.0 ≡ true) there
    (ascending-filter _ (λ (e : Entry). wanted e.0) es (entries_ascend es (fin.entries_sorted (state_at changes r)))) (all_pass (λ (e : Entry). wanted e.0) es) in
    let up : IsAscending (λ x y. output_cmp (page_query asked) x y ≡ Less) (map show there) =
    ascending-map (λ x y. output_cmp (page_query asked) x y ≡ Less) show there (ascending_weaker _ _ (λ e f (both : (wanted e.0 ≡ true) × ((wanted f.0 ≡ true) × (key_cmp e.0 f.0 ≡ Less))).
    lesser_first asked e f (of_kind e.0 both.0 ∙ sym (of_kind f.0 both.1.0)) both.1.1) there facts) in
    let all : IsPermutation (map show there) (map shows mine) = subst (λ l. IsPermutation l (map shows mine)) (map-map shows as_change there) (IsPermutation-map shows _ _ (IsPermutation-sym _ _ same)) in
    let order : a.ordered ≡ map show there = sorted_unique (output_cmp (page_query asked)) (output_cmp_total (page_query asked)) _ a.ordered up (IsPermutation-trans _ _ _ all (subst (λ l. IsPermutation l a.ordered) kept a.same)) a.sorted in
    a.shown ∙ ap (λ os. take max (map (λ (o : Output). o.1) os)) order ∙ ap (take max) (map-map (λ (o : Output). o.1) show there) ∙ take-map (λ e. shown (as_change e)) max there

-- ---- of one namespace, and of those after it

pub and_left : (a b : Bool) → (a && b) ≡ true → a ≡ true
and_left true b e = refl
and_left false b e = e

pub one_kind : (kind : ℕ) (ns : List ℕ) (name : Option (List ℕ)) (k : Key) → is_in_one kind ns name k ≡ true → k.kind ≡ kind
one_kind kind ns name k e = eqb-true _ _ (and_left (k.kind == kind) _ (and_left ((k.kind == kind) && is_eq (text_cmp k.namespace ns)) _ e))

pub from_kind : (kind : ℕ) (low : List ℕ) (k : Key) → is_from kind low k ≡ true → k.kind ≡ kind
from_kind kind low k e = eqb-true _ _ (and_left (k.kind == kind) _ e)

pub finds_in : (db : Database) (changes : List Change) (kind : ℕ) (ns : List ℕ) (name : Option (List ℕ)) (r max top : ℕ) (rows : List Row) → db.trees 0 ≡ map row_of (spans_of changes) → IsRising 0 changes top
    → Answers db (record { lets = []; body = page_query in_tests }) (bound_page r max (bound_in kind ns name)) rows → rows ≡ map (λ e. shown (as_change e)) (take max (in_one kind ns name (state_at changes r)))
finds_in db changes kind ns name r max top rows is rising h =
    finds_page in_tests (bound_in kind ns name) (is_in_one kind ns name) kind db changes r max top rows (in_tests_are kind ns name r max) (one_kind kind ns name) is rising h

pub finds_from : (db : Database) (changes : List Change) (kind : ℕ) (low : List ℕ) (r max top : ℕ) (rows : List Row) → db.trees 0 ≡ map row_of (spans_of changes) → IsRising 0 changes top
    → Answers db (record { lets = []; body = page_query from_tests }) (bound_page r max (bound_from kind low)) rows → rows ≡ map (λ e. shown (as_change e)) (take max (in_from kind low (state_at changes r)))
finds_from db changes kind low r max top rows is rising h =
    finds_page from_tests (bound_from kind low) (is_from kind low) kind db changes r max top rows (from_tests_are kind low r max) (from_kind kind low) is rising h

-- ---- under a key

at_most_one : (k : Key) (es : List Entry) → IsAscending (λ e f. key_cmp e.0 f.0 ≡ Less) es → (filter (λ e. is_same_key k e.0) es ≡ []) ⊎ ((e : Entry) × (filter (λ e. is_same_key k e.0) es ≡ e ∷ []))
at_most_one k [] up = inl refl
at_most_one k (e ∷ es) up = go (is_same_key k e.0) refl (at_most_one k es up.1)
  where
    none_later : (fs : List Entry) → AllByRecursion (λ f. key_cmp e.0 f.0 ≡ Less) fs → filter (λ f. is_same_key e.0 f.0) fs ≡ []
    none_later [] h = refl
    none_later (f ∷ fs) h = ap (λ o. cond (is_eq o) (f ∷ filter (λ g. is_same_key e.0 g.0) fs) (filter (λ g. is_same_key e.0 g.0) fs)) h.0 ∙ none_later fs h.1

    go : (b : Bool) → is_same_key k e.0 ≡ b → (filter (λ f. is_same_key k f.0) es ≡ []) ⊎ ((f : Entry) × (filter (λ f. is_same_key k f.0) es ≡ f ∷ []))
        → (cond b (e ∷ filter (λ f. is_same_key k f.0) es) (filter (λ f. is_same_key k f.0) es) ≡ []) ⊎ ((f : Entry) × (cond b (e ∷ filter (λ f. is_same_key k f.0) es) (filter (λ f. is_same_key k f.0) es) ≡ f ∷ []))
    go true is more = inr (e, ap (λ l. e ∷ l) (ap (λ q. filter (λ (f : Entry). is_same_key q f.0) es) (tied k e.0 is) ∙ none_later es up.0))
    go false is more = more

module _ (k : Key) (r : ℕ) where
  abbrev pub bound_newest : Row
  bound_newest = bound_key k (Int (pos r) ∷ [])

  abbrev key_env : Span → Env
  key_env s = bound_newest ∷ row_of s ∷ []

  abbrev is_newest : Span → Bool
  is_newest s = is_same_key k s.key && is_current_at r s

  matched_key : (lost : Value) (trees : Trees) (spans : List Span) → trees 0 ≡ map row_of spans → matches_as lost trees newest_query.filter newest_query.from (bound_newest ∷ []) ≡ map key_env (filter is_newest spans)
  matched_key lost trees spans is = ap (flat_map (λ row. matches_as lost trees newest_query.filter end (bound_newest ∷ row ∷ []))) is ∙ go spans
    where
      go : (ss : List Span) → flat_map (λ row. matches_as lost trees newest_query.filter end (bound_newest ∷ row ∷ [])) (map row_of ss) ≡ map key_env (filter is_newest ss)
      go [] = refl
      go (s ∷ ss) = rw (newest_tests k r s) (kept_if (is_newest s) key_env s _ (filter is_newest ss) (go ss))

  abbrev shows_one : Change → Output
  shows_one c = (Int (pos c.revision) ∷ [], shown c)

  turned : (a b : Bool) → (a && b) ≡ (b && a)
  turned true true = refl
  turned true false = refl
  turned false true = refl
  turned false false = refl

  no_outputs : (os : List Output) → IsPermutation [] os → os ≡ []
  no_outputs [] h = refl
  no_outputs (o ∷ os) h = absurd (omega (arith, length_permutation _ _ h))

  pub finds_newest : (db : Database) (cs : List Change) (top : ℕ) (rows : List Row) → db.trees 0 ≡ map row_of (spans_of cs) → IsRising 0 cs top → Answers db (record { lets = []; body = newest_query }) bound_newest rows
      → rows ≡ map (λ e. shown (as_change e)) (under k (state_at cs r))
  finds_newest db cs top rows is rising h =
      let a : IsAnswerAs Null newest_query (overlay db.trees []) bound_newest rows = h.answer Null in
      let spans = filter is_newest (spans_of cs) in
      let mine = map made_by spans in
      let staged : a.staged ≡ map key_env spans = a.grouped ∙ matched_key Null db.trees (spans_of cs) is in
      let kept : a.kept ≡ map shows_one mine = a.distinct ∙ ap (map (output newest_query)) staged ∙ map-map (output newest_query) key_env spans ∙ sym (map-map shows_one made_by spans) in
      let es = fin.entries (state_at cs r) in
      let there = under k (state_at cs r) in
      let these : mine ≡ filter (λ (c : Change). is_same_key k c.key) (filter (is_last_up_to r cs) cs) =
      ap (map made_by) (filter_same _ _ (λ (s : Span). turned (is_same_key k s.key) (is_current_at r s)) (spans_of cs)) ∙ wanted_made (is_same_key k) r 0 top cs rising in
      let same : IsPermutation mine (map as_change there) =
      subst (λ l. IsPermutation l (map as_change there)) (sym these)
      (subst (IsPermutation (filter (λ (c : Change). is_same_key k c.key) (filter (is_last_up_to r cs) cs))) (filter-map (λ (c : Change). is_same_key k c.key) as_change es)
      (IsPermutation-filter (λ (c : Change). is_same_key k c.key) _ _ (current_objects_entries r 0 top cs rising))) in
      let all : IsPermutation (map (λ e. shows_one (as_change e)) there) a.ordered =
      IsPermutation-trans _ _ _ (subst (λ l. IsPermutation l (map shows_one mine)) (map-map shows_one as_change there) (IsPermutation-map shows_one _ _ (IsPermutation-sym _ _ same))) (subst (λ l. IsPermutation l a.ordered) kept a.same) in
      a.shown ∙ ends there a.ordered (at_most_one k es (entries_ascend es (fin.entries_sorted (state_at cs r)))) all
    where
      ends : (fs : List Entry) (os : List Output) → (fs ≡ []) ⊎ ((e : Entry) × (fs ≡ e ∷ [])) → IsPermutation (map (λ e. shows_one (as_change e)) fs) os → take 1 (map (λ (o : Output). o.1) os) ≡ map (λ e. shown (as_change e)) fs
      ends fs os (inl none) perm =
          let empty = no_outputs os (subst (λ (l : List Entry). IsPermutation (map (λ e. shows_one (as_change e)) l) os) none perm) in
          ap (λ (l : List Output). take 1 (map (λ (o : Output). o.1) l)) empty ∙ sym (ap (map (λ (e : Entry). shown (as_change e))) none)
      ends fs os (inr one) perm =
          let single = one_permutation _ os (subst (λ (l : List Entry). IsPermutation (map (λ e. shows_one (as_change e)) l) os) one.1 perm) in
          ap (λ (l : List Output). take 1 (map (λ (o : Output). o.1) l)) single ∙ sym (ap (map (λ (e : Entry). shown (as_change e))) one.1)
