-- The objects of a page, among those that stand, and the page of an answer.
use Rattle.std.proofs.Common.{◌≡◌, ℕ, zero, suc, ◌≤◌, ◌&&◌, ◌==◌, Bool, true, false, cond, List, [], ◌∷◌, take, filter, Option, Some, None, option_map, IsUtf8, refl, sym, ap, subst, ◌∙◌, T, is_eq, is_lt, eqb-true, arith}
use Rattle.std.specs.Cmp.{tied_itself}
use Rattle.std.specs.Cmp.Lexicographic.{bytes_decides}
use Rattle.std.specs.FinMap as fin
use Rattle.std.specs.FinMap.{find, is_sorted}
use Rattle.std.specs.FinMap.Entries.{below_all}
use Rattle.std.specs.List.{AllByRecursion}
use Rattle.std.specs.declared.result.Result.{Result}
use Rattle.std.specs.declared.result.Result.TheVariants.{Ok, Err}
use Rattle.std.proofs.lemmas.Bool.{and_parts}
use Rattle.history.specs.History.{Key, Object, Objects, is_same_key, key_cmp, text_cmp}
use Rattle.history.specs.Page.{is_in_namespace, is_within}
use Rattle.history.specs.Seen.{left_after, limited}
use Rattle.history.proofs.Keys.{is_equal, key_cmp_total, text_cmp_antisymmetric, tied}
use Rattle.history.proofs.Lists.{all-filter}
use Rattle.history.proofs.Selecting.{entries-selected, fst, not_below, snd}
use Rattle.params.specs.Values.{Values}
use Rattle.selector.specs.Requirement.{selects}
use Rattle.lists.specs.declared.refusal.Refusal.{Refusal}
use Rattle.lists.specs.Body.{Collection, list_text}
use Rattle.lists.specs.Labels.{attributes_of, selection_of}
use Rattle.lists.specs.Lists.{key_after, list_of, page_limit, page_of, text_at}
use Rattle.lists.specs.Revision.{revision_of}
use Rattle.lists.specs.TokenLaws.{whole_list}
use Rattle.lists.proofs.Bounds.{revision_between}
use Rattle.objects.specs.ReadBack.{max_version}
use Rattle.decoder.specs.Wanted.{Wanted, is_in}
use Rattle.line_laws.specs.Listed.{AreKept, AreWanted, IsKept, IsReadAsPage, IsWanted}
use Rattle.line_laws.proofs.Pages.{SaysPage, page_is_read, page_says}

abbrev Entries : Type 0
Entries = List (Key × Object)

-- ---- what holds of each entry

pub each_entry : (P : Key → Object → Type 0) (es : Entries) → T (is_sorted key_cmp es) → ((k : Key) (o : Object) → find key_cmp k es ≡ Some o → P k o) → AllByRecursion (λ e. P e.0 e.1) es
each_entry P [] up each = tt
each_entry P (e ∷ es) up each = (each e.0 e.1 (ap (λ r. cond (is_eq r) (Some e.1) (find key_cmp e.0 es)) (tied_itself key_cmp_total e.0)), each_entry P es (snd _ _ up) later)
  where
    later : (k : Key) (o : Object) → find key_cmp k es ≡ Some o → P k o
    later k o is = by_test (is_same_key k e.0) refl
      where
        by_test : (b : Bool) → is_same_key k e.0 ≡ b → P k o
        by_test true same =
            let none : find key_cmp k es ≡ None = not_below k es (subst (λ q. T (below_all key_cmp q es)) (sym (tied k e.0 same)) (fst _ _ up)) in
            let wrong : Some o ≡ None = sym is ∙ none in absurd cc
        by_test false other = each k o (ap (λ b. cond b (Some e.1) (find key_cmp k es)) other ∙ is)

all_taken : (P : Key × Object → Type 0) (n : ℕ) (es : Entries) → AllByRecursion P es → AllByRecursion P (take n es)
all_taken P zero es h = tt
all_taken P (suc n) [] h = tt
all_taken P (suc n) (e ∷ es) h = (h.0, all_taken P n es h.1)

all_left : (P : Key × Object → Type 0) (after : Option Key) (es : Entries) → AllByRecursion P es → AllByRecursion P (left_after after es)
all_left P None es h = h
all_left P (Some k) es h = all-filter P (λ e. is_lt (key_cmp k e.0)) es h

all_limited : (P : Key × Object → Type 0) (limit : Option ℕ) (es : Entries) → AllByRecursion P es → AllByRecursion P (limited limit es).found
all_limited P None es h = h
all_limited P (Some n) es h = all_taken P n es h

-- ---- those of a collection

same_namespace : (asked : Option (List ℕ)) (k : Key) → is_in_namespace asked k ≡ true → is_in asked k.namespace ≡ true
same_namespace None k is = refl
same_namespace (Some namespace) k is = (bytes_decides k.namespace namespace).1 (text_cmp_antisymmetric k.namespace namespace (is_equal (text_cmp k.namespace namespace) is))

module _ (wanted : Wanted) (of : Collection) (is : IsWanted wanted of) where
  abbrev pub Fits : Key × Object → Type 0
  Fits e = IsKept of e.0 e.1 × (is_in wanted.namespace e.0.namespace ≡ true)

  pub one_fits : (e : Key × Object) → (e.0.kind ≡ of.kind → IsKept of e.0 e.1) → is_within of.kind of.namespace e.0 ≡ true → Fits e
  one_fits e kept within =
      let both = and_parts (e.0.kind == of.kind) (is_in_namespace of.namespace e.0) within in
      (kept (eqb-true e.0.kind of.kind both.0), subst (λ asked. is_in asked e.0.namespace ≡ true) is.of_namespace (same_namespace of.namespace e.0 both.1))

  all_fit : (q : Key × Object → Bool) (es : Entries) → AllByRecursion (λ e. e.0.kind ≡ of.kind → IsKept of e.0 e.1) es
      → AllByRecursion Fits (filter (λ e. is_within of.kind of.namespace e.0 && q e) es)
  all_fit q [] h = tt
  all_fit q (e ∷ es) h = go (is_within of.kind of.namespace e.0) refl (q e) (all_fit q es h.1)
    where
      go : (a : Bool) → is_within of.kind of.namespace e.0 ≡ a → (b : Bool) → AllByRecursion Fits (filter (λ x. is_within of.kind of.namespace x.0 && q x) es)
          → AllByRecursion Fits (cond (a && b) (e ∷ filter (λ x. is_within of.kind of.namespace x.0 && q x) es) (filter (λ x. is_within of.kind of.namespace x.0 && q x) es))
      go true within true others = (one_fits e h.0 within, others)
      go true within false others = others
      go false within b others = others

  page_fits : (values : Values) (s : Objects) → AreKept of s → AreWanted wanted of (page_of of values s).found
  page_fits values s kept =
      let after = option_map (key_after of.kind) values.token in
      let each = each_entry (λ k o. k.kind ≡ of.kind → IsKept of k o) (fin.entries s) (fin.entries_sorted s) (λ k o there same. kept k o same (fin.get-entries s k ∙ there)) in
      let whole = subst (AllByRecursion Fits) (sym (entries-selected (selection_of of.kind of.namespace values.selector) s)) (all_fit (λ e. selects values.selector (attributes_of e.0 e.1.body)) (fin.entries s) each) in
      all_limited Fits (page_limit values.limit) (left_after after (whole_list of values.selector s)) (all_left Fits after (whole_list of values.selector s) whole)

  -- ---- what is read

  pub leaf_value_says : (values : Values) (revision : ℕ) (s : Objects) → AreKept of s → revision ≤ max_version → SaysPage wanted (list_text of revision (page_of of values s)) revision (page_of of values s)
  leaf_value_says values revision s kept low = page_says wanted of is revision (page_of of values s) (page_fits values s kept) low

  pub leaf_value_read : (values : Values) (revision : ℕ) (s : Objects) → AreKept of s → revision ≤ max_version → IsUtf8 (list_text of revision (page_of of values s))
      → IsReadAsPage wanted (list_text of revision (page_of of values s)) revision (page_of of values s)
  leaf_value_read values revision s kept low text = page_is_read wanted of is revision (page_of of values s) (page_fits values s kept) low text

  pub answer_read : (values : Values) (current compacted : ℕ) (at : ℕ → Objects) (text : List ℕ) → ((r : ℕ) → compacted ≤ r → r ≤ current → AreKept of (at r)) → compacted ≤ current → current ≤ max_version
      → list_of of values current compacted at ≡ Ok text → IsUtf8 text → (revision : ℕ) × (revision_of current compacted values ≡ Ok revision) × IsReadAsPage wanted text revision (page_of of values (at revision))
  answer_read values current compacted at text kept order low says utf8 = go (revision_of current compacted values) refl says
    where
      go : (answer : Result ℕ Refusal) → revision_of current compacted values ≡ answer → text_at of values at answer ≡ Ok text
          → (revision : ℕ) × (revision_of current compacted values ≡ Ok revision) × IsReadAsPage wanted text revision (page_of of values (at revision))
      go (Ok r) revised shown =
          let same : list_text of r (page_of of values (at r)) ≡ text = cc in
          let between = revision_between current compacted order values r (sym revised) in
          let high : r ≤ current = between.1 in
          let within : r ≤ max_version = omega (arith, high, low) in
          (r, revised, subst (λ t. IsReadAsPage wanted t r (page_of of values (at r))) same (leaf_value_read values r (at r) (kept r between.0 high) within (subst IsUtf8 (sym same) utf8)))
      go (Err refusal) revised shown = absurd cc
