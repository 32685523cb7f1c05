-- Of one name in one namespace there is one row at most.
use Rattle.std.proofs.Common.{◌≡◌, ℕ, Bool, true, false, cond, T, ◌&&◌, ◌==◌, List, [], ◌∷◌, filter, Option, Some, None, is_eq, true≢false, refl, sym, ap, ap₂, subst, ◌∙◌, eqb-true, arith}
use Rattle.std.proofs.lemmas.Bool.{and_parts}
use Rattle.std.proofs.lemmas.Bool.Decides.{nat_tests}
use Rattle.std.specs.Cmp.{tied_itself}
use Rattle.std.specs.FinMap as fin
use Rattle.std.specs.FinMap.{find, is_sorted}
use Rattle.std.specs.FinMap.Entries.{below_all}
use Rattle.history.specs.History.{Key, Object, Objects, is_same_key, key_cmp, text_cmp}
use Rattle.history.specs.Page.{is_in_namespace, is_past, is_within, listed}
use Rattle.history.specs.Seen.{Selection}
use Rattle.history.proofs.Keys.{is_equal, key_cmp_total, text_cmp_antisymmetric, text_cmp_total, tied}
use Rattle.history.proofs.Lists.{filter_both}
use Rattle.history.proofs.Selecting.{Entries, fst, not_below, snd}
use Rattle.selector.specs.Fields.{AsksFor}
use Rattle.selector.specs.Requirement.{Requirement, selects}
use Rattle.lists.specs.Labels.{attributes_of, labels_of}
use Rattle.lists.specs.Rows.{Start, key_in, matching, row_at, rows_of}

-- ---- the entries of a selection that wants one key

abbrev kept_row : Selection → Key → Option Object → Entries
kept_row wanted k None = []
kept_row wanted k (Some o) = cond (wanted k o.body) ((k, o) ∷ []) []

module _ (wanted : Selection) (k : Key) (one : (q : Key) (body : List ℕ) → wanted q body ≡ true → q ≡ k) where
  one_kept : (es : Entries) → T (is_sorted key_cmp es) → filter (λ e. wanted e.0 e.1.body) es ≡ kept_row wanted k (find key_cmp k es)
  one_kept [] h = refl
  one_kept (e ∷ es) h =
      go (is_same_key k e.0) refl (wanted e.0 e.1.body) refl (one_kept es (snd _ _ h))
    where
      go : (t : Bool) → is_same_key k e.0 ≡ t → (b : Bool) → wanted e.0 e.1.body ≡ b → filter (λ e. wanted e.0 e.1.body) es ≡ kept_row wanted k (find key_cmp k es)
          → cond b (e ∷ filter (λ e. wanted e.0 e.1.body) es) (filter (λ e. wanted e.0 e.1.body) es) ≡ kept_row wanted k (cond t (Some e.1) (find key_cmp k es))
      go true t b is so_far =
          let key : k ≡ e.0 = tied k e.0 t in
          let none : find key_cmp k es ≡ None = not_below k es (subst (λ q. T (below_all key_cmp q es)) (sym key) (fst _ _ h)) in
          ap (λ xs. cond b (e ∷ xs) xs) (so_far ∙ ap (kept_row wanted k) none) ∙ ap (λ (w : Bool). cond w (e ∷ []) []) (sym is)
          ∙ sym (ap (λ q. cond (wanted q e.1.body) ((q, e.1) ∷ []) []) key)
      go false t true is so_far = absurd (true≢false (sym (ap (is_same_key k) (one e.0 e.1.body is) ∙ ap is_eq (tied_itself key_cmp_total k)) ∙ t))
      go false t false is so_far = so_far

  pub one_selected : (s : Objects) → filter (λ e. wanted e.0 e.1.body) (fin.entries s) ≡ kept_row wanted k (fin.get s k)
  one_selected s = one_kept (fin.entries s) (fin.entries_sorted s) ∙ ap (kept_row wanted k) (sym (fin.get-entries s k))

-- ---- what is listed of a namespace, and asks for a name

abbrev from : ℕ → List ℕ → Start → List Requirement → Selection
from kind namespace start requirements = λ k body. (is_within kind (Some namespace) k && is_past start k) && selects requirements (attributes_of k body)

key_is : (q : Key) (kind : ℕ) (namespace name : List ℕ) → q.kind ≡ kind → q.namespace ≡ namespace → q.name ≡ name → q ≡ key_in kind namespace name
key_is q kind namespace name a b c = rw (a, b, c) refl

is_one : (kind : ℕ) (namespace name : List ℕ) (start : Start) (requirements : List Requirement) → AsksFor requirements name
    → (q : Key) (body : List ℕ) → from kind namespace start requirements q body ≡ true → q ≡ key_in kind namespace name
is_one kind namespace name start requirements asks q body is =
    let parts = and_parts (is_within kind (Some namespace) q && is_past start q) (selects requirements (attributes_of q body)) is in
    let row = and_parts (is_within kind (Some namespace) q) (is_past start q) parts.0 in
    let within = and_parts (q.kind == kind) (is_in_namespace (Some namespace) q) row.0 in
    key_is q kind namespace name (eqb-true q.kind kind within.0) (text_cmp_antisymmetric q.namespace namespace (is_equal _ within.1)) (asks q.name (labels_of body) parts.1)

itself : (n : ℕ) → (n == n) ≡ true
itself n = grind (arith, nat_tests)

own : (kind : ℕ) (namespace name : List ℕ) → is_within kind (Some namespace) (key_in kind namespace name) ≡ true
own kind namespace name = ap₂ (λ (a b : Bool). a && b) (itself kind) (ap is_eq (tied_itself text_cmp_total namespace))

row_kept : (requirements : List Requirement) (e : Key × Object) (w past : Bool) → w ≡ true
    → matching requirements (cond past (e ∷ []) []) ≡ cond ((w && past) && selects requirements (attributes_of e.0 e.1.body)) (e ∷ []) []
row_kept requirements e true true is = refl
row_kept requirements e true false is = refl
row_kept requirements e false past is = absurd (true≢false (sym is))

nothing_kept : (requirements : List Requirement) (past : Bool) → matching requirements (cond past [] []) ≡ []
nothing_kept requirements true = refl
nothing_kept requirements false = refl

row_of : (kind : ℕ) (namespace name : List ℕ) (start : Start) (requirements : List Requirement) (o : Option Object)
    → matching requirements (cond (is_past start (key_in kind namespace name)) (rows_of (key_in kind namespace name) o) []) ≡ kept_row (from kind namespace start requirements) (key_in kind namespace name) o
row_of kind namespace name start requirements None = nothing_kept requirements (is_past start (key_in kind namespace name))
row_of kind namespace name start requirements (Some o) =
    row_kept requirements (key_in kind namespace name, o) (is_within kind (Some namespace) (key_in kind namespace name)) (is_past start (key_in kind namespace name)) (own kind namespace name)

-- the row of the name's key is what is listed and asks for it
pub row_listed : (kind : ℕ) (namespace name : List ℕ) (start : Start) (requirements : List Requirement) (s : Objects) → AsksFor requirements name
    → matching requirements (row_at start s (key_in kind namespace name)) ≡ matching requirements (listed kind (Some namespace) start s)
row_listed kind namespace name start requirements s asks =
    row_of kind namespace name start requirements (fin.get s (key_in kind namespace name))
    ∙ sym (filter_both (λ e. selects requirements (attributes_of e.0 e.1.body)) (λ e. is_within kind (Some namespace) e.0 && is_past start e.0) (fin.entries s)
    ∙ one_selected (from kind namespace start requirements) (key_in kind namespace name) (is_one kind namespace name start requirements asks) s)
