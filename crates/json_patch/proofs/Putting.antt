-- A value put at a name of members that ascend.
use Rattle.std.proofs.Common.{◌≡◌, ℕ, List, [], ◌∷◌, String, Global, Ordering, Less, Equal, Greater, string_bytes, string_cmp, nat_cmp, is_eq, cond, Bool, refl, ap, rules}
use Rattle.std.proofs.lemmas.Cmp.{nat_list_cmp_total}
use Rattle.std.specs.Cmp.Lexicographic.{slice_cmp}
use Rattle.std.specs.BTreeMap.{is_at}
use Rattle.std.specs.List.{AllByRecursion}
use Rattle.std.specs.List.Sorted.{IsStrictlySortedBy}
use Rattle.std.specs.Map.{keys_of, set_value}
use Rattle.std.specs.Ordering.{match_ordering}
use Rattle.std.proofs.lemmas.Map.Keys.{sorted_head, sorted_tail}
use Rattle.serde_json.specs.Data.{Data, null, member, put}
use Rattle.serde_json.specs.View.{view, members_view}
use Rattle.serde_json.specs.declared.value.Value.{Value, Null, the_lemmas}
use Rattle.serde_json.proofs.Views.{Entry}

pub view-Null : view Null ≡ null
view-Null = search (rules, the_lemmas)

abbrev pub bytes_cmp : List ℕ → List ℕ → Ordering
bytes_cmp = slice_cmp nat_cmp

abbrev pub named : List ℕ → String Global → Bool
named name = is_at (λ k. bytes_cmp name (string_bytes k))

-- the entries' names ascend
abbrev pub Ascend : List Entry → Type 0
Ascend es = IsStrictlySortedBy string_cmp (keys_of es)

-- a name before the first of them is before all
abbrev pub AllAfter : List ℕ → List Entry → Type 0
AllAfter name es = AllByRecursion (λ e. bytes_cmp name (string_bytes e.0) ≡ Less) es

pub all_after : (name : List ℕ) (k : String Global) (es : List Entry) → bytes_cmp name (string_bytes k) ≡ Less → AllByRecursion (λ y. string_cmp k y ≡ Less) (keys_of es) → AllAfter name es
all_after name k [] before above = tt
all_after name k (e ∷ es) before above = (nat_list_cmp_total.trans name (string_bytes k) (string_bytes e.0) before above.0, all_after name k es before above.1)

set_none : (name : List ℕ) (es : List Entry) (w : Value) → AllAfter name es → set_value (named name) es w ≡ es
set_none name [] w after = refl
set_none name (e ∷ es) w after = rw (after.0) (ap (λ l. e ∷ l) (set_none name es w after.1))

-- what is put at a name is put, whatever value is there
module _ (name : List ℕ) (w : Value) (d : Data) where
  put_step : (o : Ordering) (e : Entry) (es : List Entry) → bytes_cmp name (string_bytes e.0) ≡ o → Ascend (e ∷ es)
      → put name d (members_view (set_value (named name) es w)) ≡ put name d (members_view es)
      → put name d (members_view (cond (is_eq o) ((e.0, w) ∷ es) (e ∷ set_value (named name) es w)))
      ≡ match_ordering o (member name d (members_view (e ∷ es))) (member (string_bytes e.0) d (members_view es)) (member (string_bytes e.0) (view e.1) (put name d (members_view es)))
  put_step Less e es is sorted later = rw is (ap (λ l. member name d (members_view (e ∷ l))) (set_none name es w (all_after name e.0 es is (sorted_head string_cmp e.0 (keys_of es) sorted))))
  put_step Equal e es is sorted later = rw is refl
  put_step Greater e es is sorted later = rw is (ap (member (string_bytes e.0) (view e.1)) later)

  pub put-set_value : (es : List Entry) → Ascend es → put name d (members_view (set_value (named name) es w)) ≡ put name d (members_view es)
  put-set_value [] sorted = refl
  put-set_value (e ∷ es) sorted = put_step (bytes_cmp name (string_bytes e.0)) e es refl sorted (put-set_value es (sorted_tail string_cmp e.0 (keys_of es) sorted))
