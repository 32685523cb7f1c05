-- The counts by value of some objects.
use Rattle.std.proofs.Common.{◌≡◌, ℕ, zero, suc, Bool, true, false, cond, List, [], ◌∷◌, ◌++◌, length, filter, Option, Some, None, Ordering, Less, Equal, Greater, is_eq, refl, sym, ap, ◌∙◌}
use Rattle.std.specs.Cmp.Lexicographic.{slice_cmp, nat_list_cmp_total}
use Rattle.std.specs.FinMap as fin
use Rattle.std.specs.FinMap.{nat_cmp-IsAntisymmetric, slice_cmp-IsAntisymmetric}
use Rattle.std.specs.FinMap.Entries.{find}
use Rattle.std.specs.List.{flat_map}
use Rattle.std.specs.Ordering.{eq_by_cmp, nat_cmp}
use Rattle.std.specs.Cmp.{eq_by_cmp_equiv}
use Rattle.std.specs.Str.{bytes_eq}
use Rattle.std.proofs.lemmas.Map.Text.{is_eq-slice_cmp}
use Rattle.indexer.specs.Objects.{Place, Stored}
use Rattle.reflector.specs.Client.{Objects}
use Rattle.summary.specs.Counts.{value_of, is_value, has, count, with_count, counts_of, some_if_any}

abbrev pub text_cmp : List ℕ → List ℕ → Ordering
text_cmp = slice_cmp nat_cmp

pub text_antisymmetric : fin.IsAntisymmetric text_cmp
text_antisymmetric = slice_cmp-IsAntisymmetric nat_cmp-IsAntisymmetric

pub ties : (v q : List ℕ) → eq_by_cmp text_cmp q v ≡ bytes_eq v q
ties v q = (eq_by_cmp_equiv nat_list_cmp_total).symm q v ∙ is_eq-slice_cmp v q

pub same_key : (v q : List ℕ) → eq_by_cmp text_cmp q v ≡ true → v ≡ q
same_key v q e = sym (text_antisymmetric q v (tied (text_cmp q v) e))
  where
    tied : (o : Ordering) → is_eq o ≡ true → o ≡ Equal
    tied Less e = absurd cc
    tied Equal e = refl
    tied Greater e = absurd cc

-- ---- the law by value

-- where some object has the value
abbrev if_any : (List ℕ → ℕ) → List ℕ → ℕ → Option ℕ
if_any n q zero = None
if_any n q (suc k) = Some (n q)

abbrev Entries : Type 0
Entries = List (Place × Stored)

module _ (label : List ℕ) (n : List ℕ → ℕ) (q : List ℕ) where
  abbrev valued : Entries → List (List ℕ × ℕ)
  valued es = flat_map (λ e. with_count n (value_of label e.1)) es

  abbrev among : Entries → ℕ
  among es = length (filter (λ e. has label q e.1) es)

  found : (es : Entries) → find text_cmp q (valued es) ≡ if_any n q (among es)
  found [] = refl
  found (e ∷ es) = go (value_of label e.1) (found es)
    where
      here : (v : List ℕ) (t : Bool) → eq_by_cmp text_cmp q v ≡ t → find text_cmp q (valued es) ≡ if_any n q (among es)
          → cond t (Some (n v)) (find text_cmp q (valued es)) ≡ if_any n q (length (cond t (e ∷ filter (λ e. has label q e.1) es) (filter (λ e. has label q e.1) es)))
      here v true is more = ap (λ w. Some (n w)) (same_key v q is)
      here v false is more = more

      go : (o : Option (List ℕ)) → find text_cmp q (valued es) ≡ if_any n q (among es)
          → find text_cmp q (with_count n o ++ valued es) ≡ if_any n q (length (cond (is_value q o) (e ∷ filter (λ e. has label q e.1) es) (filter (λ e. has label q e.1) es)))
      go None more = more
      go (Some v) more =
          here v (eq_by_cmp text_cmp q v) refl more
          ∙ ap (λ (t : Bool). if_any n q (length (cond t (e ∷ filter (λ e. has label q e.1) es) (filter (λ e. has label q e.1) es)))) (ties v q)

itself : (n : List ℕ → ℕ) (q : List ℕ) (k : ℕ) → n q ≡ k → if_any n q k ≡ some_if_any k
itself n q zero is = refl
itself n q (suc k) is = ap Some is

pub counts_get : (label value : List ℕ) (o : Objects) → fin.get (counts_of label o) value ≡ some_if_any (count label value o)
counts_get label value o =
    fin.get-from_entries nat_list_cmp_total (valued label (λ v. count label v o) value (fin.entries o)) value
    ∙ found label (λ v. count label v o) value (fin.entries o)
    ∙ itself (λ v. count label v o) value (count label value o) refl
