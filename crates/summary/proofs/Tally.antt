-- Counts as the code keeps them, after one change.
use Rattle.std.proofs.Common.{◌≡◌, ℕ, zero, suc, Bool, true, false, cond, List, [], ◌∷◌, map, Option, Some, None, String, Global, BTreeMap, string_bytes, string_cmp, option_map, refl, sym, ap, ◌∙◌}
use Rattle.std.specs.BTreeMap.{UpdatesBy, get_by_text, is_at}
use Rattle.std.specs.Cmp.Lexicographic.{slice_cmp, nat_list_cmp_total}
use Rattle.std.specs.FinMap as fin
use Rattle.std.specs.FinMap.Entries.{find}
use Rattle.std.specs.Map.{lookup}
use Rattle.std.specs.Ordering.{nat_cmp, eq_by_cmp}
use Rattle.std.proofs.lemmas.Map.Text.{btree_map_updates_text}
use Rattle.summary.specs.Steps.{with_left}
use Rattle.summary.specs.Summary.{counts_in}
use Rattle.summary.proofs.ByValue.{text_cmp, text_antisymmetric, ties}

abbrev Entry : Type 0
Entry = String Global × ℕ

abbrev pub shown : Entry → List ℕ × ℕ
shown e = (string_bytes e.0, e.1)

find_text : (q : List ℕ) (es : List Entry) → find text_cmp q (map shown es) ≡ lookup (is_at (λ k. slice_cmp nat_cmp q (string_bytes k))) es
find_text q [] = refl
find_text q (e ∷ es) = ap (cond (eq_by_cmp text_cmp q (string_bytes e.0)) (Some e.1)) (find_text q es)

pub get_tally : (m : BTreeMap (String Global) ℕ) (q : List ℕ) → fin.get (counts_in m) q ≡ get_by_text m q
get_tally m q = fin.get-from_entries nat_list_cmp_total (map shown m.entries) q ∙ find_text q m.entries

abbrev Sets : BTreeMap (String Global) ℕ → BTreeMap (String Global) ℕ → List ℕ → Option ℕ → Type 0
Sets old new v w = UpdatesBy string_cmp (λ k. slice_cmp nat_cmp v (string_bytes k)) old new w

after : (old new : BTreeMap (String Global) ℕ) (v : List ℕ) (w : Option ℕ) → Sets old new v w → (q : List ℕ) → fin.get (counts_in new) q ≡ cond (eq_by_cmp text_cmp q v) w (fin.get (counts_in old) q)
after old new v w sets q =
    get_tally new q ∙ btree_map_updates_text v old new w sets q ∙ ap (λ (t : Bool). cond t w (get_by_text old q)) (sym (ties v q))
    ∙ ap (cond (eq_by_cmp text_cmp q v) w) (sym (get_tally old q))

pub tally_insert : (old new : BTreeMap (String Global) ℕ) (v : List ℕ) (w : ℕ) → Sets old new v (Some w) → counts_in new ≡ fin.insert (counts_in old) v w
tally_insert old new v w sets = fin.same_map nat_list_cmp_total text_antisymmetric _ _ (λ q. after old new v (Some w) sets q ∙ sym (fin.get-insert nat_list_cmp_total (counts_in old) v w q))

pub tally_remove : (old new : BTreeMap (String Global) ℕ) (v : List ℕ) → Sets old new v None → counts_in new ≡ fin.remove (counts_in old) v
tally_remove old new v sets = fin.same_map nat_list_cmp_total text_antisymmetric _ _ (λ q. after old new v None sets q ∙ sym (fin.get-remove nat_list_cmp_total (counts_in old) v q))

-- set, and then taken out, is taken out
pub insert_remove : (m : fin.FinMap text_cmp ℕ) (v : List ℕ) (w : ℕ) → fin.remove (fin.insert m v w) v ≡ fin.remove m v
insert_remove m v w = fin.same_map nat_list_cmp_total text_antisymmetric _ _ (λ q.
    fin.get-remove nat_list_cmp_total (fin.insert m v w) v q ∙ ap (cond (eq_by_cmp text_cmp q v) None) (fin.get-insert nat_list_cmp_total m v w q)
    ∙ twice (eq_by_cmp text_cmp q v) (fin.get m q) ∙ sym (fin.get-remove nat_list_cmp_total m v q))
  where
    twice : (t : Bool) (o : Option ℕ) → cond t None (cond t (Some w) o) ≡ cond t None o
    twice true o = refl
    twice false o = refl

pub same_tally : (old new : BTreeMap (String Global) ℕ) → new.entries ≡ old.entries → counts_in new ≡ counts_in old
same_tally old new is = fin.same_map nat_list_cmp_total text_antisymmetric _ _ (λ q.
    fin.get-from_entries nat_list_cmp_total (map shown new.entries) q ∙ ap (λ (es : List Entry). find text_cmp q (map shown es)) is
    ∙ sym (fin.get-from_entries nat_list_cmp_total (map shown old.entries) q))

pub left_some : (m : fin.FinMap text_cmp ℕ) (v : List ℕ) (w : ℕ) → (w ≡ 0 → ⊥) → fin.insert m v w ≡ with_left m v w
left_some m v zero some = absurd (some refl)
left_some m v (suc w) some = refl

-- ---- labels

pub label_at : (labels : BTreeMap (String Global) (String Global)) (label : List ℕ)
    → find text_cmp label (map (λ e. (string_bytes e.0, string_bytes e.1)) labels.entries) ≡ option_map string_bytes (get_by_text labels label)
label_at labels label = go labels.entries
  where
    step : (t : Bool) (v : String Global) (r : Option (List ℕ)) (s : Option (String Global)) → r ≡ option_map string_bytes s → cond t (Some (string_bytes v)) r ≡ option_map string_bytes (cond t (Some v) s)
    step true v r s is = refl
    step false v r s is = is

    go : (es : List (String Global × String Global)) → find text_cmp label (map (λ e. (string_bytes e.0, string_bytes e.1)) es) ≡ option_map string_bytes (lookup (is_at (λ k. slice_cmp nat_cmp label (string_bytes k))) es)
    go [] = refl
    go (e ∷ es) = step (eq_by_cmp text_cmp label (string_bytes e.0)) e.1 _ _ (go es)

pub none_at : (m : BTreeMap (String Global) ℕ) → m.entries ≡ [] → (q : List ℕ) → fin.get (counts_in m) q ≡ None
none_at m none q = get_tally m q ∙ ap (λ (es : List Entry). lookup (is_at (λ k. slice_cmp nat_cmp q (string_bytes k))) es) none
