-- Keys that are the same.
use Rattle.std.proofs.Common.{◌≡◌, ℕ, Bool, true, false, ◌&&◌, List, Ordering, Less, Equal, Greater, nat_cmp, is_eq, refl, sym, ap₂, ◌∙◌}
use Rattle.std.specs.BTreeMap.{BTreeMap, is_at, get}
use Rattle.std.specs.Cmp.Lexicographic.{slice_cmp}
use Rattle.std.specs.Map.{lookup}
use Rattle.std.specs.Ordering.{ordering_then}
use Rattle.std.specs.Rc.{rc_str_bytes}
use Rattle.std.proofs.lemmas.Map.Text.{is_eq-slice_cmp}
use Rattle.std.proofs.lemmas.Slice.Eq.{bytes_eq-Decides}
use Rattle.indexer.specs.declared.object.ObjectKey.{ObjectKey}
use Rattle.indexer.specs.Keys.{key_cmp, is_same, IsCopyOf}

pub then_equal : (a b : Ordering) → is_eq (ordering_then a b) ≡ (is_eq a && is_eq b)
then_equal Less b = refl
then_equal Equal b = refl
then_equal Greater b = refl

both_first : (a b : Bool) → (a && b) ≡ true → a ≡ true
both_first true b h = refl
both_first false b h = h

both_second : (a b : Bool) → (a && b) ≡ true → b ≡ true
both_second true b h = h
both_second false b h = absurd cc

pub texts_equal : (xs ys : List ℕ) → is_eq (slice_cmp nat_cmp xs ys) ≡ true → xs ≡ ys
texts_equal xs ys h = (bytes_eq-Decides xs ys).0 (sym (is_eq-slice_cmp xs ys) ∙ h)

pub equal_texts : (xs ys : List ℕ) → xs ≡ ys → is_eq (slice_cmp nat_cmp xs ys) ≡ true
equal_texts xs ys h = is_eq-slice_cmp xs ys ∙ (bytes_eq-Decides xs ys).1 h

pub same_bytes : (a b : ObjectKey) → is_same a b ≡ true → IsCopyOf a b
same_bytes a b h =
    let first = slice_cmp nat_cmp (rc_str_bytes a.namespace) (rc_str_bytes b.namespace) in
    let second = slice_cmp nat_cmp (rc_str_bytes a.name) (rc_str_bytes b.name) in
    let e = sym (then_equal first second) ∙ h in
    record {
      namespace = sym (texts_equal _ _ (both_first (is_eq first) (is_eq second) e));
      name = sym (texts_equal _ _ (both_second (is_eq first) (is_eq second) e));
    }

-- a copy finds what the key finds
pub get_copy : {X : Type 0} (objects : BTreeMap ObjectKey X) (key copy : ObjectKey) → IsCopyOf key copy → get key_cmp objects copy ≡ get key_cmp objects key
get_copy {X} objects key copy h =
    ap₂ (λ (a b : List ℕ). lookup (is_at (λ (x : ObjectKey). ordering_then (slice_cmp nat_cmp a (rc_str_bytes x.namespace)) (slice_cmp nat_cmp b (rc_str_bytes x.name)))) objects.entries) h.namespace h.name
