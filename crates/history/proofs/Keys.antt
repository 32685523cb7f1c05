-- The order of keys, and what one change makes of the objects.
use Rattle.std.proofs.Common.{◌≡◌, true, cond, T, refl, sym, subst, Option, Some, None, Ordering, Less, Equal, Greater, is_eq}
use Rattle.std.specs.Ordering.{ordering_then}
use Rattle.std.specs.Cmp.{IsTotalOrder, then_total, on_total, nat_cmp_total}
use Rattle.std.specs.Cmp.Lexicographic.{nat_list_cmp_total}
use Rattle.std.specs.FinMap as fin
use Rattle.std.specs.FinMap.{IsAntisymmetric, nat_cmp-IsAntisymmetric, slice_cmp-IsAntisymmetric}
use Rattle.history.specs.History.{Key, Object, Objects, text_cmp, key_cmp, is_same_key, put_or_remove}

pub text_cmp_total : IsTotalOrder text_cmp
text_cmp_total = nat_list_cmp_total

pub text_cmp_antisymmetric : IsAntisymmetric text_cmp
text_cmp_antisymmetric = slice_cmp-IsAntisymmetric nat_cmp-IsAntisymmetric

pub key_cmp_total : IsTotalOrder key_cmp
key_cmp_total = then_total (on_total (λ (k : Key). k.kind) nat_cmp_total) (then_total (on_total (λ (k : Key). k.namespace) text_cmp_total) (on_total (λ (k : Key). k.name) text_cmp_total))

pub then_equal : (a b : Ordering) → ordering_then a b ≡ Equal → (a ≡ Equal) × (b ≡ Equal)
then_equal Less b e = absurd (subst (λ r. T (is_eq r)) (sym e) tt)
then_equal Equal b e = (refl, e)
then_equal Greater b e = absurd (subst (λ r. T (is_eq r)) (sym e) tt)

pub key_cmp_antisymmetric : IsAntisymmetric key_cmp
key_cmp_antisymmetric x y e =
    let first = then_equal _ _ e in
    let second = then_equal _ _ first.1 in
    rw (nat_cmp-IsAntisymmetric x.kind y.kind first.0, text_cmp_antisymmetric x.namespace y.namespace second.0, text_cmp_antisymmetric x.name y.name second.1) refl

pub same : (s t : Objects) → ((q : Key) → fin.get s q ≡ fin.get t q) → s ≡ t
same = fin.same_map key_cmp_total key_cmp_antisymmetric

pub is_equal : (r : Ordering) → is_eq r ≡ true → r ≡ Equal
is_equal Less e = absurd (subst T (sym e) tt)
is_equal Equal e = refl
is_equal Greater e = absurd (subst T (sym e) tt)

pub tied : (k q : Key) → is_same_key k q ≡ true → k ≡ q
tied k q e = key_cmp_antisymmetric k q (is_equal (key_cmp k q) e)

pub get-put_or_remove : (s : Objects) (k : Key) (now : Option Object) (q : Key) → fin.get (put_or_remove s k now) q ≡ cond (is_same_key q k) now (fin.get s q)
get-put_or_remove s k None q = fin.get-remove key_cmp_total s k q
get-put_or_remove s k (Some t) q = fin.get-insert key_cmp_total s k t q
