-- Truth values, and when two managers are one.
use Rattle.std.proofs.Common.{◌≡◌, Bool, true, false, not, ◌&&◌, refl, sym, ap, ap₂, true≢false}
use Rattle.std.specs.Ordering.{is_eq}
use Rattle.std.specs.Cmp.{Equal-is, tied_itself}
use Rattle.objects.specs.Owners.{Manager, is_same, manager_cmp}
use Rattle.objects.proofs.Orders.{manager_total, manager_antisymmetric}

-- ---- truth values
pub left_true : (a b : Bool) → (a && b) ≡ true → a ≡ true
left_true true b e = refl
left_true false b e = e

pub right_true : (a b : Bool) → (a && b) ≡ true → b ≡ true
right_true true b e = e
right_true false b e = absurd (true≢false (sym e))

pub both_true : (a b : Bool) → a ≡ true → b ≡ true → (a && b) ≡ true
both_true a b p q = ap₂ (λ x y. x && y) p q

pub none_left : (b : Bool) → not b ≡ false → b ≡ true
none_left true e = refl
none_left false e = absurd (true≢false e)

-- ---- managers
pub same_manager-is : (m k : Manager) → is_same m k ≡ true → m ≡ k
same_manager-is m k e = manager_antisymmetric m k ((Equal-is (manager_cmp m k)).0 e)

pub same_manager-itself : (m : Manager) → is_same m m ≡ true
same_manager-itself m = ap is_eq (tied_itself manager_total m)
