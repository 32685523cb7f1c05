-- Faults handed on.
use Rattle.std.proofs.Common.{◌≡◌, ℕ, List, [], option_map, Ok, Err, refl, sym, subst}
use Rattle.std.specs.declared.result.Result.{Result}
use Rattle.typed.specs.declared.fault.ReadFault.{ReadFault}
use Rattle.typed.specs.declared.fault.ReadFault.TheVariants as faults
use Rattle.typed.specs.Faults.{Read, ReportsFault, Returns, fault_in, fault_below, below, and_then}

pub reports-and_then : {X Y : Type 0} (f : ReadFault) (r : Read X) (g : X → Read Y) → ReportsFault f (fault_in r) → ReportsFault f (fault_in (and_then r g))
reports-and_then faults.Memory r g h = tt
reports-and_then (faults.Shape cause path) (Ok x) g h = absurd cc
reports-and_then (faults.Shape cause path) (Err e) g h = h

pub reports-below : {X Y : Type 0} (f : ReadFault) (s : List ℕ) (g : X → Y) (r : Read X) → ReportsFault f (option_map (fault_below s) (fault_in r)) → ReportsFault f (fault_in (below s g r))
reports-below f s g (Ok x) h = h
reports-below f s g (Err e) h = h

pub reports-within : {X Y : Type 0} (f : ReadFault) (g : X → Y) (r : Read X) → ReportsFault f (fault_in r) → ReportsFault f (fault_in (below [] g r))
reports-within f g (Ok x) h = h
reports-within f g (Err e) h = h

-- a fault that `?` hands on
pub passed_on : {X Y : Type 0} (view : X → Y) (e f : ReadFault) (r : Result X ReadFault) (read : Read Y) → r ≡ Err e → e ≡ f → ReportsFault f (fault_in read) → Returns view r read
passed_on view e f r read is same h = subst (λ s. Returns view s read) (sym is) (subst (λ x. ReportsFault x (fault_in read)) (sym same) h)

pub below-below : {X Y Z : Type 0} (f : Y → Z) (g : X → Y) (r : Read X) → below [] f (below [] g r) ≡ below [] (λ x. f (g x)) r
below-below f g (Ok x) = refl
below-below f g (Err e) = refl
