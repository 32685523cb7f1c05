-- What fails after the settings were had.
use Rattle.std.proofs.Common.{◌≡◌, ◌∙◌, ℕ, Result, Ok, Err, Option, None, ap, refl, subst, sym}
use Rattle.std.specs.Result.{IsErrAnd}
use Rattle.world.specs.FaultViews.{Answers, world_fault_of}
use Rattle.world.specs.declared.fault.RunFault as runs
use Rattle.world.specs.declared.fault.RunFault.TheVariants as stop
use Rattle.world.specs.declared.fault.WorldFault.{WorldFault}
use Rattle.world.specs.declared.fault.WorldFault.TheVariants.{Link, Memory}

abbrev error_of : {T : Type 0} → Result T WorldFault → WorldFault
error_of (Ok x) = Memory
error_of (Err e) = e

not_link : (f : runs.RunFault) → (f ≡ stop.Link → ⊥) → world_fault_of f ≡ Link → ⊥
not_link stop.Memory isnt is = cc
not_link stop.Store isnt is = cc
not_link stop.Link isnt is = isnt refl

-- what is no failure of the link is told as none
pub never_link : {T : Type 0} (r : Result T WorldFault) (f : runs.RunFault) → IsErrAnd r (λ e. e ≡ world_fault_of f) → (f ≡ stop.Link → ⊥) → r ≡ Err Link → ⊥
never_link (Ok x) f given isnt is = absurd given
never_link (Err e) f given isnt is = not_link f isnt (sym given ∙ ap error_of is)

emitted : (T : Type 0) (f : runs.RunFault) (fault : Option ℕ) → fault ≡ None → Answers {A = T} fault (Err (world_fault_of f))
emitted T stop.Memory fault none = tt
emitted T stop.Store fault none = none
emitted T stop.Link fault none = none

-- it is no fault of the settings
pub answers_run : {T : Type 0} (r : Result T WorldFault) (f : runs.RunFault) (fault : Option ℕ) → IsErrAnd r (λ e. e ≡ world_fault_of f) → fault ≡ None → Answers fault r
answers_run (Ok x) f fault given none = absurd given
answers_run {T} (Err e) f fault given none = subst (λ x. Answers {A = T} fault (Err x)) (sym given) (emitted T f fault none)
