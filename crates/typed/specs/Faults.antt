-- What reading answers: something, or the first fault with its path as shown.
use Rattle.std.specs.Prelude.{◌≡◌, ℕ, List, [], ◌∷◌, ◌++◌, Option, Some, None, string_bytes, decimal, codes}
use Rattle.std.specs.declared.result.Result.{Result}
use Rattle.std.specs.declared.result.Result.TheVariants.{Ok, Err}
use Rattle.typed.specs.declared.fault.Cause.{Cause}
use Rattle.typed.specs.declared.fault.Cause.TheVariants.{NotAnObject, UnknownField, WrongType, DuplicateItem, KeyFieldMissing}
use Rattle.typed.specs.declared.fault.ReadFault.{ReadFault}
use Rattle.typed.specs.declared.fault.ReadFault.TheVariants as faults

-- a cause, and the path as shown; the root's path is empty
abbrev pub Fault : Type 0
Fault = Cause × List ℕ

abbrev pub Read : Type 0 → Type 0
Read X = Result X Fault

-- how a cause is told
abbrev pub cause_text : Cause → List ℕ
cause_text NotAnObject = codes "not an object"
cause_text UnknownField = codes "unknown field"
cause_text WrongType = codes "wrong type"
cause_text DuplicateItem = codes "duplicate item"
cause_text KeyFieldMissing = codes "key field missing"

-- `.name` and `[i]`, as they stand before the path of a fault below
abbrev pub shown_name : List ℕ → List ℕ
shown_name f = 46 ∷ f

abbrev pub shown_place : ℕ → List ℕ
shown_place i = 91 ∷ decimal i ++ 93 ∷ []

-- what is read below a name or a place, seen from above it
abbrev pub below : {X Y : Type 0} → List ℕ → (X → Y) → Read X → Read Y
below s f (Ok x) = Ok (f x)
below s f (Err e) = Err (e.0, s ++ e.1)

abbrev pub and_then : {X Y : Type 0} → Read X → (X → Read Y) → Read Y
and_then (Ok x) f = f x
and_then (Err e) f = Err e

abbrev pub some_or : {X : Type 0} → Cause → Option X → Read X
some_or c None = Err (c, [])
some_or c (Some x) = Ok x

-- the fault in what is read
abbrev pub fault_in : {X : Type 0} → Read X → Option Fault
fault_in (Ok x) = None
fault_in (Err e) = Some e

abbrev pub fault_below : List ℕ → Fault → Fault
fault_below s e = (e.0, s ++ e.1)

-- What a call tells is this fault, unless memory ran out.
abbrev pub ReportsFault : ReadFault → Option Fault → Type 0
ReportsFault faults.Memory fault = Unit {0}
ReportsFault (faults.Shape cause path) fault = fault ≡ Some (cause, string_bytes path)

-- What a call returned, by its view, is what is read, unless memory ran out.
abbrev pub Returns : {X Y : Type 0} → (X → Y) → Result X ReadFault → Read Y → Type 0
Returns view (Ok x) read = read ≡ Ok (view x)
Returns view (Err e) read = ReportsFault e (fault_in read)
