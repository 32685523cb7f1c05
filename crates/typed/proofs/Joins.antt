-- Answers joined, one after another.
use Rattle.std.proofs.Common.{◌≡◌, ℕ, List, true, false, cond, Ok, Err, refl, sym, ap, ◌∙◌}
use Rattle.std.specs.List.{list_any}
use Rattle.std.specs.Str.{bytes_eq}
use Rattle.fieldpath.specs.Elements.{name_text}
use Rattle.pathmap.specs.Contents.{Content, nothing, under, over}
use Rattle.pathmap.specs.Insides.{inside}
use Rattle.pathmap.proofs.Contents.{nothing-over, over-nothing, over-over}
use Rattle.pathmap.proofs.Insides.{inside_others}
use Rattle.pathmap.proofs.Levels.{under-nothing}
use Rattle.typed.specs.declared.fault.ReadFault.{ReadFault}
use Rattle.typed.specs.declared.fault.ReadFault.TheVariants as faults
use Rattle.typed.specs.Faults.{Read, ReportsFault, fault_in}
use Rattle.typed.specs.Reading.{at_field, joined}
use Rattle.typed.specs.Steps.{unless_key}
use Rattle.typed.proofs.Floats.{err_not_ok, ok_is}

pub joined-nothing : (a : Read Content) → joined (Ok nothing) a ≡ a
joined-nothing (Ok c) = ap Ok (nothing-over c)
joined-nothing (Err e) = refl

pub joined-none : (c : Content) → joined (Ok c) (Ok nothing) ≡ Ok c
joined-none c = ap Ok (over-nothing c)

pub joined-joined : (a b c : Read Content) → joined (joined a b) c ≡ joined a (joined b c)
joined-joined (Err e) b c = refl
joined-joined (Ok x) (Err e) c = refl
joined-joined (Ok x) (Ok y) (Err e) = refl
joined-joined (Ok x) (Ok y) (Ok z) = ap Ok (over-over x y z)

-- a fault that comes after what has been read
pub reports-after : (f : ReadFault) (g : Content) (rest : Read Content) → ReportsFault f (fault_in rest) → ReportsFault f (fault_in (joined (Ok g) rest))
reports-after faults.Memory g rest h = tt
reports-after (faults.Shape cause path) g (Ok x) h = absurd cc
reports-after (faults.Shape cause path) g (Err e) h = h

-- a fault that comes before what is left
pub reports-before : (f : ReadFault) (one rest : Read Content) → ReportsFault f (fault_in one) → ReportsFault f (fault_in (joined one rest))
reports-before faults.Memory one rest h = tt
reports-before (faults.Shape cause path) (Ok x) rest h = absurd cc
reports-before (faults.Shape cause path) (Err e) rest h = h

-- what is read of a key field adds nothing
pub key_joins : (g : Content) (names : List (List ℕ)) (k : List ℕ) (answer : Read Content) (c : Content) → answer ≡ Ok c → list_any (bytes_eq k) names ≡ true → Ok g ≡ joined (Ok g) (at_field k (unless_key names k answer))
key_joins g names k answer c read key =
    sym (ap (λ a. joined (Ok g) (at_field k (unless_key names k a))) read ∙ ap (λ b. joined (Ok g) (at_field k (cond b (Ok nothing) (Ok c)))) key ∙ ap (λ x. joined (Ok g) (Ok x)) (under-nothing (name_text k)) ∙ joined-none g)

pub other_joins : (g : Content) (names : List (List ℕ)) (k : List ℕ) (answer : Read Content) (c : Content) → answer ≡ Ok c → list_any (bytes_eq k) names ≡ false
    → Ok (over g (under (name_text k) c)) ≡ joined (Ok g) (at_field k (unless_key names k answer))
other_joins g names k answer c read other =
    sym (ap (λ a. joined (Ok g) (at_field k (unless_key names k a))) read ∙ ap (λ b. joined (Ok g) (at_field k (cond b (Ok nothing) (Ok c)))) other)

-- what was joined to a content changes nothing below another element
pub joined_keeps : (k : List ℕ) (c d : Content) (r : Read Content) → Ok d ≡ joined (Ok c) (at_field k r) → (g : List ℕ) → bytes_eq g (name_text k) ≡ false → inside g d ≡ inside g c
joined_keeps k c d (Err e) is g apart = absurd (err_not_ok _ d (sym is))
joined_keeps k c d (Ok m) is g apart = ap (inside g) (ok_is d (over c (under (name_text k) m)) is) ∙ inside_others c (name_text k) m g apart
