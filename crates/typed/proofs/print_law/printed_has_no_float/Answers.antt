use Rattle.std.proofs.Common.{subst}
use Rattle.typed.specs.WellTyped.{ReadsBack}
use Rattle.typed.proofs.Floats.{content_clean}
use Rattle.typed.proofs.RoundTrip.{round}
use Rattle.typed.proofs.print_law.printed_has_no_float.Goals as goal

-- it reads back, and what is read has no float
pub returns : goal.returns
returns c = λ s x d lawful well_typed is. content_clean s d x (subst (λ o. ReadsBack s o x) is (round s x lawful well_typed)).1
