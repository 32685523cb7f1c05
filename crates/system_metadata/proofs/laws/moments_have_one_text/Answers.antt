use Rattle.std.proofs.Common.{◌++◌, codes, ap, sym, ◌∙◌}
use Rattle.jiff.specs.Words.{iso_datetime_text}
use Rattle.jiff.proofs.Family.{same_datetime}
use Rattle.system_metadata.proofs.MomentTexts.{moments_are_shown_so}
use Rattle.system_metadata.proofs.laws.moments_have_one_text.Goals as goal

pub returns-clause-one : goal.returns-clause-one
returns-clause-one c = λ second a b x y.
    x.2 ∙ ap (λ shown. iso_datetime_text shown ++ codes "Z") (same_datetime x.0 y.0 (x.1 ∙ sym y.1)) ∙ sym y.2

pub returns-clause-shown : goal.returns-clause-shown
returns-clause-shown c = moments_are_shown_so
