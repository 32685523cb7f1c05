use Rattle.reflector.proofs.Fitting.{fitting_taken}
use Rattle.reflector.proofs.laws.takes_fitting_items.Goals as goal

pub returns : goal.returns
returns c = λ server wanted m c xs p is sync awaiting_reply fits few. fitting_taken server wanted few m c xs p is sync awaiting_reply fits
