use Rattle.line_laws.proofs.LabelsAgreed.{readers_agree}
use Rattle.line_laws.proofs.label_laws.readers_agree.Goals as goal

pub returns : goal.returns
returns c = readers_agree
