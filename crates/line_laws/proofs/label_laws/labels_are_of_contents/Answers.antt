use Rattle.line_laws.proofs.LabelsRead.{labels_are_of_contents}
use Rattle.line_laws.proofs.label_laws.labels_are_of_contents.Goals as goal

pub returns : goal.returns
returns c = labels_are_of_contents
