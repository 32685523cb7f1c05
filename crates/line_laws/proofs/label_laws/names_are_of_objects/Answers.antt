use Rattle.line_laws.proofs.Names as names
use Rattle.line_laws.proofs.label_laws.names_are_of_objects.Goals as goal

pub returns : goal.returns
returns c = names.names_are_of_objects
