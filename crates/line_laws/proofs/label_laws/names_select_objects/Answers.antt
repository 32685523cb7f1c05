use Rattle.line_laws.proofs.Names as names
use Rattle.line_laws.proofs.label_laws.names_select_objects.Goals as goal

pub returns : goal.returns
returns c = names.names_select_objects
