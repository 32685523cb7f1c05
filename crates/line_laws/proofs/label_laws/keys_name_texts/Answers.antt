use Rattle.line_laws.proofs.Names as names
use Rattle.line_laws.proofs.label_laws.keys_name_texts.Goals as goal

pub returns : goal.returns
returns c = names.keys_name_texts
