use Rattle.line_laws.proofs.SelectorsAsk as asks
use Rattle.line_laws.proofs.label_laws.label_selectors_ask_labels.Goals as goal

pub returns : goal.returns
returns c = asks.label_selectors_ask_labels
