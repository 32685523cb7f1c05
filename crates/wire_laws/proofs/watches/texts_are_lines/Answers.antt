use Rattle.wire_laws.proofs.LineTexts.{plain, room, with_its_feed}
use Rattle.wire_laws.proofs.watches.texts_are_lines.Goals as goal

pub returns : goal.returns
returns c = record { feeds = with_its_feed; plain = plain; room = room }
