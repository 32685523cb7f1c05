use Rattle.json_texts.proofs.Tokens.{still_utf8}
use Rattle.json_texts.proofs.writing.push_comma.Goals as goal

pub returns-then-later-clause-utf8 : goal.returns-then-later-clause-utf8
returns-then-later-clause-utf8 c = still_utf8 c.extend_from_slice.result _ _ _ c.extend_from_slice.ensures.items c.as_bytes.ensures.utf8
