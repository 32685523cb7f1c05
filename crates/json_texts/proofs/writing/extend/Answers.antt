use Rattle.json_texts.proofs.Tokens.{still_utf8}
use Rattle.json_texts.proofs.writing.extend.Goals as goal

pub returns-clause-utf8 : goal.returns-clause-utf8
returns-clause-utf8 c =
    λ before. still_utf8 c.extend_from_slice.result _ _ _ c.extend_from_slice.ensures.items c.as_bytes.ensures.utf8 (c.push_comma.ensures.utf8 before)
