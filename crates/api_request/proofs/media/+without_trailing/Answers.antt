use Rattle.std.proofs.Common.{◌∙◌, sym}
use Rattle.api_request.proofs.Blanks.{last_blank, last_kept}
use Rattle.api_request.proofs.media.+without_trailing.Goals as goal

pub returns-in-len1-up : goal.returns-in-len1-up
returns-in-len1-up t c = c.without_trailing.ensures ∙ last_blank c.args.field.now c.in-len1-up.len_at_least (sym c.is_blank.ensures ∙ c.if-is_blank.true)

pub returns-in_default-2 : goal.returns-in_default-2
returns-in_default-2 t c = last_kept c.args.field.now c.in-len1-up.len_at_least (sym c.is_blank.ensures ∙ c.if-is_blank.false)
