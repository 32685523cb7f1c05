use Rattle.std.proofs.Common.{ap, ◌∙◌}
use Rattle.selector.specs.Grammar.{without_trailing_blanks}
use Rattle.selector.proofs.Blanks.{trim_start, trim_end}
use Rattle.selector.proofs.text.trimmed.Goals as goal

pub returns : goal.returns
returns c =
    trim_end _ _ c.trim_end_matches.ensures.matches
    ∙ ap without_trailing_blanks (trim_start c.args.text.now _ c.trim_start_matches.ensures.matches)
