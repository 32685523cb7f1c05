use Rattle.std.proofs.Common.{◌∙◌, ap, lit<, refl}
use Rattle.std.proofs.lemmas.Str.Pattern.{split_once_first}
use Rattle.server_program.proofs.Asking.{kinds_of_cut, seed_of_cut}
use Rattle.server_program.proofs.disturbing.parted.Goals as goal

pub returns-clause-seed : goal.returns-clause-seed
returns-clause-seed c =
    ap (λ p. p.0.now) c.unwrap_or.ensures ∙ seed_of_cut _ _ c.split_once.result (split_once_first 58 c.args.text.now c.split_once.result c.split_once.ensures.cases (lit< tt))

pub returns-clause-kinds : goal.returns-clause-kinds
returns-clause-kinds c =
    ap (λ p. p.1.now) c.unwrap_or.ensures ∙ kinds_of_cut _ _ c.split_once.result (split_once_first 58 c.args.text.now c.split_once.result c.split_once.ensures.cases (lit< tt)) refl
