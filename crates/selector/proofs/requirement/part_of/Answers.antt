use Rattle.std.proofs.Common.{lit<, eqb, ap, cond}
use Rattle.std.specs.List.{before_first, after_first}
use Rattle.std.proofs.lemmas.Str.Pattern.{split_once_first}
use Rattle.selector.specs.Grammar.{part_of, set_of, plain_of}
use Rattle.selector.specs.Views.{requirement_of}
use Rattle.selector.proofs.Found.{at_none, list_any-none}
use Rattle.selector.proofs.Reading.{gives_along}
use Rattle.selector.proofs.requirement.part_of.Goals as goal

pub returns-in-None : goal.returns-in-None
returns-in-None c =
    let part = c.args.part.now in
    let none = at_none c.split_once.result _ _ c.in-None.is (split_once_first 40 part c.split_once.result c.split_once.ensures.cases (lit< tt)) in
    gives_along requirement_of c.plain_of.result (part_of part) (plain_of part)
    (ap (λ t. cond t (set_of (before_first (λ b. eqb b 40) part) (after_first (λ b. eqb b 40) part)) (plain_of part)) (list_any-none (λ b. eqb b 40) part none)) c.plain_of.ensures
