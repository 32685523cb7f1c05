use Rattle.std.proofs.Common.{◌∙◌, ap, Some}
use Rattle.std.specs.Prelude.{codes}
use Rattle.selector.specs.Grammar.{worded, among_of, outside_of}
use Rattle.selector.specs.Views.{requirement_of}
use Rattle.selector.proofs.Found.{at_none, at_some}
use Rattle.selector.proofs.Reading.{gives_along}
use Rattle.selector.proofs.Words.{before_word-none, strips_word}
use Rattle.selector.proofs.requirement.worded.Goals as goal

pub returns-in-Some-strip_suffix : goal.returns-in-Some-strip_suffix
returns-in-Some-strip_suffix c =
    let head = c.args.head.now in
    let values = c.args.values.now in
    let other = at_none c.strip_suffix.result _ _ c.in_default.is c.strip_suffix.ensures.cases in
    let found = at_some c.strip_suffix-in_default.result _ _ _ c.in-Some-strip_suffix.is c.strip_suffix-in_default.ensures.cases in
    gives_along requirement_of c.outside.result (worded head values) (outside_of (Some c.in-Some-strip_suffix.key.now) values)
    (ap (λ k. among_of k head values) (before_word-none (codes " in") head other) ∙ ap (λ k. outside_of k values) (strips_word (codes " notin") head c.in-Some-strip_suffix.key.now found)) c.outside.ensures

pub returns-in_default-strip_suffix : goal.returns-in_default-strip_suffix
returns-in_default-strip_suffix c =
    let head = c.args.head.now in
    let values = c.args.values.now in
    let first = at_none c.strip_suffix.result _ _ c.in_default.is c.strip_suffix.ensures.cases in
    let second = at_none c.strip_suffix-in_default.result _ _ c.in_default-strip_suffix.is c.strip_suffix-in_default.ensures.cases in
    ap (λ k. among_of k head values) (before_word-none (codes " in") head first) ∙ ap (λ k. outside_of k values) (before_word-none (codes " notin") head second)
