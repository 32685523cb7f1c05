use Rattle.std.proofs.Common.{◌∙◌, ap, sym, lit<}
use Rattle.std.proofs.lemmas.Str.Pattern.{split_once_first}
use Rattle.selector.specs.Grammar.{closed, set_of, worded, without_trailing_blanks}
use Rattle.selector.specs.Views.{requirement_of}
use Rattle.selector.proofs.Blanks.{trim_end}
use Rattle.selector.proofs.Found.{at_none, at_some, no_bytes, some_bytes}
use Rattle.selector.proofs.Reading.{gives_along}
use Rattle.selector.proofs.Sets.{set_closed, set_open, goes_on}
use Rattle.selector.proofs.requirement.set_of.Goals as goal
use Rattle.selector.proofs.requirement.set_of.Goals.{in_default-via-in-Some+else-is_empty, in_default-via-in_default}

pub returns-in-Some : goal.returns-in-Some
returns-in-Some c =
    let head = c.args.head.now in
    let inner = c.args.inner.now in
    let values = c.in-Some.values.now in
    let after = c.in-Some.after.now in
    let parts = at_some c.split_once.result _ _ _ c.in-Some.is (split_once_first 41 inner c.split_once.result c.split_once.ensures.cases (lit< tt)) in
    gives_along requirement_of c.worded.result (set_of head inner) (worded c.trim_end_matches.result.now values)
    (
    set_closed head inner values after parts.0 parts.1 parts.2
    ∙ ap (closed (without_trailing_blanks head) values) (no_bytes after c.is_empty.result c.is_empty.ensures c.if-is_empty.true)
    ∙ ap (λ h. worded h values) (sym (trim_end head c.trim_end_matches.result.now c.trim_end_matches.ensures.matches))
    ) c.worded.ensures

pub returns-in_default : goal.returns-in_default
returns-in_default c =
    let head = c.args.head.now in
    let inner = c.args.inner.now in
    elim c.in_default.branch [
      | in_default-via-in-Some+else-is_empty w ↦
          let parts = at_some c.split_once.result _ _ _ w.in-Some.is (split_once_first 41 inner c.split_once.result c.split_once.ensures.cases (lit< tt)) in
          set_closed head inner w.in-Some.values.now w.in-Some.after.now parts.0 parts.1 parts.2
          ∙ goes_on (without_trailing_blanks head) w.in-Some.values.now w.in-Some.after.now (some_bytes w.in-Some.after.now w.is_empty.result w.is_empty.ensures w.if-is_empty.false)
      | in_default-via-in_default w ↦ set_open head inner (at_none c.split_once.result _ _ w.in_default.is (split_once_first 41 inner c.split_once.result c.split_once.ensures.cases (lit< tt)))
    ]
