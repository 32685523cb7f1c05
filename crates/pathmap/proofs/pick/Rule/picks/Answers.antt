use Rattle.std.proofs.Common.{ap, sym, not, ◌∙◌, Some, None}
use Rattle.pathmap.specs.Maps.{content, contents_in, leaf_value}
use Rattle.pathmap.specs.Picks.{picks}
use Rattle.pathmap.proofs.Picking.{picks-Absent, picks-Present, picks-Changed, picks-Clear}
use Rattle.pathmap.proofs.pick.Rule.picks.Goals as goal

pub returns-in-Absent : goal.returns-in-Absent
returns-in-Absent c =
    picks-Absent c.theirs.inside.held (contents_in c.theirs.inside.below.items) c.args.theirs.now c.theirs.view_is c.is_none.result c.is_none.ensures
    ∙ ap (λ r. picks r (leaf_value c.args.mine.now) (content c.args.theirs.now)) (sym c.in-Absent.is)

pub returns-in-Present : goal.returns-in-Present
returns-in-Present c =
    picks-Present c.theirs.inside.held (contents_in c.theirs.inside.below.items) c.args.theirs.now c.theirs.view_is c.is_some.result c.is_some.ensures
    ∙ ap (λ r. picks r (leaf_value c.args.mine.now) (content c.args.theirs.now)) (sym c.in-Present.is)

pub returns-in-Some : goal.returns-in-Some
returns-in-Some c =
    ap not c.same.ensures ∙ picks-Changed c.theirs.inside.held (contents_in c.theirs.inside.below.items) c.args.theirs.now c.theirs.view_is c.args.mine.now (Some c.in-Some.other) c.in-Some.is
    ∙ ap (λ r. picks r (leaf_value c.args.mine.now) (content c.args.theirs.now)) (sym c.in-Changed.is)

pub returns-in-None : goal.returns-in-None
returns-in-None c =
    picks-Changed c.theirs.inside.held (contents_in c.theirs.inside.below.items) c.args.theirs.now c.theirs.view_is c.args.mine.now None c.in-None.is
    ∙ ap (λ r. picks r (leaf_value c.args.mine.now) (content c.args.theirs.now)) (sym c.in-Changed.is)

pub returns-in-Clear : goal.returns-in-Clear
returns-in-Clear c =
    picks-Clear c.args.theirs.now c.is_bare.result c.is_bare.ensures.0 c.is_bare.ensures.1 ∙ ap (λ r. picks r (leaf_value c.args.mine.now) (content c.args.theirs.now)) (sym c.in-Clear.is)
