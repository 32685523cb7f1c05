use Rattle.std.proofs.Common.{◌+◌, drop, string_bytes, sym, ap, ◌∙◌, subst}
use Rattle.std.specs.Option.{option_map}
use Rattle.pathmap.specs.Beside.{is_empty}
use Rattle.pathmap.specs.Levels.{IsRising}
use Rattle.pathmap.specs.Maps.{content_or_nothing, contents_in}
use Rattle.pathmap.specs.Merged.{first_of, left_of}
use Rattle.pathmap.specs.Picks.{no_child, picked, picked_in, picks_some}
use Rattle.pathmap.proofs.Prefixes.{drop_next, rising_drop}
use Rattle.pathmap.proofs.Merging.{passed_rises}
use Rattle.pathmap.proofs.Picking.{none_below, none_more, some_more, top_is, top_picked}
use Rattle.pathmap.proofs.pick.+picks_none.Goals as goal

pub picks_none_below-loop-name-preserved : goal.picks_none_below-loop-name-preserved
picks_none_below-loop-name-preserved t c = λ rises rises_theirs.
    let mine = c.args.mine.now in
    let i = c.loop-name.name-index in
    let e = c.loop-name-item.result in
    let f = string_bytes e.0 in
    let rest = contents_in c.loop-name.rest.now in
    let old = c.loop-name.invariant rises rises_theirs in
    let others = c.split_named.ensures.others ∙ ap (left_of f) (c.skip.ensures old.0) in (
      subst (λ l. IsRising l) (sym others) (passed_rises f rest old.0),
      none_more c.args.rule (f, e.1) (contents_in (drop (i + 1) mine)) (contents_in (drop i mine)) rest (contents_in c.split_named.result.1.now) (option_map (λ m. m.now) c.split_named.result.0)
          (ap contents_in (drop_next mine i e c.loop-name-test.true c.loop-name-item.is)) (rising_drop i mine rises) old.0 (c.split_named.ensures.first ∙ ap (first_of f) (c.skip.ensures old.0)) others
          (sym c.picks_none.ensures ∙ c.if-not-picks_none.false)
          ∙ old.1,
    )

pub picks_none_below-returns-then-not-picks_none : goal.picks_none_below-returns-then-not-picks_none
picks_none_below-returns-then-not-picks_none t c = λ rises rises_theirs.
    let mine = c.args.mine.now in
    let i = c.loop-name.name-index in
    let e = c.loop-name-item.result in
    let f = string_bytes e.0 in
    let rest = contents_in c.loop-name.rest.now in
    let old = c.loop-name.invariant rises rises_theirs in
    let others = c.split_named.ensures.others ∙ ap (left_of f) (c.skip.ensures old.0) in
    sym (ap no_child (sym old.1)
    ∙ some_more c.args.rule (f, e.1) (contents_in (drop (i + 1) mine)) (contents_in (drop i mine)) rest (contents_in c.split_named.result.1.now) (option_map (λ m. m.now) c.split_named.result.0)
    (ap contents_in (drop_next mine i e c.loop-name-test.true c.loop-name-item.is)) (rising_drop i mine rises) old.0 (c.split_named.ensures.first ∙ ap (first_of f) (c.skip.ensures old.0)) others
    (sym c.picks_none.ensures ∙ c.if-not-picks_none.true))

pub picks_none-returns-then-picks_held : goal.picks_none-returns-then-picks_held
picks_none-returns-then-picks_held t c =
    let d = content_or_nothing (option_map (λ m. m.now) c.args.theirs) in
    let cs = contents_in c.mine.inside.below.items in
    sym (top_picked c.args.rule c.args.mine.now d
    (ap (λ o. picks_some c.args.rule o d) (top_is c.mine.inside.held cs c.args.mine.now c.mine.view_is) ∙ sym c.picks_held.ensures ∙ c.if-picks_held.true))

pub picks_none-returns : goal.picks_none-returns
picks_none-returns t c =
    let d = content_or_nothing (option_map (λ m. m.now) c.args.theirs) in
    let cs = contents_in c.mine.inside.below.items in
    let ds = contents_in c.below_of.result.now in
    c.picks_none_below.ensures (subst (λ l. IsRising (contents_in l)) (sym c.deref.ensures.value) c.mine.invariant.0) c.below_of.ensures.rising
    ∙ ap (λ l. no_child (picked_in c.args.rule ds (contents_in l))) c.deref.ensures.value
    ∙ none_below c.args.rule ds d c.below_of.ensures.insides c.mine.inside.held cs c.mine.invariant.0 (sym c.picks_held.ensures ∙ c.if-picks_held.false)
    ∙ ap (λ m. is_empty (picked c.args.rule m d)) c.mine.view_is
