use Rattle.std.proofs.Common.{◌+◌, drop, string_bytes, sym, ap, ◌∙◌, subst}
use Rattle.std.specs.Option.{option_map}
use Rattle.pathmap.specs.Contents.{gather, marked, over}
use Rattle.pathmap.specs.Levels.{at_top, AreChildren, IsRising}
use Rattle.pathmap.specs.Maps.{content_or_nothing, contents_in}
use Rattle.pathmap.specs.Merged.{first_of, left_of}
use Rattle.pathmap.specs.Picks.{picked, picked_in}
use Rattle.pathmap.proofs.Prefixes.{drop_next, rising_drop}
use Rattle.pathmap.proofs.Merging.{passed_rises}
use Rattle.pathmap.proofs.Picking.{picked_children, picks_level, picks_more}
use Rattle.pathmap.proofs.pick.+pick.Goals as goal

pub pick_below-loop-name-preserved : goal.pick_below-loop-name-preserved
pick_below-loop-name-preserved t c = λ rises rises_theirs.
    let mine = c.args.mine.now in
    let i = c.loop-name.name-index in
    let e = c.loop-name-item.result in
    let f = string_bytes e.0 in
    let rest = contents_in c.loop-name.rest.now in
    let old = c.loop-name.invariant rises rises_theirs in
    let others = c.split_named.ensures.others ∙ ap (left_of f) (c.skip.ensures old.0) in (
      subst (λ l. IsRising l) (sym others) (passed_rises f rest old.0),
      picks_more c.args.rule (f, e.1) (contents_in (drop (i + 1) mine)) (contents_in (drop i mine)) rest (contents_in c.split_named.result.1.now) (contents_in c.loop-name.all.items) (contents_in c.push_full.new.all.items)
          (option_map (λ m. m.now) c.split_named.result.0) c.in_ok-made.made (ap contents_in (drop_next mine i e c.loop-name-test.true c.loop-name-item.is)) (rising_drop i mine rises) old.0
          (c.split_named.ensures.first ∙ ap (first_of f) (c.skip.ensures old.0)) others c.in_ok-made.ensures c.in_ok-push_full.ensures
          ∙ old.1,
    )

pub pick-returns : goal.pick-returns
pick-returns t c =
    let d = content_or_nothing (option_map (λ m. m.now) c.args.theirs) in
    let top = c.pick_held-held.result in
    let cs = contents_in c.mine.inside.below.items in
    let ds = contents_in c.below_of.result.now in
    ap (λ l. over (at_top top) (gather l))
    (c.in_ok-below.ensures (subst (λ l. IsRising (contents_in l)) (sym c.deref.ensures.value) c.mine.invariant.0) c.below_of.ensures.rising ∙ ap (λ l. picked_in c.args.rule ds (contents_in l)) c.deref.ensures.value)
    ∙ picks_level c.args.rule ds d c.below_of.ensures.insides c.mine.inside.held top cs c.mine.invariant.0 c.pick_held-held.ensures
    ∙ ap (λ m. marked (picked c.args.rule m d)) c.mine.view_is

pub pick-invariant_of-result : goal.pick-invariant_of-result
pick-invariant_of-result t c =
    let cs = contents_in c.mine.inside.below.items in
    let ds = contents_in c.below_of.result.now in
    subst AreChildren
    (sym (c.in_ok-below.ensures (subst (λ l. IsRising (contents_in l)) (sym c.deref.ensures.value) c.mine.invariant.0) c.below_of.ensures.rising ∙ ap (λ l. picked_in c.args.rule ds (contents_in l)) c.deref.ensures.value))
    (picked_children c.args.rule ds cs c.mine.invariant.0)
