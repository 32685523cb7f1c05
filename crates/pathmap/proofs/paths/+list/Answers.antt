use Rattle.std.proofs.Common.{◌+◌, ◌∷◌, ◌++◌, [], drop, string_bytes, sym, ap, ◌∙◌, subst, arith}
use Rattle.pathmap.specs.Contents.{dom, in_order}
use Rattle.pathmap.specs.Levels.{IsRising}
use Rattle.pathmap.specs.Maps.{contents_in}
use Rattle.pathmap.proofs.Prefixes.{drop_next, drop-whole, rising_drop}
use Rattle.pathmap.proofs.Listing.{after_prefix, listed_level, listed_more, listed_none, on_rising, paths_below}
use Rattle.pathmap.proofs.paths.+list.Goals as goal

pub list_below-loop-name-preserved : goal.list_below-loop-name-preserved
list_below-loop-name-preserved t c = λ rises.
    let below = c.args.below.now in
    let i = c.loop-name.name-index in
    let e = c.loop-name-item.result in
    let left = contents_in (drop (i + 1) below) in
    let prefix = c.args.prefix.now in
    let steps = ap contents_in (drop_next below i e c.loop-name-test.true c.loop-name-item.is) in
    let sorted = subst IsRising steps (rising_drop i below rises) in
    let next = c.in_ok-push.ensures.ok ∙ ap (λ p. p ++ string_bytes e.0 ∷ []) c.in_ok-path.ensures in
    listed_more prefix c.push.new.self (string_bytes e.0, e.1) left sorted next c.loop-name.all.items c.list.new.all.items c.in_ok-list.ensures
    ∙ ap (λ es. c.loop-name.all.items ++ after_prefix prefix (paths_below es)) (sym steps) ∙ c.loop-name.invariant rises

pub list_below-returns : goal.list_below-returns
list_below-returns t c = λ rises.
    let i = c.loop-name.name-index in
    let past = c.loop-name-test.false in
    sym (listed_none c.args.prefix.now (contents_in (drop i c.args.below.now)) c.loop-name.all.items (ap contents_in (drop-whole i c.args.below.now (omega (arith, past))))) ∙ c.loop-name.invariant rises

pub list-returns : goal.list-returns
list-returns t c =
    let prefix = c.args.prefix.now in
    let mid = c.list_held.new.all.items in
    let old = c.args.all.now.items in
    on_rising c.list_below.result _ _ _ (subst (λ l. IsRising (contents_in l)) (sym c.deref.ensures.value) c.below.invariant.0)
    (λ did.
    did ∙ ap (λ l. mid ++ after_prefix prefix (paths_below (contents_in l))) c.deref.ensures.value
    ∙ listed_level prefix c.below.inside.held (contents_in c.below.inside.below.items) old mid c.in_ok-list_held.ensures ∙ ap (λ m. old ++ after_prefix prefix (in_order (dom m))) c.below.view_is)
    c.list_below.ensures
