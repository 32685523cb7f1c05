use Rattle.std.proofs.Common.{◌+◌, nat_cmp, drop, true, false, Some, is_some, string_bytes, sym, ap, ◌∙◌, subst, arith}
use Rattle.std.specs.Cmp.Lexicographic.{slice_cmp}
use Rattle.std.specs.List.Sorted.{IsStrictlySortedBy}
use Rattle.pathmap.specs.Contents.{dom, gather, nothing, over}
use Rattle.pathmap.specs.Beside.{without}
use Rattle.pathmap.specs.Cuts.{cut_each, full_in}
use Rattle.pathmap.specs.Levels.{AreChildren, IsRising, no_children}
use Rattle.pathmap.specs.Maps.{content, contents_in}
use Rattle.pathmap.proofs.Contents.{nothing-over}
use Rattle.pathmap.proofs.Cutting.{cut_children, gather-cut, names-cut, no_top, set_cut, uncut, without-level, without_all}
use Rattle.pathmap.proofs.Prefixes.{drop_next, drop-whole}
use Rattle.pathmap.proofs.Halving.{from_none, well_typed}
use Rattle.pathmap.proofs.Levels.{held_some}
use Rattle.pathmap.proofs.Picking.{top_is}
use Rattle.pathmap.proofs.without.+cut.Goals as goal

pub cut-invariant_of-map : goal.cut-invariant_of-map
cut-invariant_of-map t c = subst (λ es. AreChildren (contents_in es)) (sym c.clear.ensures.items) no_children

pub cut-returns-then-is_some : goal.cut-returns-then-is_some
cut-returns-then-is_some t c =
    let top = ap is_some (top_is c.set.inside.held (contents_in c.set.inside.below.items) c.args.set.now c.set.view_is) ∙ held_some c.set.inside.held ∙ sym c.is_some.ensures ∙ c.if-is_some.true in
    ap (λ es. over nothing (gather (contents_in es))) c.clear.ensures.items ∙ nothing-over nothing ∙ sym (without_all (content c.args.map.now) (content c.args.set.now) top)

pub cut-invariant_of-map-else-is_some : goal.cut-invariant_of-map-else-is_some
cut-invariant_of-map-else-is_some t c =
    let cs = contents_in c.map.inside.below.items in
    subst AreChildren (sym (c.keep_full.ensures ∙ ap full_in (c.cut_below.ensures c.map.invariant.0 ∙ ap (λ l. cut_each (contents_in l) cs) c.deref.ensures.value)))
    (cut_children (contents_in c.set.inside.below.items) cs c.map.invariant.0)

pub cut-returns-else-is_some : goal.cut-returns-else-is_some
cut-returns-else-is_some t c =
    let cs = contents_in c.map.inside.below.items in
    let ss = contents_in c.set.inside.below.items in
    let set = content c.args.set.now in
    let none = sym c.is_some.ensures ∙ c.if-is_some.false in
    let top = ap is_some (top_is c.set.inside.held ss c.args.set.now c.set.view_is) ∙ held_some c.set.inside.held ∙ none in
    let made = c.keep_full.ensures ∙ ap full_in (c.cut_below.ensures c.map.invariant.0 ∙ ap (λ l. cut_each (contents_in l) cs) c.deref.ensures.value) in
    without-level c.map.inside.held cs (contents_in c.keep_full.new.below.items) set top
    (ap gather made ∙ gather-cut ss cs c.set.invariant.0 c.map.invariant.0 ∙ ap (λ m. without (gather cs) (dom m)) (no_top c.set.inside.held ss set c.set.view_is none))
    ∙ ap (λ m. without m (dom set)) c.map.view_is

pub cut_child-index_mut-requires : goal.cut_child-index_mut-requires
cut_child-index_mut-requires t c =
    let lt = c.is_at.ensures.within c.if-is_at.true in
    let long = c.deref-2.ensures.len in
    omega (arith, lt, long)

pub cut_child-returns-then-is_at : goal.cut_child-returns-then-is_at
cut_child-returns-then-is_at t c = λ rises.
    let name = string_bytes c.args.name.now in
    set_cut name (content c.args.set.now) c.args.below.now.items 0 c.place_of-place.result c.index_mut.result.now c.cut.new.map
    ((well_typed name c.deref.result.now c.deref-2.result.now c.args.below.now.items c.place_of-place.result c.is_at.result true c.deref.ensures.value c.deref-2.ensures.value rises c.place_of-place.ensures.count c.is_at.ensures.index c.if-is_at.true).0 ∙ ap (λ n. Some n) (from_none c.place_of-place.result))
    c.index_mut.ensures.value c.cut.ensures

pub cut_child-returns-else-is_at : goal.cut_child-returns-else-is_at
cut_child-returns-else-is_at t c = λ rises.
    let name = string_bytes c.args.name.now in
    sym (uncut 0 name (content c.args.set.now) (contents_in c.args.below.now.items)
    (well_typed name c.deref.result.now c.deref-2.result.now c.args.below.now.items c.place_of-place.result c.is_at.result false c.deref.ensures.value c.deref-2.ensures.value rises c.place_of-place.ensures.count c.is_at.ensures.index c.if-is_at.false).0)

pub cut_below-loop-name-preserved : goal.cut_below-loop-name-preserved
cut_below-loop-name-preserved t c = λ rises.
    let i = c.loop-name.name-index in
    let set = c.args.set.now in
    let e = c.loop-name-item.result in
    let old = c.loop-name.invariant rises in
    let cs = contents_in c.loop-name.below.items in
    let made = c.cut_child.ensures old.0 in (
      subst (λ l. IsRising l) (sym made) (subst (IsStrictlySortedBy (slice_cmp nat_cmp)) (sym (names-cut (string_bytes e.0) e.1 cs)) old.0),
      ap (λ l. cut_each (contents_in (drop (i + 1) set)) l) made ∙ ap (λ l. cut_each (contents_in l) cs) (sym (drop_next set i e c.loop-name-test.true c.loop-name-item.is)) ∙ old.1,
    )

pub cut_below-returns : goal.cut_below-returns
cut_below-returns t c = λ rises.
    let i = c.loop-name.name-index in
    let past = c.loop-name-test.false in
    ap (λ l. cut_each (contents_in l) (contents_in c.loop-name.below.items)) (sym (drop-whole i c.args.set.now (omega (arith, past)))) ∙ (c.loop-name.invariant rises).1
