use Rattle.std.proofs.Common.{◌∙◌, ◌++◌, ap, map, append-nil, subst, sym}
use Rattle.std.specs.List.Sorted.{IsStrictlySortedBy}
use Rattle.indexer.specs.Objects.{place_cmp, place_of}
use Rattle.world.proofs.Shots.{moved_on, places_ascend}
use Rattle.world.proofs.indexes.copies.Goals as goal

pub loop-key-init : goal.loop-key-init
loop-key-init c =
    let gives = c.into_iter-key-iterator.ensures.into_iter_gives in
    ap (λ xs. map place_of xs ++ map place_of c.into_iter-key-iterator.result) c.in_ok-all.ensures.items ∙ ap (map place_of) gives.0

pub loop-key-preserved : goal.loop-key-preserved
loop-key-preserved c =
    moved_on c.loop-key.all.items _ c.in_ok-copied.field-0 c.in-Some.key.now _ _ c.args.keys.now.keys c.in_ok-push.ensures.items c.in_ok-copied.ensures c.in-Some.ensures.steps c.loop-key.invariant

pub returns : goal.returns
returns c =
    let under_key =
    sym (append-nil (map place_of c.loop-key.all.items)) ∙ ap (λ xs. map place_of c.loop-key.all.items ++ map place_of xs) (sym c.in-None.ensures.steps.0) ∙ c.loop-key.invariant in
    record { places = under_key; ascending = subst (IsStrictlySortedBy place_cmp) (sym under_key) (places_ascend c.args.keys.now.keys c.into_iter-key-iterator.ensures.into_iter_gives.4) }
