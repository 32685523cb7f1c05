use Rattle.std.proofs.Common.{◌∙◌, ◌≤◌, Some, ap, map, string_bytes, subst, sym, take}
use Rattle.std.specs.Option.{option_map}
use Rattle.std.proofs.lemmas.List.{length-map}
use Rattle.watchline.specs.BatchViews.{changes_past}
use Rattle.watchline.specs.Views.{seen_change_of}
use Rattle.watchline.proofs.Batched.{seen_all, seen_enough, seen_is}
use Rattle.watchline.proofs.batches.seen_after.Goals as goal

pub returns-then-len-max-clause-seen : goal.returns-then-len-max-clause-seen
returns-then-len-max-clause-seen c =
    let v = c.args.store.now in
    let scope = c.args.scope.now in
    let ns = option_map string_bytes scope.namespace in
    let found = c.loop-left.found in
    c.cut.ensures
    ∙ seen_enough scope.selector v (changes_past scope.kind ns v (Some c.args.after)) (map seen_change_of found.items) (changes_past scope.kind ns v c.loop-left.left) c.args.max c.loop-left.invariant.0
    (subst (λ n. c.args.max ≤ n) (c.len.ensures ∙ found.ok.0 ∙ sym (length-map found.items seen_change_of)) c.if-len-max.true)
    ∙ ap (take c.args.max) (seen_is scope.kind ns scope.selector v c.args.after c.requires.sound)

pub returns-clause-seen : goal.returns-clause-seen
returns-clause-seen c =
    let v = c.args.store.now in
    let scope = c.args.scope.now in
    let ns = option_map string_bytes scope.namespace in
    c.cut-2.ensures ∙ ap (take c.args.max) (
    seen_all scope.selector v (changes_past scope.kind ns v (Some c.args.after)) (map seen_change_of c.loop-left.found.items) (changes_past scope.kind ns v c.loop-left.left) c.loop-left.invariant.0
    (ap (changes_past scope.kind ns v) c.in_default.is) ∙ seen_is scope.kind ns scope.selector v c.args.after c.requires.sound
    )
