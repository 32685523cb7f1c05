use Rattle.std.proofs.Common.{◌≡◌, ◌≤◌, ◌<◌, Err, ap, ◌∙◌, arith}
use Rattle.history.proofs.Revisions.{rising_ends}
use Rattle.verbs.proofs.retyping.objects_of.Goals as goal

-- what is current isn't compacted
pub unreachable-requires : goal.unreachable-requires
unreachable-requires c =
    let low : c.args.store.now.compacted ≤ c.args.store.now.current = rising_ends _ _ _ c.current-current.ensures.sound.rising in
    let same : c.current-current.result ≡ c.args.store.now.current = c.current-current.ensures.current in
    let lt : c.current-current.result < c.args.store.now.compacted = c.list_at.ensures.expired.0 (c.in-Err-Expired.is ∙ ap Err c.in-Err-Expired.field-0-is) in
    omega (arith, low, same, lt)
