use Rattle.std.proofs.Common.{sym, ap, ◌∙◌, subst, ◌≤◌, length}
use Rattle.std.specs.List.{insert}
use Rattle.objects.specs.Managers.{pairs, manager_view}
use Rattle.objects.specs.Ranks.{rank}
use Rattle.objects.proofs.Entries.{rank_within, length-pairs, pairs-insert}
use Rattle.objects.proofs.managers.with_entry.Goals as goal

pub insert-requires : goal.insert-requires
insert-requires c =
    let es = c.deref.result.now in
    let m = manager_view c.args.manager in
    subst (λ n. c.rank-place.result ≤ n) (length-pairs es ∙ c.deref.ensures.len) (subst (λ r. r ≤ length (pairs es)) (sym c.rank-place.ensures) (rank_within m (pairs es)))

pub returns : goal.returns
returns c =
    let m = manager_view c.args.manager in
    let es = c.args.entries.items in
    ap pairs c.in_ok-insert.ensures.items ∙ pairs-insert es c.rank-place.result _ ∙ ap (λ i. insert (pairs es) i (m, c.args.paths)) (c.rank-place.ensures ∙ ap (λ l. rank m (pairs l)) c.deref.ensures.value)
