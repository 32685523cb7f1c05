use Rattle.std.proofs.Common.{◌≡◌, ◌++◌, ◌∙◌, List, [], map, drop, ap, sym, append-nil, arith}
use Rattle.std.specs.Prelude.{filter}
use Rattle.std.proofs.lemmas.List.{drop_all}
use Rattle.pathmap.specs.Contents.{PathSet}
use Rattle.objects.specs.declared.managers.Entry.{Entry}
use Rattle.objects.specs.Owners.{Manager, others}
use Rattle.objects.specs.Managers.{pairs, manager_view}
use Rattle.objects.proofs.Entries.{is_other}
use Rattle.ownership.specs.Apply.{Conflict, conflicts_with}
use Rattle.ownership.specs.Results.{conflict_of}
use Rattle.ownership.proofs.applying.conflicts_with_others.Goals as goal

none_left : (all cs : List Conflict) (s : PathSet) (m : Manager) (left : List Entry) → left ≡ [] → all ++ conflicts_with s (filter (is_other m) (pairs left)) ≡ cs → all ≡ cs
none_left all cs s m left none is = sym (append-nil all) ∙ ap (λ es. all ++ conflicts_with s (filter (is_other m) (pairs es))) (sym none) ∙ is

pub returns : goal.returns
unfolding others
returns c =
    let s = c.args.changed.now in
    let m = manager_view c.args.manager.now in
    let es = c.entries-entries.result.now in
    let i = c.loop-entry.entry-index in
    let past = c.loop-entry-test.false in
    none_left (map conflict_of c.loop-entry.all.items) _ s m (drop i es) (drop_all i es (omega (arith, past))) c.loop-entry.invariant
    ∙ ap (λ ps. conflicts_with s (filter (is_other m) ps)) c.entries-entries.ensures.entries
