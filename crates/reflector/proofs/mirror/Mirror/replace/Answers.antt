use Rattle.std.proofs.Common.{◌∙◌, ◌++◌, ap, ap₂, arith, map}
use Rattle.std.specs.FinMap as fin
use Rattle.indexer.specs.Indexer.{indexed_objects_of}
use Rattle.indexer.specs.Objects.{place_cmp}
use Rattle.reflector.specs.PagedListViews.{paged_list_of}
use Rattle.reflector.specs.BetweenViews.{between}
use Rattle.reflector.specs.Client.{by_place}
use Rattle.reflector.specs.Views.{held_seen, notice_seen}
use Rattle.reflector.proofs.Relisted.{held_ascends, held_length, list_ascends}
use Rattle.reflector.proofs.mirror.Mirror.replace.Goals as goal

pub notify_of_differences-requires-clause-old : goal.notify_of_differences-requires-clause-old
notify_of_differences-requires-clause-old g c = held_ascends (indexed_objects_of c.args.self.now.indexer) _ c.in_ok-old.ensures.was

pub notify_of_differences-requires-clause-new : goal.notify_of_differences-requires-clause-new
notify_of_differences-requires-clause-new g c = ap (λ os. fin.is_sorted place_cmp (by_place os)) c.in_ok-new.ensures ∙ list_ascends (paged_list_of c.args.all) c.args.all.listed

pub notify_of_differences-requires-clause-room : goal.notify_of_differences-requires-clause-room
notify_of_differences-requires-clause-room g c =
    let olds = held_length (indexed_objects_of c.args.self.now.indexer) c.in_ok-old.old.items held_seen c.in_ok-old.ensures.was in
    let old_length = c.in_ok-old.old.ok.0 in
    omega (arith, olds, old_length, c.in_ok-reserve.ensures.ok, c.saturating_add.ensures, c.len.ensures, c.len-2.ensures, c.reserve.new.self.small)

pub returns-clause-emitted : goal.returns-clause-emitted
returns-clause-emitted g c =
    c.notify_of_differences.ensures
    ∙ ap₂ (λ ns es. map notice_seen ns ++ es) c.reserve.ensures.items (ap₂ between c.in_ok-old.ensures.was (ap by_place c.in_ok-new.ensures))
