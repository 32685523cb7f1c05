use Rattle.std.proofs.Common.{◌≡◌, ℕ, List, ◌&&◌, not, map, take}
use Rattle.std.specs.Rc.{rc_str_bytes}
use Rattle.indexer.specs.declared.object.ObjectKey.{ObjectKey}
use Rattle.indexer.specs.Keys.{is_same}
use Rattle.indexer.specs.Objects.{is_among}
use Rattle.indexer.specs.Postings.{under}
use Rattle.indexer.proofs.postings.remove_each.Given as goal

abbrev pub invariant-loop-text : goal.invariant-loop-text
invariant-loop-text l =
    (k : List ℕ) (q : ObjectKey)
    → under l.postings k q ≡ (under l.fn.postings k q && not ((is_among (map rc_str_bytes (take l.text-index l.texts)) k && not (is_among (map rc_str_bytes l.kept) k)) && is_same l.key q))
