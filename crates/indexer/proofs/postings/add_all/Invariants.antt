use Rattle.std.proofs.Common.{◌≡◌, ◌≤◌, ℕ, List, ◌&&◌, ◌||◌, not, length, take}
use Rattle.indexer.specs.declared.object.ObjectKey.{ObjectKey}
use Rattle.indexer.specs.Keys.{is_same}
use Rattle.indexer.specs.Objects.{is_among, texts_at, under_at}
use Rattle.indexer.proofs.postings.add_all.Given as goal

abbrev pub invariant-loop-i : goal.invariant-loop-i
invariant-loop-i l = record {
  reach : l.i ≤ length l.postings.items;
  emitted : (j : ℕ) (k : List ℕ) (q : ObjectKey) → under_at l.postings.items j k q ≡ (under_at l.fn.postings.items j k q || ((is_among (texts_at (take l.i l.keys) j) k && not (is_among (texts_at l.had j) k)) && is_same l.key q));
}
