use Rattle.std.proofs.Common.{◌≡◌, ◌<◌, ◌≤◌, ℕ, List, ◌&&◌, not, length}
use Rattle.indexer.specs.declared.object.ObjectKey.{ObjectKey}
use Rattle.indexer.specs.Keys.{is_same}
use Rattle.indexer.specs.Objects.{is_among, texts_at, under_at}
use Rattle.indexer.proofs.postings.remove_all.Given as goal

abbrev pub invariant-loop-i : goal.invariant-loop-i
invariant-loop-i l = record {
  size : length l.postings.items ≡ length l.fn.postings.items;
  done : (j : ℕ) (k : List ℕ) (q : ObjectKey) → j < l.i → under_at l.postings.items j k q ≡ (under_at l.fn.postings.items j k q && not ((is_among (texts_at l.keys j) k && not (is_among (texts_at l.kept j) k)) && is_same l.key q));
  left : (j : ℕ) (k : List ℕ) (q : ObjectKey) → l.i ≤ j → under_at l.postings.items j k q ≡ under_at l.fn.postings.items j k q;
}
