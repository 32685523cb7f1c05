use Rattle.std.proofs.Common.{◌≡◌, ◌+◌, drop, length, string_bytes}
use Rattle.pathmap.specs.Maps.{contents_in}
use Rattle.pathmap.specs.Merged.{prefix_of}
use Rattle.pathmap.proofs.walk.count_before.Given as goal

abbrev pub invariant-loop-known : goal.invariant-loop-known
invariant-loop-known l =
    (l.count ≡ l.known-index) × (l.count + length (prefix_of (string_bytes l.name) (contents_in (drop l.known-index l.entries))) ≡ length (prefix_of (string_bytes l.name) (contents_in l.entries)))
