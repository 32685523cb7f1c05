use Rattle.std.proofs.Common.{◌≡◌, ◌≤◌, ◌+◌, drop, map, length}
use Rattle.std.specs.List.{filter}
use Rattle.httparse.specs.Spans.{header_bytes}
use Rattle.requests.specs.Heads.{is_host}
use Rattle.requests.proofs.head.hosts_in.Given as goal

abbrev pub invariant-loop-field : goal.invariant-loop-field
invariant-loop-field l = record {
  few : l.hosts ≤ l.field-index;
  counted : l.hosts + length (filter is_host (map (header_bytes l.head) (drop l.field-index l.fields))) ≡ length (filter is_host (map (header_bytes l.head) l.fields));
}
