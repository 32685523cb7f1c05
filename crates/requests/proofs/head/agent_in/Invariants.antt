use Rattle.std.proofs.Common.{◌≡◌, drop, map}
use Rattle.httparse.specs.Spans.{header_bytes}
use Rattle.requests.specs.Heads.{agent_in}
use Rattle.requests.proofs.head.agent_in.Given as goal

abbrev pub invariant-loop-field : goal.invariant-loop-field
invariant-loop-field l = agent_in (map (header_bytes l.head) (drop l.field-index l.fields)) ≡ agent_in (map (header_bytes l.head) l.fields)
