use Rattle.std.proofs.Common.{◌≡◌, drop, map}
use Rattle.httparse.specs.Spans.{header_bytes}
use Rattle.requests.specs.Heads.{is_transfer_encoded}
use Rattle.requests.proofs.head.is_transfer_encoded.Given as goal

abbrev pub invariant-loop-field : goal.invariant-loop-field
invariant-loop-field l = is_transfer_encoded (map (header_bytes l.head) (drop l.field-index l.fields)) ≡ is_transfer_encoded (map (header_bytes l.head) l.fields)
