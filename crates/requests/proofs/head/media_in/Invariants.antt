use Rattle.std.proofs.Common.{◌≡◌, drop, map}
use Rattle.httparse.specs.Spans.{header_bytes}
use Rattle.requests.specs.Heads.{media_in}
use Rattle.requests.proofs.head.media_in.Given as goal

abbrev pub invariant-loop-field : goal.invariant-loop-field
invariant-loop-field l = media_in (map (header_bytes l.head) (drop l.field-index l.fields)) ≡ media_in (map (header_bytes l.head) l.fields)
