use Rattle.std.proofs.Common.{◌≡◌, map, drop}
use Rattle.std.specs.Prelude.{option_map}
use Rattle.httparse.specs.Spans.{header_bytes}
use Rattle.wireclient.specs.Reads.{framing_with, framing_of}
use Rattle.wireclient.specs.Views.{framing_in}
use Rattle.wireclient.proofs.head.framing_of.Given as goal

abbrev pub invariant-loop-field : goal.invariant-loop-field
invariant-loop-field l = framing_with (option_map (option_map framing_in) l.framing) (map (header_bytes l.head) (drop l.field-index l.fields)) ≡ framing_of (map (header_bytes l.head) l.fields)
