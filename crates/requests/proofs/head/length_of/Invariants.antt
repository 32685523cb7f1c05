use Rattle.std.proofs.Common.{◌≡◌, drop, map}
use Rattle.httparse.specs.Spans.{header_bytes}
use Rattle.requests.specs.Heads.{length_after, missing}
use Rattle.requests.specs.Views.{length_of, IsPlain}
use Rattle.requests.proofs.head.length_of.Given as goal

abbrev pub invariant-loop-field : goal.invariant-loop-field
invariant-loop-field l = record {
  said : length_after (length_of l.length) (map (header_bytes l.head) (drop l.field-index l.fields)) ≡ length_after missing (map (header_bytes l.head) l.fields);
  plain : IsPlain l.length;
}
