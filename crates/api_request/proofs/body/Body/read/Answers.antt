use Rattle.fieldpath.proofs.Encodable.{encodable-read}
use Rattle.api_request.proofs.body.Body.read.Goals as goal

pub invariant_of-result : goal.invariant_of-result
invariant_of-result c = record { is_json = encodable-read c.args.bytes.now _ c.in_ok-value.ensures.ok.1 }
