use Rattle.std.proofs.Common.{◌∙◌, ap}
use Rattle.wireclient.proofs.Requests.{no_body}
use Rattle.wireclient.proofs.request.without_body.Goals as goal

pub returns : goal.returns
returns c = ap (λ v. v.items) c.into_bytes.ensures.value ∙ c.in_ok-head.ensures.ok ∙ no_body c.args.method.now c.args.target.now
