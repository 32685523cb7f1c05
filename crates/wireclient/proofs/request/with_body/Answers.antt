use Rattle.std.proofs.Common.{◌∙◌, ◌++◌, List, ℕ, ap}
use Rattle.wireclient.proofs.Requests.{some_body}
use Rattle.wireclient.proofs.request.with_body.Goals as goal

pub returns : goal.returns
returns c =
    c.in_ok-extend_from_slice.ensures.items
    ∙ ap (λ (bytes : List ℕ). bytes ++ c.args.body.now) (ap (λ v. v.items) c.into_bytes-bytes.ensures.value ∙ c.in_ok-head.ensures.ok)
    ∙ some_body c.args.method.now c.args.target.now c.args.media.now c.args.body.now
