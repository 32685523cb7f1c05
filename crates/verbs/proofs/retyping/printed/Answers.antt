use Rattle.std.proofs.Common.{◌∙◌, ap, sym}
use Rattle.std.proofs.lemmas.Result.{IfOk-weaker}
use Rattle.api_types.specs.Served.{served}
use Rattle.history.specs.Read.{key_of}
use Rattle.objects.specs.ObjectText.{Identity, object_text}
use Rattle.objects.specs.Views.{stamp_of, state_of}
use Rattle.verbs.proofs.Said.{stamped_text_is}
use Rattle.verbs.proofs.retyping.printed.Goals as goal

pub returns : goal.returns
returns c =
    let t = served c.args.served.now in
    let k = key_of c.args.key.now in
    let state = state_of c.args.owned.now in
    let of = c.identity_of-identity.ensures (c.as_str.ensures.value ∙ c.in_ok-api_version.ensures) in
    IfOk-weaker c.to_object.result _ _
    (λ s is. is ∙ ap (λ (i : Identity). object_text t.shape i (stamp_of c.args.stamp) state) of ∙ sym (stamped_text_is t k (stamp_of c.args.stamp) state))
    (c.to_object.ensures c.requires.shaped.1 c.requires.content)
