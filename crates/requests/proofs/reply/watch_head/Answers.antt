use Rattle.std.proofs.Common.{◌∙◌, ap}
use Rattle.requests.proofs.KeptHeads.{same_watch_head}
use Rattle.requests.proofs.reply.watch_head.Goals as goal

pub returns : goal.returns
returns c =
    ap (λ v. v.items) c.into_bytes.ensures.value ∙ c.in_ok-head.ensures.ok
    ∙ same_watch_head c.args.persistence c.args.code c.phrase_of-phrase.result.now c.connection_field-field.result.now c.phrase_of-phrase.ensures c.connection_field-field.ensures
