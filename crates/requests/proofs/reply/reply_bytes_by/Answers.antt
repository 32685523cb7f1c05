use Rattle.std.proofs.Common.{List, ℕ, ◌++◌, ◌∙◌, length, ap, ap₂}
use Rattle.std.specs.Prelude.{option_map, string_bytes}
use Rattle.requests.proofs.KeptHeads.{same_head}
use Rattle.requests.proofs.reply.reply_bytes_by.Goals as goal

pub returns : goal.returns
returns c =
    c.in_ok-extend_from_slice.ensures.items
    ∙ ap₂ (λ (head body : List ℕ). head ++ body)
    (ap (λ v. v.items) c.into_bytes-bytes.ensures.value ∙ c.in_ok-head.ensures.ok
    ∙ same_head c.args.persistence c.args.code (length c.args.body.now) c.phrase_of-phrase.result.now c.connection_field-field.result.now (string_bytes c.in_ok-allow.allow)
    (option_map (λ m. m.now) c.args.allow) c.phrase_of-phrase.ensures c.connection_field-field.ensures c.in_ok-allow.ensures)
    c.as_bytes.ensures.value
