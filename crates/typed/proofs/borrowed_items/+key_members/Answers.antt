use Rattle.std.proofs.Common.{string_bytes, sym, ap, ◌∙◌}
use Rattle.json.specs.Value.{members_view as members_in}
use Rattle.serde_json.specs.Find.{get_member}
use Rattle.json_texts.specs.InOrder.{members_data}
use Rattle.schema.specs.KeyNames.{names_in}
use Rattle.typed.specs.Reading.{keys_in, put_some}
use Rattle.typed.proofs.KeyNames.{keys_more}
use Rattle.typed.proofs.borrowed_items.+key_members.Goals as goal

pub returns : goal.returns
returns t c =
    let ms = members_data (members_in c.args.members.now) in
    let rest = names_in c.in-Some.rest.now in
    let k = c.as_str.result.now in
    c.in_ok-put_key.ensures ∙ ap (put_some k (get_member k ms)) c.in_ok-keys.ensures
    ∙ ap (λ f. put_some f (get_member f ms) (keys_in rest ms)) c.as_str.ensures.value
    ∙ sym (ap (λ ns. keys_in (names_in ns) ms) c.in-Some.ensures.cases.0 ∙ keys_more ms (string_bytes c.in-Some.name.now) rest)
