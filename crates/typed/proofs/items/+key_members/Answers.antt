use Rattle.std.proofs.Common.{string_bytes, sym, ap, ◌∙◌}
use Rattle.serde_json.specs.Find.{get_member}
use Rattle.serde_json.specs.View.{members_view}
use Rattle.schema.specs.KeyNames.{names_in}
use Rattle.typed.specs.Reading.{keys_in, put_some}
use Rattle.typed.proofs.KeyNames.{keys_more}
use Rattle.typed.proofs.items.+key_members.Goals as goal

pub returns : goal.returns
returns t c =
    let ms = members_view c.args.members.now.entries in
    let name = string_bytes c.in-Some.name.now in
    c.in_ok-put_key.ensures ∙ ap (put_some name (get_member name ms)) c.in_ok-keys.ensures
    ∙ sym (ap (λ ns. keys_in (names_in ns) ms) c.in-Some.ensures.cases.0 ∙ keys_more ms name (names_in c.in-Some.rest.now))
