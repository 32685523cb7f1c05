use Rattle.std.proofs.Common.{map, string_bytes, sym}
use Rattle.serde_json.specs.View.{members_view}
use Rattle.fieldpath.specs.Elements.{name_text}
use Rattle.json_values.specs.Members.{has}
use Rattle.schema.proofs.KeyNames.{list_all-sorted}
use Rattle.fieldset.proofs.values.has_keys.Goals as goal

pub loop-name-init : goal.loop-name-init
loop-name-init c = sym (list_all-sorted (λ n. has (name_text n) (members_view c.args.members.now.entries)) (map string_bytes c.args.names.now))
