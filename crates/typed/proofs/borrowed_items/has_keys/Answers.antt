use Rattle.std.proofs.Common.{map, string_bytes, sym}
use Rattle.json.specs.Value.{members_view as members_in}
use Rattle.json_texts.specs.InOrder.{members_data}
use Rattle.typed.proofs.KeyNames.{have_keys-sorted}
use Rattle.typed.proofs.borrowed_items.has_keys.Goals as goal

pub loop-name-init : goal.loop-name-init
loop-name-init c = sym (have_keys-sorted (map string_bytes c.args.names.now) (members_data (members_in c.args.members.now)))
