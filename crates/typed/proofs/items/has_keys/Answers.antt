use Rattle.std.proofs.Common.{map, string_bytes, sym}
use Rattle.serde_json.specs.View.{members_view}
use Rattle.typed.proofs.KeyNames.{have_keys-sorted}
use Rattle.typed.proofs.items.has_keys.Goals as goal

pub loop-name-init : goal.loop-name-init
loop-name-init c = sym (have_keys-sorted (map string_bytes c.args.names.now) (members_view c.args.members.now.entries))
