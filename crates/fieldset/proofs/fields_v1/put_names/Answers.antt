use Rattle.std.proofs.Common.{map, string_bytes, sym}
use Rattle.serde_json.specs.View.{members_view}
use Rattle.fieldset.proofs.KeyNames.{put_names-sorted}
use Rattle.fieldset.proofs.fields_v1.put_names.Goals as goal

pub loop-name-init : goal.loop-name-init
loop-name-init c = sym (put_names-sorted (map string_bytes c.args.names.now) (members_view c.args.members.now.entries))
