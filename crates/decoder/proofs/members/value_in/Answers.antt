use Rattle.serde_json.specs.View.{view}
use Rattle.decoder.proofs.Texts.{value_read, value_unread, isnt}
use Rattle.decoder.proofs.members.value_in.Goals as goal

pub returns-in-Ok : goal.returns-in-Ok
returns-in-Ok c = value_read c.args.bytes.now (view c.in-Ok.value) c.in-Ok.ensures.ok.0 c.in-Ok.ensures.ok.1

pub returns-in-Err-2 : goal.returns-in-Err-2
returns-in-Err-2 c = value_unread c.args.bytes.now (c.in-Err.ensures.err (isnt c.is_memory.result c.is_memory.ensures c.if-is_memory.false))
