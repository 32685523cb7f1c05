use Rattle.std.proofs.Common.{map, string_bytes, sym}
use Rattle.std.specs.Str.{bytes_eq}
use Rattle.schema.proofs.KeyNames.{list_any-sorted}
use Rattle.schema.proofs.step.is_key.Goals as goal

pub loop-known-init : goal.loop-known-init
loop-known-init c = sym (list_any-sorted (bytes_eq c.args.name.now) (map string_bytes c.args.names.now))
