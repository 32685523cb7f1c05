use Rattle.std.proofs.Common.{◌≡◌, ◌++◌, map, string_bytes}
use Rattle.std.specs.Rc.{rc_str_bytes}
use Rattle.indexer.proofs.texts.shared_each.Given as goal

abbrev pub invariant-loop-text : goal.invariant-loop-text
invariant-loop-text l = map rc_str_bytes l.all.items ++ map string_bytes l.text-iterator.rest.items ≡ map string_bytes l.fn.texts.items
