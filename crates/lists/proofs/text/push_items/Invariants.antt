use Rattle.std.proofs.Common.{◌≡◌, ◌++◌, drop, string_bytes}
use Rattle.lists.specs.Body.{with_commas}
use Rattle.lists.proofs.Joining.{after_commas, texts_in}
use Rattle.lists.proofs.text.push_items.Given as goal

abbrev pub invariant-loop-item : goal.invariant-loop-item
invariant-loop-item l = string_bytes l.onto ++ after_commas (texts_in (drop l.item-index l.others)) ≡ string_bytes l.fn.onto ++ with_commas (texts_in l.items)
