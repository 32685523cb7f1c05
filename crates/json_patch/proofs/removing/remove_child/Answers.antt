use Rattle.std.proofs.Common.{arith}
use Rattle.serde_json.specs.View.{view}
use Rattle.serde_json.specs.declared.value.Value.{Array}
use Rattle.json_patch.proofs.Placed.{item_at, item_past, item_removed, nothing_taken, taken_out}
use Rattle.json_patch.proofs.removing.remove_child.Goals as goal

pub returns-then-len-index : goal.returns-then-len-index
returns-then-len-index c =
    nothing_taken c.args.token.now (view c.args.whole)
    (item_past c.args.token.now c.args.whole c.in-Array.items c.in-Array.is c.in_ok-index-in-Array.index c.in_ok-index-in-Array.ensures (omega (arith, c.in-Array.items.ok.0, c.len.ensures, c.if-len-index.true)))

pub returns-in-Array : goal.returns-in-Array
returns-in-Array c =
    let items = c.in-Array.items in
    taken_out c.args.token.now (view c.args.whole) (view c.remove-taken.result) (view (Array c.remove-taken.new.self))
    (item_at c.args.token.now c.args.whole items c.in-Array.is c.in_ok-index-in-Array.index c.in_ok-index-in-Array.ensures c.remove-taken.result (omega (arith, items.ok.0, c.len.ensures, c.if-len-index.false)) c.remove-taken.ensures.value)
    (item_removed c.args.token.now c.args.whole items c.in-Array.is c.in_ok-index-in-Array.index c.in_ok-index-in-Array.ensures c.remove-taken.new.self (omega (arith, items.ok.0, c.len.ensures, c.if-len-index.false)) c.remove-taken.ensures.items)
