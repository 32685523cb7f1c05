use Rattle.std.proofs.Common.{arith, sym, ◌∙◌}
use Rattle.json_patch.proofs.Placed.{appended, inserted, not_inserted}
use Rattle.json_patch.proofs.placing.add_item.Goals as goal

pub returns-then-eq : goal.returns-then-eq
returns-then-eq c = appended c.args.token.now c.args.items.items c.args.value c.push.new.self.items (sym c.eq.ensures ∙ c.if-eq.true) c.in_ok-push.ensures.items

pub returns-then-len-index : goal.returns-then-len-index
returns-then-len-index c =
    not_inserted c.args.token.now c.args.items.items c.args.value (sym c.eq.ensures ∙ c.if-eq.false) c.in-Some.index c.in-Some.ensures (omega (arith, c.args.items.ok.0, c.len.ensures, c.if-len-index.true))

pub returns : goal.returns
returns c =
    inserted c.args.token.now c.args.items.items c.args.value (sym c.eq.ensures ∙ c.if-eq.false) c.in-Some.index c.in-Some.ensures c.insert.new.self.items
    (omega (arith, c.args.items.ok.0, c.len.ensures, c.if-len-index.false)) c.in_ok-insert.ensures.items
