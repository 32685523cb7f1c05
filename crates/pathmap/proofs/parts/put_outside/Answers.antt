use Rattle.std.proofs.Common.{string_bytes, sym, ◌∙◌}
use Rattle.pathmap.proofs.Parting.{in_part, put_is}
use Rattle.pathmap.proofs.parts.put_outside.Goals as goal

pub returns-then-is_in : goal.returns-then-is_in
returns-then-is_in c = λ free.
    in_part c.args.part c.args.name.now c.args.map.now c.args.child.now.1 (string_bytes c.args.child.now.0) (sym c.is_in.ensures ∙ c.if-is_in.true)

pub returns : goal.returns
returns c = λ free.
    put_is c.args.part c.args.name.now c.args.map.now c.insert_child.new.self c.args.child.now.1 c.in_ok-copy.copy (string_bytes c.args.child.now.0) (string_bytes c.in_ok-try_copy.field-0) c.in_ok-insert_child.field-0
    c.in_ok-try_copy.ensures c.in_ok-copy.ensures (sym c.is_in.ensures ∙ c.if-is_in.false) c.in_ok-insert_child.ensures.added c.in_ok-insert_child.ensures.put free
