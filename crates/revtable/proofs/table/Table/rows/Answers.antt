use Rattle.std.proofs.Common.{ap, ◌∙◌, slice_get}
use Rattle.revtable.proofs.Numbers.{count_is}
use Rattle.revtable.proofs.table.Table.rows.Goals as goal

pub returns-clause-ok : goal.returns-clause-ok
returns-clause-ok c =
    count_is c.args.self.now c.in_ok-rows.rows.items c.in-Some.row.now c.in_ok-get-in-Some.field-0 c.in_ok-rows.ensures.sound c.in_ok-rows.ensures.ok (c.in-Some.ensures.value ∙ ap (λ l. slice_get l 0) c.deref.ensures.value) c.in_ok-get-in-Some.ensures.ok.1
