use Rattle.std.proofs.Common.{◌≡◌, ◌∙◌, ap, subst, slice_get, to_z, of_z, w64, to_z-of_z, arith}
use Rattle.history.specs.Read.{key_of}
use Rattle.sqlite.specs.Held.{state}
use Rattle.revtable.specs.Rows.{Amid}
use Rattle.revtable.proofs.Fields.{ordered_rows}
use Rattle.revtable.proofs.Puts.{none_shown, one_shown}
use Rattle.revtable.proofs.Within.{on_err, undone}
use Rattle.revtable.proofs.writing.end_current_objects.Goals as goal

pub returns-in_default-clause-ok : goal.returns-in_default-clause-ok
returns-in_default-clause-ok g c start st cs top rising rows amid =
    let found = c.in_ok-rows.ensures.ok start st (ordered_rows cs top st.spans rising rows) amid in
    subst (λ l. Amid start (record { spans = l; current = st.current; compacted = st.compacted }) (state g.S.Store c.last_first.new.writing.conn.now))
    (none_shown (key_of c.args.key.now) c.args.revision c.args.gone cs top st.spans c.in_ok-rows.rows.items rising rows found.0 (c.in_default.ensures.value ∙ ap (λ l. slice_get l 0) c.deref.ensures.value))
    found.1

pub returns-clause-ok : goal.returns-clause-ok
returns-clause-ok g c start st cs top rising rows amid =
    let up = ordered_rows cs top st.spans rising rows in
    let found = c.in_ok-rows.ensures.ok start st up amid in
    let one = one_shown (key_of c.args.key.now) c.args.revision c.args.gone cs top st.spans c.in_ok-rows.rows.items c.in-Some.row.now c.in_ok-first.first rising rows found.0
    (c.in-Some.ensures.value ∙ ap (λ l. slice_get l 0) c.deref.ensures.value) c.in_ok-first.ensures.ok.1 in
    let passed : to_z w64 (of_z w64 c.in_ok-first.first) ≡ c.in_ok-first.first = grind (arith, to_z-of_z) in
    subst (λ l. Amid start (record { spans = l; current = st.current; compacted = st.compacted }) (state g.S.Store c.end_row.new.writing.conn.now)) one.2
    (c.in_ok-end_row.ensures.ok start st one.0 (passed ∙ one.1) up found.1)

pub returns-in_err-first-clause-err : goal.returns-in_err-first-clause-err
returns-in_err-first-clause-err g c start st cs top rising rows amid =
    on_err c.from_residual-in_err-first.result _ (undone start st _ (c.in_ok-rows.ensures.ok start st (ordered_rows cs top st.spans rising rows) amid).1)

pub returns-in_err-end_row-clause-err : goal.returns-in_err-end_row-clause-err
returns-in_err-end_row-clause-err g c start st cs top rising rows amid =
    on_err c.from_residual-in_err-end_row.result _ (c.in_err-end_row.ensures.err start st (c.in_ok-rows.ensures.ok start st (ordered_rows cs top st.spans rising rows) amid).1)
