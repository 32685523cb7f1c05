use Rattle.std.proofs.Common.{sym, subst, append-nil}
use Rattle.sqlite.specs.Held.{state}
use Rattle.revtable.specs.Rows.{Amid}
use Rattle.revtable.proofs.writing.begin_row.Goals as goal

pub returns-in-None-clause-ok : goal.returns-in-None-clause-ok
returns-in-None-clause-ok g c start st below amid =
    rw c.in-None.is (subst (λ l. Amid start (record { spans = l; current = st.current; compacted = st.compacted }) (state g.S.Store c.args.writing.now.conn.now)) (sym (append-nil st.spans)) amid)
