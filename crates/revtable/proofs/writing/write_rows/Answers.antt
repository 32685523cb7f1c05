use Rattle.std.proofs.Common.{subst, ◌∙◌, ◌++◌, None, option_map}
use Rattle.sqlite.specs.Held.{state}
use Rattle.history.specs.Read.{key_of}
use Rattle.revtable.specs.Rows.{Amid}
use Rattle.revtable.specs.Spans.{ended_by, spans_until}
use Rattle.revtable.proofs.Fields.{below_ended, none_if, still_none}
use Rattle.revtable.proofs.Within.{on_err}
use Rattle.revtable.proofs.writing.write_rows.Goals as goal

pub returns-in_err-begin_row-clause-err : goal.returns-in_err-begin_row-clause-err
returns-in_err-begin_row-clause-err g c start st cs top rising below rows amid =
    on_err c.from_residual-in_err-begin_row.result _ (c.in_err-begin_row.ensures.err start _ (c.in_ok-end_current_objects.ensures.ok start st cs top rising rows amid))

pub returns-clause-ok : goal.returns-clause-ok
returns-clause-ok g c start st cs top rising below rows amid =
    subst (λ gone. Amid start (record { spans = ended_by (key_of c.args.key.now) c.args.revision gone st.spans ++ spans_until (key_of c.args.key.now) c.args.revision (option_map (λ b. b.now) c.args.body) None; current = st.current; compacted = st.compacted }) (state g.S.Store c.begin_row.new.writing.conn.now))
    (none_if c.args.body c.is_none.result c.is_none.ensures ∙ still_none (λ b. b.now) c.args.body)
    (c.in_ok-begin_row.ensures.ok start _ (below_ended cs top c.args.revision _ _ _ st.spans rising below rows) (c.in_ok-end_current_objects.ensures.ok start st cs top rising rows amid))
