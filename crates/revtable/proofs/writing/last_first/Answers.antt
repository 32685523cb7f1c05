use Rattle.std.proofs.Common.{map, pos, [], ◌∷◌}
use Rattle.std.specs.Option.{option_to_list}
use Rattle.sqlite.specs.declared.types.Value.TheVariants.{Int}
use Rattle.sqlite.specs.Held.{state}
use Rattle.history.specs.Read.{key_of}
use Rattle.revtable.specs.Spans.{Span, last_span}
use Rattle.revtable.proofs.Made.{finds_last}
use Rattle.revtable.proofs.Texts.{last_text, last_is, last_plain}
use Rattle.revtable.proofs.Where.{bound_key}
use Rattle.revtable.proofs.Within.{answered_within, asked_within, unasked_within}
use Rattle.revtable.proofs.writing.last_first.Goals as goal

pub returns-clause-ok : goal.returns-clause-ok
returns-clause-ok g c start st rising amid =
    let old = state g.S.Store c.args.writing.now.conn.now in
    let new = state g.S.Store c.query_all.new.self.conn.now in
    let key = key_of c.args.key.now in
    let params = bound_key key [] in
    let ran = rw (c.params-to_sql.ensures, c.params-to_sql-2.ensures, c.params-to_sql-3.ensures) at (c.query_all.ensures.ok (c.requires.clean c.query_all.new.self.conn.now)) in
    answered_within last_text _ params start st new c.query_all.result (map (λ (s : Span). Int (pos s.first) ∷ []) (option_to_list (last_span key st.spans))) last_is.0
    (λ db rows has h. finds_last key db st.spans rows has.rows rising h)
    (asked_within last_text last_plain old new params start st c.query_all.result last_is.1 amid ran)

pub returns-clause-err : goal.returns-clause-err
returns-clause-err g c start st amid =
    unasked_within (state g.S.Store c.args.writing.now.conn.now) (state g.S.Store c.query_all.new.self.conn.now) _ _ start st c.query_all.result amid (c.query_all.ensures.err (c.requires.clean c.query_all.new.self.conn.now))
