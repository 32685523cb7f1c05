use Rattle.std.proofs.Common.{◌∙◌, ◌+◌, ap, drop, length, sym}
use Rattle.scripts.proofs.Conversing.{read_next}
use Rattle.scripts.proofs.Endings.{where_it_fails}
use Rattle.scripts.proofs.piping.next_line.Goals as goal

pub returns-clause-ok : goal.returns-clause-ok
returns-clause-ok g c =
    let old = c.new-bytes.result in
    let bytes = c.read_until.new.buf in
    let n = c.in_ok-read_until.field-0 in
    read_next (g.R.Read.remaining c.args.reader.now) (g.R.Read.remaining c.read_until.new.self) old.items bytes.items n _ c.new-bytes.ensures.items c.read_until.ensures.none_lost c.read_until.ensures.stops c.in_ok-read_until.ensures.end
    (sym bytes.ok.0 ∙ c.in_ok-read_until.ensures.ok ∙ ap (λ k. k + n) old.ok.0) c.in_ok-without_end.ensures

pub returns-in_err-read_until-clause-err : goal.returns-in_err-read_until-clause-err
returns-in_err-read_until-clause-err g c = where_it_fails c.from_residual.result (drop (length c.new-bytes.result.items) c.read_until.new.buf.items, c.read_until.ensures.none_lost)

pub returns-in_err-without_end-clause-err : goal.returns-in_err-without_end-clause-err
returns-in_err-without_end-clause-err g c = where_it_fails c.from_residual-in_err-without_end.result (drop (length c.new-bytes.result.items) c.read_until.new.buf.items, c.read_until.ensures.none_lost)
