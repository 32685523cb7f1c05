use Rattle.std.proofs.Common.{◌∙◌, ap, arith, length, map, option_map, subst, sym}
use Rattle.std.proofs.lemmas.Result.{on_ok_weaker}
use Rattle.history.specs.History.{current_objects}
use Rattle.history.specs.Read.{key_of, write_of}
use Rattle.history.specs.Whole.{AreThere}
use Rattle.history.specs.Writes.{changes_by, written_all}
use Rattle.revtable.proofs.Fields.{one_there, one_written}
use Rattle.revtable.proofs.table.Table.put.Goals as goal

pub put_all-requires-clause-fit : goal.put_all-requires-clause-fit
put_all-requires-clause-fit c = let one = ap length c.from_ref.ensures.value in omega (arith, one, c.requires.next, c.requires.fits)

pub put_all-requires-clause-there : goal.put_all-requires-clause-there
put_all-requires-clause-there c =
    let h = c.args.self.now in
    subst (λ ws. AreThere (current_objects h) (changes_by h.current (map write_of ws))) (sym c.from_ref.ensures.value)
    (one_there h c.in_ok-write.write (key_of c.args.key.now) c.args.body c.in_ok-write.ensures c.requires.there)

pub returns-clause-ok : goal.returns-clause-ok
returns-clause-ok c =
    let h = c.args.self.now in
    on_ok_weaker c.put_all.result
    (λ made. made ∙ ap (λ ws. written_all h (map write_of ws)) c.from_ref.ensures.value ∙ one_written h c.in_ok-write.write (key_of c.args.key.now) (option_map (λ b. b.now) c.args.body) c.in_ok-write.ensures)
    c.put_all.ensures.ok
