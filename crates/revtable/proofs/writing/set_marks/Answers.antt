use Rattle.std.proofs.Common.{◌≡◌, [], ◌∷◌, subst, Ok, w64, refl, to_z}
use Rattle.std.proofs.lemmas.Int.{to_z_pos}
use Rattle.sqlite.specs.declared.types.Value.TheVariants.{Int}
use Rattle.sqlite.specs.Held.{state}
use Rattle.sqlite.specs.State.{ExecutesInside}
use Rattle.revtable.proofs.Ending.{bound_marks, sets_marks}
use Rattle.revtable.proofs.Texts.{set_text}
use Rattle.revtable.proofs.Within.{ran_within}
use Rattle.revtable.proofs.writing.set_marks.Goals as goal

pub returns-clause-ok : goal.returns-clause-ok
returns-clause-ok g c start st amid =
    let old = state g.S.Store c.args.writing.now.conn.now in
    let new = state g.S.Store c.execute.new.self.conn.now in
    let count = c.in_ok-execute.field-0 in
    let params = bound_marks c.args.marks.current c.args.marks.compacted in
    let bound : Int (to_z w64 c.args.marks.current) ∷ Int (to_z w64 c.args.marks.compacted) ∷ [] ≡ params = rw (to_z_pos w64 c.args.marks.current c.requires.current, to_z_pos w64 c.args.marks.compacted c.requires.compacted) refl in
    let ran = rw (c.params-to_sql.ensures, c.params-to_sql-2.ensures) at (c.in_ok-execute.ensures.runs (c.requires.clean c.execute.new.self.conn.now) amid.inside) in
    ran_within old new set_text params count start st _ amid
    (subst (λ p. ExecutesInside 0 set_text p old new (Ok count)) bound ran)
    (λ has h. sets_marks c.args.marks.current c.args.marks.compacted old new count st has h)
