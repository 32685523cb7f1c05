use Rattle.std.proofs.Common.{◌≡◌, [], ◌∷◌, subst, Ok, to_z, of_z, w64, pos, refl, to_z-of_z, arith}
use Rattle.std.specs.Prelude.{if◌then◌else◌}
use Rattle.std.proofs.lemmas.Int.{to_z_pos}
use Rattle.sqlite.specs.declared.types.Value.TheVariants.{Int}
use Rattle.sqlite.specs.Held.{state}
use Rattle.sqlite.specs.State.{ExecutesInside}
use Rattle.revtable.proofs.Ending.{bound_end, bound_gone, ends_row}
use Rattle.revtable.proofs.Texts.{end_text}
use Rattle.revtable.proofs.Within.{ran_within}
use Rattle.revtable.proofs.writing.end_row.Goals as goal

pub returns-clause-ok : goal.returns-clause-ok
returns-clause-ok g c start st n first rising amid =
    let old = state g.S.Store c.args.writing.now.conn.now in
    let new = state g.S.Store c.execute.new.self.conn.now in
    let count = c.in_ok-execute.field-0 in
    let ran = rw (c.params-to_sql.ensures, c.params-to_sql-2.ensures, c.params-to_sql-3.ensures) at (c.in_ok-execute.ensures.runs (c.requires.clean c.execute.new.self.conn.now) amid.inside) in
    let params = bound_end n c.args.revision c.args.gone in
    let passed : to_z w64 (of_z w64 c.args.first) ≡ c.args.first = grind (arith, to_z-of_z) in
    let bound : Int (to_z w64 (of_z w64 c.args.first)) ∷ Int (to_z w64 c.args.revision) ∷ Int (if c.args.gone then pos 1 else pos 0) ∷ [] ≡ params = rw (passed, first, to_z_pos w64 c.args.revision c.requires.fits, bound_gone c.args.gone) refl in
    ran_within old new end_text params count start st _ amid
    (subst (λ p. ExecutesInside 0 end_text p old new (Ok count)) bound ran)
    (λ has h. ends_row n c.args.revision c.args.gone old new count st has rising h)
