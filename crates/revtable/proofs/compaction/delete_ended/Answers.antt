use Rattle.std.proofs.Common.{[], ◌∷◌, subst, Ok, w64, ℤ}
use Rattle.std.proofs.lemmas.Int.{to_z_pos}
use Rattle.sqlite.specs.declared.types.Value.TheVariants.{Int}
use Rattle.sqlite.specs.Held.{state}
use Rattle.sqlite.specs.State.{ExecutesInside}
use Rattle.revtable.proofs.Deleting.{bound_delete, deletes}
use Rattle.revtable.proofs.Texts.{delete_text}
use Rattle.revtable.proofs.Within.{ran_within}
use Rattle.revtable.proofs.compaction.delete_ended.Goals as goal

pub returns-clause-ok : goal.returns-clause-ok
returns-clause-ok g c start st rising amid =
    let old = state g.S.Store c.args.deleting.now.conn.now in
    let new = state g.S.Store c.execute.new.self.conn.now in
    let count = c.in_ok-execute.field-0 in
    let ran = rw c.params-to_sql.ensures at (c.in_ok-execute.ensures.runs (c.requires.clean c.execute.new.self.conn.now) amid.inside) in
    ran_within old new delete_text (bound_delete c.args.revision) count start st _ amid
    (subst (λ (n : ℤ). ExecutesInside 0 delete_text (Int n ∷ []) old new (Ok count)) (to_z_pos w64 c.args.revision c.requires.fits) ran)
    (λ has h. deletes c.args.revision old new count st has rising h)
