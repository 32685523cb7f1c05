use Rattle.std.proofs.Common.{[], ◌∷◌, subst, Ok, w64, ℤ, pos}
use Rattle.std.proofs.lemmas.Int.{to_z_pos}
use Rattle.sqlite.specs.declared.types.Value.TheVariants.{Int, Text as Words}
use Rattle.sqlite.specs.Held.{state}
use Rattle.sqlite.specs.State.{ExecutesInside}
use Rattle.history.specs.Read.{key_of}
use Rattle.revtable.proofs.Inserts.{adds, bound_row}
use Rattle.revtable.proofs.Texts.{insert_text}
use Rattle.revtable.proofs.Within.{ran_within}
use Rattle.revtable.proofs.writing.add_row.Goals as goal

pub returns-clause-ok : goal.returns-clause-ok
returns-clause-ok g c start st below amid =
    let old = state g.S.Store c.args.writing.now.conn.now in
    let new = state g.S.Store c.execute.new.self.conn.now in
    let count = c.in_ok-execute.field-0 in
    let key = key_of c.args.key.now in
    let ran = rw (c.params-to_sql.ensures, c.params-to_sql-2.ensures, c.params-to_sql-3.ensures, c.params-to_sql-4.ensures, c.params-to_sql-5.ensures) at (c.in_ok-execute.ensures.runs (c.requires.clean c.execute.new.self.conn.now) amid.inside) in
    ran_within old new insert_text (bound_row c.args.revision key c.args.body.now) count start st _ amid
    (subst (λ (n : ℤ). ExecutesInside 0 insert_text (Int n ∷ Int (pos key.kind) ∷ Words key.namespace ∷ Words key.name ∷ Words c.args.body.now ∷ []) old new (Ok count)) (to_z_pos w64 c.args.revision c.requires.fits) ran)
    (λ has h. adds old new c.args.revision key c.args.body.now st count has below h)
