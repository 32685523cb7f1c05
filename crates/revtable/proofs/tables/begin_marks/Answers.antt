use Rattle.std.proofs.Common.{◌≡◌, [], ◌∷◌, subst, Ok, w64, ℤ}
use Rattle.std.proofs.lemmas.Int.{to_z_pos}
use Rattle.sqlite.specs.declared.types.Value.TheVariants.{Int}
use Rattle.sqlite.specs.Held.{state}
use Rattle.sqlite.specs.State.{Executes}
use Rattle.revtable.specs.Rows.{stored_in, Keeps}
use Rattle.revtable.proofs.Inserts.{begins_marks}
use Rattle.revtable.proofs.Texts.{begin_text}
use Rattle.revtable.proofs.tables.begin_marks.Given.{Over}
use Rattle.revtable.proofs.tables.begin_marks.Goals as goal

done : (g : Over) (c : goal.In_ok-execute g) → Keeps (record { spans = []; current = c.args.revision; compacted = c.args.revision }) (state g.S.Store c.execute.new.self)
    × (stored_in (state g.S.Store c.execute.new.self).now ≡ record { spans = []; current = c.args.revision; compacted = c.args.revision })
done g c =
    let old = state g.S.Store c.args.base.now in
    let new = state g.S.Store c.execute.new.self in
    let ran = rw c.params-to_sql.ensures at (c.in_ok-execute.ensures.runs (c.requires.clean c.execute.new.self)) in
    begins_marks old new c.args.revision c.in_ok-execute.field-0 c.requires.made c.requires.none
    (subst (λ (n : ℤ). Executes begin_text (Int n ∷ []) old new (Ok c.in_ok-execute.field-0)) (to_z_pos w64 c.args.revision c.requires.fits) ran)

pub returns-clause-kept : goal.returns-clause-kept
returns-clause-kept g c = (done g c).0

pub returns-clause-value : goal.returns-clause-value
returns-clause-value g c = (done g c).1
