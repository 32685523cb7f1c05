use Rattle.std.proofs.Common.{◌≡◌, refl, map, IfOk, subst, to_z, w64, pos, [], ◌∷◌}
use Rattle.std.proofs.lemmas.Int.{to_z_pos}
use Rattle.sqlite.specs.declared.types.Value.TheVariants.{Int, Text as Words}
use Rattle.history.specs.History.{state_at}
use Rattle.history.specs.Read.{key_of}
use Rattle.revtable.specs.Asked.{as_change, under}
use Rattle.revtable.specs.Rows.{IsAnswer, shown}
use Rattle.revtable.specs.Spans.{stored_of}
use Rattle.revtable.proofs.Pages.{bound_newest, finds_newest}
use Rattle.revtable.proofs.Texts.{newest_text, newest_is, newest_plain}
use Rattle.revtable.proofs.Outcomes.{answered}
use Rattle.revtable.proofs.table.Table.newest.Goals as goal

pub ask-requires-clause-plain : goal.ask-requires-clause-plain
ask-requires-clause-plain c = newest_plain

pub ask-requires-clause-unlisted : goal.ask-requires-clause-unlisted
ask-requires-clause-unlisted c = newest_is.1

pub returns-clause-ok : goal.returns-clause-ok
returns-clause-ok c =
    let key = key_of c.args.key.now in
    let params = bound_newest key c.args.revision in
    let bound : Int (pos key.kind) ∷ Words key.namespace ∷ Words key.name ∷ Int (to_z w64 c.args.revision) ∷ [] ≡ params = rw (to_z_pos w64 c.args.revision c.requires.fits) refl in
    answered newest_text _ params (stored_of c.args.self.now) c.ask.result (map (λ e. shown (as_change e)) (under key (state_at c.args.self.now.changes c.args.revision))) newest_is.0
    (λ db rows has h. finds_newest key c.args.revision db c.args.self.now.changes c.args.self.now.current rows has.rows c.ask.ensures.sound.is.rising h)
    (subst (λ p. IfOk c.ask.result (λ rows. IsAnswer newest_text p (stored_of c.args.self.now) rows.items)) bound (rw (c.params-to_sql.ensures, c.params-to_sql-2.ensures, c.params-to_sql-3.ensures, c.params-to_sql-4.ensures) at c.ask.ensures.ok))
