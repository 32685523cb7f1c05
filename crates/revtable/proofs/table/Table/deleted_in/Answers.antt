use Rattle.std.proofs.Common.{◌≡◌, refl, map, IfOk, subst, option_map, Option, List, ℕ, to_z, w64, pos, [], ◌∷◌}
use Rattle.std.proofs.lemmas.Int.{to_z_pos}
use Rattle.sqlite.specs.declared.types.Value.TheVariants.{Int, Text as Words}
use Rattle.sqlite.specs.Values.{bound_value, or_null}
use Rattle.history.specs.History.{later, up_to}
use Rattle.revtable.specs.Asked.{deletions}
use Rattle.history.specs.Page.{changes_within}
use Rattle.revtable.specs.Rows.{IsAnswer, shown}
use Rattle.revtable.specs.Spans.{stored_of}
use Rattle.revtable.proofs.Numbers.{ordered}
use Rattle.revtable.proofs.Inserts.{bound_body}
use Rattle.revtable.proofs.Deleted.{finds_deleted}
use Rattle.revtable.proofs.Where.{bound_span}
use Rattle.revtable.proofs.Texts.{deleted_text, deleted_is, deleted_plain}
use Rattle.revtable.proofs.Outcomes.{answered}
use Rattle.revtable.proofs.table.Table.deleted_in.Goals as goal

abbrev named : goal.After-ask → Option (List ℕ)
named c = option_map (λ b. b.now) c.args.namespace

pub ask-requires-clause-plain : goal.ask-requires-clause-plain
ask-requires-clause-plain c = deleted_plain

pub ask-requires-clause-unlisted : goal.ask-requires-clause-unlisted
ask-requires-clause-unlisted c = deleted_is.1

pub returns-clause-ok : goal.returns-clause-ok
returns-clause-ok c =
    let params = bound_span c.args.from c.args.to c.args.kind (named c) c.args.max in
    let bound : Int (to_z w64 c.args.from) ∷ Int (to_z w64 c.args.to) ∷ Int (pos c.args.kind) ∷ bound_value (or_null (λ s. Words s.now) c.args.namespace) ∷ Int (to_z w64 c.args.max) ∷ [] ≡ params =
    rw (to_z_pos w64 c.args.from c.requires.from, to_z_pos w64 c.args.to c.requires.to, to_z_pos w64 c.args.max c.requires.max, bound_body c.args.namespace) refl in
    answered deleted_text _ params (stored_of c.args.self.now) c.ask.result (map shown (changes_within c.args.kind (named c) c.args.max (deletions (up_to c.args.to (later c.args.from c.args.self.now.changes))))) deleted_is.0
    (λ db rows has h. finds_deleted c.args.from c.args.to c.args.kind (named c) c.args.max db c.args.self.now.changes rows has.rows (ordered c.args.self.now c.ask.ensures.sound) c.ask.ensures.there h)
    (subst (λ p. IfOk c.ask.result (λ rows. IsAnswer deleted_text p (stored_of c.args.self.now) rows.items)) bound (rw (c.params-to_sql.ensures, c.params-to_sql-2.ensures, c.params-to_sql-3.ensures, c.params-to_sql-4.ensures, c.params-to_sql-5.ensures) at c.ask.ensures.ok))
