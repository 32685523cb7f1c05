use Rattle.std.proofs.Common.{◌≡◌, map, IfOk, subst, to_z, w64, pos, [], ◌∷◌, refl}
use Rattle.std.proofs.lemmas.Int.{to_z_pos}
use Rattle.sqlite.specs.declared.types.Value.TheVariants.{Int, Text as Words}
use Rattle.history.specs.History.{last_revision, state_at}
use Rattle.revtable.specs.Asked.{in_one}
use Rattle.revtable.specs.Kept.{AreFirstKept}
use Rattle.history.specs.Read.{entry_of}
use Rattle.revtable.specs.Spans.{stored_of}
use Rattle.revtable.proofs.Numbers.{objects_few}
use Rattle.revtable.proofs.Pages.{finds_in}
use Rattle.revtable.proofs.FirstKept.{in_bare, kept_answered, last_fits}
use Rattle.revtable.proofs.Where.{bound_page, bound_in}
use Rattle.revtable.proofs.Texts.{in_text, in_is, in_plain}
use Rattle.revtable.proofs.table.Table.kept_in.Goals as goal

pub ask_kept-requires-clause-plain : goal.ask_kept-requires-clause-plain
ask_kept-requires-clause-plain g c = in_plain

pub ask_kept-requires-clause-unlisted : goal.ask_kept-requires-clause-unlisted
ask_kept-requires-clause-unlisted g c = in_is.1

pub ask_kept-requires-clause-bare : goal.ask_kept-requires-clause-bare
ask_kept-requires-clause-bare g c = in_bare

pub returns-clause-ok : goal.returns-clause-ok
returns-clause-ok g c name low =
    let h = c.args.self.now in
    let revision = c.args.wanted.revision in
    let params = bound_page revision last_revision (bound_in c.args.wanted.kind c.args.namespace.now name) in
    let bound : Int (to_z w64 revision) ∷ Int (to_z w64 last_revision) ∷ Int (pos c.args.wanted.kind) ∷ Words c.args.namespace.now ∷ Words c.args.low.now ∷ [] ≡ params =
    rw (to_z_pos w64 revision c.requires.fits, to_z_pos w64 last_revision last_fits, low) refl in
    let few = objects_few h revision _ c.ask_kept.ensures.sound.is in
    kept_answered in_text _ params (stored_of h) (g.K.Keep.kept c.args.keep.now) c.args.wanted.max c.ask_kept.result (in_one c.args.wanted.kind c.args.namespace.now name (state_at h.changes revision)) in_is.0
    (λ db rows has h2. finds_in db h.changes c.args.wanted.kind c.args.namespace.now name revision last_revision h.current rows has.rows c.ask_kept.ensures.sound.is.rising h2) few
    (subst (λ p. IfOk c.ask_kept.result (λ v. AreFirstKept in_text p (stored_of h) (g.K.Keep.kept c.args.keep.now) c.args.wanted.max (map entry_of v.items))) bound
    (rw (c.params-to_sql.ensures, c.params-to_sql-2.ensures, c.params-to_sql-3.ensures, c.params-to_sql-4.ensures, c.params-to_sql-5.ensures) at c.ask_kept.ensures.ok))
