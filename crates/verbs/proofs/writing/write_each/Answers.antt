use Rattle.std.proofs.Common.{◌≡◌, ◌≤◌, ◌+◌, false, List, ap, length, map, subst, sym, ◌∙◌}
use Rattle.std.specs.Prelude.{◌==◌}
use Rattle.history.specs.History.{last_revision}
use Rattle.history.specs.Read.{write_of}
use Rattle.history.specs.Whole.{AreThere}
use Rattle.history.specs.Writes.{changes_by}
use Rattle.history.specs.declared.write.Write.{Write}
use Rattle.verbs.specs.Views.{objects_in}
use Rattle.verbs.proofs.Committing.{each_fits, each_there, none_made}
use Rattle.verbs.proofs.writing.write_each.Goals as goal

pub write_all-requires-clause-fits : goal.write_all-requires-clause-fits
write_all-requires-clause-fits c =
    let each = c.args.each.now in
    let v = c.args.store.now in
    let some : (length each.writes.items == 0) ≡ false = ap (λ n. n == 0) (sym each.writes.ok.0) ∙ sym c.is_empty.ensures ∙ c.if-is_empty.false in
    subst (λ (l : List Write). v.current + length (map write_of l) ≤ last_revision) (sym c.deref.ensures.value) (each_fits v each.after each.writes.items some each.numbered c.requires)

pub write_all-requires-clause-there : goal.write_all-requires-clause-there
write_all-requires-clause-there c =
    let each = c.args.each.now in
    let v = c.args.store.now in
    subst (λ (l : List Write). AreThere (objects_in v) (changes_by v.current (map write_of l))) (sym c.deref.ensures.value) (each_there v each.after each.writes.items c.requires)

pub returns-then-is_empty-clause-ok : goal.returns-then-is_empty-clause-ok
returns-then-is_empty-clause-ok c =
    let each = c.args.each.now in none_made c.args.store.now each.writes.items (ap (λ n. n == 0) (sym each.writes.ok.0) ∙ sym c.is_empty.ensures ∙ c.if-is_empty.true)
