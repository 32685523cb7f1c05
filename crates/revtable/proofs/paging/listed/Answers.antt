use Rattle.std.proofs.Common.{◌∙◌, ap, sym, map, option_map, List, ℕ, Option}
use Rattle.history.specs.History.{state_at}
use Rattle.revtable.specs.Kept.{first_kept}
use Rattle.history.specs.Read.{entry_of}
use Rattle.revtable.proofs.FirstKept.{all_listed, none_listed, one_listed}
use Rattle.revtable.proofs.Halves.{still_some}
use Rattle.revtable.proofs.Outcomes.{when_ok}
use Rattle.revtable.proofs.paging.listed.Goals as goal

pub returns-in_default-clause-ok : goal.returns-in_default-clause-ok
returns-in_default-clause-ok g c =
    let objects = state_at c.args.table.now.changes c.args.wanted.revision in
    let named : Option (List ℕ) = option_map (λ b. b.now) c.args.namespace in
    let place : Option (List ℕ × List ℕ) = option_map (λ p. (p.0.now, p.1.now)) c.args.after in
    ap (map entry_of) c.new.ensures.items ∙ none_listed (g.K.Keep.kept c.args.keep.now) c.args.wanted.max c.args.wanted.kind named place objects (sym c.in_default.ensures)

pub returns-then-is_some-clause-ok : goal.returns-then-is_some-clause-ok
returns-then-is_some-clause-ok g c =
    let objects = state_at c.args.table.now.changes c.args.wanted.revision in
    let named : Option (List ℕ) = option_map (λ b. b.now) c.args.namespace in
    let place : Option (List ℕ × List ℕ) = option_map (λ p. (p.0.now, p.1.now)) c.args.after in
    when_ok c.kept_after.result _ _ (λ v h.
    h ∙ ap (first_kept (g.K.Keep.kept c.args.keep.now) c.args.wanted.max) (one_listed c.args.wanted.kind named place objects _ _ (still_some _ c.args.namespace ∙ sym c.is_some.ensures ∙ c.if-is_some.true) (sym c.in-Some.ensures))) c.kept_after.ensures.ok

pub returns-else-is_some-clause-ok : goal.returns-else-is_some-clause-ok
returns-else-is_some-clause-ok g c =
    let objects = state_at c.args.table.now.changes c.args.wanted.revision in
    let named : Option (List ℕ) = option_map (λ b. b.now) c.args.namespace in
    let place : Option (List ℕ × List ℕ) = option_map (λ p. (p.0.now, p.1.now)) c.args.after in
    when_ok c.kept_on.result _ _ (λ v h.
    h ∙ ap (first_kept (g.K.Keep.kept c.args.keep.now) c.args.wanted.max) (all_listed c.args.wanted.kind named place objects _ _ (still_some _ c.args.namespace ∙ sym c.is_some.ensures ∙ c.if-is_some.false) (sym c.in-Some.ensures))) c.kept_on.ensures.ok
