use Rattle.std.proofs.Common.{ℕ, List, ap, take, ◌∙◌, Option, option_map}
use Rattle.history.specs.History.{state_at}
use Rattle.history.specs.Page.{listed}
use Rattle.revtable.proofs.FirstKept.{every_kept}
use Rattle.revtable.proofs.Outcomes.{when_ok}
use Rattle.revtable.proofs.table.Table.at.Goals as goal

pub returns-clause-ok : goal.returns-clause-ok
returns-clause-ok c =
    let named : Option (List ℕ) = option_map (λ b. b.now) c.args.namespace in
    let place : Option (List ℕ × List ℕ) = option_map (λ p. (p.0.now, p.1.now)) c.args.after in
    when_ok c.first_kept.result _ _ (λ v h. h ∙ ap (take c.args.max) (every_kept (listed c.args.kind named place (state_at c.args.self.now.changes c.args.revision)))) c.first_kept.ensures.ok

pub returns-clause-whole : goal.returns-clause-whole
returns-clause-whole c = λ le.
    let named : Option (List ℕ) = option_map (λ b. b.now) c.args.namespace in
    let place : Option (List ℕ × List ℕ) = option_map (λ p. (p.0.now, p.1.now)) c.args.after in
    when_ok c.first_kept.result _ _ (λ v h. h ∙ every_kept (listed c.args.kind named place (state_at c.args.self.now.changes c.args.revision))) (c.first_kept.ensures.whole le)
