use Rattle.std.proofs.Common.{◌≡◌, ℕ, List, map, min, ap, subst, ◌∙◌, IfOk, Option, option_map}
use Rattle.history.specs.History.{History, state_at}
use Rattle.history.specs.Kept.{IsPruned}
use Rattle.history.specs.Page.{listed}
use Rattle.revtable.specs.Kept.{first_kept, kept_among}
use Rattle.history.specs.Read.{entry_of}
use Rattle.revtable.proofs.FirstKept.{kept_few}
use Rattle.revtable.proofs.Numbers.{state_min, take_most}
use Rattle.revtable.proofs.Outcomes.{when_ok}
use Rattle.revtable.proofs.table.Table.first_kept.Given.{Over}
use Rattle.revtable.proofs.table.Table.first_kept.Goals as goal

abbrev named : (g : Over) → goal.After-listed g → Option (List ℕ)
named g c = option_map (λ b. b.now) c.args.namespace

abbrev place : (g : Over) → goal.After-listed g → Option (List ℕ × List ℕ)
place g c = option_map (λ p. (p.0.now, p.1.now)) c.args.after

done : (g : Over) (c : goal.After-listed g)
    → IfOk c.listed.result (λ v. map entry_of v.items ≡ first_kept (g.K.Keep.kept c.args.keep.now) c.args.max (listed c.args.kind (named g c) (place g c) (state_at c.args.self.now.changes c.args.revision)))
done g c =
    let h = c.args.self.now in
    let pruned = subst IsPruned c.self.view_is c.self.invariant.0.pruned in
    let revision = c.min.ensures ∙ ap (min c.args.revision) (c.self.invariant.1 ∙ ap (λ (h : History). h.current) c.self.view_is) in
    when_ok c.listed.result _ _ (λ v is.
    is ∙ ap (λ s. first_kept (g.K.Keep.kept c.args.keep.now) c.args.max (listed c.args.kind (named g c) (place g c) s)) (ap (state_at h.changes) revision ∙ state_min h c.args.revision pruned.is)) c.listed.ensures.ok

pub returns-clause-ok : goal.returns-clause-ok
returns-clause-ok g c = done g c

pub returns-clause-whole : goal.returns-clause-whole
returns-clause-whole g c = λ le.
    let h = c.args.self.now in
    let kept = g.K.Keep.kept c.args.keep.now in
    let pruned = subst IsPruned c.self.view_is c.self.invariant.0.pruned in
    when_ok c.listed.result _ _ (λ v is.
    is ∙ take_most c.args.max (kept_among kept (listed c.args.kind (named g c) (place g c) (state_at h.changes c.args.revision))) (kept_few h c.args.revision kept c.args.kind (named g c) (place g c) pruned.is) le) (done g c)
