use Rattle.std.proofs.Common.{◌≡◌, ◌-◌, ◌<◌, Bool, IfOk, is_some, ap, sym, subst, ◌∙◌, arith}
use Rattle.std.specs.FinMap as fin
use Rattle.history.specs.Read.{key_of}
use Rattle.history.specs.View.{View, state_in}
use Rattle.history.proofs.Views.{view_states}
use Rattle.revstore.proofs.store.Store.stood_before.Goals as goal

pub returns-clause-ok : goal.returns-clause-ok
returns-clause-ok c =
    let h = c.self.inside.table in
    let above : h.compacted < c.args.revision = subst (λ (v : View). v.compacted < c.args.revision) (sym c.self.view_is) c.requires.above in
    subst (λ (x : Bool). IfOk c.stood_before.result (λ b. b ≡ x))
    (ap (λ s. is_some (fin.get s (key_of c.args.key.now))) (sym (view_states h (c.args.revision - 1) c.self.invariant.0.is (omega arith)))
    ∙ ap (λ (v : View). is_some (fin.get (state_in v (c.args.revision - 1)) (key_of c.args.key.now))) c.self.view_is)
    c.stood_before.ensures.ok
