use Rattle.std.proofs.Common.{◌≡◌, ◌-◌, ◌<◌, IfOk, Option, option_map, ap, sym, subst, ◌∙◌, arith}
use Rattle.std.specs.FinMap as fin
use Rattle.history.specs.History.{Object}
use Rattle.history.specs.Read.{key_of, object_of}
use Rattle.history.specs.View.{View, state_in}
use Rattle.history.proofs.Views.{view_states}
use Rattle.revstore.proofs.store.Store.before.Goals as goal

pub returns-clause-ok : goal.returns-clause-ok
returns-clause-ok c =
    let h = c.self.inside.table in
    let above : h.compacted < c.args.revision = subst (λ (v : View). v.compacted < c.args.revision) (sym c.self.view_is) c.requires.above in
    subst (λ (x : Option Object). IfOk c.latest_before.result (λ o. option_map object_of o ≡ x))
    (ap (λ s. fin.get s (key_of c.args.key.now)) (sym (view_states h (c.args.revision - 1) c.self.invariant.0.is (omega arith)))
    ∙ ap (λ (v : View). fin.get (state_in v (c.args.revision - 1)) (key_of c.args.key.now)) c.self.view_is)
    c.latest_before.ensures.ok
