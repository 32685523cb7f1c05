use Rattle.std.proofs.Common.{◌≡◌, option_map, ap, sym, subst, IfSome, ◌∙◌}
use Rattle.std.specs.FinMap as fin
use Rattle.history.specs.History.{History, current_objects}
use Rattle.history.specs.Kept.{IsPruned}
use Rattle.history.specs.Read.{key_of, object_of}
use Rattle.history.specs.View.{View, state_in}
use Rattle.history.proofs.Views.{view_states}
use Rattle.revstore.specs.CachedObject.{AreIn}
use Rattle.revstore.proofs.store.Store.get.Goals as goal

pub returns-in-Some-clause-ok : goal.returns-in-Some-clause-ok
returns-in-Some-clause-ok c =
    let h = c.self.inside.table in
    subst (λ o. IfSome o (λ x. option_map object_of x ≡ fin.get (current_objects h) (key_of c.args.key.now))) c.in-Some.is (c.in_ok-object.ensures h c.self.invariant.1)
    ∙ ap (λ s. fin.get s (key_of c.args.key.now)) (sym (view_states h h.current c.self.invariant.0.is c.self.invariant.0.is.low))
    ∙ ap (λ (v : View). fin.get (state_in v v.current) (key_of c.args.key.now)) c.self.view_is

pub invariant_of-self-2 : goal.invariant_of-self-2
invariant_of-self-2 c =
    let h = c.self.inside.table in
    let same = sym c.in_ok-object-2.ensures.same in (
      subst IsPruned same c.self.invariant.0,
      subst (λ (t : History). IfSome c.with_read.result (AreIn t)) same
          (c.with_read.ensures h (subst (λ o. IfSome o (AreIn h)) (sym c.replace-cached.ensures.value) c.self.invariant.1) c.in_ok-object-2.ensures.ok),
    )

pub returns-clause-ok : goal.returns-clause-ok
returns-clause-ok c =
    let h = c.self.inside.table in
    c.in_ok-copy.ensures ∙ c.in_ok-object-2.ensures.ok
    ∙ ap (λ s. fin.get s (key_of c.args.key.now)) (sym (view_states h h.current c.self.invariant.0.is c.self.invariant.0.is.low))
    ∙ ap (λ (v : View). fin.get (state_in v v.current) (key_of c.args.key.now)) c.self.view_is
