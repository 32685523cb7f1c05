use Rattle.std.proofs.Common.{true, false, Some, refl, ap, ◌∙◌}
use Rattle.std.specs.Prelude.{is_some}
use Rattle.std.specs.Ordering.{nat_cmp, eq_by_cmp}
use Rattle.httpedge.specs.IdViews.{is_in}
use Rattle.httpedge.proofs.Forgetting.{forgets_none, forgets_one, no_id_there, with_id, without_id}
use Rattle.httpedge.proofs.connections.Connections.forget.Goals as goal

pub returns-in-None : goal.returns-in-None
returns-in-None c = λ d at over apart. forgets_none c.args.id d c.args.self.now c.args.self.now at apart refl refl refl (λ q. refl) (λ q. refl)

pub returns-in-Ok : goal.returns-in-Ok
returns-in-Ok c = λ d at over apart.
    let self = c.args.self.now in
    let id = c.args.id in
    forgets_one id d true self _ at (over ∙ c.in-Some-true.is ∙ ap Some c.in-Some-true.field-0-test) apart c.remove.ensures.updates.0 refl refl c.in-Ok.ensures.ok
    (λ q. without_id (eq_by_cmp nat_cmp id q) (is_in self.cut.ranges q))

pub returns-in-Err : goal.returns-in-Err
returns-in-Err c = λ d at over apart. forgets_none c.args.id d c.args.self.now _ at apart refl refl refl c.in-Err.ensures.err (λ q. refl)

pub returns-in-Ok-insert : goal.returns-in-Ok-insert
returns-in-Ok-insert c = λ d at over apart.
    let self = c.args.self.now in
    let id = c.args.id in
    forgets_one id d false self _ at (over ∙ c.in-Some-false.is ∙ ap Some c.in-Some-false.field-0-test) apart c.remove-in-Ok-insert.ensures.updates.0 refl refl
    (λ q. no_id_there (is_in self.ended.ranges) id q (apart id (ap is_some at)))
    (λ q. c.in-Ok-insert.ensures.ok q ∙ with_id (eq_by_cmp nat_cmp id q) (is_in self.cut.ranges q))

pub returns-in-Err-insert : goal.returns-in-Err-insert
returns-in-Err-insert c = λ d at over apart. forgets_none c.args.id d c.args.self.now _ at apart refl refl refl (λ q. refl) c.in-Err-insert.ensures.err
