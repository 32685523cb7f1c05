use Rattle.std.proofs.Common.{sym, subst, ◌∙◌}
use Rattle.httpedge.specs.IdViews.{IsAfter}
use Rattle.httpedge.proofs.Ranging.{adds_alone, adds_joined, already, covers_is}
use Rattle.httpedge.proofs.ids.Ids.insert.Goals as goal

pub returns-then-covers-clause-ok : goal.returns-then-covers-clause-ok
returns-then-covers-clause-ok c =
    let self = c.args.self.now in
    already self.ranges c.args.id (sym (covers_is self.ranges c.args.id c.before-before.result c.before-before.ensures.ordered self.apart c.before-before.ensures.last) ∙ sym c.covers.ensures ∙ c.if-covers.true)

pub returns-in_ok-insert-in-None-clause-ok : goal.returns-in_ok-insert-in-None-clause-ok
returns-in_ok-insert-in-None-clause-ok c =
    let self = c.args.self.now in
    (adds_alone self.ranges c.insert.new.self c.args.id c.first_with-first.result c.before-before.result c.before-before.ensures.ordered c.in_ok-insert-in-None.ensures.ordered self.apart c.before-before.ensures.last
    (sym c.covers.ensures ∙ c.if-covers.false) c.first_with-first.ensures c.in_ok-insert-in-None.ensures.updates.0).1

pub invariant_of-self-in-Some : goal.invariant_of-self-in-Some
invariant_of-self-in-Some c =
    let self = c.args.self.now in
    record {
      apart = (adds_joined self.ranges c.insert-in-Some.new.self c.remove.new.self c.args.id c.first_with-first.result c.in-Some.next c.in-Some.last c.before-before.result c.before-before.ensures.ordered c.remove.ensures.ordered self.apart
          c.before-before.ensures.last (sym c.covers.ensures ∙ c.if-covers.false) c.first_with-first.ensures (subst (IsAfter self.ranges c.args.id) c.in-Some.is c.after.ensures) c.in_ok-insert-in-Some.ensures.updates.0 c.remove.ensures.updates.0).0;
    }

pub returns-in_ok-insert-in-Some-clause-ok : goal.returns-in_ok-insert-in-Some-clause-ok
returns-in_ok-insert-in-Some-clause-ok c =
    let self = c.args.self.now in
    (adds_joined self.ranges c.insert-in-Some.new.self c.remove.new.self c.args.id c.first_with-first.result c.in-Some.next c.in-Some.last c.before-before.result c.before-before.ensures.ordered c.remove.ensures.ordered self.apart
    c.before-before.ensures.last (sym c.covers.ensures ∙ c.if-covers.false) c.first_with-first.ensures (subst (IsAfter self.ranges c.args.id) c.in-Some.is c.after.ensures) c.in_ok-insert-in-Some.ensures.updates.0 c.remove.ensures.updates.0).1
