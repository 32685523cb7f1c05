use Rattle.std.proofs.Common.{ℕ, List, ◌++◌, Option, refl, sym, ap, subst, ◌∙◌}
use Rattle.std.specs.Prelude.{IfSome}
use Rattle.api_types.specs.TypesFile.{ServedShape}
use Rattle.history.specs.History.{History}
use Rattle.httpedge.specs.ConnectionViews.{left}
use Rattle.httpedge.specs.SharedViews.{IsTurnFrom, SharedRepresents}
use Rattle.httpedge.specs.declared.shared.CachedTurn.{CachedTurn}
use Rattle.httpedge.specs.declared.shared.Shared.{Shared}
use Rattle.httpedge.proofs.Alike.{repeats}
use Rattle.httpedge.proofs.shared.Shared.pump.Goals as goal
use Rattle.httpedge.proofs.shared.Shared.pump.Goals.{in-Some+else-is_of, in_default}

pub returns-then-is_of-clause-ok : goal.returns-then-is_of-clause-ok
returns-then-is_of-clause-ok c = λ types m serves.
    let same = repeats m c.in-Some.last c.args.max c.args.cursor.now (left c.args.out.now) (left c.add.new.self)
    (subst (λ (o : Option CachedTurn). IfSome o (IsTurnFrom m)) c.in-Some.is serves.1) (c.if-is_of.ensures.max refl) (c.if-is_of.ensures.alike refl)
    (c.in_ok-add.ensures.ok ∙ ap (λ (b : List ℕ). left c.args.out.now ++ b) c.deref.ensures.value) in
    (same.0, same.1, c.move_to.ensures ∙ same.2)

-- the branches before change nothing
still : (c : goal.After-pump_anew) (types : List ServedShape) (m : History) → SharedRepresents c.args.self.now types m → SharedRepresents c.match-self.self types m
still c types m serves =
    elim c.match-self.branch [
      | in-Some+else-is_of w ↦ subst (λ (s : Shared). SharedRepresents s types m) (sym w.self-is) serves
      | in_default w ↦ subst (λ (s : Shared). SharedRepresents s types m) (sym w.self-is) serves
    ]

pub returns-clause-ok : goal.returns-clause-ok
returns-clause-ok c = λ types m serves. c.pump_anew.ensures.ok types m (still c types m serves)

pub returns-clause-serves : goal.returns-clause-serves
returns-clause-serves c = λ types m serves. c.pump_anew.ensures.serves types m (still c types m serves)
