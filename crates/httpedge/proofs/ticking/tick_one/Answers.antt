use Rattle.std.proofs.Common.{ℕ, List, ◌∷◌, ◌++◌, [], refl, sym, ap, subst, ◌∙◌, arith}
use Rattle.std.specs.List.{filter}
use Rattle.httpedge.specs.declared.effect.Change.{Change}
use Rattle.httpedge.specs.ConnectionViews.{ConnectionRepresents, phase_in}
use Rattle.httpedge.specs.Effects.{tells}
use Rattle.httpedge.proofs.Ticked.{due_dies, due_watches, same_due, undue_idle, undue_told}
use Rattle.httpedge.proofs.ticking.tick_one.Goals as goal

-- whether its turn is due, by what was asked
pub returns-then-not-is_due-clause-ticks : goal.returns-then-not-is_due-clause-ticks
returns-then-not-is_due-clause-ticks c = λ types m x represents holds.
    let isnt = sym (same_due types c.args.ms c.args.connection.now x holds) ∙ sym c.is_due.ensures ∙ c.if-not-is_due.true in
    subst (ConnectionRepresents types c.args.connection.now) (sym (undue_idle types c.args.ms x isnt)) holds

pub returns-then-not-is_due-clause-told : goal.returns-then-not-is_due-clause-told
returns-then-not-is_due-clause-told c = λ types m x represents holds fine.
    let isnt = sym (same_due types c.args.ms c.args.connection.now x holds) ∙ sym c.is_due.ensures ∙ c.if-not-is_due.true in
    undue_told types c.args.ms c.args.id x c.args.changes.now.items isnt

pub returns-in_default-clause-ticks : goal.returns-in_default-clause-ticks
returns-in_default-clause-ticks c = λ types m x represents holds.
    let due = sym c.is_due.ensures ∙ c.if-not-is_due.false in
    let dead = due_dies types c.args.ms x x.phase refl (sym (same_due types c.args.ms c.args.connection.now x holds) ∙ due) in
    subst (ConnectionRepresents types c.kill_watch.new.connection) (sym dead) (c.kill_watch.ensures types x (due_watches c.args.ms (phase_in c.args.connection.now) due) holds)

pub returns-in_default-clause-due : goal.returns-in_default-clause-due
returns-in_default-clause-due c = λ types x holds is. sym (same_due types c.args.ms c.args.connection.now x holds) ∙ sym c.is_due.ensures ∙ c.if-not-is_due.false

pub push_change-requires : goal.push_change-requires
push_change-requires c = let room = c.in-Ok.ensures.ok in omega (arith, room)

pub returns-in-None-clause-ticks : goal.returns-in-None-clause-ticks
returns-in-None-clause-ticks c = λ types m x represents holds. c.in-None.ensures.ticks types m x represents holds

pub returns-in-None-clause-due : goal.returns-in-None-clause-due
returns-in-None-clause-due c = λ types x holds is. c.in-None.ensures.due types x holds refl

pub returns-in-Some-clause-ticks : goal.returns-in-Some-clause-ticks
returns-in-Some-clause-ticks c = λ types m x represents holds. c.in-Some.ensures.ticks types m x represents holds

pub returns-in-Some-clause-told : goal.returns-in-Some-clause-told
returns-in-Some-clause-told c = λ types m x represents holds fine.
    c.push_change.ensures ∙ ap (λ (told : List (ℕ × Change)). told ++ filter tells ((c.args.id, c.in-Some.change) ∷ [])) c.reserve.ensures.items
    ∙ ap (λ (change : Change). c.args.changes.now.items ++ filter tells ((c.args.id, change) ∷ [])) (c.in-Some.ensures.did types m x represents holds)
