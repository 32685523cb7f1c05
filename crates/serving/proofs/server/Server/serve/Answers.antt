use Rattle.std.proofs.Common.{◌∙◌, ◌+◌, ◌∷◌, [], ap}
use Rattle.serving.specs.ServerViews.{watches_of, with_kept}
use Rattle.serving.proofs.Receiving.{served_none, served_then}
use Rattle.serving.proofs.Rising.{next_opens, without_one}
use Rattle.serving.proofs.server.Server.serve.Goals as goal

pub returns-in_default-clause-served : goal.returns-in_default-clause-served
returns-in_default-clause-served g c = served_none _ _ _ _

pub returns-clause-served : goal.returns-clause-served
returns-clause-served g c = served_then c.turn-done.result _ _ _ _ _ _ _ _ _ c.in-Some.ensures.1 c.turn-done.ensures c.settle.ensures.serves

pub returns-clause-watches : goal.returns-clause-watches
returns-clause-watches g c = c.settle.ensures.watches ∙ ap (λ id. with_kept c.settle.result id (watches_of c.args.self.now)) c.in-Some.ensures.1

pub invariant_of-self : goal.invariant_of-self
invariant_of-self g c =
    record { in_order = without_one (watches_of c.args.self.now) c.in-Some.id ((c.in-Some.id + 1) ∷ []) (next_opens (watches_of c.args.self.now) c.args.self.now.highest c.in-Some.id c.in-Some.ensures.1 c.args.self.now.in_order) }

pub settle-requires : goal.settle-requires
settle-requires g c = next_opens (watches_of c.args.self.now) c.args.self.now.highest c.in-Some.id c.in-Some.ensures.1 c.args.self.now.in_order

pub returns-clause-next : goal.returns-clause-next
returns-clause-next g c = λ left. c.settle.ensures.next ∙ ap (λ id. id + 1) c.in-Some.ensures.1
