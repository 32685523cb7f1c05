use Rattle.std.proofs.Common.{None, refl, subst, sym}
use Rattle.reflector.specs.ReceivedViews.{response_of, watch_relist_reason}
use Rattle.reflector.specs.InformerViews.{RepresentsExceptReader}
use Rattle.reflector.specs.Run.{with_watch}
use Rattle.reflector.proofs.ReceivedItems.{ended_watch}
use Rattle.reflector.proofs.informer.Informer.receive_watch.Goals as goal

pub returns-in-Over-clause-received : goal.returns-in-Over-clause-received
returns-in-Over-clause-received g c = λ cl k follows awaiting_reply.
    subst (λ n. RepresentsExceptReader g.I.IndexBy.keys c.ask_next.new.self (with_watch cl cl.cache (response_of n)) (watch_relist_reason cl.cache n)) (sym c.in-Over.is)
    (subst (λ d. RepresentsExceptReader g.I.IndexBy.keys c.ask_next.new.self d None) (sym (ended_watch cl cl.cache))
    (c.ask_next.ensures.kept _ (record { objects = k.mirror.objects; revision = k.mirror.revision; notices = k.mirror.notices }) refl refl))
