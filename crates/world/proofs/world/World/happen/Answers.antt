use Rattle.std.proofs.Common.{ap, subst}
use Rattle.std.specs.FinMap as fin
use Rattle.std.proofs.lemmas.Result.{IfOk-weaker}
use Rattle.reflector.specs.Client.{kept}
use Rattle.world_laws.specs.World as worlds
use Rattle.world.specs.Stepping.{Refuses, hub_event, refusal_of}
use Rattle.world.specs.Views.{event_seen}
use Rattle.world.proofs.Refusals.{no_file}
use Rattle.std.specs.Prelude.{IfOk}
use Rattle.world.proofs.world.World.happen.Goals as goal

pub returns-in-Other-clause-happens : goal.returns-in-Other-clause-happens
returns-in-Other-clause-happens g c = λ task w represents. rw c.in-Other.is (IfOk-weaker c.other.result _ _ (λ _ did. (did.0, kept w.client.cache, did.1, did.2, did.3)) (c.other.ensures.happens task (kept w.client.cache) w represents))

pub returns-in-Request-clause-happens : goal.returns-in-Request-clause-happens
returns-in-Request-clause-happens g c = λ task w represents. rw c.in-Request.is (IfOk-weaker c.request.result _ _ (λ _ did. (did.0, kept w.client.cache, subst (λ bytes. worlds.Happens task w (worlds.request bytes) did.0) c.deref.ensures.value did.1, did.2, did.3)) (c.request.ensures.happens task (kept w.client.cache) w represents))

pub returns-in-ClientSend-clause-happens : goal.returns-in-ClientSend-clause-happens
returns-in-ClientSend-clause-happens g c = λ task w represents. rw c.in-ClientSend.is (IfOk-weaker c.send.result _ _ (λ _ did. (did.0, kept w.client.cache, did.1, did.2, did.3)) (c.send.ensures.happens task (kept w.client.cache) w represents))

pub returns-in-ToServer-clause-happens : goal.returns-in-ToServer-clause-happens
returns-in-ToServer-clause-happens g c = λ task w represents. rw c.in-ToServer.is (IfOk-weaker c.to_server.result _ _ (λ _ did. (did.0, kept w.client.cache, did.1, did.2, did.3)) (c.to_server.ensures.happens task (kept w.client.cache) w represents))

pub returns-in-ToClient-clause-happens : goal.returns-in-ToClient-clause-happens
returns-in-ToClient-clause-happens g c = λ task w represents. rw c.in-ToClient.is (IfOk-weaker c.to_client.result _ _ (λ _ did. (did.0, kept w.client.cache, did.1, did.2, did.3)) (c.to_client.ensures.happens task (kept w.client.cache) w represents))

pub returns-in-Cut-clause-happens : goal.returns-in-Cut-clause-happens
returns-in-Cut-clause-happens g c = λ task w represents. rw c.in-Cut.is (IfOk-weaker c.cut.result _ _ (λ _ did. (did.0, kept w.client.cache, did.1, did.2, did.3)) (c.cut.ensures.happens task (kept w.client.cache) w represents))

pub returns-in-Restart-clause-happens : goal.returns-in-Restart-clause-happens
returns-in-Restart-clause-happens g c = λ task w represents. rw c.in-Restart.is (IfOk-weaker c.restart.result _ _ (λ _ did. (did.0, fin.empty, did.1, did.2, did.3)) (c.restart.ensures.happens task (kept w.client.cache) w represents))

pub returns-in-Reconcile-clause-happens : goal.returns-in-Reconcile-clause-happens
returns-in-Reconcile-clause-happens g c = λ task w represents. rw c.in-Reconcile.is (IfOk-weaker c.reconcile.result _ _ (λ _ did. (did.0, kept w.client.cache, did.1, did.2, did.3)) (c.reconcile.ensures.happens task w represents))

pub returns-in-Other-clause-refused : goal.returns-in-Other-clause-refused
returns-in-Other-clause-refused g c = λ task w represents. rw c.in-Other.is (c.other.ensures.refused task (kept w.client.cache) w represents)

pub returns-in-Request-clause-refused : goal.returns-in-Request-clause-refused
returns-in-Request-clause-refused g c = λ task w represents. rw c.in-Request.is (subst (λ bytes. IfOk c.request.result (λ r. Refuses r (refusal_of task w (worlds.request bytes)))) c.deref.ensures.value (c.request.ensures.refused task (kept w.client.cache) w represents))

pub returns-in-ClientSend-clause-refused : goal.returns-in-ClientSend-clause-refused
returns-in-ClientSend-clause-refused g c = λ task w represents. rw c.in-ClientSend.is (c.send.ensures.refused task (kept w.client.cache) w represents)

pub returns-in-ToServer-clause-refused : goal.returns-in-ToServer-clause-refused
returns-in-ToServer-clause-refused g c = λ task w represents. rw c.in-ToServer.is (c.to_server.ensures.refused task (kept w.client.cache) w represents)

pub returns-in-ToClient-clause-refused : goal.returns-in-ToClient-clause-refused
returns-in-ToClient-clause-refused g c = λ task w represents. rw c.in-ToClient.is (c.to_client.ensures.refused task (kept w.client.cache) w represents)

pub returns-in-Cut-clause-refused : goal.returns-in-Cut-clause-refused
returns-in-Cut-clause-refused g c = λ task w represents. rw c.in-Cut.is (c.cut.ensures.refused task (kept w.client.cache) w represents)

pub returns-in-Restart-clause-refused : goal.returns-in-Restart-clause-refused
returns-in-Restart-clause-refused g c = λ task w represents. rw c.in-Restart.is (c.restart.ensures.refused task (kept w.client.cache) w represents)

pub returns-in-Reconcile-clause-refused : goal.returns-in-Reconcile-clause-refused
returns-in-Reconcile-clause-refused g c = λ task w represents. rw c.in-Reconcile.is (c.reconcile.ensures.refused task w represents)

pub returns-in-Other-clause-fault : goal.returns-in-Other-clause-fault
returns-in-Other-clause-fault g c = rw c.in-Other.is c.other.ensures.fault

pub returns-in-Request-clause-fault : goal.returns-in-Request-clause-fault
returns-in-Request-clause-fault g c = no_file (event_seen c.args.event.now) c.request.result (ap (λ e. hub_event (event_seen e)) c.in-Request.is)

pub returns-in-ClientSend-clause-fault : goal.returns-in-ClientSend-clause-fault
returns-in-ClientSend-clause-fault g c = no_file (event_seen c.args.event.now) c.send.result (ap (λ e. hub_event (event_seen e)) c.in-ClientSend.is)

pub returns-in-ToServer-clause-fault : goal.returns-in-ToServer-clause-fault
returns-in-ToServer-clause-fault g c = no_file (event_seen c.args.event.now) c.to_server.result (ap (λ e. hub_event (event_seen e)) c.in-ToServer.is)

pub returns-in-ToClient-clause-fault : goal.returns-in-ToClient-clause-fault
returns-in-ToClient-clause-fault g c = no_file (event_seen c.args.event.now) c.to_client.result (ap (λ e. hub_event (event_seen e)) c.in-ToClient.is)

pub returns-in-Cut-clause-fault : goal.returns-in-Cut-clause-fault
returns-in-Cut-clause-fault g c = no_file (event_seen c.args.event.now) c.cut.result (ap (λ e. hub_event (event_seen e)) c.in-Cut.is)

pub returns-in-Restart-clause-fault : goal.returns-in-Restart-clause-fault
returns-in-Restart-clause-fault g c = no_file (event_seen c.args.event.now) c.restart.result (ap (λ e. hub_event (event_seen e)) c.in-Restart.is)

pub returns-in-Reconcile-clause-fault : goal.returns-in-Reconcile-clause-fault
returns-in-Reconcile-clause-fault g c = no_file (event_seen c.args.event.now) c.reconcile.result (ap (λ e. hub_event (event_seen e)) c.in-Reconcile.is)
