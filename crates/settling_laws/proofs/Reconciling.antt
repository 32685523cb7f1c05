-- A Reconcile in a world where the client has the machine's revision.
use Rattle.std.proofs.Common.{◌≡◌, ◌≢◌, ℕ, ◌+◌, true, List, Option, Some, refl, sym, ap, subst, ◌∙◌, arith, true≢false}
use Rattle.std.specs.Prelude.{is_some}
use Rattle.std.specs.FinMap as fin
use Rattle.api_types.specs.TypesFile.{ServedShape}
use Rattle.history.proofs.Wholes.{whole_is}
use Rattle.verbs.specs.Machine.{AreObjectTypes, IsMachine}
use Rattle.api_request.specs.Calls.{Call}
use Rattle.requests.specs.Asks.{Asks}
use Rattle.requests.specs.Decision.{accepted}
use Rattle.httpedge.proofs.Connected.{put_there, unknown}
use Rattle.httpedge.proofs.NextIds.{next_is_new}
use Rattle.httpedge.proofs.Outcomes.{ComesBy}
use Rattle.httpedge.proofs.Staying.{put_elsewhere}
use Rattle.httpedge.specs.Connections.{Connection, Connections, highest, is_new, new_connection, next_id}
use Rattle.httpedge.specs.Runs as runs
use Rattle.httpedge.specs.Steps as edge
use Rattle.reflector.specs.Client.{Cache}
use Rattle.reflector.specs.Run.{taken}
use Rattle.summary.specs.Apply.{apply_request}
use Rattle.summary.specs.Counts.{Summed}
use Rattle.world_laws.proofs.HubRuns.{runs_run}
use Rattle.world_laws.specs.Headline.{Headline}
use Rattle.world_laws.specs.Reports.{IsStateAt, Report, Runs}
use Rattle.world_laws.specs.Tasks.{Task, selection, wanted_by}
use Rattle.world_laws.specs.World.{HubTakes, Reconciles, Steps, World, WorldEvent, reconcile, start}
use Rattle.liveness_laws.proofs.Hub.{next_is, opens_so}
use Rattle.liveness_laws.proofs.CaughtUp.{objects_right}
use Rattle.liveness_laws.specs.BothEnds.{Lasts}
use Rattle.liveness_laws.specs.Listable.{HasRoom, listed_now}
use Rattle.settling_laws.specs.Applying.{AppliesAsk, ReconcilesApply, apply_call}
use Rattle.settling_laws.specs.Said.{IsSayable}
use Rattle.settling_laws.specs.Settling.{CanReconcile, Settles, counts}
use Rattle.settling_laws.proofs.Sayable.{counts_sayable}

-- ---- the world

-- an id that is new is none of those that are known
other_id : (all : Connections) (id q : ℕ) (c : Connection) → is_new all id ≡ true → fin.get all q ≡ Some c → q ≢ id
other_id all id q c new got same = true≢false (sym (ap is_some (sym (unknown all id (fin.get all q) (ap (fin.get all) (sym same)) new) ∙ got)))

-- a request comes in one piece on a new connection: what it leads to where it asks a call
module _ (task : Task) (w : World) (now : Cache) (bytes : List ℕ) (call : Call) (room : HasRoom w.hub.connections 1) (asks : Asks w.hub.types bytes (accepted call)) where
  abbrev id : ℕ
  id = highest (fin.keys w.hub.connections) + 1

  next : next_id w.hub.connections ≡ Some id
  next = next_is w.hub.connections 1 room.ids (omega arith)

  new_id : is_new w.hub.connections id ≡ true
  new_id = next_is_new w.hub.connections id next

  abbrev opened : edge.State
  opened = edge.with_connection w.hub id new_connection

  abbrev answered : edge.State
  answered = edge.received opened id new_connection bytes (accepted call)

  abbrev pub led : World
  led = record w { hub = answered }

  opens : HubTakes w (edge.opens id) (record w { hub = opened })
  opens = (opened, opens_so w.hub id new_id room.room, refl)

  comes : runs.Steps opened (edge.comes id bytes) answered
  comes = subst (λ (o : Option Connection). ComesBy opened id o bytes answered) (sym (put_there w.hub.connections id new_connection)) (accepted call, asks, refl)

  abbrev pub end : World
  end = record led { client = taken w.client }

  pub leads : w.client.cache ≡ Some now → bytes ≡ apply_request (counts task now) task.settings.summary.0 task.settings.summary.1 → Steps task w reconcile end
  leads kept are = (
    led,
    subst (λ (c : Option Cache). Reconciles task w c (next_id w.hub.connections) led) (sym kept)
        (subst (λ (o : Option ℕ). Reconciles task w (Some now) o led) (sym next)
        (record w { hub = opened }, opens, subst (λ (bs : List ℕ). HubTakes (record w { hub = opened }) (edge.comes id bs) led) are (answered, comes, refl))),
    refl,
  )

  pub others_stay : (q : ℕ) (c : Connection) → fin.get w.hub.connections q ≡ Some c → fin.get end.hub.connections q ≡ Some c
  others_stay q c got =
      let apart = other_id w.hub.connections id q c new_id got in
      put_elsewhere (fin.insert w.hub.connections id new_connection) id q _ apart ∙ put_elsewhere w.hub.connections id q new_connection apart ∙ got

-- ---- the machine

pub machine_after_run : Lasts → (types : List ServedShape) (task : Task) (before : List WorldEvent) (w : World) (earlier : List Report) → AreObjectTypes types
    → Runs task 1 (start types) before w earlier → IsMachine w.hub.types w.hub.machine
machine_after_run lasts types task before w earlier shapes run =
    let led = runs_run task 1 (start types) before w earlier run in
    lasts.machines (start types).hub w.hub led.0 (lasts.begins types shapes) led.1

-- what the client counts can be said
pub sayable_at : Lasts → (types : List ServedShape) (task : Task) (kind : ℕ) (before : List WorldEvent) (w : World) (earlier : List Report) (now : Cache) → AreObjectTypes types
    → Runs task 1 (start types) before w earlier → CanReconcile task kind w now → IsStateAt (wanted_by task) (listed_now task w.hub.machine) now.objects → IsSayable (counts task now)
sayable_at lasts types task kind before w earlier now shapes run can objects =
    let machine = machine_after_run lasts types task before w earlier shapes run in
    counts_sayable (wanted_by task) (selection task) task.settings.label w.hub.machine now.objects (whole_is machine.first w.hub.machine machine.whole) can.unicode objects can.label

-- ---- the law

pub settles : AppliesAsk → ReconcilesApply → Lasts → Headline → Settles
settles ask apply lasts headline types task before w earlier now kind shapes is run kept current can =
    let s : Summed = counts task now in
    let bytes : List ℕ = apply_request s task.settings.summary.0 task.settings.summary.1 in
    let objects = objects_right headline types task before w earlier now shapes is run kept current in
    let sayable : IsSayable s = sayable_at lasts types task kind before w earlier now shapes run can objects in
    let asks = ask w.hub.types kind s task.settings.summary can.serves can.named sayable can.fit in
    let call : Call = apply_call kind s task.settings.summary in
    let machine = machine_after_run lasts types task before w earlier shapes run in
    record {
      end = end task w now bytes call can.room asks;
      steps = leads task w now bytes call can.room asks kept refl;
      objects = objects;
      counted = apply w.hub.types w.hub.machine w.hub.last_tick kind s task.settings.summary machine can.serves.served can.named sayable can.stored;
      applied = refl;
      types = refl;
      clock = refl;
      client = refl;
      connection = refl;
      others = others_stay task w now bytes call can.room asks;
    }
