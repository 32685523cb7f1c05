-- What a Reconcile takes: one id and one connection at most.
use Rattle.std.proofs.Common.{◌≡◌, ◌∙◌, ℕ, ◌+◌, ◌≤◌, Option, Some, None, refl, ap, arith}
use Rattle.std.specs.FinMap as fin
use Rattle.httpedge.specs.Connections.{highest, next_id, open_count}
use Rattle.reflector.specs.Client.{Cache}
use Rattle.summary.specs.Apply.{apply_request}
use Rattle.summary.specs.Counts.{summed_of}
use Rattle.liveness_laws.proofs.Ids.{as_high, comes_same, highest_id, next_low, opens_high}
use Rattle.liveness_laws.proofs.Places.{comes_on, one_differs, opens_on, places}
use Rattle.liveness_laws.specs.Listable.{others_of}
use Rattle.world_laws.specs.Tasks.{Task}
use Rattle.world_laws.specs.World.{Reconciles, Steps, World, reconcile}

module _ (task : Task) (w : World) where
  takes_id : (cache : Option Cache) (id : Option ℕ) → next_id w.hub.connections ≡ id → (v : World) → Reconciles task w cache id v → highest_id v ≤ highest_id w + 1
  takes_id None id next v is = let same : highest_id v ≡ highest_id w = ap highest_id is in omega (arith, same)
  takes_id (Some now) None next v is = let same : highest_id v ≡ highest_id w = ap highest_id is in omega (arith, same)
  takes_id (Some now) (Some id) next v (opened, (t, opens, opened_is), (u, comes, is)) =
      let high : highest (fin.keys t.connections) ≤ highest_id w + 1 = opens_high w.hub t id (highest_id w + 1) opens (omega arith) (next_low w.hub.connections id next) in
      let same : highest_id opened ≡ highest (fin.keys t.connections) = ap highest_id opened_is in
      let low : highest (fin.keys u.connections) ≤ highest_id opened =
      as_high opened.hub.connections u.connections (comes_same opened.hub u id (apply_request (summed_of task.settings.label now.objects) task.settings.summary.0 task.settings.summary.1) comes) in
      let now_high : highest_id v ≡ highest (fin.keys u.connections) = ap highest_id is in
      omega (arith, high, same, low, now_high)

  takes_place : (cache : Option Cache) (id : Option ℕ) (v : World) → Reconciles task w cache id v → places v ≤ places w + 1
  takes_place None id v is = let same : places v ≡ places w = ap places is in omega (arith, same)
  takes_place (Some now) None v is = let same : places v ≡ places w = ap places is in omega (arith, same)
  takes_place (Some now) (Some id) v (opened, (t, opens, opened_is), (u, comes, is)) =
      let same : places v ≡ open_count (others_of u.connections w.connection) = ap places is ∙ ap (λ (x : World). open_count (others_of u.connections x.connection)) opened_is in
      let more : open_count (others_of u.connections w.connection) ≤ places w + 1 =
      one_differs w.hub.connections u.connections id w.connection
      (comes_on opened.hub u id (apply_request (summed_of task.settings.label now.objects) task.settings.summary.0 task.settings.summary.1) comes
      ∙ ap (λ (x : World). fin.remove x.hub.connections id) opened_is ∙ opens_on w.hub t id opens) in
      omega (arith, same, more)

pub reconciled_id : (task : Task) (w v : World) → Steps task w reconcile v → highest_id v ≤ highest_id w + 1
reconciled_id task w v (mid, happens, is) =
    let same : highest_id v ≡ highest_id mid = ap highest_id is in
    let more : highest_id mid ≤ highest_id w + 1 = takes_id task w w.client.cache (next_id w.hub.connections) refl mid happens in
    omega (arith, same, more)

pub reconciled_places : (task : Task) (w v : World) → Steps task w reconcile v → places v ≤ places w + 1
reconciled_places task w v (mid, happens, is) =
    let same : places v ≡ places mid = ap places is in
    let more : places mid ≤ places w + 1 = takes_place task w w.client.cache (next_id w.hub.connections) mid happens in
    omega (arith, same, more)
