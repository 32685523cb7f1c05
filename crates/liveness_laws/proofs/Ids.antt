-- How high ids are: of the moves of the schedule only a request takes one, the next.
use Rattle.std.proofs.Common.{◌≡◌, ◌∙◌, ℕ, suc, ◌+◌, ◌<◌, ◌≤◌, nat_lt, ◌&&◌, Bool, true, false, cond, List, [], ◌∷◌, ◌++◌, drop, length, take, Option, Some, None, refl, sym, ap, ap₂, subst, arith}
use Rattle.std.proofs.lemmas.Bool.{lt-ltb}
use Rattle.std.specs.FinMap as fin
use Rattle.std.specs.Prelude.{unwrap_or}
use Rattle.requests.specs.Asks.{CallDecision}
use Rattle.httpedge.proofs.Connected.{new_put, new_still}
use Rattle.httpedge.proofs.NextIds.{above_all, below_all}
use Rattle.httpedge.specs.Connections.{Connection, Connections, Phase, each, ended, gone, highest, is_new, next_id, waiting, watching}
use Rattle.httpedge.specs.Runs as runs
use Rattle.httpedge.specs.Steps.{Refusal, State, applied_event, by_connection, comes, connection_after, opening, opens, pumps, received_by, refusal, ticks, unless_refused, with_connection, with_tick, with_turn}
use Rattle.httpedge.specs.Watches.{pumped, ticked}
use Rattle.decoder.specs.Wanted.{Wanted}
use Rattle.liveness_laws.proofs.Hub.{left_by}
use Rattle.liveness_laws.proofs.Keeping.{each_highest}
use Rattle.liveness_laws.proofs.NextMoves.{next_holds}
use Rattle.liveness_laws.proofs.Places.{goes_are}
use Rattle.liveness_laws.proofs.Restart.{left_highest}
use Rattle.world_laws.specs.Moves.{Pursues, next_move}
use Rattle.reflector.specs.InformerViews.{due}
use Rattle.reflector.specs.Run.{closed}
use Rattle.world_laws.specs.Reports.{Report}
use Rattle.world_laws.specs.Tasks.{Task, client_settings, wanted_by}
use Rattle.world_laws.specs.World.{ClientConnection, Cuts, Delivers, Hands, Happens, HubTakes, Leaves, Sends, TakesUnless, ToClient, ToServer, World, WorldEvent, is_by_peer_on, other, reply_on}

abbrev highest_in : Connections → ℕ
highest_in all = highest (fin.keys all)

abbrev pub highest_id : World → ℕ
highest_id w = highest_in w.hub.connections

-- ---- on one connection that is there

-- the same ids are new
abbrev pub SameNew : Connections → Connections → Type 0
SameNew all later = (q : ℕ) → is_new later q ≡ is_new all q

-- so none is higher
pub as_high : (all later : Connections) → SameNew all later → highest_in later ≤ highest_in all
as_high all later same =
    let q : ℕ = highest_in all + 1 in
    let new : is_new later q ≡ true = same q ∙ above_all (fin.keys all) q (omega arith) in
    let low : highest_in later < q = below_all (fin.keys later) q (omega arith) new in
    omega (arith, low)

refused_or : (why : Option Refusal) (s t : State) → SameNew s.connections t.connections → SameNew s.connections (unless_refused why s t).connections
refused_or None s t same = same
refused_or (Some why) s t same = λ q. refl

on_it : (s : State) (id : ℕ) (o : Option Connection) → fin.get s.connections id ≡ o → (f : Connection → State) → ((c : Connection) → fin.get s.connections id ≡ Some c → SameNew s.connections (f c).connections)
    → SameNew s.connections (by_connection s o f).connections
on_it s id None none f each_one = λ q. refl
on_it s id (Some c) got f each_one = each_one c got

received_on : (s : State) (id : ℕ) (c : Connection) → fin.get s.connections id ≡ Some c → (st : Phase) (bytes : List ℕ) (decision : CallDecision) → SameNew s.connections (received_by s id c st bytes decision).connections
received_on s id c got (waiting prefix) bytes decision = λ q. new_still s.connections id q c (connection_after s.types s.machine s.last_tick c (prefix ++ bytes) decision) got
received_on s id c got (watching w) bytes decision = λ q. refl
received_on s id c got ended bytes decision = λ q. refl
received_on s id c got (gone had_ended) bytes decision = λ q. refl

pub comes_same : (s t : State) (id : ℕ) (bytes : List ℕ) → runs.Steps s (comes id bytes) t → SameNew s.connections t.connections
comes_same s t id bytes (decision, asks, is) =
    subst (λ (x : State). SameNew s.connections x.connections) (sym is)
    (refused_or (refusal s (comes id bytes)) s (applied_event s (comes id bytes) decision)
    (on_it s id (fin.get s.connections id) refl (λ c. received_by s id c c.phase bytes decision) (λ c got. received_on s id c got c.phase bytes decision)))

pumps_same : (s t : State) (id max : ℕ) → runs.Steps s (pumps id max) t → SameNew s.connections t.connections
pumps_same s t id max (decision, asks, is) =
    subst (λ (x : State). SameNew s.connections x.connections) (sym is)
    (refused_or (refusal s (pumps id max)) s (applied_event s (pumps id max) decision)
    (on_it s id (fin.get s.connections id) refl (λ c. with_connection s id (with_turn (pumped s.machine max) c)) (λ c got q. new_still s.connections id q c (with_turn (pumped s.machine max) c) got)))

-- ---- a connection that opens, and a tick

pub opens_high : (s t : State) (id n : ℕ) → runs.Steps s (opens id) t → highest_in s.connections ≤ n → id ≤ n → highest_in t.connections ≤ n
opens_high s t id n (decision, asks, is) low most = subst (λ (x : State). highest_in x.connections ≤ n) (sym is) (go (refusal s (opens id)))
  where
    opened : highest_in (fin.insert s.connections id (opening s.connections)) ≤ n
    opened =
        let under : highest_in s.connections ≤ n = low in
        let below : id ≤ n = most in
        let new : is_new (fin.insert s.connections id (opening s.connections)) (n + 1) ≡ true =
        new_put s.connections id (n + 1) (opening s.connections) ∙ ap₂ (λ (a b : Bool). a && b) (lt-ltb id (n + 1) (omega (arith, below))) (above_all (fin.keys s.connections) (n + 1) (omega (arith, under))) in
        let less : highest_in (fin.insert s.connections id (opening s.connections)) < n + 1 = below_all (fin.keys (fin.insert s.connections id (opening s.connections))) (n + 1) (omega arith) new in
        omega (arith, less)

    go : (why : Option Refusal) → highest_in (unless_refused why s (with_connection s id (opening s.connections))).connections ≤ n
    go None = opened
    go (Some why) = low

ticks_high : (s t : State) (ms : ℕ) → runs.Steps s (ticks ms) t → highest_in t.connections ≤ highest_in s.connections
ticks_high s t ms (decision, asks, is) = subst (λ (x : State). highest_in x.connections ≤ highest_in s.connections) (sym is) (go (refusal s (ticks ms)))
  where
    go : (why : Option Refusal) → highest_in (unless_refused why s (with_tick s ms (each (λ id c. with_turn (ticked s.types ms) c) s.connections))).connections ≤ highest_in s.connections
    go None = let same : highest_in (each (λ id c. with_turn (ticked s.types ms) c) s.connections) ≡ highest_in s.connections = each_highest (λ id c. with_turn (ticked s.types ms) c) s.connections in omega (arith, same)
    go (Some why) = omega arith

-- ---- the world

-- the next id is one higher than the highest
pub next_low : (all : Connections) (id : ℕ) → next_id all ≡ Some id → id ≤ highest_in all + 1
next_low all id is = go (nat_lt (highest_in all) 18446744073709551615) is
  where
    go : (b : Bool) → cond b (Some (highest_in all + 1)) None ≡ Some id → id ≤ highest_in all + 1
    go true is = let same : highest_in all + 1 ≡ id = ap (λ (o : Option ℕ). unwrap_or o 0) is in omega (arith, same)
    go false is = absurd cc

module _ (task : Task) (w : World) where
  -- where the event happens, one id more is used at most
  abbrev OneMore : WorldEvent → Type 0
  OneMore e = (v : World) → Happens task w e v → highest_id v ≤ highest_id w + 1

  as_before : (v : World) → v ≡ w → highest_id v ≤ highest_id w + 1
  as_before v is = let same : highest_id v ≡ highest_id w = ap highest_id is in omega (arith, same)

  leaves_low : (x v : World) (own : Option ClientConnection) → Leaves x own v → highest_id v ≤ highest_id x
  leaves_low x v None is = let same : highest_id v ≡ highest_id x = ap highest_id is in omega (arith, same)
  leaves_low x v (Some own) (t, steps, is) =
      let same : highest_id v ≡ highest_in (left_by x.hub.connections (Some own)) = ap highest_id is ∙ ap (λ (s : State). highest_in s.connections) (goes_are x.hub t own.id steps) in
      let low : highest_in (left_by x.hub.connections (Some own)) ≤ highest_id x = left_highest x.hub.connections (record x { connection = Some own }) in
      omega (arith, same, low)

  cuts_low : (own : Option ClientConnection) (v : World) → Cuts w own v → highest_id v ≤ highest_id w + 1
  cuts_low None v is = as_before v is
  cuts_low (Some own) v left = let low : highest_id v ≤ highest_id w = leaves_low (record w { client = closed w.client }) v (Some own) left in omega (arith, low)

  sends_low : (id : Option ℕ) (bytes : Option (List ℕ)) → next_id w.hub.connections ≡ id → (v : World) → Sends w id bytes v → highest_id v ≤ highest_id w + 1
  sends_low None bytes next v is = as_before v is
  sends_low (Some id) None next v is = as_before v is
  sends_low (Some id) (Some bytes) next v (alone, opened, left, (t, steps, hub), is) =
      let low : highest_id alone ≤ highest_id w = leaves_low w alone w.connection left in
      let high : highest_in t.connections ≤ highest_id w + 1 = opens_high alone.hub t id (highest_id w + 1) steps (omega (arith, low)) (next_low w.hub.connections id next) in
      let same : highest_id v ≡ highest_in t.connections = ap highest_id is ∙ ap highest_id hub in
      omega (arith, high, same)

  delivers_low : (own : ClientConnection) (n : ℕ) (piece : List ℕ) (v : World) → Delivers w own n piece v → highest_id v ≤ highest_id w + 1
  delivers_low own n [] v is = as_before v is
  delivers_low own n (b ∷ bs) v (mid, (t, steps, hub), is) =
      let same : highest_id v ≡ highest_in t.connections = ap highest_id is ∙ ap highest_id hub in
      let low : highest_in t.connections ≤ highest_id w = as_high w.hub.connections t.connections (comes_same w.hub t own.id (b ∷ bs) steps) in
      omega (arith, same, low)

  hands_low : (wanted : Wanted) (own : ClientConnection) (piece : List ℕ) (v : World) → Hands wanted w own piece v → highest_id v ≤ highest_id w + 1
  hands_low wanted own [] v is = as_before v is
  hands_low wanted own (b ∷ bs) v (d, receives, is) = let same : highest_id v ≡ highest_id w = ap highest_id is in omega (arith, same)

  module _ (own : ClientConnection) (has : w.connection ≡ Some own) where
    pump_low : (max : ℕ) → OneMore (other (pumps own.id max))
    pump_low max v takes = go (subst (λ (o : Option ClientConnection). TakesUnless (is_by_peer_on o (pumps own.id max)) w (pumps own.id max) v) has takes)
      where
        go : HubTakes w (pumps own.id max) v → highest_id v ≤ highest_id w + 1
        go (t, steps, is) =
            let same : highest_id v ≡ highest_in t.connections = ap highest_id is in
            let low : highest_in t.connections ≤ highest_id w = as_high w.hub.connections t.connections (pumps_same w.hub t own.id max steps) in
            omega (arith, same, low)

    tick_low : (ms : ℕ) → OneMore (other (ticks ms))
    tick_low ms v takes = go (subst (λ (o : Option ClientConnection). TakesUnless (is_by_peer_on o (ticks ms)) w (ticks ms) v) has takes)
      where
        go : HubTakes w (ticks ms) v → highest_id v ≤ highest_id w + 1
        go (t, steps, is) =
            let same : highest_id v ≡ highest_in t.connections = ap highest_id is in
            let low : highest_in t.connections ≤ highest_id w = ticks_high w.hub t ms steps in
            omega (arith, same, low)

  next_low_by : (e : WorldEvent) → next_move w ≡ Some e → OneMore e
  next_low_by =
      next_holds w OneMore (λ v sends. sends_low (next_id w.hub.connections) (due (client_settings task) w.client) refl v sends) (λ v cuts. cuts_low w.connection v cuts)
      (λ own has. record {
        asks = λ n v moves. delivers_low own n (take n own.unsent) v (subst (λ (o : Option ClientConnection). ToServer w n o v) has moves);
        reads = λ n v moves. hands_low (wanted_by task) own (take n (drop own.handed (reply_on w own))) v (subst (λ (o : Option ClientConnection). ToClient (wanted_by task) w n o v) has moves);
        pump = pump_low own has;
        tick = tick_low own has;
      })

-- so many moves use no more ids
pub moves_ids : (task : Task) (i : ℕ) (w : World) (es : List WorldEvent) (v : World) (reports : List Report) → Pursues task i w es v reports → highest_id v ≤ highest_id w + length es
moves_ids task i w [] v reports (same, none) = let is : highest_id v ≡ highest_id w = ap highest_id same in omega (arith, is)
moves_ids task i w (e ∷ es) v reports (mid, others, is_next, (happened, happens, is), pursues, are) =
    let rest : highest_id v ≤ highest_id mid + length es = moves_ids task (suc i) mid es v others pursues in
    let now : highest_id mid ≡ highest_id happened = ap highest_id is in
    let more : highest_id happened ≤ highest_id w + 1 = next_low_by task w e is_next happened happens in
    omega (arith, rest, now, more)
