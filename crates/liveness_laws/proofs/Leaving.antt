-- A client that asks leaves its connection first: it comes as far as one that was cut before, where it awaited no reply.
use Rattle.std.proofs.Common.{◌≡◌, ◌∙◌, ℕ, suc, ◌+◌, ◌<◌, ◌≤◌, Bool, true, false, cond, List, [], ◌∷◌, ◌++◌, Option, Some, None, refl, sym, ap, subst, arith, true≢false}
use Rattle.std.specs.FinMap as fin
use Rattle.std.specs.Prelude.{unwrap_or}
use Rattle.api_types.specs.TypesFile.{ServedShape}
use Rattle.httpedge.proofs.NextIds.{above_all, below_all}
use Rattle.httpedge.specs.Connections.{Connections, highest, is_new, next_id}
use Rattle.httpedge.specs.Steps.{State, opens, with_connections}
use Rattle.liveness_laws.proofs.Exchange.{leaves_so, unreported}
use Rattle.liveness_laws.proofs.Hub.{left_by, left_new, next_is}
use Rattle.liveness_laws.proofs.Joined.{IsThere, runs_then, ticks_join}
use Rattle.liveness_laws.proofs.Restart.{left_highest}
use Rattle.liveness_laws.proofs.Rounds.{left_stays, number_after}
use Rattle.liveness_laws.specs.Leading.{LeadsTo}
use Rattle.world_laws.specs.Moves.{Pursues, is_current, move_by, next_move}
use Rattle.reflector.specs.Client.{Client}
use Rattle.reflector.specs.InformerViews.{due}
use Rattle.reflector.specs.Requests.{request_of}
use Rattle.reflector.specs.Run.{after_cut, closed, taken}
use Rattle.world_laws.specs.Reports.{Report, Runs}
use Rattle.world_laws.specs.Tasks.{Task, client_settings}
use Rattle.world_laws.specs.World.{ClientConnection, HubTakes, Sends, Steps, World, WorldEvent, cut, send, start}

-- the same client, without a connection
abbrev pub alone : World → World
alone w = record { hub = with_connections w.hub (left_by w.hub.connections w.connection); requested = w.requested; client = w.client; connection = None }

-- ---- what follows where it has left, follows where it leaves then

module _ (task : Task) (w : World) (n : ℕ) (some : 1 ≤ n) (ids_left : highest (fin.keys w.hub.connections) + n ≤ 18446744073709551615) (silent : w.client.is_awaiting_reply ≡ false) (behind : is_current w ≡ false) where
  abbrev all : Connections
  all = w.hub.connections

  same_highest : highest (fin.keys (left_by all w.connection)) ≡ highest (fin.keys all)
  same_highest =
      let low : highest (fin.keys (left_by all w.connection)) ≤ highest (fin.keys all) = left_highest all w in
      let id : ℕ = highest (fin.keys (left_by all w.connection)) + 1 in
      let new : is_new all id ≡ true = sym (left_new all w.connection id) ∙ above_all (fin.keys (left_by all w.connection)) id (omega arith) in
      let high : highest (fin.keys all) < id = below_all (fin.keys all) id (omega arith) new in
      omega (arith, low, high)

  abbrev id : ℕ
  id = highest (fin.keys all) + 1

  is_next : next_id all ≡ Some id
  is_next = next_is all n ids_left some

  is_next_alone : next_id (left_by all w.connection) ≡ Some id
  is_next_alone =
      let same : highest (fin.keys (left_by all w.connection)) ≡ highest (fin.keys all) = same_highest in
      let left : highest (fin.keys all) + n ≤ 18446744073709551615 = ids_left in
      next_is (left_by all w.connection) n (omega (arith, same, left)) some ∙ ap (λ (k : ℕ). Some (k + 1)) same

  is_due : due (client_settings task) w.client ≡ Some (request_of (client_settings task) w.client)
  is_due = ap (λ (b : Bool). cond b None (Some (request_of (client_settings task) w.client))) silent

  asks_so : (bytes : List ℕ) (v : World) → Sends (alone w) (Some id) (Some bytes) v → Sends w (Some id) (Some bytes) v
  asks_so bytes v (left, opened, is_left, takes, is) =
      (alone w, opened, leaves_so w.hub w.requested w.client w.connection, subst (λ (x : World). HubTakes x (opens id) opened) is_left takes, is)

  sends_so : (v : World) → Steps task (alone w) send v → Steps task w send v
  sends_so v (mid, sends, is) =
      let bytes : List ℕ = request_of (client_settings task) w.client in
      let asked : Sends (alone w) (Some id) (Some bytes) mid =
      subst (λ (o : Option (List ℕ)). Sends (alone w) (Some id) o mid) is_due (subst (λ (o : Option ℕ). Sends (alone w) o (due (client_settings task) w.client) mid) is_next_alone sends) in
      let asks : Sends w (next_id all) (due (client_settings task) w.client) mid =
      subst (λ (o : Option ℕ). Sends w o (due (client_settings task) w.client) mid) (sym is_next) (subst (λ (o : Option (List ℕ)). Sends w (Some id) o mid) (sym is_due) (asks_so bytes mid asked)) in
      (mid, asks, is)

  send_is_next : next_move w ≡ Some send
  send_is_next = ap (λ (b : Bool). cond b None (Some (move_by w w.client.is_awaiting_reply w.connection))) behind ∙ ap (λ (b : Bool). Some (move_by w b w.connection)) silent

  send_is_next_alone : next_move (alone w) ≡ Some send
  send_is_next_alone = ap (λ (b : Bool). cond b None (Some (move_by (alone w) w.client.is_awaiting_reply None))) behind ∙ ap (λ (b : Bool). Some (move_by (alone w) b None)) silent

  pursues_so : (i : ℕ) (es : List WorldEvent) (v : World) (reports : List Report) → is_current v ≡ true → Pursues task i (alone w) es v reports → Pursues task i w es v reports
  pursues_so i [] v reports there (same, none) = absurd (true≢false (sym there ∙ ap is_current same ∙ behind))
  pursues_so i (e ∷ es) v reports there (mid, others, is_move, steps, rest, are) =
      let sent : send ≡ e = ap (λ (o : Option WorldEvent). unwrap_or o send) (sym send_is_next_alone ∙ is_move) in (
        mid,
        others,
        send_is_next ∙ ap Some sent,
        subst (λ (x : WorldEvent). Steps task w x mid) sent (sends_so mid (subst (λ (x : WorldEvent). Steps task (alone w) x mid) (sym sent) steps)),
        rest,
        are,
      )

  pub leads_so : (i most : ℕ) → LeadsTo task i (alone w) most IsThere → LeadsTo task i w most IsThere
  leads_so i most leads =
      record {
        moves = leads.moves;
        end = leads.end;
        reports = leads.reports;
        pursues = pursues_so i leads.moves leads.end leads.reports leads.goal leads.pursues;
        bound = leads.bound;
        server = leads.server;
        others = λ q c got isnt.
            let kept = leads.others q c (left_stays task w.hub all w.connection q isnt ∙ got) refl in
            let ticked = ticks_join w.hub (alone w).hub 0 kept.0 c refl refl in
            (ticked.0, kept.1 ∙ ap Some ticked.1);
        goal = leads.goal;
      }

-- ---- a cut leads there

-- the summary has taken the client's notices, after each event as at the start
pub took : (task : Task) (i : ℕ) (w : World) (es : List WorldEvent) (v : World) (reports : List Report) → Runs task i w es v reports → taken w.client ≡ w.client → taken v.client ≡ v.client
took task i w [] v reports (same, none) is = subst (λ (x : World). taken x.client ≡ x.client) (sym same) is
took task i w (e ∷ es) v reports (mid, others, (happened, happens, is_mid), runs, are) is =
    took task (suc i) mid es v others runs (subst (λ (x : World). taken x.client ≡ x.client) (sym is_mid) refl)

module _ (task : Task) (s : State) (requested : List ℕ) (c : Client) (is_closed : closed c ≡ c) (is_taken : taken c ≡ c) where
  abbrev at : Option ClientConnection → World
  at own = record { hub = s; requested = requested; client = c; connection = own }

  cuts_so : (own : Option ClientConnection) → Steps task (at own) cut (alone (at own))
  cuts_so None = (at None, refl, ap (λ (d : Client). record (at None) { client = d }) (sym is_taken))
  cuts_so (Some own) = (
    record (alone (at (Some own))) { client = closed c },
    leaves_so s requested (closed c) (Some own),
    ap (λ (d : Client). record (alone (at (Some own))) { client = d }) (sym is_taken ∙ sym (ap taken is_closed)),
  )

-- so it is the world after a run
pub run_alone : (task : Task) (types : List ServedShape) (before : List WorldEvent) (w : World) (earlier : List Report) → Runs task 1 (start types) before w earlier → w.client.is_awaiting_reply ≡ false
    → Runs task 1 (start types) (before ++ cut ∷ []) (alone w) (earlier ++ [])
run_alone task types before w earlier run silent =
    runs_then task 1 (start types) w (alone w) before (cut ∷ []) earlier [] run (
      alone w,
      [],
      cuts_so task w.hub w.requested w.client is_closed (took task 1 (start types) before w earlier run refl) w.connection,
      (refl, refl),
      sym (ap (λ (l : List Report). l ++ []) (unreported (number_after 1 before) w.hub.machine w.client.cache)),
    )
  where
    is_closed : closed w.client ≡ w.client
    is_closed = ap (λ (b : Bool). cond b (record w.client { sync = after_cut w.client.sync; is_awaiting_reply = false }) w.client) silent
