-- Whatever the client was doing, the moves of the schedule lead to the machine's current revision: one case after the other.
use Rattle.std.proofs.Common.{◌≡◌, ◌∙◌, inl, inr, ℕ, suc, ◌+◌, ◌*◌, ◌<◌, ◌≤◌, ◌==◌, Bool, true, false, List, [], ◌∷◌, ◌++◌, length, Option, Some, refl, sym, ap, subst, arith, eqb-true, length-append, ltb-false, ltb-true}
use Rattle.std.specs.FinMap as fin
use Rattle.std.specs.Prelude.{nat_lt}
use Rattle.api_types.specs.TypesFile.{ServedShape}
use Rattle.history.specs.History.{History}
use Rattle.indexer.specs.Objects.{Stored}
use Rattle.verbs.specs.Machine.{AreObjectTypes}
use Rattle.httpedge.specs.Connections.{Connections, highest, max_open, open_count}
use Rattle.liveness_laws.proofs.CaughtUp.{caught_up}
use Rattle.liveness_laws.proofs.Connected.{awaits_connected}
use Rattle.liveness_laws.proofs.Exchange.{asking}
use Rattle.liveness_laws.proofs.GivenUp.{cut_leads}
use Rattle.liveness_laws.proofs.Joined.{IsThere, by_list, by_list_anew, ends_with, from_number, is_there, leads_then, number_is, runs_then, within}
use Rattle.liveness_laws.proofs.Leaving.{alone, leads_so, run_alone}
use Rattle.liveness_laws.proofs.Places.{left_places, moves_places, places}
use Rattle.liveness_laws.proofs.Reaching.{lists_come}
use Rattle.liveness_laws.proofs.Restart.{left_highest, pursues_run}
use Rattle.liveness_laws.proofs.Rounds.{number_after}
use Rattle.liveness_laws.proofs.WatchesKeep.{watches_keep}
use Rattle.liveness_laws.specs.BothEnds.{BothEnds}
use Rattle.liveness_laws.specs.Leading.{AnyPhase, CatchesUp, IsCaughtUp, IsCurrentOrIdle, IsIdle, IsListPhase, LeadsTo, ListsGoOn, RepliesEnd, WatchesCatchUp, WatchesGoOn}
use Rattle.liveness_laws.specs.Listable.{FitsIn, HasRoom, IsListable, OthersLeaveRoom}
use Rattle.world_laws.specs.Moves.{is_current}
use Rattle.liveness_laws.specs.Progress.{ExpiredWatchesAreGivenUp, PastListsAreGivenUp}
use Rattle.reflector.specs.Client.{Cache, Client, SyncPhase, first, next, streaming}
use Rattle.world_laws.specs.Reports.{Report, Runs}
use Rattle.world_laws.specs.Tasks.{IsTask, Task}
use Rattle.world_laws.specs.World.{ClientConnection, World, WorldEvent, cut, start}

-- what is known of each case
pub record Cases : Type 0 where
  pub past : PastListsAreGivenUp
  pub expired : ExpiredWatchesAreGivenUp
  pub lists : ListsGoOn
  pub replies : RepliesEnd
  pub reads : WatchesGoOn
  pub watches : WatchesCatchUp

-- room for requests
has_room : (all : Connections) (n m : ℕ) → m ≤ n → highest (fin.keys all) + n ≤ 18446744073709551615 → open_count all < max_open → HasRoom all m
has_room all n m fewer left free =
    let less : m ≤ n = fewer in
    let ids : highest (fin.keys all) + n ≤ 18446744073709551615 = left in
    record { ids = omega (arith, less, ids); room = free }

module _ (cases : Cases) (both : BothEnds) (types : List ServedShape) (task : Task) (shapes : AreObjectTypes types) (is_task : IsTask types task) (pages : ℕ) where
  -- a world after a run, that has what so many requests and the list's pages need: of the connections that may be open one is left where the client leaves its own
  record Stands (before : List WorldEvent) (w : World) (sends : ℕ) : Type 0 where
    earlier : List Report
    run : Runs task 1 (start types) before w earlier
    held : FitsIn task w.hub.machine pages
    listable : IsListable task w.hub.machine
    ids : highest (fin.keys w.hub.connections) + (sends + pages) ≤ 18446744073709551615
    free : places w < max_open

  -- one is left as it is
  abbrev IsFree : World → Type 0
  IsFree w = open_count w.hub.connections < max_open

  -- from such a world, after these events
  abbrev Leads : List WorldEvent → World → ℕ → (World → Type 0) → Type 0
  Leads before w most Goal = LeadsTo task (suc (length before)) w most Goal

  for_fewer : (before : List WorldEvent) (w : World) (n m : ℕ) → m ≤ n → Stands before w n → Stands before w m
  for_fewer before w n m fewer s =
      let less : m ≤ n = fewer in
      let ids : highest (fin.keys w.hub.connections) + (n + pages) ≤ 18446744073709551615 = s.ids in
      record { earlier = s.earlier; run = s.run; held = s.held; listable = s.listable; ids = omega (arith, less, ids); free = s.free }

  -- ---- behind moves

  run_on : (before : List WorldEvent) (w : World) (earlier : List Report) (most : ℕ) (Goal : World → Type 0) → Runs task 1 (start types) before w earlier → (one : Leads before w most Goal)
      → Runs task 1 (start types) (before ++ one.moves) one.end (earlier ++ one.reports)
  run_on before w earlier most Goal run one =
      let count : number_after 1 before ≡ 1 + length before = number_is 1 before in
      let same : suc (length before) ≡ number_after 1 before = omega (arith, count) in
      runs_then task 1 (start types) w one.end before one.moves earlier one.reports run
      (subst (λ (i : ℕ). Runs task i w one.moves one.end one.reports) same (pursues_run task (suc (length before)) w one.moves one.end one.reports one.pursues))

  module _ (before : List WorldEvent) (w : World) (sends n most : ℕ) (InPhase : SyncPhase → Type 0) (s : Stands before w (sends + n)) (one : Leads before w most (IsCurrentOrIdle sends InPhase w)) where
    stands_then : IsIdle w one.end sends → Stands (before ++ one.moves) one.end n
    stands_then idle =
        let ids : highest (fin.keys w.hub.connections) + (sends + n + pages) ≤ 18446744073709551615 = s.ids in
        let high : highest (fin.keys one.end.hub.connections) ≤ highest (fin.keys w.hub.connections) + sends = idle.ids in
        let free : places w < max_open = s.free in
        let fewer : places one.end ≤ places w = moves_places task (suc (length before)) w one.moves one.end one.reports one.pursues in
        record {
          earlier = s.earlier ++ one.reports;
          run = run_on before w s.earlier most (IsCurrentOrIdle sends InPhase w) s.run one;
          held = subst (λ (m : History). FitsIn task m pages) (sym one.server.0) s.held;
          listable = subst (IsListable task) (sym one.server.0) s.listable;
          ids = omega (arith, ids, high);
          free = omega (arith, free, fewer);
        }

    ended : (rest : ℕ) → is_current one.end ≡ true → Leads before w (most + rest) IsThere
    ended rest there =
        within task (suc (length before)) most (most + rest) w IsThere (omega arith) (ends_with task (suc (length before)) most w (IsCurrentOrIdle sends InPhase w) IsThere one there)

    -- where the client isn't there yet, it goes on from where it is idle
    goes_on : (rest : ℕ)
        → ((after : List WorldEvent) (v : World) → Stands after v n → v.client.is_awaiting_reply ≡ false → InPhase v.client.sync → is_current v ≡ false → Leads after v rest IsThere) → Leads before w (most + rest) IsThere
    goes_on rest later = by_goal one.goal
      where
        then_on : IsIdle w one.end sends → Leads (before ++ one.moves) one.end rest IsThere → Leads before w (most + rest) IsThere
        then_on idle leads =
            let count : length (before ++ one.moves) ≡ length before + length one.moves = length-append before one.moves in
            let same : suc (length (before ++ one.moves)) ≡ suc (length before) + length one.moves = omega (arith, count) in
            leads_then task (suc (length before)) most rest w (IsCurrentOrIdle sends InPhase w) IsThere one idle.others (subst (λ (i : ℕ). LeadsTo task i one.end rest IsThere) same leads)

        by_current : (b : Bool) → is_current one.end ≡ b → IsIdle w one.end sends → InPhase one.end.client.sync → Leads before w (most + rest) IsThere
        by_current true there idle phase = ended rest there
        by_current false behind idle phase = then_on idle (later (before ++ one.moves) one.end (stands_then idle) idle.silent phase behind)

        by_goal : IsCurrentOrIdle sends InPhase w one.end → Leads before w (most + rest) IsThere
        by_goal (inl there) = ended rest there
        by_goal (inr (idle, phase)) = by_current (is_current one.end) refl idle phase

  -- ---- without its connection

  -- a client that awaits no reply leaves its connection with its next request: it comes as far as where it had been cut
  module _ (before : List WorldEvent) (w : World) (n : ℕ) (s : Stands before w n) (silent : w.client.is_awaiting_reply ≡ false) (behind : is_current w ≡ false) where
    few : open_count (alone w).hub.connections < max_open
    few = let free : places w < max_open = s.free in let fewer : open_count (alone w).hub.connections ≤ places w = left_places w.hub.connections w.connection in omega (arith, free, fewer)

    stands_alone : Stands (before ++ cut ∷ []) (alone w) n
    stands_alone =
        let ids : highest (fin.keys w.hub.connections) + (n + pages) ≤ 18446744073709551615 = s.ids in
        let high : highest (fin.keys (alone w).hub.connections) ≤ highest (fin.keys w.hub.connections) = left_highest w.hub.connections w in
        record { earlier = s.earlier ++ []; run = run_alone task types before w s.earlier s.run silent; held = s.held; listable = s.listable; ids = omega (arith, ids, high); free = few }

    leaves : (most : ℕ) → (Stands (before ++ cut ∷ []) (alone w) n → IsFree (alone w) → Leads (before ++ cut ∷ []) (alone w) most IsThere) → Leads before w most IsThere
    leaves most leads =
        let some : 1 ≤ pages = s.held.some in
        let left : highest (fin.keys w.hub.connections) + (n + pages) ≤ 18446744073709551615 = s.ids in
        leads_so task w (n + pages) (omega (arith, some)) left silent behind (suc (length before)) most
        (from_number task (suc (length (before ++ cut ∷ []))) (suc (length before)) most (alone w) IsThere (leads stands_alone few))

  -- ---- where the client awaits no reply

  first_free : (before : List WorldEvent) (w : World) → Stands before w 0 → IsFree w → w.client.is_awaiting_reply ≡ false → w.client.sync ≡ first → is_current w ≡ false → Leads before w (3 * pages) IsThere
  first_free before w s free silent phase behind =
      by_list task (suc (length before)) pages w
      (lists_come both.pages both.lasts types task before w s.earlier pages shapes is_task s.run silent phase behind s.held s.listable (has_room w.hub.connections (0 + pages) pages (omega arith) s.ids free))

  from_first : (before : List WorldEvent) (w : World) → Stands before w 0 → w.client.is_awaiting_reply ≡ false → w.client.sync ≡ first → is_current w ≡ false → Leads before w (3 * pages) IsThere
  from_first before w s silent phase behind = leaves before w 0 s silent behind (3 * pages) (λ stands free. first_free (before ++ cut ∷ []) (alone w) stands free silent phase behind)

  next_free : (before : List WorldEvent) (w : World) (revision : ℕ) (token : List ℕ) (paged : List Stored) → Stands before w 1 → IsFree w → w.client.is_awaiting_reply ≡ false → w.client.sync ≡ next revision token paged → is_current w ≡ false
      → Leads before w (3 + 3 * pages) IsThere
  next_free before w revision token paged s free silent phase behind = go (revision == w.hub.machine.current) refl
    where
      go : (b : Bool) → (revision == w.hub.machine.current) ≡ b → Leads before w (3 + 3 * pages) IsThere
      go false past =
          by_list_anew task (suc (length before)) pages w
          (cases.past types task before w s.earlier pages revision token paged shapes is_task s.run phase past behind s.held s.listable (has_room w.hub.connections (1 + pages) (suc pages) (omega arith) s.ids free))
      go true now =
          within task (suc (length before)) (3 * pages) (3 + 3 * pages) w IsThere (omega arith)
          (by_list task (suc (length before)) pages w
          (cases.lists types task before w s.earlier pages revision token paged shapes is_task s.run silent phase (eqb-true revision w.hub.machine.current now) behind s.held s.listable (has_room w.hub.connections (1 + pages) pages (omega arith) s.ids free)))

  watch_free : (before : List WorldEvent) (w : World) → Stands before w 1 → IsFree w → w.client.is_awaiting_reply ≡ false → w.client.sync ≡ streaming → is_current w ≡ false → Leads before w (8 + 3 * pages) IsThere
  watch_free before w s free silent phase behind = go (nat_lt kept.0.revision w.hub.machine.compacted) refl
    where
      kept : (now : Cache) × (w.client.cache ≡ Some now)
      kept = watches_keep types task before w s.earlier s.run phase

      go : (b : Bool) → nat_lt kept.0.revision w.hub.machine.compacted ≡ b → Leads before w (8 + 3 * pages) IsThere
      go true forgotten =
          within task (suc (length before)) (3 + 3 * pages) (8 + 3 * pages) w IsThere (omega arith)
          (by_list_anew task (suc (length before)) pages w
          (cases.expired types task before w s.earlier pages kept.0 shapes is_task s.run silent phase kept.1 (ltb-true kept.0.revision w.hub.machine.compacted forgotten) s.held s.listable (has_room w.hub.connections (1 + pages) (suc pages) (omega arith) s.ids free)))
      go false known =
          goes_on before w 1 0 8 (λ p. p ≡ first) s
          (cases.watches types task before w s.earlier kept.0 shapes is_task s.run silent phase kept.1 behind (ltb-false kept.0.revision w.hub.machine.compacted known) (has_room w.hub.connections (1 + pages) 1 (omega arith) s.ids free))
          (3 * pages) (λ after v stands. from_first after v stands)

  idle_free : (before : List WorldEvent) (w : World) → Stands before w 1 → IsFree w → w.client.is_awaiting_reply ≡ false → is_current w ≡ false → Leads before w (8 + 3 * pages) IsThere
  idle_free before w s free silent behind = go w.client.sync refl
    where
      go : (phase : SyncPhase) → w.client.sync ≡ phase → Leads before w (8 + 3 * pages) IsThere
      go first is = within task (suc (length before)) (3 * pages) (8 + 3 * pages) w IsThere (omega arith) (first_free before w (for_fewer before w 1 0 (omega arith) s) free silent is behind)
      go (next revision token paged) is = within task (suc (length before)) (3 + 3 * pages) (8 + 3 * pages) w IsThere (omega arith) (next_free before w revision token paged s free silent is behind)
      go streaming is = watch_free before w s free silent is behind

  from_idle : (before : List WorldEvent) (w : World) → Stands before w 1 → w.client.is_awaiting_reply ≡ false → AnyPhase w.client.sync → is_current w ≡ false → Leads before w (8 + 3 * pages) IsThere
  from_idle before w s silent any behind = leaves before w 1 s silent behind (8 + 3 * pages) (λ stands free. idle_free (before ++ cut ∷ []) (alone w) stands free silent behind)

  -- ---- where it awaits one

  -- in a list that is past
  from_past : (before : List WorldEvent) (w : World) (revision : ℕ) (token : List ℕ) (paged : List Stored) → Stands before w 0 → w.client.is_awaiting_reply ≡ true → w.client.sync ≡ next revision token paged
      → (revision == w.hub.machine.current) ≡ false → is_current w ≡ false → Leads before w (1 + 3 * pages) IsThere
  from_past before w revision token paged s awaits phase past behind =
      let connected = awaits_connected types task before w s.earlier s.run awaits in
      let listing : asking w.client.cache (next revision token paged) true w.client.notices ≡ w.client =
      sym (ap (λ (p : SyncPhase). asking w.client.cache p w.client.is_awaiting_reply w.client.notices) phase ∙ ap (λ (b : Bool). asking w.client.cache (next revision token paged) b w.client.notices) awaits) in
      let with_own : Client → Option ClientConnection → World = λ c own. record { hub = w.hub; requested = w.requested; client = c; connection = own } in
      let is_cut : Leads before w 1 (IsCurrentOrIdle 0 (λ p. p ≡ first) w) =
      subst (λ (c : Client). Leads before (with_own c w.connection) 1 (IsCurrentOrIdle 0 (λ p. p ≡ first) (with_own c w.connection))) listing
      (subst (λ (o : Option ClientConnection).
      Leads before (with_own (asking w.client.cache (next revision token paged) true w.client.notices) o) 1 (IsCurrentOrIdle 0 (λ p. p ≡ first) (with_own (asking w.client.cache (next revision token paged) true w.client.notices) o)))
      (sym connected.1) (cut_leads task w.hub w.requested w.client.cache revision token paged w.client.notices connected.0 (suc (length before)) behind past)) in
      goes_on before w 0 0 1 (λ p. p ≡ first) s is_cut (3 * pages) (λ after v stands. from_first after v stands)

  from_awaiting : (before : List WorldEvent) (w : World) → Stands before w 1 → w.client.is_awaiting_reply ≡ true → is_current w ≡ false → Leads before w (8 + (8 + 3 * pages)) IsThere
  from_awaiting before w s awaits behind = by_phase w.client.sync refl
    where
      by_reply : LeadsTo task (suc (length before)) w 2 (IsCurrentOrIdle 0 AnyPhase w) → Leads before w (8 + (8 + 3 * pages)) IsThere
      by_reply one = within task (suc (length before)) (2 + (8 + 3 * pages)) (8 + (8 + 3 * pages)) w IsThere (omega arith) (goes_on before w 0 1 2 AnyPhase s one (8 + 3 * pages) from_idle)

      by_next : (revision : ℕ) (token : List ℕ) (paged : List Stored) → w.client.sync ≡ next revision token paged → (b : Bool) → (revision == w.hub.machine.current) ≡ b → Leads before w (8 + (8 + 3 * pages)) IsThere
      by_next revision token paged is false past =
          within task (suc (length before)) (1 + 3 * pages) (8 + (8 + 3 * pages)) w IsThere (omega arith) (from_past before w revision token paged (for_fewer before w 1 0 (omega arith) s) awaits is past behind)
      by_next revision token paged is true now =
          by_reply (cases.replies types task before w s.earlier shapes is_task s.run awaits (subst (IsListPhase w.hub.machine.current) (sym is) (eqb-true revision w.hub.machine.current now)) behind)

      by_phase : (phase : SyncPhase) → w.client.sync ≡ phase → Leads before w (8 + (8 + 3 * pages)) IsThere
      by_phase first is = by_reply (cases.replies types task before w s.earlier shapes is_task s.run awaits (subst (IsListPhase w.hub.machine.current) (sym is) refl) behind)
      by_phase (next revision token paged) is = by_next revision token paged is (revision == w.hub.machine.current) refl
      by_phase streaming is = goes_on before w 0 1 8 AnyPhase s (cases.reads types task before w s.earlier shapes is_task s.run awaits is behind) (8 + 3 * pages) from_idle

  -- ---- all of it

  leads_there : (before : List WorldEvent) (w : World) → Stands before w 1 → Leads before w (20 + 3 * pages) IsThere
  leads_there before w s = by_current (is_current w) refl
    where
      by_awaiting : (b : Bool) → w.client.is_awaiting_reply ≡ b → is_current w ≡ false → Leads before w (20 + 3 * pages) IsThere
      by_awaiting true awaits behind = within task (suc (length before)) (8 + (8 + 3 * pages)) (20 + 3 * pages) w IsThere (omega arith) (from_awaiting before w s awaits behind)
      by_awaiting false silent behind = within task (suc (length before)) (8 + 3 * pages) (20 + 3 * pages) w IsThere (omega arith) (from_idle before w s silent refl behind)

      by_current : (b : Bool) → is_current w ≡ b → Leads before w (20 + 3 * pages) IsThere
      by_current true there = is_there task (suc (length before)) (20 + 3 * pages) w there
      by_current false behind = by_awaiting w.client.is_awaiting_reply refl behind

  pub leads_from : (before : List WorldEvent) (w : World) (earlier : List Report) → Runs task 1 (start types) before w earlier → FitsIn task w.hub.machine pages → IsListable task w.hub.machine → OthersLeaveRoom w (3 + pages)
      → Leads before w (20 + 3 * pages) (IsCaughtUp task)
  leads_from before w earlier run held listable room =
      let ids : highest (fin.keys w.hub.connections) + (3 + pages) ≤ 18446744073709551615 = room.ids in
      with_objects (leads_there before w (record { earlier = earlier; run = run; held = held; listable = listable; ids = omega (arith, ids); free = room.room }))
    where
      with_objects : Leads before w (20 + 3 * pages) IsThere → Leads before w (20 + 3 * pages) (IsCaughtUp task)
      with_objects one =
          ends_with task (suc (length before)) (20 + 3 * pages) w IsThere (IsCaughtUp task) one
          (caught_up both.headline types task (before ++ one.moves) one.end (earlier ++ one.reports) shapes is_task (run_on before w earlier (20 + 3 * pages) IsThere run one) one.goal)

pub catches_so : Cases → BothEnds → CatchesUp
catches_so cases both types task before w earlier pages shapes is run held listable room = leads_from cases both types task shapes is pages before w earlier run held listable room
