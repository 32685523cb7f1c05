-- A client that is to watch from a revision that is forgotten: the server answers 410, or 431 to a request that is too long, and the client asks for the first page.
use Rattle.std.proofs.Common.{◌≡◌, ◌∙◌, inl, inr, ℕ, suc, ◌+◌, ◌<◌, ◌≤◌, ◌==◌, Bool, false, List, [], ◌∷◌, drop, length, Option, Some, None, refl, sym, ap, subst, arith, ne_eqb}
use Rattle.std.specs.FinMap as fin
use Rattle.history.specs.History.{History, last_revision}
use Rattle.lists.specs.declared.refusal.Refusal.TheVariants.{Expired}
use Rattle.api_request.specs.Calls.{Answer, Call, Plan, at_tick}
use Rattle.verbs.specs.Machine as machines
use Rattle.verbs.specs.Step.{list_refusal, planned, refused}
use Rattle.requests.specs.Asks.{Asks}
use Rattle.requests.specs.Decision.{accepted}
use Rattle.requests.specs.Replies.{answer_bytes, answer_reply}
use Rattle.httpedge.specs.Connections.{highest, max_open, new_connection, open_count, with_written}
use Rattle.httpedge.specs.Steps as edge
use Rattle.reflector.specs.Client.{Cache, Client, Notice, SyncPhase, streaming}
use Rattle.wireclient.specs.Reads.{Items}
use Rattle.wireclient.specs.Reply.{ReplyItem}
use Rattle.wireclient.proofs.ReadBack.{length_reads, reply_read as reply_read_back}
use Rattle.wireclient.proofs.TooLong.{no_length, unframed_read}
use Rattle.wire_laws.proofs.AnyLengths.{IsSentOf, any_reply_read}
use Rattle.wire_laws.proofs.Listings.{watch_expired, watches_at}
use Rattle.wire_laws.proofs.Written.{status_is}
use Rattle.liveness_laws.proofs.Exchange.{asking}
use Rattle.liveness_laws.proofs.Reaching.{IsAfterRun, after_run, ready}
use Rattle.liveness_laws.proofs.Refused.{IsRefused, comes_anew, few, high, mid, relists, too_long}
use Rattle.liveness_laws.proofs.Restart.{revision_comes}
use Rattle.liveness_laws.specs.BothEnds.{BothEnds}
use Rattle.liveness_laws.specs.Listable.{FitsIn, HasRoom, IsListable, watch_request}
use Rattle.liveness_laws.specs.Progress.{ComesAnew, ExpiredWatchesAreGivenUp, RevisionComes}
use Rattle.world_laws.proofs.Asking.{asks_watch}
use Rattle.world_laws.proofs.Passes.{AsksFor, IsWatchCall, task_watch, watch_values}
use Rattle.world_laws.specs.Reports.{AreRight, IsKeptRight, Report, last_reported}
use Rattle.world_laws.specs.Tasks.{Task, wanted_by, with_shape}
use Rattle.world_laws.specs.World.{ClientConnection, World}

-- ---- what it keeps

rises : (task : Task) (lo : ℕ) (reports : List Report) → AreRight task lo reports → lo ≤ last_reported lo reports
rises task lo [] right = omega arith
rises task lo (r ∷ rs) right =
    let low : lo ≤ r.now.revision = right.0.low in
    let rest : r.now.revision ≤ last_reported r.now.revision rs = rises task r.now.revision rs right.1 in
    omega (arith, low, rest)

-- a revision that is kept isn't 0
begun : (task : Task) (reports : List Report) (m : History) (cache : Option Cache) (now : Cache) → AreRight task 1 reports → IsKeptRight task (last_reported 1 reports) m cache → cache ≡ Some now → 1 ≤ now.revision
begun task reports m cache now right kept is =
    let held : IsKeptRight task (last_reported 1 reports) m (Some now) = subst (IsKeptRight task (last_reported 1 reports) m) is kept in
    let low : last_reported 1 reports ≤ now.revision = held.low in
    let some : 1 ≤ last_reported 1 reports = rises task 1 reports right in
    omega (arith, low, some)

-- ---- the answer

module _ (task : Task) (s : edge.State) (now : Cache) (some : 1 ≤ now.revision) (past : now.revision < s.machine.compacted) (call : Call) (asks : Asks s.types (watch_request task now.revision) (accepted call))
    (task_now : Task) (such : IsWatchCall s.types task_now now.revision call) where
  abbrev answer : Answer
  answer = (planned s.types s.machine (at_tick s.last_tick call)).answer

  plan_is : planned s.types s.machine (at_tick s.last_tick call) ≡ refused (list_refusal (Expired now.revision s.machine.compacted))
  plan_is = watch_expired s.types s.machine (at_tick s.last_tick call) task_now.t task_now.settings.kind task_now.settings.namespace (watch_values task_now now.revision) task_watch now.revision
      (watches_at s.last_tick such) some past

  read : (xs : List ReplyItem) × Items (answer_reply answer) xs × IsSentOf answer.status answer.body xs
  read = any_reply_read (record { reply = reply_read_back; counted = length_reads; none = unframed_read; uncounted = no_length }) answer.status None answer.body (status_is s.types s.machine (at_tick s.last_tick call)) (tt {0})

  other : (answer.status == 200) ≡ false
  other = ap (λ (p : Plan). p.answer.status == 200) plan_is

  forgotten : IsRefused task s now
  forgotten = record {
    reply = record {
      decided = accepted call;
      asks = asks;
      b = 72;
      bs = drop 1 (answer_reply answer);
      answers = ap (λ watch. with_written new_connection (answer_bytes answer watch) (edge.answer_phase s.last_tick watch)) (ap (λ (p : Plan). p.answer.watch) plan_is);
      still = ap (λ (p : Plan). machines.after s.machine p.changes) plan_is;
      items = read.0;
      reads = read.1;
    };
    gives_up = relists (wanted_by task) now answer.status answer.body read.0 other read.2;
  }

-- ---- the exchange

module _ (both : BothEnds) (task : Task) (s : edge.State) (requested : List ℕ) (now : Cache) (notices : List Notice) (own : Option ClientConnection) (pages i : ℕ) (after : IsAfterRun task (record { hub = s; requested = requested; client = asking (Some now) streaming false notices; connection = own }))
    (begins : 1 ≤ now.revision) (past : now.revision < s.machine.compacted)
    (held : FitsIn task s.machine pages) (listable : IsListable task s.machine) (room : HasRoom s.connections (suc pages)) where
  abbrev watches : World
  watches = record { hub = s; requested = requested; client = asking (Some now) streaming false notices; connection = own }

  low : s.machine.compacted ≤ s.machine.current
  low = after.machine.whole.low

  come : now.revision ≤ last_revision
  come = let least : s.machine.compacted ≤ s.machine.current = low in let most : s.machine.current ≤ last_revision = after.machine.whole.high in omega (arith, past, least, most)

  behind : (now.revision == s.machine.current) ≡ false
  behind = let least : s.machine.compacted ≤ s.machine.current = low in ne_eqb now.revision s.machine.current (λ same. omega (arith, past, least, same))

  abbrev task_now : Task
  task_now = with_shape task after.still.0

  is_refused : IsRefused task s now
  is_refused = by_asked (asks_watch s.types task_now now.revision after.still.1 come)
    where
      by_asked : AsksFor s.types (watch_request task now.revision) (IsWatchCall s.types task_now now.revision) → IsRefused task s now
      by_asked (inl long) = too_long both.bytes task s now long
      by_asked (inr (call, asks, such)) = forgotten task s now begins past call asks task_now such

  some : 1 ≤ suc pages
  some = omega arith

  abbrev anew : World
  anew = mid task s requested now notices own (suc pages) i some room behind is_refused

  watch_given_up : ComesAnew task i watches pages
  watch_given_up =
      let ids : highest (fin.keys s.connections) + suc pages ≤ 18446744073709551615 = room.ids in
      let free : open_count s.connections < max_open = room.room in
      let higher : highest (fin.keys anew.hub.connections) ≤ highest (fin.keys s.connections) + 1 = high task s requested now notices own (suc pages) i some room behind is_refused in
      let fewer : open_count anew.hub.connections ≤ open_count s.connections = few task s requested now notices own (suc pages) i some room behind is_refused in
      let has : HasRoom anew.hub.connections pages = record { ids = omega (arith, ids, higher); room = omega (arith, free, fewer) } in
      let list : RevisionComes task (suc (suc (suc i))) anew pages =
      revision_comes task anew (suc (suc (suc i))) pages refl refl behind (ready both.pages task anew pages (record { machine = after.machine; still = after.still }) held listable has) in
      comes_anew task s requested now notices own (suc pages) i some room behind is_refused pages list

pub watches_given_up : BothEnds → ExpiredWatchesAreGivenUp
watches_given_up both types task before w earlier pages now shapes is run silent asks cached past held listable room =
    let right = both.headline types task before w earlier shapes is run in
    let same : asking (Some now) streaming false w.client.notices ≡ w.client =
    sym (ap (λ (o : Option Cache). asking o w.client.sync w.client.is_awaiting_reply w.client.notices) cached
    ∙ ap (λ (p : SyncPhase). asking (Some now) p w.client.is_awaiting_reply w.client.notices) asks ∙ ap (λ (b : Bool). asking (Some now) streaming b w.client.notices) silent) in
    let after = after_run both.lasts types task before w earlier shapes is run in
    subst (λ (c : Client). ComesAnew task (suc (length before)) (record { hub = w.hub; requested = w.requested; client = c; connection = w.connection }) pages) same
    (watch_given_up both task w.hub w.requested now w.client.notices w.connection pages (suc (length before)) (record { machine = after.machine; still = after.still }) (begun task earlier w.hub.machine w.client.cache now right.0 right.1 cached) past held listable room)
