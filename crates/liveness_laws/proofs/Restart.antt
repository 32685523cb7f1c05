-- A client that begins anew: it leaves its connection, keeps nothing, asks for the first page, and the list comes.
use Rattle.std.proofs.Common.{◌≡◌, ℕ, zero, suc, ◌+◌, ◌*◌, ◌<◌, ◌≤◌, Bool, true, false, List, [], ◌∷◌, ◌++◌, length, Option, Some, None, refl, sym, ap, subst, ◌∙◌, arith, le_refl, suc-mul}
use Rattle.std.specs.FinMap as fin
use Rattle.history.specs.History.{History, Key}
use Rattle.indexer.specs.Objects.{Stored}
use Rattle.httpedge.proofs.NextIds.{above_all, below_all}
use Rattle.httpedge.specs.Connections.{Connections, highest, is_new, max_open, open_count}
use Rattle.httpedge.specs.Steps as edge
use Rattle.line_laws.specs.Listed.{AreReadAs}
use Rattle.liveness_laws.proofs.Exchange.{asking, leaves_so}
use Rattle.liveness_laws.proofs.Hub.{left_by, left_count, left_new}
use Rattle.liveness_laws.proofs.Rounds.{Entries, IsBefore, PageComes, left_stays, list_comes, room_for}
use Rattle.liveness_laws.specs.Listable.{FitsIn, HasRoom, listed_now}
use Rattle.world_laws.specs.Moves.{Pursues, is_at}
use Rattle.liveness_laws.specs.Progress.{ReportComes, RevisionComes}
use Rattle.reflector.specs.Client.{Cache, Client, Notice, SyncPhase, first, fresh}
use Rattle.reflector.specs.Run.{ascends_within_limit}
use Rattle.world_laws.specs.Reports.{Report, Runs, reports_between}
use Rattle.world_laws.specs.Tasks.{Task, wanted_by}
use Rattle.world_laws.specs.World.{ClientConnection, Steps, World, WorldEvent, restart}

-- ---- a schedule is a run

pub pursues_run : (task : Task) (i : ℕ) (w : World) (es : List WorldEvent) (v : World) (reports : List Report) → Pursues task i w es v reports → Runs task i w es v reports
pursues_run task i w [] v reports is = is
pursues_run task i w (e ∷ es) v reports (mid, others, is_next, steps, pursues, are) = (mid, others, steps, pursues_run task (suc i) mid es v others pursues, are)

-- ---- numbers

-- what a client leaves makes no id higher
pub left_highest : (all : Connections) (w : World) → highest (fin.keys (left_by all w.connection)) ≤ highest (fin.keys all)
left_highest all w =
    let id : ℕ = highest (fin.keys all) + 1 in
    let new : is_new (left_by all w.connection) id ≡ true = left_new all w.connection id ∙ above_all (fin.keys all) id (omega arith) in
    let low : highest (fin.keys (left_by all w.connection)) < id = below_all (fin.keys (left_by all w.connection)) id (omega arith) new in
    omega (arith, low)

pub room_is : (n size : ℕ) → n * size ≡ room_for n size
room_is zero size = omega arith
room_is (suc n) size = suc-mul n size ∙ (let rest : n * size ≡ room_for n size = room_is n size in omega (arith, rest))

-- ---- the restart

nothing_reported : (event : ℕ) (m : History) (cache : Option Cache) → reports_between event m cache None ≡ []
nothing_reported event m None = refl
nothing_reported event m (Some now) = refl

module _ (task : Task) (w : World) where
  abbrev pub begun : World
  begun = record { hub = edge.with_connections w.hub (left_by w.hub.connections w.connection); requested = w.requested; client = fresh; connection = None }

  pub restarts : Steps task w restart begun
  restarts = (begun, leaves_so w.hub w.requested fresh w.connection, refl)

  pub begins : (i : ℕ) (es : List WorldEvent) (v : World) (reports : List Report) → Runs task (suc i) begun es v reports → Runs task i w (restart ∷ es) v reports
  begins i es v reports runs = (begun, reports, restarts, runs, ap (λ (l : List Report). l ++ reports) (sym (nothing_reported i w.hub.machine w.client.cache)))

  abbrev entries : Entries
  entries = fin.entries (listed_now task w.hub.machine)

  -- the client has room for the list, the server answers each request for a page by the page, and there are pages for all
  pub record IsReady (pages : ℕ) : Type 0 where
    pub some : 0 < task.settings.page
    pub fits : (prefix rest : Entries) (xs : List Stored) → entries ≡ prefix ++ rest → AreReadAs (wanted_by task) prefix xs → ascends_within_limit xs ≡ true
    pub comes : (after : Option Key) (before : Entries) → IsBefore task w.hub after before → PageComes task w.hub after
    pub held : FitsIn task w.hub.machine pages
    pub room : HasRoom w.hub.connections pages

  -- from the first page on
  list_from : (i pages : ℕ) (all : Connections) (cache : Option Cache) (notices : List Notice) (own : Option ClientConnection) → IsReady pages → is_at w.hub.machine.current cache ≡ false
      → highest (fin.keys all) ≤ highest (fin.keys w.hub.connections) → open_count all ≤ open_count w.hub.connections
      → RevisionComes task i (record { hub = edge.with_connections w.hub all; requested = w.requested; client = asking cache first false notices; connection = own }) pages
  list_from i pages all cache notices own ready behind high fewer =
      let ids : highest (fin.keys w.hub.connections) + pages ≤ 18446744073709551615 = ready.room.ids in
      let few : open_count w.hub.connections < max_open = ready.room.room in
      let hold : fin.len (listed_now task w.hub.machine) ≤ pages * task.settings.page = ready.held.hold in
      let many : fin.len (listed_now task w.hub.machine) ≡ length entries = fin.len-entries (listed_now task w.hub.machine) in
      let rooms : pages * task.settings.page ≡ room_for pages task.settings.page = room_is pages task.settings.page in
      list_comes task w.hub ready.some ready.fits ready.comes pages i all w.requested cache first notices own (record {
        behind = behind;
        after = None;
        before = [];
        paged = [];
        asks = (refl, refl);
        is_before = refl;
        read = tt;
        some = ready.held.some;
        left = omega (arith, hold, many, rooms);
        ids = omega (arith, high, ids);
        room = omega (arith, fewer, few);
      })

  -- after a restart
  pub report_comes : (i pages : ℕ) → IsReady pages → ReportComes task i w pages
  report_comes i pages ready =
      let left : Connections = left_by w.hub.connections w.connection in
      let list : RevisionComes task (suc i) begun pages = list_from (suc i) pages left None [] None ready refl (left_highest w.hub.connections w) (left_count w.hub.connections w.connection) in
      let number : suc list.last ≡ suc i + length list.moves = list.is_last in
      let last : list.last ≡ i + length list.moves = omega (arith, number) in
      let pursues : Pursues task (suc i) begun list.moves list.end (record { event = i + length list.moves; machine = w.hub.machine; now = list.now } ∷ []) =
      subst (λ (n : ℕ). Pursues task (suc i) begun list.moves list.end (record { event = n; machine = w.hub.machine; now = list.now } ∷ [])) last list.pursues in
      record {
        begun = begun;
        restarts = restarts;
        comes = list;
        runs = begins i list.moves list.end _ (pursues_run task (suc i) begun list.moves list.end _ pursues);
        is_current = list.is_current;
        machine = list.machine;
        types = list.types;
        tick = list.tick;
        others = λ q c got isnt. list.others q c (left_stays task w.hub w.hub.connections w.connection q isnt ∙ got) refl;
      }

  -- without one
  pub revision_comes : (i pages : ℕ) → w.client.is_awaiting_reply ≡ false → w.client.sync ≡ first → is_at w.hub.machine.current w.client.cache ≡ false → IsReady pages → RevisionComes task i w pages
  revision_comes i pages silent begins_anew behind ready =
      let same : asking w.client.cache first false w.client.notices ≡ w.client =
      sym (ap (λ (b : Bool). asking w.client.cache first b w.client.notices) silent) ∙ sym (ap (λ (s : SyncPhase). asking w.client.cache s w.client.is_awaiting_reply w.client.notices) begins_anew) in
      subst (λ (c : Client). RevisionComes task i (record { hub = w.hub; requested = w.requested; client = c; connection = w.connection }) pages) same
      (list_from i pages w.hub.connections w.client.cache w.client.notices w.connection ready behind (le_refl (highest (fin.keys w.hub.connections))) (le_refl (open_count w.hub.connections)))
