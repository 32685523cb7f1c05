-- A client between two pages of the list that stands now: it goes on behind what it has set aside.
use Rattle.std.proofs.Common.{◌≡◌, ◌∙◌, ℕ, suc, ◌+◌, ◌*◌, ◌≤◌, Bool, false, List, [], length, Some, refl, sym, ap, subst, arith, length-append}
use Rattle.std.specs.FinMap as fin
use Rattle.history.specs.Seen.{past}
use Rattle.params.specs.Texts.{token_text}
use Rattle.lists.specs.Body.{continued_at}
use Rattle.indexer.specs.Objects.{Place, Stored}
use Rattle.reflector.specs.Client.{Client, SyncPhase, next}
use Rattle.reflector.specs.FollowsLaws.{Follows, IsPart, IsSyncSound}
use Rattle.liveness_laws.proofs.AfterRun.{IsKnown, known_after}
use Rattle.liveness_laws.proofs.Exchange.{asking}
use Rattle.liveness_laws.proofs.Reaching.{ready}
use Rattle.liveness_laws.proofs.Restart.{IsReady, room_is}
use Rattle.liveness_laws.proofs.Rounds.{Entries, IsPaging, list_comes, room_for}
use Rattle.liveness_laws.specs.BothEnds.{PagesAreAnswered}
use Rattle.liveness_laws.specs.Leading.{ListsGoOn}
use Rattle.liveness_laws.specs.Listable.{listed_now}
use Rattle.world_laws.specs.Moves.{is_at}
use Rattle.liveness_laws.specs.Progress.{RevisionComes}
use Rattle.world_laws.proofs.Laws.{Laws}
use Rattle.world_laws.proofs.Mirror.{server_of}
use Rattle.world_laws.proofs.Mirrored.{AreRead}
use Rattle.world_laws.proofs.Parts.{KeepsPaged, part_is_prefix}
use Rattle.world_laws.proofs.RunInvariant.{Goes}
use Rattle.world_laws.proofs.TaskObjects.{selected_read}
use Rattle.world_laws.specs.Tasks.{Task, selected_at, wanted_by, with_shape}
use Rattle.world_laws.specs.World.{World}

module _ (task : Task) (w : World) (i pages : ℕ) (token : List ℕ) (paged : List Stored) (ready : IsReady task w pages) (behind : is_at w.hub.machine.current w.client.cache ≡ false)
    (so_far : KeepsPaged (wanted_by task) (listed_now task w.hub.machine) w.hub.machine.current paged token) where
  abbrev current : ℕ
  current = w.hub.machine.current

  abbrev entries : Entries
  entries = fin.entries (listed_now task w.hub.machine)

  -- the token names the last key of what was read
  token_so : token ≡ continued_at current so_far.last
  token_so = so_far.token_is ∙ ap (λ (p : Place). token_text (record { revision = current; namespace = p.0; name = p.1 })) so_far.same_place

  fewer : length (past so_far.last entries) ≤ room_for pages task.settings.page
  fewer =
      let hold : fin.len (listed_now task w.hub.machine) ≤ pages * task.settings.page = ready.held.hold in
      let many : fin.len (listed_now task w.hub.machine) ≡ length entries = fin.len-entries (listed_now task w.hub.machine) in
      let rooms : pages * task.settings.page ≡ room_for pages task.settings.page = room_is pages task.settings.page in
      let parted : length entries ≡ length so_far.prefix + length so_far.is.rest = ap length so_far.is.is ∙ length-append so_far.prefix so_far.is.rest in
      let rest : length (past so_far.last entries) ≡ length so_far.is.rest = ap length so_far.is.left in
      omega (arith, hold, many, rooms, parted, rest)

  is_paging : (revision : ℕ) → revision ≡ current → IsPaging task w.hub pages w.hub.connections w.client.cache (next revision token paged)
  is_paging revision same =
      record {
        behind = behind;
        after = Some so_far.last;
        before = so_far.prefix;
        paged = paged;
        asks = (so_far.last, refl, same, token_so, refl);
        is_before = (so_far.is, so_far.is_last);
        read = so_far.read;
        some = ready.held.some;
        left = fewer;
        ids = ready.room.ids;
        room = ready.room.room;
      }

  goes_on : (revision : ℕ) → revision ≡ current
      → RevisionComes task i (record { hub = w.hub; requested = w.requested; client = asking w.client.cache (next revision token paged) false w.client.notices; connection = w.connection }) pages
  goes_on revision same =
      list_comes task w.hub ready.some ready.fits ready.comes pages i w.hub.connections w.requested w.client.cache (next revision token paged) w.client.notices w.connection (is_paging revision same)

  -- a client that asks so
  pub list_goes_on : (revision : ℕ) → revision ≡ current → w.client.is_awaiting_reply ≡ false → w.client.sync ≡ next revision token paged → RevisionComes task i w pages
  list_goes_on revision same silent asks =
      let is : asking w.client.cache (next revision token paged) false w.client.notices ≡ w.client =
      sym (ap (λ (b : Bool). asking w.client.cache (next revision token paged) b w.client.notices) silent) ∙ sym (ap (λ (s : SyncPhase). asking w.client.cache s w.client.is_awaiting_reply w.client.notices) asks) in
      subst (λ (c : Client). RevisionComes task i (record { hub = w.hub; requested = w.requested; client = c; connection = w.connection }) pages) is (goes_on revision same)

-- ---- what the client has set aside

module _ (task : Task) (w : World) (known : IsKnown task w) (revision : ℕ) (token : List ℕ) (paged : List Stored) where
  follows : w.client.is_awaiting_reply ≡ false → Follows (server_of task w.hub.machine) (wanted_by task) known.highest w.client [] 0
  follows silent = subst (λ (b : Bool). Goes task w.hub.machine known.highest w.client b w.connection w.hub.connections) silent known.follows.goes

  part : w.client.is_awaiting_reply ≡ false → w.client.sync ≡ next revision token paged → IsPart (server_of task w.hub.machine) revision paged (Some token)
  part silent asks = (subst (λ (s : SyncPhase). IsSyncSound (server_of task w.hub.machine) known.highest s w.client.cache) asks (follows silent).sync).2

  read : AreRead (wanted_by task) task.settings.kind (selected_at task w.hub.machine revision)
  read = selected_read w.hub.types (with_shape task known.follows.task_is.0) known.follows.task_is.1 w.hub.machine known.follows.machine revision

  pub set_aside : revision ≡ w.hub.machine.current → w.client.is_awaiting_reply ≡ false → w.client.sync ≡ next revision token paged
      → KeepsPaged (wanted_by task) (listed_now task w.hub.machine) w.hub.machine.current paged token
  set_aside same silent asks =
      subst (λ (r : ℕ). KeepsPaged (wanted_by task) (selected_at task w.hub.machine r) r paged token) same
      (part_is_prefix task w.hub.machine task.settings.kind revision read paged token (part silent asks))

pub lists_go_on : PagesAreAnswered → Laws → ListsGoOn
lists_go_on laws facts types task before w earlier pages revision token paged shapes is run silent asks same behind held listable room =
    let known = known_after facts task types before w earlier shapes is run in
    list_goes_on task w (suc (length before)) pages token paged
    (ready laws task w pages (record { machine = known.follows.machine; still = known.follows.task_is }) held listable room) behind
    (set_aside task w known revision token paged same silent asks) revision same silent asks
