-- A client in the middle of a list that is past: it is cut, and asks for the first page of the one that stands now.
use Rattle.std.proofs.Common.{◌≡◌, ◌∙◌, inr, ℕ, suc, ◌+◌, ◌<◌, ◌≤◌, ◌==◌, not, Bool, true, false, cond, List, [], ◌∷◌, ◌++◌, length, Option, Some, None, refl, sym, ap, subst, arith}
use Rattle.std.specs.FinMap as fin
use Rattle.indexer.specs.Objects.{Stored}
use Rattle.httpedge.proofs.Connected.{put_again, put_there}
use Rattle.httpedge.specs.Connections.{Connection, Connections, gone, has_ended, highest, max_open, new_connection, next_id, open_count, with_phase}
use Rattle.httpedge.specs.Steps as edge
use Rattle.liveness_laws.proofs.Connected.{awaits_connected}
use Rattle.liveness_laws.proofs.Exchange.{asking, leaves_so, sends, sent, unreported}
use Rattle.liveness_laws.proofs.Hub.{closed_count, gone_by, highest_after, left_by, left_count, left_elsewhere, next_is}
use Rattle.liveness_laws.proofs.Reaching.{IsAfterRun, after_run, ready}
use Rattle.liveness_laws.proofs.Restart.{left_highest, revision_comes}
use Rattle.liveness_laws.proofs.Rounds.{left_stays, new_is_other, stays}
use Rattle.liveness_laws.specs.BothEnds.{Lasts, PagesAreAnswered}
use Rattle.liveness_laws.specs.Leading.{IsCurrentOrIdle, LeadsTo}
use Rattle.liveness_laws.specs.Listable.{FitsIn, HasRoom, IsListable}
use Rattle.world_laws.specs.Moves.{Pursues, is_at, move_on, next_move}
use Rattle.liveness_laws.specs.Progress.{ComesAnew, PastListsAreGivenUp, RevisionComes}
use Rattle.reflector.specs.Client.{Cache, Notice, SyncPhase, first, next}
use Rattle.reflector.specs.Requests.{request_of}
use Rattle.world_laws.specs.Reports.{Report}
use Rattle.world_laws.specs.Tasks.{Task, client_settings}
use Rattle.world_laws.specs.World.{ClientConnection, Steps, World, cut, send}

-- ---- the cut

module _ (task : Task) (s : edge.State) (requested : List ℕ) (cache : Option Cache) (revision : ℕ) (token : List ℕ) (paged : List Stored) (notices : List Notice) (own : ClientConnection) where
  -- the client awaits a page of the list
  abbrev pub listing : World
  listing = record { hub = s; requested = requested; client = asking cache (next revision token paged) true notices; connection = Some own }

  abbrev pub anew : World
  anew = record { hub = edge.with_connections s (left_by s.connections (Some own)); requested = requested; client = asking cache first false []; connection = None }

  pub cuts : Steps task listing cut anew
  cuts = (record anew { client = asking cache first false notices }, leaves_so s requested (asking cache first false notices) (Some own), refl)

  pub cut_is_next : is_at s.machine.current cache ≡ false → (revision == s.machine.current) ≡ false → next_move listing ≡ Some cut
  cut_is_next behind past =
      ap (λ (b : Bool). cond b None (Some (cond (not (revision == s.machine.current)) cut (move_on listing own)))) behind ∙ ap (λ (b : Bool). Some (cond (not b) cut (move_on listing own))) past

  -- nothing is reported by it
  pub cut_pursues : (i : ℕ) → is_at s.machine.current cache ≡ false → (revision == s.machine.current) ≡ false → Pursues task i listing (cut ∷ []) anew []
  cut_pursues i behind past = (anew, [], cut_is_next behind past, cuts, (refl, refl), sym (ap (λ (l : List Report). l ++ []) (unreported i s.machine cache)))

  -- and the client asks for the first page next
  pub cut_leads : (i : ℕ) → is_at s.machine.current cache ≡ false → (revision == s.machine.current) ≡ false → LeadsTo task i listing 1 (IsCurrentOrIdle 0 (λ phase. phase ≡ first) listing)
  cut_leads i behind past =
      let high : highest (fin.keys (left_by s.connections (Some own))) ≤ highest (fin.keys s.connections) = left_highest s.connections listing in
      let few : open_count (left_by s.connections (Some own)) ≤ open_count s.connections = left_count s.connections (Some own) in
      record {
        moves = cut ∷ [];
        end = anew;
        reports = [];
        pursues = cut_pursues i behind past;
        bound = omega arith;
        server = (refl, refl, refl);
        others = λ q c got isnt. (0, left_stays task s s.connections (Some own) q isnt ∙ got);
        goal = inr (record { silent = refl; ids = omega (arith, high); room = omega (arith, few); others = λ q c got isnt. refl }, refl);
      }

-- ---- the list that comes behind it

module _ (laws : PagesAreAnswered) (task : Task) (s : edge.State) (requested : List ℕ) (cache : Option Cache) (after : (c : Connections) → IsAfterRun task (record { hub = edge.with_connections s c; requested = requested; client = asking cache first false []; connection = None }))
    (pages : ℕ) (behind : is_at s.machine.current cache ≡ false) (held : FitsIn task s.machine pages) (listable : IsListable task s.machine) where
  abbrev from : Connections → World
  from c = record { hub = edge.with_connections s c; requested = requested; client = asking cache first false []; connection = None }

  pub comes_from : (i : ℕ) (c : Connections) → HasRoom c pages → RevisionComes task i (from c) pages
  comes_from i c room = revision_comes task (from c) i pages refl refl behind (ready laws task (from c) pages (after c) held listable room)

-- ---- both

module _ (laws : PagesAreAnswered) (task : Task) (w : World) (revision : ℕ) (token : List ℕ) (paged : List Stored) (pages i : ℕ) (after : IsAfterRun task w) (old : w.client.sync ≡ next revision token paged)
    (past : (revision == w.hub.machine.current) ≡ false) (behind : is_at w.hub.machine.current w.client.cache ≡ false)
    (held : FitsIn task w.hub.machine pages) (listable : IsListable task w.hub.machine) (room : HasRoom w.hub.connections (suc pages)) where
  abbrev s : edge.State
  s = w.hub

  abbrev cache : Option Cache
  cache = w.client.cache

  abbrev all : Connections
  all = w.hub.connections

  abbrev Given : World → Type 0
  Given x = ComesAnew task i x pages

  -- the client as it is
  abbrev with_reply : Bool → Option ClientConnection → World
  with_reply awaits own = record { hub = w.hub; requested = w.requested; client = asking cache (next revision token paged) awaits w.client.notices; connection = own }

  later : (n : ℕ) (c : Connections) → HasRoom c pages → RevisionComes task n (record { hub = edge.with_connections s c; requested = w.requested; client = asking cache first false []; connection = None }) pages
  later n c has = comes_from laws task s w.requested cache (λ x. record { machine = after.machine; still = after.still }) pages behind held listable n c has

  -- it awaits a page
  awaiting : (own : ClientConnection) → Given (with_reply true (Some own))
  awaiting own =
      let ids : highest (fin.keys all) + suc pages ≤ 18446744073709551615 = room.ids in
      let few : open_count all < max_open = room.room in
      let high : highest (fin.keys (left_by all (Some own))) ≤ highest (fin.keys all) = left_highest all (with_reply true (Some own)) in
      let fewer : open_count (left_by all (Some own)) ≤ open_count all = left_count all (Some own) in
      let list = later (suc i) (left_by all (Some own)) (record { ids = omega (arith, ids, high); room = omega (arith, few, fewer) }) in
      record {
        given_up = cut ∷ [];
        mid = anew task s w.requested cache revision token paged w.client.notices own;
        gives_up = cut_pursues task s w.requested cache revision token paged w.client.notices own i behind past;
        few = omega arith;
        number = suc i;
        is_number = omega arith;
        comes = list;
        kept = refl;
        machine = list.machine;
        types = list.types;
        tick = list.tick;
        others = λ q c got isnt. list.others q c (left_stays task s all (Some own) q isnt ∙ got) refl;
      }

  -- it asks for a page, and is cut then
  module _ (own : Option ClientConnection) where
    abbrev id : ℕ
    id = highest (fin.keys all) + 1

    is_next : next_id all ≡ Some id
    is_next = next_is all (suc pages) room.ids (omega arith)

    abbrev left : Connections
    left = left_by all own

    abbrev opened : Connections
    opened = fin.insert left id new_connection

    abbrev asks : World
    asks = sent task s w.requested cache (next revision token paged) w.client.notices own id is_next room.room

    abbrev first_own : ClientConnection
    first_own = record { id = id; unsent = request_of (client_settings task) (asking cache (next revision token paged) false w.client.notices); handed = 0 }

    abbrev closed_again : Connections
    closed_again = left_by opened (Some first_own)

    send_is_next : next_move (with_reply false own) ≡ Some send
    send_is_next = ap (λ (b : Bool). cond b None (Some send)) behind

    -- the connection that is cut is open no more
    few_open : open_count closed_again ≤ open_count all
    few_open =
        let over : Connection = with_phase new_connection (gone (has_ended new_connection.phase)) in
        let is : closed_again ≡ fin.insert left id over = ap (gone_by opened id) (put_there left id new_connection) ∙ put_again left id new_connection over in
        let low : open_count (fin.insert left id over) ≤ open_count left = closed_count left id over refl in
        let fewer : open_count left ≤ open_count all = left_count all own in
        let same : open_count closed_again ≡ open_count (fin.insert left id over) = ap open_count is in
        omega (arith, low, fewer, same)

    silent : Given (with_reply false own)
    silent =
        let ids : highest (fin.keys all) + suc pages ≤ 18446744073709551615 = room.ids in
        let few : open_count all < max_open = room.room in
        let high : highest (fin.keys closed_again) ≤ highest (fin.keys opened) = left_highest opened asks in
        let higher : highest (fin.keys opened) ≤ highest (fin.keys all) + 1 = highest_after all own new_connection in
        let fewer : open_count closed_again ≤ open_count all = few_open in
        let list = later (suc (suc i)) closed_again (record { ids = omega (arith, ids, high, higher); room = omega (arith, few, fewer) }) in
        record {
          given_up = send ∷ cut ∷ [];
          mid = anew task (edge.with_connections s opened) w.requested cache revision token paged [] first_own;
          gives_up = (
            asks,
            [],
            send_is_next,
            sends task s w.requested cache (next revision token paged) w.client.notices own id is_next room.room,
            cut_pursues task (edge.with_connections s opened) w.requested cache revision token paged [] first_own (suc i) behind past,
            sym (ap (λ (l : List Report). l ++ []) (unreported i s.machine cache)),
          );
          few = omega arith;
          number = suc (suc i);
          is_number = omega arith;
          comes = list;
          kept = refl;
          machine = list.machine;
          types = list.types;
          tick = list.tick;
          others = λ q c got isnt.
              list.others q c (left_elsewhere opened first_own q (new_is_other task s all id q c is_next got) ∙ stays task s all own id q c new_connection is_next got isnt) refl;
        }

  pub given_up : (w.client.is_awaiting_reply ≡ true → (own : ClientConnection) × (w.connection ≡ Some own)) → Given w
  given_up connected =
      subst (λ (x : SyncPhase). Given (record { hub = w.hub; requested = w.requested; client = asking cache x w.client.is_awaiting_reply w.client.notices; connection = w.connection })) (sym old) (go w.client.is_awaiting_reply refl)
    where
      by_own : (awaits : Bool) → w.client.is_awaiting_reply ≡ awaits → Given (with_reply awaits w.connection)
      by_own false is = silent w.connection
      by_own true is = let has = connected is in subst (λ (o : Option ClientConnection). Given (with_reply true o)) (sym has.1) (awaiting has.0)

      go : (awaits : Bool) → w.client.is_awaiting_reply ≡ awaits → Given (with_reply w.client.is_awaiting_reply w.connection)
      go awaits is = subst (λ (b : Bool). Given (with_reply b w.connection)) (sym is) (by_own awaits is)

pub lists_given_up : PagesAreAnswered → Lasts → PastListsAreGivenUp
lists_given_up laws lasts types task before w earlier pages revision token paged shapes is run old past behind held listable room =
    given_up laws task w revision token paged pages (suc (length before)) (after_run lasts types task before w earlier shapes is run) old past behind held listable room (awaits_connected types task before w earlier run)
