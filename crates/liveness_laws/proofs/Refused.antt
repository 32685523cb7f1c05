-- A client that asks for a watch and is refused it asks for the first page next: three moves.
use Rattle.std.proofs.Common.{◌≡◌, inl, inr, ℕ, suc, ◌+◌, ◌≤◌, ◌==◌, Bool, true, false, cond, List, [], ◌∷◌, length, take, Option, Some, refl, sym, ap, subst, ◌∙◌, arith, ne_eqb}
use Rattle.std.specs.FinMap as fin
use Rattle.std.specs.Prelude.{nat_le}
use Rattle.api_request.specs.Reasons.{code_of}
use Rattle.requests.specs.Asks.{Asks}
use Rattle.requests.specs.Refusals.{as_denied, head_too_large, refuse}
use Rattle.httpedge.specs.Connections.{Connection, Connections, ended, highest, new_connection, next_id, open_count, with_written}
use Rattle.httpedge.specs.Steps as edge
use Rattle.decoder.specs.Wanted.{Wanted}
use Rattle.reflector.specs.Client.{Cache, Client, Notice, first, streaming}
use Rattle.reflector.specs.Items as items
use Rattle.reflector.specs.Run.{closed, receives_all, taken, with_watch}
use Rattle.wireclient.specs.Reads.{max_body}
use Rattle.wireclient.specs.Reply.{ReplyItem, end, head, malformed, whole}
use Rattle.wire_laws.proofs.AnyLengths.{IsSentOf}
use Rattle.liveness_laws.proofs.Exchange.{asking, pursued, unreported}
use Rattle.liveness_laws.proofs.Hub.{closed_count, highest_after, left_by, left_count, next_is}
use Rattle.liveness_laws.proofs.ListAnswers.{IsRepliedTo, denied}
use Rattle.liveness_laws.proofs.Restart.{pursues_run}
use Rattle.liveness_laws.proofs.Rounds.{new_is_other, stays}
use Rattle.liveness_laws.specs.Leading.{IsCurrentOrIdle, LeadsTo, OthersRemain}
use Rattle.liveness_laws.specs.Listable.{HasRoom, watch_request}
use Rattle.liveness_laws.specs.Progress.{ComesAnew, OthersStay, RevisionComes}
use Rattle.liveness_laws.specs.Telling.{Tells}
use Rattle.world_laws.proofs.Laws.{Laws}
use Rattle.world_laws.specs.Moves.{Pursues, is_at}
use Rattle.world_laws.specs.Reports.{Report, reports_between}
use Rattle.world_laws.specs.Tasks.{Task, wanted_by}
use Rattle.world_laws.specs.World.{ClientConnection, World, WorldEvent, send, to_client, to_server}

-- ---- the client

-- where it awaits nothing it takes nothing
idle_all : (wanted : Wanted) (cache : Option Cache) (xs : List ReplyItem) → receives_all wanted (asking cache first false []) xs ≡ asking cache first false []
idle_all wanted cache [] = refl
idle_all wanted cache (x ∷ xs) = idle_all wanted cache xs

-- of another answer than 200 it takes nothing, and asks for the first page next
refused_by : (wanted : Wanted) (now : Cache) (code : ℕ) (xs : List ReplyItem) → (code == 200) ≡ false → receives_all wanted (asking (Some now) streaming true []) (head code ∷ xs) ≡ asking (Some now) first false []
refused_by wanted now code xs other =
    let c : Client = asking (Some now) streaming true [] in
    ap (λ (b : Bool). receives_all wanted (with_watch c (Some now) (cond b items.begun items.unexpected)) xs) other ∙ idle_all wanted (Some now) xs

pub relists : (wanted : Wanted) (now : Cache) (code : ℕ) (body : List ℕ) (xs : List ReplyItem) → (code == 200) ≡ false → IsSentOf code body xs → receives_all wanted (asking (Some now) streaming true []) xs ≡ asking (Some now) first false []
relists wanted now code body xs other (inl is) = ap (receives_all wanted (asking (Some now) streaming true [])) is ∙ by_length (nat_le (length body) max_body)
  where
    by_length : (b : Bool) → receives_all wanted (asking (Some now) streaming true []) (cond b (head code ∷ whole body ∷ end ∷ []) (malformed ∷ [])) ≡ asking (Some now) first false []
    by_length true = refused_by wanted now code (whole body ∷ end ∷ []) other
    by_length false = refl
relists wanted now code body xs other (inr (k, less, is)) = ap (receives_all wanted (asking (Some now) streaming true [])) is ∙ refused_by wanted now code (whole (take k body) ∷ end ∷ []) other

-- ---- the reply

-- the request for a watch is replied to, and of the reply the client takes no watch
pub record IsRefused (task : Task) (s : edge.State) (now : Cache) : Type 0 where
  pub reply : IsRepliedTo s new_connection (watch_request task now.revision)
  pub gives_up : receives_all (wanted_by task) (asking (Some now) streaming true []) reply.items ≡ asking (Some now) first false []

-- so it is where the request is too long
pub too_long : Laws → (task : Task) (s : edge.State) (now : Cache) → Asks s.types (watch_request task now.revision) (refuse head_too_large) → IsRefused task s now
too_long laws task s now long = record {
  reply = denied laws s new_connection (watch_request task now.revision) long;
  gives_up = refused_by (wanted_by task) now (code_of (as_denied head_too_large).reason) (laws.asked s.types (watch_request task now.revision) (as_denied head_too_large) long).0 refl;
}

-- ---- the exchange

module _ (task : Task) (s : edge.State) (requested : List ℕ) (now : Cache) (notices : List Notice) (own : Option ClientConnection) (sends i : ℕ) (some : 1 ≤ sends) (room : HasRoom s.connections sends)
    (behind : is_at s.machine.current (Some now) ≡ false) (refused : IsRefused task s now) where
  abbrev watches : World
  watches = record { hub = s; requested = requested; client = asking (Some now) streaming false notices; connection = own }

  abbrev all : Connections
  all = s.connections

  abbrev id : ℕ
  id = highest (fin.keys all) + 1

  is_next : next_id all ≡ Some id
  is_next = next_is all sends room.ids some

  abbrev reply : IsRepliedTo s new_connection (watch_request task now.revision)
  reply = refused.reply

  abbrev replied : Connection
  replied = with_written new_connection (reply.b ∷ reply.bs) ended

  abbrev moves : List WorldEvent
  moves = send ∷ to_server (length (watch_request task now.revision)) ∷ to_client (length (reply.b ∷ reply.bs)) ∷ []

  abbrev own_after : ClientConnection
  own_after = record { id = id; unsent = []; handed = 0 + length (reply.b ∷ reply.bs) }

  abbrev led : Client → World
  led c = record { hub = edge.with_connections s (fin.insert (left_by all own) id replied); requested = requested; client = taken (closed c); connection = Some own_after }

  -- where the client asks for the first page next
  abbrev pub mid : World
  mid = led (asking (Some now) first false [])

  abbrev Went : Client → Type 0
  Went c = Pursues task i watches moves (led c) (reports_between (suc (suc i)) s.machine (Some now) (closed c).cache)

  went : Went (receives_all (wanted_by task) (asking (Some now) streaming true []) reply.items)
  went = pursued task s requested (Some now) streaming notices own id is_next room.room behind refl reply.b reply.bs reply.decided reply.asks reply.answers reply.still reply.items reply.reads i

  refuses : Pursues task i watches moves mid []
  refuses = subst (λ (l : List Report). Pursues task i watches moves mid l) (unreported (suc (suc i)) s.machine (Some now)) (subst Went refused.gives_up went)

  -- ---- what it leaves

  pub high : highest (fin.keys mid.hub.connections) ≤ highest (fin.keys all) + 1
  high = highest_after all own replied

  pub few : open_count mid.hub.connections ≤ open_count all
  few =
      let closed_so : open_count (fin.insert (left_by all own) id replied) ≤ open_count (left_by all own) = closed_count (left_by all own) id replied refl in
      let fewer : open_count (left_by all own) ≤ open_count all = left_count all own in
      omega (arith, closed_so, fewer)

  others_stay : OthersStay watches mid
  others_stay q c got isnt = stays task s all own id q c replied is_next got isnt

  others_remain : OthersRemain watches mid
  others_remain q c got isnt = ne_eqb id q (λ same. new_is_other task s all id q c is_next got (sym same))

  is_idle : IsCurrentOrIdle 1 (λ phase. phase ≡ first) watches mid
  is_idle =
      let higher : highest (fin.keys mid.hub.connections) ≤ highest (fin.keys all) + 1 = high in
      let fewer : open_count mid.hub.connections ≤ open_count all = few in
      inr (record { silent = refl; ids = omega (arith, higher); room = omega (arith, fewer); others = others_remain }, refl)

  -- ---- as the laws say it

  pub leads_first : LeadsTo task i watches 3 (IsCurrentOrIdle 1 (λ phase. phase ≡ first) watches)
  leads_first = record {
    moves = moves;
    end = mid;
    reports = [];
    pursues = refuses;
    bound = omega arith;
    server = (refl, refl, refl);
    others = λ q c got isnt. (0, others_stay q c got isnt);
    goal = is_idle;
  }

  pub tells_first : (max most : ℕ) → 3 ≤ most → Tells task i watches max most (IsCurrentOrIdle 1 (λ phase. phase ≡ first) watches)
  tells_first max most enough = record {
    events = moves;
    end = mid;
    reports = [];
    runs = pursues_run task i watches moves mid [] refuses;
    each = refl;
    bound = omega (arith, enough);
    server = (refl, refl, refl);
    others = λ q c got isnt. (0, others_stay q c got isnt);
    goal = is_idle;
  }

  pub comes_anew : (pages : ℕ) → RevisionComes task (suc (suc (suc i))) mid pages → ComesAnew task i watches pages
  comes_anew pages list = record {
    given_up = moves;
    mid = mid;
    gives_up = refuses;
    few = omega arith;
    number = suc (suc (suc i));
    is_number = omega arith;
    comes = list;
    kept = refl;
    machine = list.machine;
    types = list.types;
    tick = list.tick;
    others = λ q c got isnt. list.others q c (others_stay q c got isnt) (others_remain q c got isnt);
  }
