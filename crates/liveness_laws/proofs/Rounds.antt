-- The list comes page by page: behind each page fewer objects are left.
use Rattle.std.proofs.Common.{◌≡◌, ◌≢◌, ℕ, zero, suc, ◌+◌, ◌*◌, ◌<◌, ◌≤◌, Bool, true, false, cond, ◌==◌, not, List, [], ◌∷◌, ◌++◌, length, take, Option, Some, None, option_map, refl, sym, ap, subst, ◌∙◌, arith, append_assoc, length-append, length-take-le, eq-eqb, ne_eqb, true≢false}
use Rattle.std.proofs.lemmas.Bool.{ltb-true}
use Rattle.std.specs.FinMap as fin
use Rattle.std.specs.Prelude.{nat_lt}
use Rattle.history.specs.History.{Key, Object}
use Rattle.history.specs.Seen.{IsPrefix, last_key, left_after, limited, next_of, past}
use Rattle.history.proofs.Paging.{first_page, next_page}
use Rattle.indexer.specs.Objects.{Stored, place_cmp}
use Rattle.lists.specs.Body.{continued_at}
use Rattle.decoder.specs.Wanted.{Wanted}
use Rattle.requests.specs.Asks.{Asks, CallDecision}
use Rattle.httpedge.proofs.Connected.{unknown}
use Rattle.httpedge.proofs.NextIds.{next_is_new}
use Rattle.httpedge.proofs.Staying.{put_elsewhere}
use Rattle.httpedge.specs.Connections.{Connection, Connections, ended, highest, max_open, next_id, open_count, new_connection, with_written}
use Rattle.httpedge.specs.Steps as edge
use Rattle.line_laws.specs.Listed.{AreReadAs, IsReadAsPage, page_with}
use Rattle.liveness_laws.proofs.Client.{GoesFrom, page_received}
use Rattle.liveness_laws.proofs.Exchange.{asking, pursued, unreported}
use Rattle.liveness_laws.proofs.Hub.{closed_count, highest_after, left_by, left_count, left_elsewhere, next_is}
use Rattle.liveness_laws.specs.Listable.{list_request, listed_now}
use Rattle.world_laws.specs.Moves.{Pursues, is_at, is_old}
use Rattle.liveness_laws.specs.Progress.{RevisionComes, is_own}
use Rattle.reflector.specs.Client as client
use Rattle.reflector.specs.Client.{Cache, Client, Notice, SyncPhase, first, streaming, next}
use Rattle.reflector.specs.Requests.{request_of}
use Rattle.reflector.specs.Run.{closed, ascends_within_limit, keep_paged, receives_all, taken}
use Rattle.wireclient.specs.Reads.{Items}
use Rattle.wireclient.specs.Reply.{ReplyItem, end, head, whole}
use Rattle.world_laws.specs.Reports.{Report, reports_between}
use Rattle.world_laws.specs.Tasks.{Task, client_settings, wanted_by}
use Rattle.world_laws.specs.World.{ClientConnection, World, WorldEvent, send, to_client, to_server}

abbrev pub Entries : Type 0
Entries = List (Key × Object)

-- ---- lists

last_of_both : (k : Key) (xs ys : Entries) → last_key ys ≡ Some k → last_key (xs ++ ys) ≡ Some k
last_of_both k [] ys is = is
last_of_both k (x ∷ []) [] is = absurd cc
last_of_both k (x ∷ []) (y ∷ ys) is = is
last_of_both k (x ∷ z ∷ xs) ys is = last_of_both k (z ∷ xs) ys is

-- where a page names a next one, more is left than it holds, and it names its last
next_is_last : (size : ℕ) (left : Entries) (k : Key) → next_of size left ≡ Some k → (size < length left) × (last_key (take size left) ≡ Some k)
next_is_last size left k is = go (nat_lt size (length left)) refl is
  where
    go : (b : Bool) → nat_lt size (length left) ≡ b → cond b (last_key (take size left)) None ≡ Some k → (size < length left) × (last_key (take size left) ≡ Some k)
    go true more is = (ltb-true size (length left) more, is)
    go false more is = absurd cc

read_both : (wanted : Wanted) (es fs : Entries) (xs ys : List Stored) → AreReadAs wanted es xs → AreReadAs wanted fs ys → AreReadAs wanted (es ++ fs) (xs ++ ys)
read_both wanted [] fs [] ys one other = other
read_both wanted [] fs (x ∷ xs) ys one other = absurd one
read_both wanted (e ∷ es) fs [] ys one other = absurd one
read_both wanted (e ∷ es) fs (x ∷ xs) ys one other = (one.0, read_both wanted es fs xs ys one.1 other)

-- so many pages have room for so many objects
abbrev pub room_for : ℕ → ℕ → ℕ
room_for zero size = 0
room_for (suc n) size = size + room_for n size

-- ---- events in turn

abbrev pub number_after : ℕ → List WorldEvent → ℕ
number_after i [] = i
number_after i (e ∷ es) = number_after (suc i) es

pub pursues_then : (task : Task) (i : ℕ) (w mid v : World) (es fs : List WorldEvent) (reports others : List Report) → Pursues task i w es mid reports → Pursues task (number_after i es) mid fs v others
    → Pursues task i w (es ++ fs) v (reports ++ others)
pursues_then task i w mid v [] fs reports others (same, none) more =
    subst (λ (x : World). Pursues task i x fs v (reports ++ others)) same (subst (λ (l : List Report). Pursues task i mid fs v (l ++ others)) (sym none) more)
pursues_then task i w mid v (e ∷ es) fs reports others (one, rest, is_next, steps, pursues, are) more = (
  one,
  rest ++ others,
  is_next,
  steps,
  pursues_then task (suc i) one mid v es fs rest others pursues more,
  ap (λ (l : List Report). l ++ others) are ∙ append_assoc _ rest others,
)

-- ---- the list of a machine

module _ (task : Task) (h : edge.State) where
  abbrev wanted : Wanted
  wanted = wanted_by task

  abbrev size : ℕ
  size = task.settings.page

  abbrev current : ℕ
  current = h.machine.current

  abbrev entries : Entries
  entries = fin.entries (listed_now task h.machine)

  -- these entries come before the page behind a key
  abbrev pub IsBefore : Option Key → Entries → Type 0
  IsBefore None before = before ≡ []
  IsBefore (Some k) before = IsPrefix entries before (Some k) × (last_key before ≡ Some k)

  -- the server answers the request for the page behind the key by the page, and the client reads it
  pub record PageComes (after : Option Key) : Type 0 where
    pub decided : CallDecision
    pub b : ℕ
    pub bs : List ℕ
    pub text : List ℕ
    pub asks : Asks h.types (list_request task (option_map (continued_at current) after)) decided
    pub answers : edge.connection_after h.types h.machine h.last_tick new_connection (list_request task (option_map (continued_at current) after)) decided ≡ with_written new_connection (b ∷ bs) ended
    pub still : edge.machine_after h.types h.machine h.last_tick decided ≡ h.machine
    pub reads : Items (b ∷ bs) (head 200 ∷ whole text ∷ end ∷ [])
    pub page : IsReadAsPage wanted text current (limited (Some size) (left_after after entries))

  -- the client asks for the page behind the key, and has set these objects aside
  abbrev pub AsksBehind : SyncPhase → Option Key → List Stored → Type 0
  AsksBehind first after paged = (after ≡ None) × (paged ≡ [])
  AsksBehind (next r token others) after paged = (k : Key) × (after ≡ Some k) × (r ≡ current) × (token ≡ continued_at current k) × (others ≡ paged)
  AsksBehind streaming after paged = ⊥

  -- ---- the request

  request_is : (sync : SyncPhase) (cache : Option Cache) (notices : List Notice) (after : Option Key) (paged : List Stored) → AsksBehind sync after paged
      → request_of (client_settings task) (asking cache sync false notices) ≡ list_request task (option_map (continued_at current) after)
  request_is first cache notices after paged behind = sym (ap (λ (o : Option Key). list_request task (option_map (continued_at current) o)) behind.0)
  request_is (next r token others) cache notices after paged (k, is, same, token_is, all) =
      ap (λ (t : List ℕ). list_request task (Some t)) token_is ∙ sym (ap (λ (o : Option Key). list_request task (option_map (continued_at current) o)) is)
  request_is streaming cache notices after paged behind = absurd behind

  goes_from : (sync : SyncPhase) (after : Option Key) (paged : List Stored) → AsksBehind sync after paged → GoesFrom current sync paged
  goes_from first after paged behind = behind.1
  goes_from (next r token others) after paged (k, is, same, token_is, all) = (same, all)
  goes_from streaming after paged behind = absurd behind

  -- it is in no list of a past revision
  recent : (sync : SyncPhase) (after : Option Key) (paged : List Stored) → AsksBehind sync after paged → is_old current sync ≡ false
  recent first after paged behind = refl
  recent (next r token others) after paged (k, is, same, token_is, all) = ap not (eq-eqb r current same)
  recent streaming after paged behind = refl

  -- ---- what is left

  -- what comes before and what is left make the list
  before_and_left : (after : Option Key) (before : Entries) → IsBefore after before → entries ≡ before ++ left_after after entries
  before_and_left None before is = sym (ap (λ (l : Entries). l ++ entries) is)
  before_and_left (Some k) before is = is.0.is ∙ ap (λ (l : Entries). before ++ l) (sym is.0.left)

  page_is_prefix : (after : Option Key) (before : Entries) → 0 < size → IsBefore after before → IsPrefix entries (before ++ take size (left_after after entries)) (next_of size (left_after after entries))
  page_is_prefix None before some is =
      subst (λ (l : Entries). IsPrefix entries (l ++ take size entries) (next_of size entries)) (sym is) (first_page size (listed_now task h.machine) some)
  page_is_prefix (Some k) before some is = next_page size (listed_now task h.machine) before k some is.0

  -- ---- the others

  apart_by : (q id : ℕ) → (id == q) ≡ false → q ≢ id
  apart_by q id isnt same = true≢false (sym (eq-eqb id q (sym same)) ∙ isnt)

  pub left_stays : (all : Connections) (own : Option ClientConnection) (q : ℕ) → is_own own q ≡ false → fin.get (left_by all own) q ≡ fin.get all q
  left_stays all None q isnt = refl
  left_stays all (Some own) q isnt = left_elsewhere all own q (apart_by q own.id isnt)

  pub new_is_other : (all : Connections) (id q : ℕ) (c : Connection) → next_id all ≡ Some id → fin.get all q ≡ Some c → q ≢ id
  new_is_other all id q c is got same =
      let none : Some c ≡ None = unknown all id (Some c) (ap (fin.get all) (sym same) ∙ got) (next_is_new all id is) in
      absurd cc

  pub stays : (all : Connections) (own : Option ClientConnection) (id q : ℕ) (c d : Connection) → next_id all ≡ Some id → fin.get all q ≡ Some c → is_own own q ≡ false → fin.get (fin.insert (left_by all own) id d) q ≡ Some c
  stays all own id q c d is got isnt = put_elsewhere (left_by all own) id q d (new_is_other all id q c is got) ∙ left_stays all own q isnt ∙ got

  -- ---- the pages, one after the other

  abbrev at : Connections → List ℕ → Client → Option ClientConnection → World
  at all requested c own = record { hub = edge.with_connections h all; requested = requested; client = c; connection = own }

  -- the client has set some objects aside, asks for the page behind them, and the others fit into so many pages
  pub record IsPaging (pages : ℕ) (all : Connections) (cache : Option Cache) (sync : SyncPhase) : Type 0 where
    pub behind : is_at current cache ≡ false
    pub after : Option Key
    pub before : Entries
    pub paged : List Stored
    pub asks : AsksBehind sync after paged
    pub is_before : IsBefore after before
    pub read : AreReadAs wanted before paged
    pub some : 1 ≤ pages
    pub left : length (left_after after entries) ≤ room_for pages size
    pub ids : highest (fin.keys all) + pages ≤ 18446744073709551615
    pub room : open_count all < max_open

  -- from each such world on the list comes
  abbrev pub Comes : ℕ → Type 0
  Comes pages =
      (i : ℕ) (all : Connections) (requested : List ℕ) (cache : Option Cache) (sync : SyncPhase) (notices : List Notice) (own : Option ClientConnection)
      → IsPaging pages all cache sync → RevisionComes task i (at all requested (asking cache sync false notices) own) pages

  -- more is left, so there are pages for it
  some_pages : (n left : ℕ) → 1 ≤ left → left ≤ room_for n size → 1 ≤ n
  some_pages zero left more fit = absurd (omega (arith, more, fit))
  some_pages (suc n) left more fit = omega arith

  module _ (some : 0 < size) (fits : (prefix rest : Entries) (xs : List Stored) → entries ≡ prefix ++ rest → AreReadAs wanted prefix xs → ascends_within_limit xs ≡ true)
      (comes : (after : Option Key) (before : Entries) → IsBefore after before → PageComes after) where
    module _ (n : ℕ) (later : Comes n) (i : ℕ) (all : Connections) (requested : List ℕ) (cache : Option Cache) (sync : SyncPhase) (notices : List Notice) (own : Option ClientConnection)
        (is : IsPaging (suc n) all cache sync) where
      abbrev w : World
      w = at all requested (asking cache sync false notices) own

      abbrev id : ℕ
      id = highest (fin.keys all) + 1

      is_next : next_id all ≡ Some id
      is_next = let ids : highest (fin.keys all) + suc n ≤ 18446744073709551615 = is.ids in next_is all (suc n) ids (omega arith)

      abbrev page : PageComes is.after
      page = comes is.after is.before is.is_before

      abbrev bytes : List ℕ
      bytes = request_of (client_settings task) (asking cache sync false notices)

      same : bytes ≡ list_request task (option_map (continued_at current) is.after)
      same = request_is sync cache notices is.after is.paged is.asks

      abbrev left : Entries
      left = left_after is.after entries

      abbrev objects : List Stored
      objects = is.paged ++ page.page.0

      abbrev replied : Connection
      replied = with_written new_connection (page.b ∷ page.bs) ended

      abbrev own_after : ClientConnection
      own_after = record { id = id; unsent = []; handed = 0 + length (page.b ∷ page.bs) }

      abbrev all_after : Connections
      all_after = fin.insert (left_by all own) id replied

      abbrev moves : List WorldEvent
      moves = send ∷ to_server (length bytes) ∷ to_client (length (page.b ∷ page.bs)) ∷ []

      abbrev answer : List ReplyItem
      answer = head 200 ∷ whole page.text ∷ end ∷ []

      abbrev awaits : Client
      awaits = asking cache sync true []

      -- the client as it reads the answer
      abbrev Went : Client → Type 0
      Went c = Pursues task i w moves (at all_after requested (taken (closed c)) (Some own_after)) (reports_between (suc (suc i)) h.machine cache (closed c).cache)

      exchanged : Went (receives_all wanted awaits answer)
      exchanged =
          pursued task (edge.with_connections h all) requested cache sync notices own id is_next is.room is.behind (recent sync is.after is.paged is.asks) page.b page.bs page.decided
          (subst (λ (l : List ℕ). Asks h.types l page.decided) (sym same) page.asks)
          (subst (λ (l : List ℕ). edge.connection_after h.types h.machine h.last_tick new_connection l page.decided ≡ replied) (sym same) page.answers)
          page.still answer page.reads i

      prefix : IsPrefix entries (is.before ++ take size left) (next_of size left)
      prefix = page_is_prefix is.after is.before some is.is_before

      read : AreReadAs wanted (is.before ++ take size left) objects
      read = read_both wanted is.before (take size left) is.paged page.page.0 is.read page.page.2

      went : Went (keep_paged awaits current objects (option_map (continued_at current) (next_of size left)))
      went = subst Went
          (page_received wanted cache [] sync current is.paged page.text (page_with current (next_of size left) page.page.0) (goes_from sync is.after is.paged is.asks) page.page.1 refl
          (fits (is.before ++ take size left) prefix.rest objects prefix.is read))
          exchanged

      others_stay : (q : ℕ) (c : Connection) → fin.get all q ≡ Some c → is_own own q ≡ false → fin.get all_after q ≡ Some c
      others_stay q c got isnt = stays all own id q c replied is_next got isnt

      -- the last page

      ended_so : next_of size left ≡ None → RevisionComes task i w (suc n)
      ended_so none =
          let now : Cache = record { revision = current; objects = fin.from_sorted {R = place_cmp} (client.by_place objects) } in
          record {
            moves = moves;
            end = at all_after requested (taken (closed (keep_paged awaits current objects None))) (Some own_after);
            now = now;
            last = suc (suc i);
            is_last = omega arith;
            pursues = subst (λ (o : Option Key). Went (keep_paged awaits current objects (option_map (continued_at current) o))) none went;
            kept = refl;
            is_current = refl;
            transfers = refl;
            bound = omega arith;
            machine = refl;
            types = refl;
            tick = refl;
            others = others_stay;
          }

      -- another page follows

      module _ (k : Key) (more : next_of size left ≡ Some k) where
        last : (size < length left) × (last_key (take size left) ≡ Some k)
        last = next_is_last size left k more

        prefix_k : IsPrefix entries (is.before ++ take size left) (Some k)
        prefix_k = subst (IsPrefix entries (is.before ++ take size left)) more prefix

        rest_is : length (past k entries) + size ≡ length left
        rest_is =
            let before : length entries ≡ length is.before + length left = ap length (before_and_left is.after is.before is.is_before) ∙ length-append is.before left in
            let parted : length entries ≡ length (is.before ++ take size left) + length prefix_k.rest = ap length prefix_k.is ∙ length-append (is.before ++ take size left) prefix_k.rest in
            let first : length (is.before ++ take size left) ≡ length is.before + length (take size left) = length-append is.before (take size left) in
            let low : size < length left = last.0 in
            let whole : length (take size left) ≡ size = length-take-le size left (omega (arith, low)) in
            let rest : length (past k entries) ≡ length prefix_k.rest = ap length prefix_k.left in
            omega (arith, before, parted, first, whole, rest)

        behind_it : IsPaging n all_after cache (next current (continued_at current k) objects)
        behind_it =
            let low : size < length left = last.0 in
            let lengths : length (past k entries) + size ≡ length left = rest_is in
            let fit : length left ≤ size + room_for n size = is.left in
            let fewer : length (past k entries) ≤ room_for n size = omega (arith, lengths, fit) in
            let high : highest (fin.keys all_after) ≤ highest (fin.keys all) + 1 = highest_after all own replied in
            let ids : highest (fin.keys all) + suc n ≤ 18446744073709551615 = is.ids in
            let closed : open_count all_after ≤ open_count (left_by all own) = closed_count (left_by all own) id replied refl in
            let gone : open_count (left_by all own) ≤ open_count all = left_count all own in
            let room : open_count all < max_open = is.room in
            record {
              behind = is.behind;
              after = Some k;
              before = is.before ++ take size left;
              paged = objects;
              asks = (k, refl, refl, refl, refl);
              is_before = (prefix_k, last_of_both k is.before (take size left) last.1);
              read = read;
              some = some_pages n (length (past k entries)) (omega (arith, low, lengths)) fewer;
              left = fewer;
              ids = omega (arith, high, ids);
              room = omega (arith, closed, gone, room);
            }

        more_so : RevisionComes task i w (suc n)
        more_so =
            let rest : RevisionComes task (suc (suc (suc i))) (at all_after requested (asking cache (next current (continued_at current k) objects) false []) (Some own_after)) n =
            later (suc (suc (suc i))) all_after requested cache (next current (continued_at current k) objects) [] (Some own_after) behind_it in
            let went_on : Went (keep_paged awaits current objects (Some (continued_at current k))) =
            subst (λ (o : Option Key). Went (keep_paged awaits current objects (option_map (continued_at current) o))) more went in
            let few : length rest.moves ≤ 3 * n = rest.bound in
            let number : suc rest.last ≡ suc (suc (suc i)) + length rest.moves = rest.is_last in
            record {
              moves = moves ++ rest.moves;
              end = rest.end;
              now = rest.now;
              last = rest.last;
              is_last = omega (arith, number);
              pursues = pursues_then task i w (at all_after requested (asking cache (next current (continued_at current k) objects) false []) (Some own_after)) rest.end moves rest.moves []
                  (reports_between rest.last h.machine cache (Some rest.now))
                  (subst (λ (l : List Report). Pursues task i w moves (at all_after requested (asking cache (next current (continued_at current k) objects) false []) (Some own_after)) l) (unreported (suc (suc i)) h.machine cache) went_on)
                  rest.pursues;
              kept = rest.kept;
              is_current = rest.is_current;
              transfers = rest.transfers;
              bound = omega (arith, few);
              machine = rest.machine;
              types = rest.types;
              tick = rest.tick;
              others = λ q c got isnt. rest.others q c (others_stay q c got isnt) (is_new_own q c got);
            }
          where
            is_new_own : (q : ℕ) (c : Connection) → fin.get all q ≡ Some c → (id == q) ≡ false
            is_new_own q c got = ne_eqb id q (λ same. new_is_other all id q c is_next got (sym same))

      turn : RevisionComes task i w (suc n)
      turn = by_next (next_of size left) refl
        where
          by_next : (o : Option Key) → next_of size left ≡ o → RevisionComes task i w (suc n)
          by_next None none = ended_so none
          by_next (Some k) more = more_so k more

    pub list_comes : (pages : ℕ) → Comes pages
    list_comes zero i all requested cache sync notices own is = let some : 1 ≤ 0 = is.some in absurd (omega (arith, some))
    list_comes (suc n) i all requested cache sync notices own is = turn n (list_comes n) i all requested cache sync notices own is
