-- A client that has read all that a watch wrote so far, before and after a turn of the watch.
use Rattle.std.proofs.Common.{◌≡◌, ◌⊎◌, ◌∙◌, inl, inr, ℕ, suc, ◌+◌, ◌-◌, ◌*◌, ◌<◌, ◌≤◌, ◌&&◌, ◌==◌, Bool, true, false, cond, List, [], ◌∷◌, ◌++◌, length, map, take, Option, Some, Ok, refl, sym, ap, ap₂, subst, arith, append-nil, append_assoc, flat_map, le_refl, length-append, ltb-false, ltb-true, take_all, true≢false}
use Rattle.std.proofs.lemmas.Bool.{eq-eqb, le-ltb, lt-ltb}
use Rattle.std.proofs.lemmas.Grind.{flat_map-append}
use Rattle.std.proofs.lemmas.List.{map-append, take-append-le}
use Rattle.std.proofs.lemmas.List.Elements.{All-append, All-cons, All-nil, All-weaker}
use Rattle.std.specs.FinMap as fin
use Rattle.std.specs.List.{All, AllByRecursion}
use Rattle.std.specs.Prelude.{decimal, nat_le, nat_lt, slice_get}
use Rattle.serde_json.specs.Data.{Data}
use Rattle.serde_json.specs.Written.{compact_text}
use Rattle.schema.specs.Shape.{Shape}
use Rattle.api_types.specs.TypesFile.{ServedShape}
use Rattle.api_validation.specs.Envelope.{api_version_of}
use Rattle.history.specs.History.{History, IsHistory, Key, Object, last_revision}
use Rattle.history.specs.Seen.{SeenChange, Selection, reached, seen_changes}
use Rattle.history.proofs.Following.{IsPrefixSeen, prefix_seen}
use Rattle.history.proofs.Wholes.{whole_is}
use Rattle.selector.specs.Requirement.{Requirement}
use Rattle.lists.specs.Labels.{selection_of}
use Rattle.decoder.specs.Lines as reads
use Rattle.decoder.specs.Lines.{line_in}
use Rattle.verbs.specs.Machine.{IsMachine}
use Rattle.verbs.specs.Watching.{bookmarked_as, bookmarked_in}
use Rattle.watchline.specs.Lines.{added, bookmark_value, line_of}
use Rattle.watchline.specs.Watches.{Cursor, InitialLeft, changes_left, changes_sent, coming, expiring, from_history, is_bookmark_due, is_none_left, objects_left, position_by, sending, wanted}
use Rattle.watchline.specs.declared.event.EventType.TheVariants as event
use Rattle.line_laws.specs.Shown.{shown}
use Rattle.line_laws.proofs.Feeds.{text_has_none}
use Rattle.line_laws.proofs.Said.{bookmark_fits, bookmark_read}
use Rattle.line_laws.proofs.SeenBodies.{all_taken}
use Rattle.line_laws.proofs.Sent.{left_stays, marked_line, unmarked}
use Rattle.requests.specs.ReplyBytes.{chunk, chunks, end_bytes, watch_head}
use Rattle.httpedge.specs.Connections.{Connection, Phase, has_ended, watching}
use Rattle.httpedge.specs.Steps as edge
use Rattle.httpedge.specs.Watches.{Turn, Watch, has_timed_out, line_list, pumped, ticked, turned, unless_ended, with_cursor}
use Rattle.reflector.specs.Client.{Cache, Client, streaming}
use Rattle.reflector.specs.Run.{receives_all, taken}
use Rattle.wireclient.specs.LineLaws.{HasNoFeed, IsLine, with_feed}
use Rattle.wireclient.specs.Reads.{Items, has_closed}
use Rattle.wireclient.specs.Reply.{ReplyItem, head, line}
use Rattle.wire_laws.proofs.LineTexts.{plain, with_its_feed}
use Rattle.wire_laws.specs.Watched.{lines_sent}
use Rattle.liveness_laws.proofs.Leads.{LeadsBy, by_event, within_by}
use Rattle.liveness_laws.proofs.Levels.{none_before}
use Rattle.liveness_laws.proofs.OnWatch.{IsReading, keeps_told, told, told_end, tells}
use Rattle.liveness_laws.proofs.Reached.{IsAt, ReadsOrRelists, bookmark_reaches, lines_reach, lines_so}
use Rattle.liveness_laws.proofs.Unclosed.{awaits_unclosed}
use Rattle.world_laws.specs.Moves.{is_at}
use Rattle.world_laws.proofs.Laws.{Laws}
use Rattle.world_laws.proofs.OneWorld.{same_rest}
use Rattle.world_laws.proofs.Passes.{IsTaskWatch}
use Rattle.world_laws.proofs.SeenLines.{line_text, plain_lines, with_feeds}
use Rattle.world_laws.proofs.SeenTexts.{IsSeenText, seen_are_texts}
use Rattle.world_laws.proofs.Sending.{fit_or_close, lines_are_sent}
use Rattle.world_laws.proofs.TaskObjects.{type_utf8, version_utf8, wants}
use Rattle.world_laws.specs.Tasks.{IsTask, Task, selection, wanted_by, with_shape}
use Rattle.world_laws.specs.World.{ClientConnection, World, WorldEvent, to_client}

wrong : false ≡ true → ⊥
wrong e = absurd (true≢false (sym e))

abbrev pub with_lines : List (List ℕ) → Option Watch → Turn
with_lines lines next = record { lines = lines; next = next }

pub strictly : (a b : ℕ) → a ≤ b → (a ≡ b → ⊥) → a < b
strictly a b low apart = go (nat_lt a b) refl
  where
    go : (x : Bool) → nat_lt a b ≡ x → a < b
    go true test = ltb-true a b test
    go false test = let over : b ≤ a = ltb-false a b test in absurd (apart (omega (arith, low, over)))

-- ---- what is written of a watch

chunks_more : (xs ys : List (List ℕ)) → chunks xs false ++ chunks ys false ≡ chunks (xs ++ ys) false
chunks_more xs ys =
    ap (λ (l : List ℕ). l ++ chunks ys false) (append-nil (flat_map chunk xs)) ∙ sym (append_assoc (flat_map chunk xs) (flat_map chunk ys) (end_bytes false))
    ∙ ap (λ (l : List ℕ). l ++ end_bytes false) (sym (flat_map-append chunk xs ys))

-- the head, and these lines
abbrev pub told_bytes : List (List ℕ) → List ℕ
told_bytes texts = watch_head 200 ++ chunks (map with_feed texts) false

told_more : (texts more : List (List ℕ)) → told_bytes texts ++ chunks (map with_feed more) false ≡ told_bytes (texts ++ more)
told_more texts more =
    append_assoc (watch_head 200) (chunks (map with_feed texts) false) (chunks (map with_feed more) false)
    ∙ ap (λ (l : List ℕ). watch_head 200 ++ l) (chunks_more (map with_feed texts) (map with_feed more) ∙ ap (λ (l : List (List ℕ)). chunks l false) (sym (map-append with_feed texts more)))

-- ---- what comes to the client

-- of all that was written the client made this, and is on the same connection
pub record IsToldOf (own : ClientConnection) (conn : Connection) (d c : Client) (o : Option ClientConnection) : Type 0 where
  pub connection : o ≡ Some (record own { handed = length conn.written })
  pub cache : c.cache ≡ d.cache
  pub sync : c.sync ≡ d.sync
  pub awaits : c.is_awaiting_reply ≡ d.is_awaiting_reply

module _ (laws : Laws) (task : Task) (v : World) (own : ClientConnection) (conn : Connection) (reading : IsReading v own conn) (watch : Watch) (watches : conn.phase ≡ watching watch) (sent coming : List ReplyItem)
    (low : own.handed ≤ length conn.written) (read : Items (take own.handed conn.written) sent) (all : Items conn.written (sent ++ coming)) where
  abbrev d : Client
  d = receives_all (wanted_by task) v.client coming

  abbrev u : World
  u = told task v own conn reading d

  still_watches : (F : Client → Type 0) → F (told_end false d) → F u.client
  still_watches F is = subst (λ (st : Phase). F (told_end (has_ended st) d)) (sym watches) is

  came : IsToldOf own conn d u.client u.connection
  came = record {
    connection = refl;
    cache = still_watches (λ c. c.cache ≡ d.cache) refl;
    sync = still_watches (λ c. c.sync ≡ d.sync) refl;
    awaits = still_watches (λ c. c.is_awaiting_reply ≡ d.is_awaiting_reply) refl;
  }

  already : length conn.written ≤ own.handed → IsToldOf own conn d v.client v.connection
  already high =
      let whole : take own.handed conn.written ≡ conn.written = take_all own.handed conn.written high in
      let none : [] ≡ coming = same_rest sent [] coming (append-nil sent ∙ laws.one conn.written sent (sent ++ coming) (subst (λ (l : List ℕ). Items l sent) whole read) all) in
      let same : v.client ≡ d = ap (receives_all (wanted_by task) v.client) none in
      let handed : own.handed ≡ length conn.written = omega (arith, low, high) in
      record {
        connection = reading.has ∙ ap (λ (n : ℕ). Some (record own { handed = n })) handed;
        cache = ap (λ (c : Client). c.cache) same;
        sync = ap (λ (c : Client). c.sync) same;
        awaits = ap (λ (c : Client). c.is_awaiting_reply) same;
      }

  -- it comes, if it hasn't come yet
  pub telling : (May : World → WorldEvent → Type 0) (Goal : World → Type 0) (i most : ℕ) → (own.handed < length conn.written → May v (to_client (length conn.written)))
      → ((j : ℕ) (c : Client) (o : Option ClientConnection) → IsToldOf own conn d c o → LeadsBy May task j (record v { client = c; connection = o }) most 0 Goal) → LeadsBy May task i v (suc most) 0 Goal
  telling May Goal i most may rest = by_test (nat_lt own.handed (length conn.written)) refl
    where
      by_test : (b : Bool) → nat_lt own.handed (length conn.written) ≡ b → LeadsBy May task i v (suc most) 0 Goal
      by_test true test =
          let more : own.handed < length conn.written = ltb-true own.handed (length conn.written) test in
          by_event May task i most 0 0 0 v u (to_client (length conn.written)) Goal (omega arith) (may more) (tells task v own conn reading low more sent coming read all)
          (keeps_told task v own conn reading d) (rest (suc i) u.client u.connection came)
      by_test false test = within_by May task i most (suc most) 0 v Goal (omega arith) (rest i v.client v.connection (already (ltb-false own.handed (length conn.written) test)))

-- ---- a client that has read all so far

-- all that was written came to it, each line was taken, and it is where the last of them led
pub record IsStage (task : Task) (w : World) (own : ClientConnection) (conn : Connection) (watch : Watch) (texts : List (List ℕ)) : Type 0 where
  pub reading : IsReading w own conn
  pub handed : own.handed ≡ length conn.written
  pub asked_all : length own.unsent ≡ 0
  pub watches : conn.phase ≡ watching watch
  pub its : IsTaskWatch task watch
  pub some : 1 ≤ watch.cursor.position
  pub kept : w.hub.machine.compacted ≤ watch.cursor.position
  pub come : watch.cursor.position ≤ w.hub.machine.current
  pub sent_low : watch.cursor.sent ≤ watch.cursor.position
  pub written : conn.written ≡ told_bytes texts
  pub lines : All IsLine texts
  pub machine : IsMachine w.hub.types w.hub.machine
  pub shape : Shape
  pub is_task : IsTask w.hub.types (with_shape task shape)
  pub now : Cache
  pub cached : w.client.cache ≡ Some now
  pub revision : now.revision ≡ watch.cursor.sent

reached_low : (q p r : ℕ) (xs : List SeenChange) → q ≤ r → reached p xs ≤ r → reached q xs ≤ r
reached_low q p r [] low high = low
reached_low q p r (x ∷ xs) low high = high

above : (top r : ℕ) (b : Bool) → r ≤ position_by b top r
above top r true = omega arith
above top r false = omega arith

below : (top r : ℕ) (b : Bool) → r ≤ top → position_by b top r ≤ top
below top r true low = omega (arith, low)
below top r false low = low

-- where one is due, a bookmark is the line of a tick
module _ (task : Task) (types : List ServedShape) (shape : Shape) (is : IsTask types (with_shape task shape)) (ms : ℕ) (watch : Watch) (own : IsTaskWatch task watch) (due : is_bookmark_due watch.cursor ≡ true) where
  abbrev t : ServedShape
  t = (with_shape task shape).t

  abbrev value : Data
  value = bookmark_value (api_version_of t) t.kind (decimal watch.cursor.position)

  abbrev bookmark_text : List ℕ
  bookmark_text = shown event.Bookmark (compact_text value)

  abbrev marked : Watch
  marked = with_cursor watch (marked_line (api_version_of t) t.kind watch.cursor).next

  bookmark_plain : HasNoFeed bookmark_text
  bookmark_plain = plain event.Bookmark (compact_text value) (text_has_none value (bookmark_fits (api_version_of t) t.kind (decimal watch.cursor.position)).encodable)

  tick_is : ticked types ms watch ≡ with_lines (map with_feed (bookmark_text ∷ [])) (Some marked)
  tick_is =
      let never : has_timed_out ms watch ≡ false = ap (λ n. nat_lt 0 n && nat_le (n * 1000) (ms - watch.opened_at)) own.endless in
      let served : slice_get types watch.cursor.kind ≡ Some t = ap (slice_get types) own.kind ∙ is.served in
      ap (λ (b : Bool). with_lines (line_list (bookmarked_in types watch.cursor).line) (unless_ended b (with_cursor watch (bookmarked_in types watch.cursor).next))) never
      ∙ ap (λ (o : Option ServedShape). with_lines (line_list (bookmarked_as o watch.cursor).line) (Some (with_cursor watch (bookmarked_as o watch.cursor).next))) served
      ∙ ap (λ (b : Bool). with_lines (line_list (cond b (marked_line (api_version_of t) t.kind watch.cursor) (unmarked watch.cursor)).line)
      (Some (with_cursor watch (cond b (marked_line (api_version_of t) t.kind watch.cursor) (unmarked watch.cursor)).next))) due
      ∙ ap (λ (l : List ℕ). with_lines (l ∷ []) (Some marked)) (with_its_feed event.Bookmark (compact_text value))

module _ (laws : Laws) (task : Task) (w : World) (own : ClientConnection) (conn : Connection) (watch : Watch) (texts : List (List ℕ)) (st : IsStage task w own conn watch texts) where
  abbrev m : History
  m = w.hub.machine

  abbrev cursor : Cursor
  cursor = watch.cursor

  history : IsHistory m
  history = whole_is st.machine.first m st.machine.whole

  abbrev before_items : List ReplyItem
  before_items = head 200 ∷ map line texts

  texts_plain : All HasNoFeed texts
  texts_plain = All-weaker IsLine HasNoFeed (λ l is. is.one) texts st.lines

  -- ---- a turn of its watch

  module _ (turn : Watch → Turn) (more : List (List ℕ)) (next : Watch) (turn_is : turn watch ≡ with_lines (map with_feed more) (Some next)) (more_plain : All HasNoFeed more) where
    abbrev pub turned_conn : Connection
    turned_conn = edge.with_turn turn conn

    turned_phase : turned_conn.phase ≡ watching next
    turned_phase = ap (λ (x : Phase). (edge.after_turn turn conn x).phase) st.watches ∙ ap (λ (t : Turn). edge.phase_after t.next) turn_is

    bytes_then : turned_conn.written ≡ conn.written ++ chunks (map with_feed more) false
    bytes_then = ap (λ (x : Phase). (edge.after_turn turn conn x).written) st.watches ∙ ap (λ (t : Turn). conn.written ++ edge.turn_bytes t) turn_is

    all_bytes : turned_conn.written ≡ told_bytes (texts ++ more)
    all_bytes = bytes_then ∙ ap (λ (l : List ℕ). l ++ chunks (map with_feed more) false) st.written ∙ told_more texts more

    grown : length turned_conn.written ≡ length conn.written + length (chunks (map with_feed more) false)
    grown = ap length bytes_then ∙ length-append conn.written (chunks (map with_feed more) false)

    handed_low : own.handed ≤ length turned_conn.written
    handed_low =
        let from : own.handed ≡ length conn.written = st.handed in
        let long : length turned_conn.written ≡ length conn.written + length (chunks (map with_feed more) false) = grown in
        omega (arith, from, long)

    told_before : Items conn.written before_items
    told_before =
        let none : map line texts ++ [] ≡ map line texts = append-nil (map line texts) in
        let items : lines_sent texts [] ≡ map line texts = ap (λ (l : List (List ℕ)). lines_sent l []) (sym (append-nil texts)) ∙ lines_are_sent texts [] [] st.lines ∙ none in
        subst (λ (l : List ℕ). Items l before_items) (sym st.written) (subst (λ (xs : List ReplyItem). Items (told_bytes texts) (head 200 ∷ xs)) items (laws.watch texts false texts_plain))

    read_before : Items (take own.handed turned_conn.written) before_items
    read_before =
        subst (λ (l : List ℕ). Items l before_items)
        (sym (ap₂ (λ (n : ℕ) (l : List ℕ). take n l) st.handed bytes_then
        ∙ take-append-le (length conn.written) conn.written (chunks (map with_feed more) false) (le_refl (length conn.written))
        ∙ take_all (length conn.written) conn.written (le_refl (length conn.written)))) told_before

    told_then : Items turned_conn.written (before_items ++ lines_sent more [])
    told_then =
        subst (λ (l : List ℕ). Items l (before_items ++ lines_sent more [])) (sym all_bytes)
        (subst (λ (xs : List ReplyItem). Items (told_bytes (texts ++ more)) (head 200 ∷ xs)) (lines_are_sent texts more [] st.lines) (laws.watch (texts ++ more) false (All-append HasNoFeed texts more texts_plain more_plain)))

    abbrev pub reader : Client
    reader = receives_all (wanted_by task) (taken w.client) (lines_sent more [])

    pub reader_so : ReadsOrRelists reader
    reader_so = lines_so (wanted_by task) more (taken w.client) (inl (st.reading.awaits, st.reading.sync))

    -- each line fits, where it took them all
    fitting : reader.is_awaiting_reply ≡ true → All IsLine more
    fitting awaits = go (fit_or_close more [] more_plain)
      where
        go : All IsLine more ⊎ (has_closed (lines_sent more []) ≡ true) → All IsLine more
        go (inl lines) = lines
        go (inr closed) = absurd (wrong (sym (awaits_unclosed (wanted_by task) (taken w.client) (lines_sent more []) awaits) ∙ closed))

    -- the connection as the hub has it, and what was written comes to the client
    module _ (hub : edge.State) (got : fin.get hub.connections own.id ≡ Some turned_conn) (same : hub.machine.current ≡ m.current) where
      abbrev pub after_turn : World
      after_turn = record w { hub = hub; client = taken w.client }

      pub turned_reading : IsReading after_turn own turned_conn
      turned_reading = record {
        awaits = st.reading.awaits;
        sync = st.reading.sync;
        behind = ap (λ (n : ℕ). is_at n w.client.cache) same ∙ st.reading.behind;
        has = st.reading.has;
        got = got;
      }

      pub turn_told : (May : World → WorldEvent → Type 0) (Goal : World → Type 0) (i most : ℕ) → (own.handed < length turned_conn.written → May after_turn (to_client (length turned_conn.written)))
          → ((j : ℕ) (c : Client) (o : Option ClientConnection) → IsToldOf own turned_conn reader c o → LeadsBy May task j (record after_turn { client = c; connection = o }) most 0 Goal)
          → LeadsBy May task i after_turn (suc most) 0 Goal
      turn_told May Goal i most may rest =
          telling laws task after_turn own turned_conn turned_reading next turned_phase before_items (lines_sent more []) handed_low read_before told_then May Goal i most may rest

  -- ---- a bookmark

  module _ (position : cursor.position ≡ m.current) (due : is_bookmark_due cursor ≡ true) where
    abbrev pub bookmark : List ℕ
    bookmark = bookmark_text task w.hub.types st.shape st.is_task w.hub.last_tick watch st.its due

    abbrev pub marked_watch : Watch
    marked_watch = marked task w.hub.types st.shape st.is_task w.hub.last_tick watch st.its due

    pub tick_tells : ticked w.hub.types w.hub.last_tick watch ≡ with_lines (map with_feed (bookmark ∷ [])) (Some marked_watch)
    tick_tells = tick_is task w.hub.types st.shape st.is_task w.hub.last_tick watch st.its due

    pub one_plain : All HasNoFeed (bookmark ∷ [])
    one_plain = All-cons HasNoFeed bookmark [] (bookmark_plain task w.hub.types st.shape st.is_task w.hub.last_tick watch st.its due) (All-nil HasNoFeed)

    bookmark_is_read : line_in (wanted_by task) bookmark ≡ Ok (reads.bookmark m.current)
    bookmark_is_read =
        let at : cursor.position ≡ m.current = position in
        let low : m.current ≤ last_revision = history.high in
        subst (λ (n : ℕ). line_in (wanted_by task) bookmark ≡ Ok (reads.bookmark n)) position
        (bookmark_read (wanted_by task) cursor.position (omega (arith, at, low)) (version_utf8 w.hub.types (with_shape task st.shape) st.is_task) (type_utf8 w.hub.types (with_shape task st.shape) st.is_task)
        (wants w.hub.types (with_shape task st.shape) st.is_task).has_kind)

    is_there : (cache : Option Cache) → IsAt (wanted_by task) m.current cache → is_at m.current cache ≡ true
    is_there cache (then, is_then, same) = ap (is_at m.current) is_then ∙ eq-eqb then.revision m.current same

    -- a client that takes it is where the machine is
    pub marks_there : (d : Client) → d ≡ receives_all (wanted_by task) (taken w.client) (lines_sent (bookmark ∷ []) []) → d.is_awaiting_reply ≡ true → is_at m.current d.cache ≡ true
    marks_there d same awaits =
        ap (λ (c : Client). is_at m.current c.cache) same
        ∙ is_there (receives_all (wanted_by task) (taken w.client) (lines_sent (bookmark ∷ []) [])).cache
        (bookmark_reaches (wanted_by task) bookmark m.current bookmark_is_read (taken w.client) st.now st.reading.sync st.cached (sym (ap (λ (c : Client). c.is_awaiting_reply) same) ∙ awaits))

  -- a bookmark is due where the watch stands at the current revision and the client doesn't
  pub due_there : cursor.position ≡ m.current → is_bookmark_due cursor ≡ true
  due_there position =
      let at : cursor.position ≡ m.current = position in
      let low : cursor.sent ≤ cursor.position = st.sent_low in
      let apart : (st.now.revision == m.current) ≡ false = sym (ap (is_at m.current) st.cached) ∙ st.reading.behind in
      let same : st.now.revision ≡ cursor.sent = st.revision in
      let other : cursor.sent ≡ cursor.position → ⊥ = λ e. wrong (sym apart ∙ eq-eqb st.now.revision m.current (same ∙ e ∙ at)) in
      ap (λ (b : Bool). b && (is_none_left cursor.left && nat_lt cursor.sent cursor.position)) st.its.bookmarks
      ∙ ap (λ (l : InitialLeft). is_none_left l && nat_lt cursor.sent cursor.position) st.its.left
      ∙ lt-ltb cursor.sent cursor.position (strictly cursor.sent cursor.position low other)

  -- ---- a pump

  module _ (most : ℕ) where
    abbrev pub ahead : List SeenChange
    ahead = seen_changes (selection task) m.changes cursor.position m.current

    abbrev pub told_changes : List SeenChange
    told_changes = take most ahead

    abbrev pub told_texts : List (List ℕ)
    told_texts = map line_text told_changes

    same_selection : wanted cursor ≡ selection task
    same_selection =
        ap₂ (λ (kind : ℕ) (namespace : Option (List ℕ)). selection_of kind namespace cursor.requirements) st.its.kind st.its.namespace
        ∙ ap (λ (requirements : List Requirement). selection_of task.settings.kind task.settings.namespace requirements) st.its.requirements

    changes_are : changes_left (from_history m) cursor ≡ ahead
    changes_are = ap (λ (s : Selection). seen_changes s m.changes cursor.position m.current) same_selection

    none_left : objects_left (from_history m) cursor ≡ []
    none_left = none_before task w.hub.types m st.machine watch st.its st.some st.come

    coming_is : coming (from_history m) cursor ≡ ahead
    coming_is = ap₂ (λ (es : List (Key × Object)) (ys : List SeenChange). map added es ++ ys) none_left changes_are

    sent_is : changes_sent (from_history m) most cursor ≡ told_changes
    sent_is =
        let whole : most - 0 ≡ most = omega arith in
        ap₂ (λ (es : List (Key × Object)) (ys : List SeenChange). take (most - length es) ys) none_left changes_are ∙ ap (λ (n : ℕ). take n ahead) whole

    lines_are : map line_of (take most (coming (from_history m) cursor)) ≡ map with_feed told_texts
    lines_are = ap (λ (ys : List SeenChange). map line_of (take most ys)) coming_is ∙ with_feeds told_changes

    abbrev pub pumped_watch : Watch
    pumped_watch = with_cursor watch (sending (from_history m) most cursor).next

    pub pump_tells : pumped m most watch ≡ with_lines (map with_feed told_texts) (Some pumped_watch)
    pump_tells =
        ap (λ (b : Bool). turned watch (cond b (expiring (from_history m) cursor) (sending (from_history m) most cursor))) (le-ltb cursor.position m.compacted st.kept)
        ∙ ap (λ (ls : List (List ℕ)). with_lines ls (Some pumped_watch)) lines_are

    are_texts : AllByRecursion (IsSeenText w.hub.types (selection task)) ahead
    are_texts = seen_are_texts w.hub.types (selection task) m cursor.position m.current st.machine

    pub pump_plain : All HasNoFeed told_texts
    pump_plain = plain_lines w.hub.types task told_changes (all_taken (IsSeenText w.hub.types (selection task)) most ahead are_texts)

    pub prefix : IsPrefixSeen (selection task) m.changes m.current cursor.position most ahead
    prefix = prefix_seen (selection task) m.changes m.current most cursor.position ahead history.rising st.come refl

    abbrev pub last : ℕ
    last = reached cursor.position told_changes

    pub position_then : pumped_watch.cursor.position ≡ position_by (nat_lt (length ahead) most) m.current last
    position_then = ap₂ (λ (xs ys : List SeenChange). position_by (nat_lt (length xs) most) m.current (reached cursor.position ys)) coming_is sent_is

    sent_then : pumped_watch.cursor.sent ≡ reached cursor.sent told_changes
    sent_then = ap (reached cursor.sent) sent_is

    its_then : IsTaskWatch task pumped_watch
    its_then = record {
      kind = st.its.kind;
      namespace = st.its.namespace;
      requirements = st.its.requirements;
      bookmarks = st.its.bookmarks;
      left = left_stays m most cursor st.its.left;
      endless = st.its.endless;
    }

    abbrev pub pumped_conn : Connection
    pumped_conn = turned_conn (pumped m most) told_texts pumped_watch pump_tells pump_plain

    abbrev pub own_then : ClientConnection
    own_then = record own { handed = length pumped_conn.written }

    -- where the client took them all it is a stage on
    pub next_stage : (hub : edge.State) (c : Client) (o : Option ClientConnection) → fin.get hub.connections own.id ≡ Some pumped_conn → hub.machine ≡ m → hub.types ≡ w.hub.types
        → IsToldOf own pumped_conn (reader (pumped m most) told_texts pumped_watch pump_tells pump_plain) c o
        → (reader (pumped m most) told_texts pumped_watch pump_tells pump_plain).is_awaiting_reply ≡ true → (reader (pumped m most) told_texts pumped_watch pump_tells pump_plain).sync ≡ streaming → is_at hub.machine.current c.cache ≡ false
        → IsStage task (record w { hub = hub; client = c; connection = o }) own_then pumped_conn pumped_watch (texts ++ told_texts)
    next_stage hub c o got same_machine same_types told awaits sync behind =
        let low : cursor.position ≤ last = prefix.low in
        let up : last ≤ position_by (nat_lt (length ahead) most) m.current last = above m.current last (nat_lt (length ahead) most) in
        let top : position_by (nat_lt (length ahead) most) m.current last ≤ m.current = below m.current last (nat_lt (length ahead) most) prefix.high in
        let at : pumped_watch.cursor.position ≡ position_by (nat_lt (length ahead) most) m.current last = position_then in
        let sent : pumped_watch.cursor.sent ≡ reached cursor.sent told_changes = sent_then in
        let sent_low : cursor.sent ≤ cursor.position = st.sent_low in
        let sent_high : reached cursor.sent told_changes ≤ last = reached_low cursor.sent cursor.position last told_changes (omega (arith, sent_low, low)) (le_refl last) in
        let some : 1 ≤ cursor.position = st.some in
        let kept : m.compacted ≤ cursor.position = st.kept in
        let reaches = lines_reach w.hub.types (with_shape task st.shape) m st.is_task st.machine most cursor.position cursor.sent ahead st.come refl are_texts (taken w.client) st.now st.reading.sync st.cached st.revision awaits in
        record {
          reading = record { awaits = told.awaits ∙ awaits; sync = told.sync ∙ sync; behind = behind; has = told.connection; got = got };
          handed = refl;
          asked_all = st.asked_all;
          watches = turned_phase (pumped m most) told_texts pumped_watch pump_tells pump_plain;
          its = its_then;
          some = omega (arith, some, low, up, at);
          kept = subst (λ (h : History). h.compacted ≤ pumped_watch.cursor.position) (sym same_machine) (omega (arith, kept, low, up, at));
          come = subst (λ (h : History). pumped_watch.cursor.position ≤ h.current) (sym same_machine) (omega (arith, at, top));
          sent_low = omega (arith, sent, sent_high, up, at);
          written = all_bytes (pumped m most) told_texts pumped_watch pump_tells pump_plain;
          lines = All-append IsLine texts told_texts st.lines (fitting (pumped m most) told_texts pumped_watch pump_tells pump_plain awaits);
          machine = subst (IsMachine hub.types) (sym same_machine) (subst (λ (ts : List ServedShape). IsMachine ts m) (sym same_types) st.machine);
          shape = st.shape;
          is_task = subst (λ (ts : List ServedShape). IsTask ts (with_shape task st.shape)) (sym same_types) st.is_task;
          now = reaches.0;
          cached = told.cache ∙ reaches.1;
          revision = reaches.2 ∙ sym sent;
        }
