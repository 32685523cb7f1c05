-- What a watch's turn makes of its connection.
use Rattle.std.proofs.Common.{arith, ◌≡◌, ℕ, ◌+◌, ◌≤◌, Bool, true, false, not, ◌&&◌, ◌||◌, cond, List, [], ◌++◌, drop, length, Option, Some, None, Result, Ok, Err, refl, sym, ap, ap₂, subst, ◌∙◌, append-nil}
use Rattle.std.specs.Prelude.{is_none, option_map, slice_get, String, string_bytes}
use Rattle.std.specs.declared.alloc.Global.{Global}
use Rattle.std.proofs.lemmas.List.{drop-append-le, length-append}
use Rattle.std.proofs.Transfers.{drop-appended}
use Rattle.api_types.specs.TypesFile.{ServedShape}
use Rattle.history.specs.History.{History}
use Rattle.answers.specs.WatchFrom.{WatchFrom}
use Rattle.watchline.specs.Watches.{Cursor, BookmarkTurn, bookmarked, from_history, is_bookmark_due, moved}
use Rattle.watchline.specs.Lines.{bookmark_line}
use Rattle.watchline.specs.Watches as cursors
use Rattle.answers.specs.Views.{watch_from}
use Rattle.watchline.specs.Views.{bookmark_turn}
use Rattle.answers.specs.declared.watch_from.WatchFrom.{WatchFrom as TheWatchFrom}
use Rattle.api_request.specs.Calls.{Answer, Call, at_tick}
use Rattle.verbs.specs.Step.{planned}
use Rattle.verbs.specs.Watching.{bookmarked_as, bookmarked_in}
use Rattle.requests.specs.Decision.{accepted}
use Rattle.httpedge.specs.declared.connection.Connection as conns
use Rattle.httpedge.specs.declared.connection.Connection.TheVariants as conn
use Rattle.httpedge.specs.declared.out.Out.{Out}
use Rattle.httpedge.specs.declared.watching.Watch.{Watch as TheWatch}
use Rattle.httpedge.specs.Connections.{Connection, Phase, waiting, watching, ended, gone, has_ended, is_open, is_watching, new_connection, with_phase, with_written}
use Rattle.httpedge.specs.ConnectionViews.{ConnectionRepresents, Pumps, Turns, left, received_change, turn_change, watch_of}
use Rattle.httpedge.specs.declared.effect.Change.{Change}
use Rattle.httpedge.specs.Effects.{answer_change, change_between, lines_by, lines_change, no_change}
use Rattle.requests.specs.ReplyBytes.{chunks}
use Rattle.httpedge.specs.Steps.{after_turn, answer_phase, answered, killed, killed_or_ticked, has_no_next, phase_after, turn_bytes, with_turn, writes_at}
use Rattle.requests.specs.Replies.{answer_bytes}
use Rattle.httpedge.proofs.Effects.{between_same}
use Rattle.httpedge.specs.Watches.{Turn, Watch, is_due, has_timed_out, line_list, bookmark_turned, pumped, ticked, unless_ended, with_cursor}

wrong : false ≡ true → ⊥
wrong e = cc

no_next : (b : Bool) (w : Watch) → has_no_next (unless_ended b w) ≡ b
no_next true w = refl
no_next false w = refl

-- ---- at a pump

pub pump_turns : (m : History) (max : ℕ) (w w' : Watch) (change : Change) (cursor : Cursor) (old new : List ℕ) → Pumps (cursors.pumped (from_history m) max w.cursor) change cursor old new
    → w' ≡ with_cursor w cursor → Turns (pumped m max w) change w' old new
pump_turns m max w w' change cursor old new (are, did, represents) then =
    let t = cursors.pumped (from_history m) max w.cursor in
    let ends = sym (no_next t.ended (with_cursor w t.next)) in (
      are ∙ ap (λ (b : Bool). old ++ chunks t.lines b) ends,
      did ∙ ap (λ (b : Bool). lines_change (chunks t.lines b) (length t.lines) b) ends,
      ap₂ unless_ended (sym (ap (λ (x : Change). x.has_ended) did)) (ap (with_cursor w) (sym represents) ∙ sym then),
    )

-- ---- at a tick

pub tick_turns : (types : List ServedShape) (ms : ℕ) (w w' : Watch) (line : Option (String Global)) (cursor : Cursor) (has_ended : Bool) (old new bytes : List ℕ) (change : Change)
    → bookmark_turn line cursor ≡ bookmarked_in types w.cursor → w' ≡ with_cursor w cursor → has_ended ≡ has_timed_out ms w
    → bytes ≡ chunks (line_list (option_map string_bytes line)) has_ended → new ≡ old ++ bytes
    → change ≡ lines_change bytes (length (line_list (option_map string_bytes line))) has_ended → Turns (ticked types ms w) change w' old new
tick_turns types ms w w' line cursor has_ended old new bytes change sent then over are is did =
    let lines = line_list (option_map string_bytes line) in
    let ends = sym (no_next has_ended (with_cursor w cursor)) in
    subst (λ (k : BookmarkTurn). Turns (bookmark_turned ms w k) change w' old new) sent
    (subst (λ (b : Bool). Turns (record { lines = lines; next = unless_ended b (with_cursor w cursor) }) change w' old new) over (
      is ∙ ap (λ (b : List ℕ). old ++ b) (are ∙ ap (chunks lines) ends),
      did ∙ ap (λ (b : List ℕ). lines_change b (length lines) has_ended) are ∙ ap (λ (b : Bool). lines_change (chunks lines b) (length lines) b) ends,
      ap₂ unless_ended (sym (ap (λ (x : Change). x.has_ended) did)) (sym then),
    ))

-- no line and no end: no bytes
pub quiet_turns : (types : List ServedShape) (ms : ℕ) (w w' : Watch) (line : Option (String Global)) (cursor : Cursor) (has_ended : Bool) (old : List ℕ)
    → bookmark_turn line cursor ≡ bookmarked_in types w.cursor → w' ≡ with_cursor w cursor → has_ended ≡ has_timed_out ms w → is_none line ≡ true → has_ended ≡ false → Turns (ticked types ms w) no_change w' old old
quiet_turns types ms w w' None cursor true old sent then over none on = absurd (wrong (sym on))
quiet_turns types ms w w' None cursor false old sent then over none on = tick_turns types ms w w' None cursor false old old [] no_change sent then over refl (sym (append-nil old)) refl
quiet_turns types ms w w' (Some line) cursor has_ended old sent then over none on = absurd (wrong none)

abbrev Bookmarked : (E : Type 0) → Type 0
Bookmarked E = Result (Option (String Global)) E

abbrev said : {E : Type 0} → Option (String Global) → Bookmarked E
said line = Ok line

abbrev failed : {E : Type 0} → E → Bookmarked E
failed e = Err e

said_not : {E : Type 0} (line : Option (String Global)) (e : E) → said line ≡ failed e → ⊥
said_not line e h = cc

-- a bookmark that failed was due
pub bookmark_due : {E : Type 0} (r : Bookmarked E) (e : E) (due over : Bool) → (due ≡ false → r ≡ Ok None) → r ≡ Err e → (due || over) ≡ true
bookmark_due r e true over needs is = refl
bookmark_due r e false over needs is = absurd (said_not None e (sym (needs refl) ∙ is))

nothing : {E : Type 0} (l : Option (String Global)) → said {E = E} None ≡ said l → (is_none l && true) ≡ false → ⊥
nothing None same none = cc
nothing (Some x) same none = cc

-- what is written is due
pub bytes_due : {E : Type 0} (r : Result (Option (String Global)) E) (line : Option (String Global)) (due over : Bool) → (due ≡ false → r ≡ Ok None) → r ≡ Ok line
    → (is_none line && not over) ≡ false → (due || over) ≡ true
bytes_due r line true over needs is some = refl
bytes_due r line false true needs is some = refl
bytes_due r line false false needs is some = absurd (nothing line (sym (needs refl) ∙ is) some)

-- ---- the connection after a turn

longer : (n : ℕ) (xs ys : List ℕ) → n ≤ length xs → n ≤ length (xs ++ ys)
longer n xs ys low = let all : length (xs ++ ys) ≡ length xs + length ys = length-append xs ys in omega (arith, low, all)

after_watch : (turn : Watch → Turn) (c : Connection) (w : Watch) (next : Option Watch) → c.phase ≡ watching w → (turn w).next ≡ next
    → with_turn turn c ≡ with_written c (turn_bytes (turn w)) (phase_after next)
after_watch turn c w next represents is = ap (after_turn turn c) represents ∙ ap (λ (o : Option Watch). with_written c (turn_bytes (turn w)) (phase_after o)) is

written_left : (taken : ℕ) (written bytes old new : List ℕ) → taken ≤ length written → drop taken written ≡ old → new ≡ old ++ bytes → drop taken (written ++ bytes) ≡ new
written_left taken written bytes old new low is then = drop-append-le taken written bytes low ∙ ap (λ (b : List ℕ). b ++ bytes) is ∙ sym then

pub goes_on : (types : List ServedShape) (turn : Watch → Turn) (w w' : TheWatch) (out out' : Out) (c : Connection) (change : Change) → change.has_ended ≡ false → ConnectionRepresents types (conn.Watch w out) c
    → Turns (turn (watch_of w)) change (watch_of w') (left out) (left out') → ConnectionRepresents types (conn.Watch w' out') (with_turn turn c)
goes_on types turn w w' out out' c change on (represents, is, low) (bytes, did, next) =
    subst (ConnectionRepresents types (conn.Watch w' out')) (sym (after_watch turn c (watch_of w) (Some (watch_of w')) represents (next ∙ ap (λ (b : Bool). unless_ended b (watch_of w')) on))) (
      refl,
      written_left c.taken c.written (turn_bytes (turn (watch_of w))) (left out) (left out') low is bytes,
      longer c.taken c.written (turn_bytes (turn (watch_of w))) low,
    )

pub goes_no_more : (types : List ServedShape) (turn : Watch → Turn) (w w' : TheWatch) (out out' : Out) (c : Connection) (change : Change) → change.has_ended ≡ true → ConnectionRepresents types (conn.Watch w out) c
    → Turns (turn (watch_of w)) change (watch_of w') (left out) (left out') → ConnectionRepresents types (conn.Ended out') (with_turn turn c)
goes_no_more types turn w w' out out' c change done (represents, is, low) (bytes, did, next) =
    subst (ConnectionRepresents types (conn.Ended out')) (sym (after_watch turn c (watch_of w) None represents (next ∙ ap (λ (b : Bool). unless_ended b (watch_of w')) done))) (
      refl,
      written_left c.taken c.written (turn_bytes (turn (watch_of w))) (left out) (left out') low is bytes,
    )

-- ---- what a turn did

ends_after : (o : Option Watch) → has_ended (phase_after o) ≡ has_no_next o
ends_after None = refl
ends_after (Some w) = refl

-- what is written on one that had not ended is the change
pub between_written : (c : Connection) (bytes : List ℕ) (st : Phase) (lines : ℕ) (status : Option ℕ) → has_ended c.phase ≡ false
    → change_between (Some c) (Some (with_written c bytes st)) lines status ≡ record { bytes = length bytes; lines = lines; status = status; has_ended = has_ended st }
between_written c bytes st lines status not_yet =
    ap₂ (λ (added : List ℕ) (e : Bool). change_with (length added) lines status e) (drop-appended c.written (c.written ++ bytes) bytes refl)
    (ap (λ (b : Bool). has_ended st && not b) not_yet ∙ same_first (has_ended st))
  where
    change_with : ℕ → ℕ → Option ℕ → Bool → Change
    change_with n l s e = record { bytes = n; lines = l; status = s; has_ended = e }

    same_first : (b : Bool) → b && true ≡ b
    same_first true = refl
    same_first false = refl

turned_by : (turn : Watch → Turn) (c : Connection) (w : Watch) → c.phase ≡ watching w → change_between (Some c) (Some (with_turn turn c)) (lines_by turn c.phase) None ≡ turn_change (turn w)
turned_by turn c w represents =
    ap₂ (λ (d : Connection) (n : ℕ). change_between (Some c) (Some d) n None) (after_watch turn c w (turn w).next represents refl) (ap (lines_by turn) represents)
    ∙ between_written c (turn_bytes (turn w)) (phase_after (turn w).next) (length (turn w).lines) None (ap has_ended represents)
    ∙ ap (λ (b : Bool). lines_change (turn_bytes (turn w)) (length (turn w).lines) b) (ends_after (turn w).next)

-- the change of a watch's turn is that of its connection
pub turn_did : (types : List ServedShape) (turn : Watch → Turn) (w w' : TheWatch) (out out' : Out) (c : Connection) (change : Change) → ConnectionRepresents types (conn.Watch w out) c
    → Turns (turn (watch_of w)) change (watch_of w') (left out) (left out') → change ≡ change_between (Some c) (Some (with_turn turn c)) (lines_by turn c.phase) None
turn_did types turn w w' out out' c change (represents, is, low) (bytes, did, next) = did ∙ sym (turned_by turn c (watch_of w) represents)

-- one that doesn't watch has no turn
pub idle_did : (turn : Watch → Turn) (c : Connection) (st : Phase) → c.phase ≡ st → is_watching st ≡ false → no_change ≡ change_between (Some c) (Some (after_turn turn c st)) (lines_by turn st) None
idle_did turn c (waiting prefix) represents isnt = sym (between_same c c refl refl)
idle_did turn c (watching w) represents isnt = absurd (wrong (sym isnt))
idle_did turn c ended represents isnt = sym (between_same c c refl refl)
idle_did turn c (gone had_ended) represents isnt = sym (between_same c c refl refl)

-- ---- one to which nothing is due

abbrev no_bookmark_turn : Cursor → BookmarkTurn
no_bookmark_turn w = record { line = None; next = w }

no_bookmark_of : (api_version kind : List ℕ) (w : Cursor) → is_bookmark_due w ≡ false → bookmarked api_version kind w ≡ no_bookmark_turn w
no_bookmark_of api_version kind w isnt = ap (λ (b : Bool). cond b bookmark (no_bookmark_turn w)) isnt
  where
    bookmark : BookmarkTurn
    bookmark = record { line = Some (bookmark_line api_version kind w.position); next = moved w w.position w.position w.left }

no_bookmark : (t : Option ServedShape) (w : Cursor) → is_bookmark_due w ≡ false → bookmarked_as t w ≡ no_bookmark_turn w
no_bookmark None w isnt = refl
no_bookmark (Some t) w isnt = no_bookmark_of _ t.kind w isnt

neither : (a b : Bool) → (a || b) ≡ false → (a ≡ false) × (b ≡ false)
neither true b isnt = absurd (wrong (sym isnt))
neither false b isnt = (refl, isnt)

abbrev silent_turn : Watch → Bool → Turn
silent_turn w has_ended = record { lines = []; next = unless_ended has_ended w }

quiet_turn : (types : List ServedShape) (ms : ℕ) (w : Watch) → is_due ms w ≡ false → ticked types ms w ≡ silent_turn w false
quiet_turn types ms w isnt =
    let both = neither (is_bookmark_due w.cursor) (has_timed_out ms w) isnt in
    ap (bookmark_turned ms w) (no_bookmark (slice_get types w.cursor.kind) w.cursor both.0)
    ∙ ap (silent_turn w) both.1

-- it stays as it is
pub undue_stays : (types : List ServedShape) (ms : ℕ) (c : Connection) (st : Phase) → c.phase ≡ st → writes_at ms st ≡ false
    → (after_turn (ticked types ms) c st ≡ c) × (lines_by (ticked types ms) st ≡ 0)
undue_stays types ms c (waiting prefix) represents isnt = (refl, refl)
undue_stays types ms c (watching w) represents isnt =
    let quiet = quiet_turn types ms w isnt in (
      ap (λ (t : Turn). with_written c (turn_bytes t) (phase_after t.next)) quiet
          ∙ ap₂ (λ (bytes : List ℕ) (stands : Phase). record c { written = bytes; phase = stands }) (append-nil c.written) (sym represents),
      ap (λ (t : Turn). length t.lines) quiet,
    )
undue_stays types ms c ended represents isnt = (refl, refl)
undue_stays types ms c (gone had_ended) represents isnt = (refl, refl)

-- ---- one that is dead

-- what was out is out on one that is dead
pub dies : (types : List ServedShape) (w : TheWatch) (out out' : Out) (c : Connection) → ConnectionRepresents types (conn.Watch w out) c → left out' ≡ left out → ConnectionRepresents types (conn.Ended out') (with_phase c ended)
dies types w out out' c (represents, is, low) same = (refl, is ∙ sym same)

-- one that doesn't watch stays as it is at a pump, and at a tick
pub pump_idle : (types : List ServedShape) (turn : Watch → Turn) (d : conns.Connection) (c : Connection) (st : Phase) → c.phase ≡ st → ((w : Watch) → st ≡ watching w → ⊥)
    → ConnectionRepresents types d c → ConnectionRepresents types d (after_turn turn c st)
pump_idle types turn d c (waiting prefix) represents isnt holds = holds
pump_idle types turn d c (watching w) represents isnt holds = absurd (isnt w refl)
pump_idle types turn d c ended represents isnt holds = holds
pump_idle types turn d c (gone had_ended) represents isnt holds = holds

pub turn_closed : (turn : Watch → Turn) (c : Connection) (st : Phase) → is_open st ≡ false → after_turn turn c st ≡ c
turn_closed turn c (waiting prefix) closed = absurd (wrong (sym closed))
turn_closed turn c (watching w) closed = absurd (wrong (sym closed))
turn_closed turn c ended closed = refl
turn_closed turn c (gone had_ended) closed = refl

-- ---- at a tick

pub dead_is : (types : List ServedShape) (ms : ℕ) (c : Connection) (w : Watch) → c.phase ≡ watching w → is_due ms w ≡ true → killed_or_ticked types ms true c ≡ with_phase c ended
dead_is types ms c w represents due =
    ap (λ (st : Phase). cond (writes_at ms st) (killed c) (with_turn (ticked types ms) c)) represents ∙ ap (λ (b : Bool). cond b (killed c) (with_turn (ticked types ms) c)) due
    ∙ ap (λ (st : Phase). cond (is_open st) (with_phase c ended) c) represents

-- ---- answers

ends_by : (last_tick : ℕ) (o : Option TheWatchFrom) → is_none o ≡ has_ended (answer_phase last_tick (option_map watch_from o)) && true
ends_by last_tick None = refl
ends_by last_tick (Some from) = refl

-- what answers a call after this tick
abbrev answer_after : List ServedShape → History → ℕ → Call → Answer
answer_after types m last_tick call = (planned types m (at_tick last_tick call)).answer

-- what an answer did
pub answered_did : (types : List ServedShape) (m : History) (last_tick : ℕ) (asked : List ℕ) (call : Call) (bytes : List ℕ) (status : ℕ) (o : Option TheWatchFrom)
    → bytes ≡ answer_bytes (answer_after types m last_tick call) (answer_after types m last_tick call).watch → status ≡ (answer_after types m last_tick call).status
    → option_map watch_from o ≡ (answer_after types m last_tick call).watch
    → answer_change bytes status (is_none o) ≡ received_change types m last_tick new_connection asked (accepted call)
answered_did types m last_tick asked call bytes status o are is opens =
    let a = answer_after types m last_tick call in
    ap₂ (λ (b : List ℕ) (n : ℕ). answer_change b n (is_none o)) are is
    ∙ ap (answer_change (answer_bytes a a.watch) a.status) (subst (λ (w : Option WatchFrom). is_none o ≡ has_ended (answer_phase last_tick w) && true) opens (ends_by last_tick o))

pub answered_holds : (types : List ServedShape) (last_tick : ℕ) (bytes : List ℕ) (o : Option TheWatchFrom) (a : Answer) (d : conns.Connection)
    → bytes ≡ answer_bytes a a.watch → option_map watch_from o ≡ a.watch
    → ConnectionRepresents types d (with_written new_connection bytes (answer_phase last_tick (option_map watch_from o))) → ConnectionRepresents types d (answered last_tick new_connection a)
answered_holds types last_tick bytes o a d are is holds =
    subst (λ (b : List ℕ). ConnectionRepresents types d (with_written new_connection b (answer_phase last_tick a.watch))) are
    (subst (λ (watch : Option WatchFrom). ConnectionRepresents types d (with_written new_connection bytes (answer_phase last_tick watch))) is holds)
