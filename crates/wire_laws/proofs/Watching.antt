-- What the hub writes of a watch: its head, and then what each turn writes.
use Rattle.std.proofs.Common.{◌≡◌, ℕ, Bool, false, cond, List, ◌++◌, Option, Some, None, ap, ap₂, ◌∙◌}
use Rattle.std.specs.Prelude.{◌==◌, is_some, nat_lt, option_map}
use Rattle.std.specs.FinMap as fin
use Rattle.api_request.specs.Calls.{Answer, Call, at_tick}
use Rattle.verbs.specs.Step.{planned}
use Rattle.answers.specs.WatchFrom.{WatchFrom}
use Rattle.requests.specs.Asks.{Asks}
use Rattle.httpedge.specs.Connections.{Connection, Phase, waiting, watching, with_written}
use Rattle.requests.specs.Decision.{accepted}
use Rattle.requests.specs.ReplyBytes.{watch_head}
use Rattle.httpedge.specs.Runs.{Steps}
use Rattle.httpedge.specs.Steps.{State, after_turn, answer_phase, by_connection, applied_event, comes, no_lines, pumps, phase_after, tick_back, ticks, turn_bytes, unknown_id, unless_refused, with_connection, with_turn}
use Rattle.requests.specs.Replies.{answer_bytes}
use Rattle.httpedge.specs.Watches.{Turn, Watch, begun_at, pumped, ticked}
use Rattle.httpedge.proofs.Connected.{got_each, put_there}
use Rattle.wire_laws.proofs.BegunAnswers.{came}

pub begins : (s t : State) (id : ℕ) (bytes prefix : List ℕ) (c : Connection) (call : Call) (from : WatchFrom) → Steps s (comes id bytes) t → fin.get s.connections id ≡ Some c → c.phase ≡ waiting prefix
    → Asks s.types (prefix ++ bytes) (accepted call) → (planned s.types s.machine (at_tick s.last_tick call)).answer.watch ≡ Some from
    → fin.get t.connections id ≡ Some (with_written c (watch_head (planned s.types s.machine (at_tick s.last_tick call)).answer.status) (watching (begun_at s.last_tick from)))
begins s t id bytes prefix c call from steps got represents asks opens =
    let answer : Answer = (planned s.types s.machine (at_tick s.last_tick call)).answer in
    came s t id bytes prefix c (accepted call) steps got represents asks
    ∙ ap (λ (o : Option WatchFrom). Some (with_written c (answer_bytes answer o) (answer_phase s.last_tick o))) opens

turn_is : (turn : Watch → Turn) (c : Connection) (w : Watch) → c.phase ≡ watching w → Some (with_turn turn c) ≡ Some (with_written c (turn_bytes (turn w)) (phase_after (turn w).next))
turn_is turn c w represents = ap (λ (st : Phase). Some (after_turn turn c st)) represents

pub pumps_write : (s t : State) (id max : ℕ) (c : Connection) (w : Watch) → Steps s (pumps id max) t → fin.get s.connections id ≡ Some c → c.phase ≡ watching w → (max == 0) ≡ false
    → fin.get t.connections id ≡ Some (with_written c (turn_bytes (pumped s.machine max w)) (phase_after (pumped s.machine max w).next))
pumps_write s t id max c w (asked, asks, is) got represents some =
    let turn = pumped s.machine max in
    ap (λ (x : State). fin.get x.connections id)
    (is ∙ ap₂ (λ (o : Option Connection) (b : Bool). unless_refused (cond (is_some o) (cond b (Some no_lines) None) (Some unknown_id)) s (by_connection s o (λ x. with_connection s id (with_turn turn x)))) got some)
    ∙ put_there s.connections id (with_turn turn c) ∙ turn_is turn c w represents

pub ticks_write : (s t : State) (ms id : ℕ) (c : Connection) (w : Watch) → Steps s (ticks ms) t → fin.get s.connections id ≡ Some c → c.phase ≡ watching w → nat_lt ms s.last_tick ≡ false
    → fin.get t.connections id ≡ Some (with_written c (turn_bytes (ticked s.types ms w)) (phase_after (ticked s.types ms w).next))
ticks_write s t ms id c w (asked, asks, is) got represents forward =
    let turn = ticked s.types ms in
    let f = λ (q : ℕ) (x : Connection). with_turn turn x in
    ap (λ (x : State). fin.get x.connections id) (is ∙ ap (λ (b : Bool). unless_refused (cond b (Some tick_back) None) s (applied_event s (ticks ms) asked)) forward)
    ∙ got_each f s.connections id ∙ ap (option_map (with_turn turn)) got ∙ turn_is turn c w represents
