-- What an event makes of a connection that doesn't watch: it waits, or has its reply and has ended.
use Rattle.std.proofs.Common.{◌≡◌, ℕ, Bool, true, false, cond, List, ◌++◌, Option, Some, None, ap, subst, ◌∙◌}
use Rattle.std.specs.FinMap as fin
use Rattle.api_request.specs.Calls.{Answer, Call, Denied, at_tick}
use Rattle.verbs.specs.Step.{planned}
use Rattle.answers.specs.WatchFrom.{WatchFrom}
use Rattle.requests.specs.Asks.{Asks, CallDecision}
use Rattle.requests.specs.Decision.{accepted, refused, undecided}
use Rattle.requests.specs.Replies.{answer_bytes, answer_reply, refusal_reply}
use Rattle.requests.proofs.Deciding.{asks_one}
use Rattle.httpedge.specs.Connections.{Connection, Phase, ended, gone, is_new, is_waiting, waiting, watching, with_phase, with_written}
use Rattle.httpedge.specs.Runs.{Steps}
use Rattle.httpedge.specs.Steps.{Event, Refusal, State, answer_phase, applied_event, comes, connection_after, id_not_above, opening, opens, received, refusal, unless_refused}
use Rattle.httpedge.proofs.Connected.{put_there}
use Rattle.httpedge.proofs.Outcomes.{ComesBy, ComesOn}

-- ---- bytes come

pub came : (s t : State) (id : ℕ) (bytes prefix : List ℕ) (c : Connection) (asked : CallDecision) → Steps s (comes id bytes) t → fin.get s.connections id ≡ Some c → c.phase ≡ waiting prefix
    → Asks s.types (prefix ++ bytes) asked → fin.get t.connections id ≡ Some (connection_after s.types s.machine s.last_tick c (prefix ++ bytes) asked)
came s t id bytes prefix c asked steps got represents asks =
    let came : ComesBy s id (Some c) bytes t = subst (λ (o : Option Connection). ComesBy s id o bytes t) got steps in
    let on : ComesOn s id c (waiting prefix) bytes t = subst (λ (st : Phase). ComesOn s id c st bytes t) represents (came.0, came.1, came.2) in
    let same = asks_one s.types (prefix ++ bytes) on.0 asked on.1 asks in
    ap (λ (x : State). fin.get x.connections id) (on.2 ∙ ap (received s id c (prefix ++ bytes)) same)
    ∙ put_there s.connections id (connection_after s.types s.machine s.last_tick c (prefix ++ bytes) asked)

pub answers : (s t : State) (id : ℕ) (bytes prefix : List ℕ) (c : Connection) (call : Call) → Steps s (comes id bytes) t → fin.get s.connections id ≡ Some c → c.phase ≡ waiting prefix
    → Asks s.types (prefix ++ bytes) (accepted call) → (planned s.types s.machine (at_tick s.last_tick call)).answer.watch ≡ None
    → fin.get t.connections id ≡ Some (with_written c (answer_reply (planned s.types s.machine (at_tick s.last_tick call)).answer) ended)
answers s t id bytes prefix c call steps got represents asks none =
    let answer : Answer = (planned s.types s.machine (at_tick s.last_tick call)).answer in
    came s t id bytes prefix c (accepted call) steps got represents asks
    ∙ ap (λ (o : Option WatchFrom). Some (with_written c (answer_bytes answer o) (answer_phase s.last_tick o))) none

pub refuses : (s t : State) (id : ℕ) (bytes prefix : List ℕ) (c : Connection) (d : Denied) → Steps s (comes id bytes) t → fin.get s.connections id ≡ Some c → c.phase ≡ waiting prefix
    → Asks s.types (prefix ++ bytes) (refused d) → fin.get t.connections id ≡ Some (with_written c (refusal_reply d) ended)
refuses s t id bytes prefix c d steps got represents asks = came s t id bytes prefix c (refused d) steps got represents asks

pub waits : (s t : State) (id : ℕ) (bytes prefix : List ℕ) (c : Connection) → Steps s (comes id bytes) t → fin.get s.connections id ≡ Some c → c.phase ≡ waiting prefix
    → Asks s.types (prefix ++ bytes) undecided → fin.get t.connections id ≡ Some (with_phase c (waiting (prefix ++ bytes)))
waits s t id bytes prefix c steps got represents asks = came s t id bytes prefix c undecided steps got represents asks

-- ---- nothing happens

pub unreceived : (s t : State) (id : ℕ) (bytes : List ℕ) (c : Connection) → Steps s (comes id bytes) t → fin.get s.connections id ≡ Some c → is_waiting c.phase ≡ false → t ≡ s
unreceived s t id bytes c steps got isnt =
    let came : ComesBy s id (Some c) bytes t = subst (λ (o : Option Connection). ComesBy s id o bytes t) got steps in
    by_phase c.phase isnt (came.0, came.1, came.2)
  where
    by_phase : (st : Phase) → is_waiting st ≡ false → ComesOn s id c st bytes t → t ≡ s
    by_phase (waiting prefix) isnt on = absurd cc
    by_phase (watching w) isnt on = on.2
    by_phase ended isnt on = on.2
    by_phase (gone had_ended) isnt on = on.2

pub refused_stays : (s t : State) (e : Event) (why : Refusal) → refusal s e ≡ Some why → Steps s e t → t ≡ s
refused_stays s t e why is steps = steps.2 ∙ ap (λ (o : Option Refusal). unless_refused o s (applied_event s e steps.0)) is

-- ---- it opens

pub opens_so : (s t : State) (id : ℕ) → is_new s.connections id ≡ true → Steps s (opens id) t → fin.get t.connections id ≡ Some (opening s.connections)
opens_so s t id new steps =
    ap (λ (x : State). fin.get x.connections id) (steps.2 ∙ ap (λ (b : Bool). unless_refused (cond b None (Some id_not_above)) s (applied_event s (opens id) steps.0)) new)
    ∙ put_there s.connections id (opening s.connections)
