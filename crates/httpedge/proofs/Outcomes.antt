-- Bytes in two pieces lead where they lead in one, and events lead to one state.
use Rattle.std.proofs.Common.{◌≡◌, ◌≢◌, ℕ, true, false, cond, List, [], ◌∷◌, ◌++◌, Option, Some, None, refl, sym, ap, subst, ◌∙◌, append_assoc}
use Rattle.std.specs.Prelude.{is_some, option_and_then}
use Rattle.std.specs.FinMap as fin
use Rattle.api_types.specs.TypesFile.{ServedShape}
use Rattle.history.specs.History.{History}
use Rattle.verbs.specs.Machine.{after}
use Rattle.answers.specs.WatchFrom.{WatchFrom}
use Rattle.api_request.specs.Calls.{at_tick}
use Rattle.verbs.specs.Step.{planned}
use Rattle.requests.specs.Asks.{CallDecision, Asks, asked_by}
use Rattle.httpedge.specs.Connections.{Connection, Phase, waiting, watching, ended, gone, is_waiting, with_phase, with_written}
use Rattle.requests.specs.Decision.{undecided, refused, accepted}
use Rattle.requests.specs.Heads.{HeadDecision, ReadsHead}
use Rattle.httpedge.specs.Runs.{AsksIf, all_bytes, bytes_at, Steps, Action, happens, runs_out_of_memory, takes, Follows, Runs}
use Rattle.httpedge.specs.Steps.{State, Event, answer_phase, comes, by_connection, connection_after, machine_after, received, received_by, stepped, unknown_id, with_connection, with_connections, with_machine, unless_refused}
use Rattle.requests.specs.Replies.{answer_bytes, refusal_reply}
use Rattle.requests.proofs.Deciding.{asks_more, asks_one}
use Rattle.httpedge.proofs.Connected.{put_there, put_again}

-- ---- bytes in two pieces

-- bytes come on this connection, if there is one
abbrev pub ComesBy : State → ℕ → Option Connection → List ℕ → State → Type 0
ComesBy s id o bytes t =
    (decision : CallDecision) × AsksIf s (option_and_then (λ c. all_bytes c.phase bytes) o) decision
    × (t ≡ unless_refused (cond (is_some o) None (Some unknown_id)) s (by_connection s o (λ c. received_by s id c c.phase bytes decision)))

-- the same of a connection that stands so
abbrev pub ComesOn : State → ℕ → Connection → Phase → List ℕ → State → Type 0
ComesOn s id c st bytes t = (decision : CallDecision) × AsksIf s (all_bytes st bytes) decision × (t ≡ received_by s id c st bytes decision)

again : (s : State) (id : ℕ) (c d : Connection) → with_connection (with_connection s id c) id d ≡ with_connection s id d
again s id c d = ap (with_connections s) (put_again s.connections id c d)

-- more bytes, after those that left it undecided
connection_later : (types : List ServedShape) (m : History) (last_tick : ℕ) (c : Connection) (prefix bytes : List ℕ) (decision : CallDecision)
    → connection_after types m last_tick (with_phase c (waiting prefix)) bytes decision ≡ connection_after types m last_tick c bytes decision
connection_later types m last_tick c prefix bytes undecided = refl
connection_later types m last_tick c prefix bytes (refused d) = refl
connection_later types m last_tick c prefix bytes (accepted call) = refl

received_after : (s : State) (id : ℕ) (c : Connection) (prefix bytes : List ℕ) (decision : CallDecision)
    → received (with_connection s id (with_phase c (waiting prefix))) id (with_phase c (waiting prefix)) bytes decision ≡ received s id c bytes decision
received_after s id c prefix bytes decision =
    let m = machine_after s.types s.machine s.last_tick decision in
    again (with_machine s m) id (with_phase c (waiting prefix)) (connection_after s.types s.machine s.last_tick (with_phase c (waiting prefix)) bytes decision)
    ∙ ap (with_connection (with_machine s m) id) (connection_later s.types s.machine s.last_tick c prefix bytes decision)

wrong : true ≡ false → ⊥
wrong e = cc

-- after an answer the rest changes nothing
on_idle : (s t : State) (id : ℕ) (c : Connection) (written : List ℕ) (st : Phase) (second : List ℕ) → is_waiting st ≡ false → ComesBy s id (Some (with_written c written st)) second t → t ≡ s
on_idle s t id c written (waiting prefix) second isnt (decision, asks, is) = absurd (wrong isnt)
on_idle s t id c written (watching w) second isnt (decision, asks, is) = is
on_idle s t id c written ended second isnt (decision, asks, is) = is
on_idle s t id c written (gone had_ended) second isnt (decision, asks, is) = is

answer_idle : (last_tick : ℕ) (o : Option WatchFrom) → is_waiting (answer_phase last_tick o) ≡ false
answer_idle last_tick None = refl
answer_idle last_tick (Some from) = refl

-- where the first piece left it waiting
then_waits : (s t : State) (id : ℕ) (c : Connection) (prefix first second : List ℕ)
    → ComesBy (with_connection s id (with_phase c (waiting (prefix ++ first)))) id (Some (with_phase c (waiting (prefix ++ first)))) second t
    → ComesOn s id c (waiting prefix) (first ++ second) t
then_waits s t id c prefix first second (decision, asks, is) =
    let whole = append_assoc prefix first second in (
      decision,
      subst (λ (bytes : List ℕ). Asks s.types bytes decision) whole asks,
      is ∙ received_after s id c (prefix ++ first) (prefix ++ first ++ second) decision ∙ ap (λ (bytes : List ℕ). received s id c bytes decision) whole,
    )

-- what the first piece asked, the whole asks too
then_answered : (s t : State) (id : ℕ) (c : Connection) (prefix first second written : List ℕ) (st : Phase) (decision : CallDecision) (r : State) → is_waiting st ≡ false
    → decision ≢ undecided → Asks s.types (prefix ++ first) decision → received s id c (prefix ++ (first ++ second)) decision ≡ with_connection r id (with_written c written st)
    → ComesBy (with_connection r id (with_written c written st)) id (Some (with_written c written st)) second t → ComesOn s id c (waiting prefix) (first ++ second) t
then_answered s t id c prefix first second written st decision r isnt decided asks too later = (
  decision,
  subst (λ (bytes : List ℕ). Asks s.types bytes decision) (append_assoc prefix first second) (asks_more s.types (prefix ++ first) second decision asks decided),
  on_idle (with_connection r id (with_written c written st)) t id c written st second isnt later ∙ sym too,
)

-- by what stands under the id after the first piece
found : (r : State) (id : ℕ) (d : Connection) (second : List ℕ) (t : State) → ComesBy (with_connection r id d) id (fin.get (fin.insert r.connections id d) id) second t
    → ComesBy (with_connection r id d) id (Some d) second t
found r id d second t later = subst (λ (o : Option Connection). ComesBy (with_connection r id d) id o second t) (put_there r.connections id d) later

abbrev pub ThenComes : State → ℕ → List ℕ → State → Type 0
ThenComes mid id second t = ComesBy mid id (fin.get mid.connections id) second t

by_asked : (s mid t : State) (id : ℕ) (c : Connection) (prefix first second : List ℕ) (decision : CallDecision) → Asks s.types (prefix ++ first) decision
    → mid ≡ received s id c (prefix ++ first) decision → ThenComes mid id second t → ComesOn s id c (waiting prefix) (first ++ second) t
by_asked s mid t id c prefix first second undecided asks is later =
    let d = with_phase c (waiting (prefix ++ first)) in
    then_waits s t id c prefix first second (found s id d second t (subst (λ (m : State). ThenComes m id second t) is later))
by_asked s mid t id c prefix first second (refused e) asks is later =
    let d = with_written c (refusal_reply e) ended in
    then_answered s t id c prefix first second (refusal_reply e) ended (refused e) s refl (λ u. absurd cc) asks refl
    (found s id d second t (subst (λ (m : State). ThenComes m id second t) is later))
by_asked s mid t id c prefix first second (accepted call) asks is later =
    let plan = planned s.types s.machine (at_tick s.last_tick call) in
    let written = answer_bytes plan.answer plan.answer.watch in
    let st = answer_phase s.last_tick plan.answer.watch in
    let r = with_machine s (after s.machine plan.changes) in
    then_answered s t id c prefix first second written st (accepted call) r (answer_idle s.last_tick plan.answer.watch) (λ u. absurd cc) asks refl
    (found r id (with_written c written st) second t (subst (λ (m : State). ThenComes m id second t) is later))

-- on a connection that doesn't wait both pieces change nothing
idle : (s mid t : State) (id : ℕ) (c : Connection) (st : Phase) (first second : List ℕ) → c.phase ≡ st → fin.get s.connections id ≡ Some c
    → ((bytes : List ℕ) → all_bytes st bytes ≡ None) → ((bytes : List ℕ) (decision : CallDecision) → received_by s id c st bytes decision ≡ s)
    → mid ≡ s → ThenComes mid id second t → ComesOn s id c st (first ++ second) t
idle s mid t id c st first second represents at none same is later =
    let here = subst (λ (m : State). ThenComes m id second t) is later in
    let after = subst (λ (o : Option Connection). ComesBy s id o second t) at here in
    let on : ComesOn s id c st second t = subst (λ (x : Phase). ComesOn s id c x second t) represents (after.0, after.1, after.2) in (
      undecided,
      subst (λ (o : Option (List ℕ)). AsksIf s o undecided) (sym (none (first ++ second))) refl,
      on.2 ∙ same second on.0 ∙ sym (same (first ++ second) undecided),
    )

by_phase : (s mid t : State) (id : ℕ) (c : Connection) (st : Phase) (first second : List ℕ) → c.phase ≡ st → fin.get s.connections id ≡ Some c
    → ComesOn s id c st first mid → ThenComes mid id second t → ComesOn s id c st (first ++ second) t
by_phase s mid t id c (waiting prefix) first second represents at (decision, asks, is) later = by_asked s mid t id c prefix first second decision asks is later
by_phase s mid t id c (watching w) first second represents at (decision, asks, is) later =
    idle s mid t id c (watching w) first second represents at (λ b. refl) (λ b a. refl) is later
by_phase s mid t id c ended first second represents at (decision, asks, is) later = idle s mid t id c ended first second represents at (λ b. refl) (λ b a. refl) is later
by_phase s mid t id c (gone had_ended) first second represents at (decision, asks, is) later =
    idle s mid t id c (gone had_ended) first second represents at (λ b. refl) (λ b a. refl) is later

by_id : (s mid t : State) (id : ℕ) (o : Option Connection) (first second : List ℕ) → fin.get s.connections id ≡ o → ComesBy s id o first mid → ThenComes mid id second t
    → ComesBy s id o (first ++ second) t
by_id s mid t id None first second at (decision, asks, is) later =
    let here = subst (λ (m : State). ThenComes m id second t) is later in
    let after = subst (λ (o : Option Connection). ComesBy s id o second t) at here in
    (undecided, refl, after.2)
by_id s mid t id (Some c) first second at came later = by_phase s mid t id c c.phase first second refl at came later

pub two_pieces : (s mid t : State) (id : ℕ) (first second : List ℕ) → Steps s (comes id first) mid → Steps mid (comes id second) t → Steps s (comes id (first ++ second)) t
two_pieces s mid t id first second one other = by_id s mid t id (fin.get s.connections id) first second refl one other

-- ---- one outcome

one_asked : (s : State) (o : Option (List ℕ)) (a b : CallDecision) → AsksIf s o a → AsksIf s o b → a ≡ b
one_asked s None a b is that = is ∙ sym that
one_asked s (Some bytes) a b is that = asks_one s.types bytes a b is that

pub one_step : (s t u : State) (e : Event) → Steps s e t → Steps s e u → t ≡ u
one_step s t u e (a, asks, is) (b, also, that) = is ∙ ap (stepped s e) (one_asked s (bytes_at s e) a b asks also) ∙ sym that

one_follows : (s t u : State) (h : Action) → Follows s h t → Follows s h u → t ≡ u
one_follows s t u (happens e) is that = one_step s t u e is that
one_follows s t u (runs_out_of_memory e ran_out_on) is that = is.2 ∙ sym that.2
one_follows s t u (takes id n) is that = is ∙ sym that

pub one_run : (s t u : State) (hs : List Action) → Runs s hs t → Runs s hs u → t ≡ u
one_run s t u [] is that = is ∙ sym that
one_run s t u (h ∷ hs) (mid, first, rest) (other, also, too) =
    let same = one_follows s mid other h first also in
    one_run mid t u hs rest (subst (λ (m : State). Runs m hs u) (sym same) too)

-- ---- each event has a step

pub step_without : (s : State) (e : Event) → bytes_at s e ≡ None → (t : State) × Steps s e t
step_without s e none = (stepped s e undecided, (undecided, subst (λ (o : Option (List ℕ)). AsksIf s o undecided) (sym none) refl, refl))

pub step_with : (s : State) (e : Event) (bytes : List ℕ) (head : HeadDecision) → ReadsHead bytes head → bytes_at s e ≡ Some bytes → (t : State) × Steps s e t
step_with s e bytes head reads some =
    let decision : CallDecision = asked_by s.types head in
    (stepped s e decision, (decision, subst (λ (o : Option (List ℕ)). AsksIf s o decision) (sym some) (head, reads, refl), refl))
