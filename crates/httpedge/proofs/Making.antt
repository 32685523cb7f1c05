-- What an event makes of one connection, as the code holds it.
use Rattle.std.proofs.Common.{◌≡◌, ℕ, Bool, true, false, ◌≤◌, cond, List, ◌++◌, Option, Some, None, Result, Ok, Err, refl, sym, ap, subst, ◌∙◌}
use Rattle.std.specs.Prelude.{IfSome, OnErr, nat_le}
use Rattle.std.proofs.lemmas.Bool.{le-leb}
use Rattle.api_types.specs.TypesFile.{ServedShape}
use Rattle.history.specs.History.{History}
use Rattle.verbs.specs.declared.api.Api.{Api}
use Rattle.verbs.specs.Views.{ApiRepresents}
use Rattle.requests.specs.Asks.{CallDecision}
use Rattle.api_request.specs.Calls.{Denied}
use Rattle.api_request.specs.Reasons.{code_of}
use Rattle.requests.specs.Decision.{undecided, refused, accepted}
use Rattle.requests.specs.Refusals.{as_denied, too_many_connections}
use Rattle.requests.specs.Replies.{refusal_reply}
use Rattle.httpedge.specs.declared.connection.Connection as conns
use Rattle.httpedge.specs.ChangeViews.{MakesRepresented, Receives}
use Rattle.httpedge.specs.declared.effect.Done.{Done}
use Rattle.httpedge.specs.Effects.{answer_change, change_between, decided_status, lines_by, no_change, opening_status, unasked}
use Rattle.httpedge.specs.Connections.{Connection, Connections, Phase, waiting, watching, ended, gone, has_ended, is_waiting, max_open, new_connection, open_count, with_phase, with_written}
use Rattle.httpedge.specs.ConnectionViews.{ConnectionRepresents, ReceivesRepresentedBy, has_ended_in, is_watching_in, received_change, waiting_for}
use Rattle.httpedge.specs.declared.event.ConnectionInput.TheVariants as change
use Rattle.httpedge.specs.SharedViews.{IsTurnFrom, SharedRepresents}
use Rattle.httpedge.specs.Steps.{connection_after, machine_after, opening, with_turn}
use Rattle.httpedge.specs.declared.shared.CachedTurn.{CachedTurn}
use Rattle.httpedge.specs.declared.shared.Shared.{Shared}
use Rattle.httpedge.specs.Watches.{Turn, Watch}
use Rattle.httpedge.proofs.Representing.{same_ended, same_watching}
use Rattle.httpedge.proofs.Staying.{turn_idle}
use Rattle.httpedge.proofs.Turning.{idle_did}

wrong : false ≡ true → ⊥
wrong e = cc

-- bytes make nothing of one that doesn't wait for them
pub received_idle : (types : List ServedShape) (m : History) (last_tick : ℕ) (c : Connection) (st : Phase) (bytes : List ℕ) (d : conns.Connection) (did : Done) (api : Api) → is_waiting st ≡ false
    → ConnectionRepresents types d c → did ≡ unasked no_change → ApiRepresents api types m → ReceivesRepresentedBy types m last_tick c st bytes d did api
received_idle types m last_tick c (waiting prefix) bytes d did api idle holds none represents = absurd (wrong (sym idle))
received_idle types m last_tick c (watching w) bytes d did api idle holds none represents = (holds, none, represents)
received_idle types m last_tick c ended bytes d did api idle holds none represents = (holds, none, represents)
received_idle types m last_tick c (gone had_ended) bytes d did api idle holds none represents = (holds, none, represents)

later : (types : List ServedShape) (m : History) (last_tick : ℕ) (prefix bytes : List ℕ) (decision : CallDecision)
    → connection_after types m last_tick new_connection bytes decision ≡ connection_after types m last_tick (waiting_for prefix) bytes decision
later types m last_tick prefix bytes undecided = refl
later types m last_tick prefix bytes (refused d) = refl
later types m last_tick prefix bytes (accepted call) = refl

-- without a last turn the API alone stands
pub serves : (shared : Shared) (types : List ServedShape) (m : History) → shared.last ≡ None → ApiRepresents shared.api types m → SharedRepresents shared types m
serves shared types m none represents = (represents, subst (λ (o : Option CachedTurn). IfSome o (IsTurnFrom m)) (sym none) tt)

pub received_makes : (types : List ServedShape) (m : History) (last_tick : ℕ) (c : Connection) (st : Phase) (bytes : List ℕ) (d : conns.Connection) (did : Done) (shared : Shared) → shared.last ≡ None
    → ReceivesRepresentedBy types m last_tick c st bytes d did shared.api → (c' : Connection) × Receives types m last_tick c st bytes c' did shared × ConnectionRepresents types d c'
received_makes types m last_tick c (waiting prefix) bytes d done shared none (is, (decision, asks, holds, (did, asked), represents)) = (
  connection_after types m last_tick c (prefix ++ bytes) decision,
  (
    decision,
    asks,
    refl,
    (
      did ∙ ap (λ (x : Connection). change_between (Some new_connection) (Some x) 0 (decided_status types m last_tick decision)) (later types m last_tick prefix (prefix ++ bytes) decision)
          ∙ sym (ap (λ (x : Connection). received_change types m last_tick x (prefix ++ bytes) decision) is),
      asked,
    ),
    serves shared types (machine_after types m last_tick decision) none represents,
  ),
  subst (λ (x : Connection). ConnectionRepresents types d x)
      (later types m last_tick prefix (prefix ++ bytes) decision ∙ sym (ap (λ (x : Connection). connection_after types m last_tick x (prefix ++ bytes) decision) is)) holds,
)
received_makes types m last_tick c (watching w) bytes d done shared none (holds, did, represents) = (c, (refl, did, serves shared types m none represents), holds)
received_makes types m last_tick c ended bytes d done shared none (holds, did, represents) = (c, (refl, did, serves shared types m none represents), holds)
received_makes types m last_tick c (gone had_ended) bytes d done shared none (holds, did, represents) = (c, (refl, did, serves shared types m none represents), holds)

-- its peer goes
pub goes_held : (types : List ServedShape) (m : History) (last_tick : ℕ) (c : Connection) (d e : conns.Connection) (shared : Shared) → SharedRepresents shared types m → ConnectionRepresents types d c
    → ConnectionRepresents types e (with_phase c (gone (has_ended_in d))) → MakesRepresented types m last_tick change.Gone c e (unasked no_change) shared
goes_held types m last_tick c d e shared represents holds went =
    (with_phase c (gone (has_ended c.phase)), (refl, refl, represents), subst (λ (b : Bool). ConnectionRepresents types e (with_phase c (gone b))) (same_ended types d c holds) went)

pub on_err_then : {A E P Q : Type 0} (r : Result A E) → (P → Q) → OnErr r P → OnErr r Q
on_err_then (Ok a) f p = tt {0}
on_err_then (Err e) f p = f p

-- ---- past the limit

abbrev pub refused_with : Denied → Connection
refused_with d = with_written new_connection (refusal_reply d) ended

-- an opening where as many are open as may be
pub opens_none : (count : ℕ) (all : Connections) → max_open ≤ count → count ≡ open_count all
    → (opening all ≡ refused_with (as_denied too_many_connections))
    × (change_between None (Some (opening all)) 0 (opening_status all)
    ≡ answer_change (refusal_reply (as_denied too_many_connections)) (code_of (as_denied too_many_connections).reason) true)
opens_none count all full same =
    let are : nat_le max_open (open_count all) ≡ true = ap (nat_le max_open) (sym same) ∙ le-leb max_open count full in
    let d : Denied = as_denied too_many_connections in (
      ap (λ (b : Bool). cond b (refused_with d) new_connection) are,
      ap (λ (b : Bool). change_between None (Some (cond b (refused_with d) new_connection)) 0 (cond b (Some (code_of d.reason)) None)) are,
    )

-- one that doesn't watch has no turn
pub idle_turn : (types : List ServedShape) (turn : Watch → Turn) (d : conns.Connection) (c : Connection) → is_watching_in d ≡ false → ConnectionRepresents types d c
    → (no_change ≡ change_between (Some c) (Some (with_turn turn c)) (lines_by turn c.phase) None) × ConnectionRepresents types d (with_turn turn c)
idle_turn types turn d c isnt holds =
    let idle = sym (same_watching types d c holds) ∙ isnt in
    (idle_did turn c c.phase refl idle, subst (ConnectionRepresents types d) (sym (turn_idle turn c c.phase idle)) holds)
