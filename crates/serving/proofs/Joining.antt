-- Turns of a connection join.
use Rattle.std.proofs.Common.{◌≡◌, ◌≢◌, ℕ, zero, suc, map, Bool, true, false, cond, T, List, [], ◌∷◌, ◌++◌, take, Option, Some, None, Result, refl, sym, ap, ap₂, subst, ◌∙◌, append_assoc, append-nil}
use Rattle.std.specs.Prelude.{◌==◌, is_some, option_map, unwrap_or}
use Rattle.std.specs.FinMap as fin
use Rattle.std.proofs.lemmas.Grind.{flat_map-append}
use Rattle.std.proofs.Math.Dec.{eqb_refl}
use Rattle.std.proofs.lemmas.List.{map-append}
use Rattle.httpedge.specs.Connections.{Connection, gone, has_ended, is_open, open_on, out_on, with_phase}
use Rattle.httpedge.specs.Runs.{Follows, Action, HappensElsewhere, IsElsewhere, Runs, Subject, bytes_of, connection, happens, runs_out_of_memory, subject, takes}
use Rattle.httpedge.specs.Steps.{Event, State, by_connection, comes, goes, ticks, unknown_id, unless_refused, with_bytes_taken, with_connection}
use Rattle.httpedge.specs.StreamViews.{Compacts, MovesBy, Hands, HandsIf}
use Rattle.httpedge.specs.declared.hub.Hub.{Hub}
use Rattle.httpedge.proofs.Connected.{put_there}
use Rattle.httpedge.proofs.Handed.{by_hands, runs_then}
use Rattle.httpedge.proofs.Staying.{others}
use Rattle.serving.specs.declared.server.Limits.{Limits}
use Rattle.serving.specs.Serving.{DoesRounds, Goes, HasTurn, HasTurns, IsPumped, Reaches, Served, ServesOne}
use Rattle.serving.specs.Tidies.{Pumps, PumpsAll, Tidies}
use Rattle.serving.specs.Turns.{IsGiven, Turns, came_on, is_on}
use Rattle.serving.proofs.Givens.{TakesNone, given_grows, given_stays}

truth_of : (b : Bool) → T b → b ≡ true
truth_of true holds = refl
truth_of false holds = absurd holds

pub same_id : (id : ℕ) → (id == id) ≡ true
same_id id = truth_of (id == id) (eqb_refl id)

-- ---- turns

none_sent : (id : ℕ) (given : List ℕ) (t : State) → IsGiven given (fin.get t.connections id) → IsGiven (given ++ []) (fin.get t.connections id)
none_sent id given t is = subst (λ (g : List ℕ). IsGiven g (fin.get t.connections id)) (sym (append-nil given)) is

turns_none : (id : ℕ) (s : State) → Turns id s [] [] s
turns_none id s = ([], refl, refl, (λ given is. none_sent id given s is), (λ other isnt. refl))

pub turns_then : (id : ℕ) (s mid t : State) (a b c d : List ℕ) → Turns id s a b mid → Turns id mid c d t → Turns id s (a ++ c) (b ++ d) t
turns_then id s mid t a b c d (hs, ran, received, gives, stay) (gs, runs, receives, given, stays) = (
  hs ++ gs,
  runs_then s mid t hs gs ran runs,
  flat_map-append (came_on id) hs gs ∙ ap₂ (λ (x y : List ℕ). x ++ y) received receives,
  (λ g is. subst (λ (x : List ℕ). IsGiven x (fin.get t.connections id)) (append_assoc g b d) (given (g ++ b) (gives g is))),
  (λ other isnt. stays other isnt ∙ stay other isnt),
)

one_turn : (id : ℕ) (s t : State) (h : Action) → TakesNone h id → ((other : ℕ) → other ≢ id → HappensElsewhere h other) → Follows s h t → Turns id s (came_on id h) [] t
one_turn id s t h none apart follows = (
  h ∷ [],
  (t, follows, refl),
  append-nil (came_on id h),
  (λ given is. none_sent id given t (given_stays given s t h id none is follows)),
  (λ other isnt. others s t h other (apart other isnt) follows),
)

-- all the bytes of an event of the connection come on it
all_on : (id : ℕ) (e : Event) → subject e ≡ connection id → cond (is_on (subject e) id) (bytes_of e) [] ≡ bytes_of e
all_on id e of_it = ap (λ (x : Subject). cond (is_on x id) (bytes_of e) []) of_it ∙ ap (λ (b : Bool). cond b (bytes_of e) []) (same_id id)

event_turn : (id : ℕ) (s t : State) (e : Event) → subject e ≡ connection id → Hands e s t → Turns id s (bytes_of e) [] t
event_turn id s t e of_it (h, is, follows) =
    let apart : (other : ℕ) → other ≢ id → IsElsewhere (subject e) other = λ other isnt. subst (λ (x : Subject). IsElsewhere x other) (sym of_it) isnt in
    let turn : Turns id s (cond (is_on (subject e) id) (bytes_of e) []) [] t =
    by_hands e (λ x. Follows s x t → Turns id s (cond (is_on (subject e) id) (bytes_of e) []) [] t)
    (λ f. one_turn id s t (happens e) tt apart f) (λ which f. one_turn id s t (runs_out_of_memory e which) tt apart f) h is follows in
    subst (λ (bytes : List ℕ). Turns id s bytes [] t) (all_on id e of_it) turn

-- bytes that are taken are a turn
pub take_turn : (id : ℕ) (s : State) (n : ℕ) (out : List ℕ) → out_on s.connections id ≡ out → Turns id s [] (take n out) (with_bytes_taken s id n)
take_turn id s n out outs = (
  takes id n ∷ [],
  (with_bytes_taken s id n, refl, refl),
  ap (λ (b : Bool). cond {A = List ℕ} b [] [] ++ []) (same_id id),
  (λ given is. given_grows given s id n out is outs),
  (λ other isnt. others s (with_bytes_taken s id n) (takes id n) other isnt refl),
)

-- ---- a peer that has gone

abbrev open_in : Option Connection → Bool
open_in o = unwrap_or (option_map (λ c. is_open c.phase) o) false

gone_closed : (s : State) (id : ℕ) (o : Option Connection) → fin.get s.connections id ≡ o
    → open_on (unless_refused (cond (is_some o) None (Some unknown_id)) s (by_connection s o (λ c. with_connection s id (with_phase c (gone (has_ended c.phase)))))).connections id ≡ false
gone_closed s id None at = ap open_in at
gone_closed s id (Some c) at = ap open_in (put_there s.connections id (with_phase c (gone (has_ended c.phase))))

wrong : false ≡ true → ⊥
wrong e = cc

goes_closed : (id : ℕ) (s t : State) → Hands (goes id) s t → open_on t.connections id ≡ false
goes_closed id s t (h, is, follows) =
    by_hands (goes id) (λ x. Follows s x t → open_on t.connections id ≡ false)
    (λ f. ap (λ (x : State). open_on x.connections id) f.2 ∙ gone_closed s id (fin.get s.connections id) refl)
    (λ which f. absurd (wrong f.1)) h is follows

-- ---- hubs

pub serves_none : (id : ℕ) (hub : Hub) → HasTurns id hub [] [] hub
serves_none id hub = λ s is. (s, turns_none id s, is)

pub serves_then : (id : ℕ) (x y z : Hub) (a b c d : List ℕ) → HasTurns id x a b y → HasTurns id y c d z → HasTurns id x (a ++ c) (b ++ d) z
serves_then id x y z a b c d first second = λ s is.
    let one = first s is in
    let two = second one.0 one.2 in
    (two.0, turns_then id s one.0 two.0 a b c d one.1 two.1, two.2)

pub serves_event : (id : ℕ) (x y : Hub) (e : Event) → subject e ≡ connection id → MovesBy (Hands e) x y → HasTurns id x (bytes_of e) [] y
serves_event id x y e of_it hands = λ s is.
    let one = hands s is in
    (one.0, event_turn id s one.0 e of_it one.1, one.2)

pub serves_comes : (id : ℕ) (x y : Hub) (bytes : List ℕ) → MovesBy (Hands (comes id bytes)) x y → HasTurns id x bytes [] y
serves_comes id x y bytes hands = serves_event id x y (comes id bytes) refl hands

pub serves_goes : (id : ℕ) (x y : Hub) → MovesBy (Hands (goes id)) x y → Goes id x y
serves_goes id x y hands = λ s is.
    let one = hands s is in
    (one.0, event_turn id s one.0 (goes id) refl one.1, goes_closed id s one.0 one.1, one.2)

-- ---- what leads from a hub to another

pub reaches_none : (hub : Hub) → Reaches hub hub
reaches_none hub = λ s is. ([], s, refl, is)

pub reaches_then : (x y z : Hub) → Reaches x y → Reaches y z → Reaches x z
reaches_then x y z first second = λ s is.
    let one = first s is in
    let two = second one.1 one.3 in
    (one.0 ++ two.0, two.1, runs_then s one.1 two.1 one.0 two.0 one.2 two.2, two.3)

pub reaches_turn : (id : ℕ) (x y : Hub) (received sent_bytes : List ℕ) → HasTurns id x received sent_bytes y → Reaches x y
reaches_turn id x y received sent_bytes serves = λ s is.
    let one = serves s is in
    (one.1.0, one.0, one.1.1, one.2)

pub serves_gone : (id : ℕ) (x y : Hub) → Goes id x y → HasTurns id x [] [] y
serves_gone id x y left = λ s is.
    let one = left s is in
    (one.0, one.1, one.3)

pub turned : {A E : Type 0} (r : Result A E) (id : ℕ) (x y : Hub) (received sent_bytes : List ℕ) → HasTurn r id x received sent_bytes y → HasTurns id x received sent_bytes y
turned r id x y received sent_bytes had = λ s is.
    let one = had s is in
    (one.0, one.1, one.3)

pub one_none : (hub : Hub) → ServesOne hub hub
one_none hub = (0, [], [], serves_none 0 hub)

pub one_served : (id : ℕ) (a b d : Option (List ℕ)) (x y : Hub) → Served id a b d x y → ServesOne x y
one_served id a b d x y served = (id, served.1, served.2, served.5)

pub reaches_one : (x y z : Hub) → Reaches x y → ServesOne y z → Reaches x z
reaches_one x y z before (id, received, sent_bytes, serves) = reaches_then x y z before (reaches_turn id y z received sent_bytes serves)

-- ---- what is done after a connection

pub pumps_none : (lines : ℕ) (x : Hub) → MovesBy (PumpsAll lines []) x x
pumps_none lines x = λ s is. (s, refl, is)

pumps_more : (lines : ℕ) (ids : List ℕ) (id : ℕ) (s mid t : State) → PumpsAll lines ids s mid → Pumps lines id mid t → PumpsAll lines (ids ++ id ∷ []) s t
pumps_more lines [] id s mid t is pumps = (t, subst (λ (x : State). Pumps lines id x t) is pumps, refl)
pumps_more lines (i ∷ ids) id s mid t (next, first, rest) pumps = (next, first, pumps_more lines ids id next mid t rest pumps)

pumps_then : {A E : Type 0} (r : Result A E) (lines : ℕ) (ids : List ℕ) (id : ℕ) (x y z v : Hub) (sent_bytes : List ℕ) → MovesBy (PumpsAll lines ids) x y → MovesBy (IsPumped r id lines sent_bytes) y z
    → HasTurns id z [] [] v → MovesBy (PumpsAll lines (ids ++ id ∷ [])) x v
pumps_then r lines ids id x y z v sent_bytes before pumped settled = λ s is.
    let one = before s is in
    let two = pumped one.0 one.2 in
    let three = settled two.0 two.2 in
    (three.0, pumps_more lines ids id s one.0 three.0 one.1 (two.1.0, sent_bytes ++ [], two.1.1, turns_then id two.1.0 two.0 three.0 [] sent_bytes [] [] two.1.2 three.1), three.2)

-- over the streams of watches
pub pumps_next : {A E W : Type 0} (r : Result A E) (lines : ℕ) (ws : List (ℕ × W)) (w : ℕ × W) (x y z v : Hub) (sent_bytes : List ℕ) → MovesBy (PumpsAll lines (map (λ w. w.0) ws)) x y
    → MovesBy (IsPumped r w.0 lines sent_bytes) y z → HasTurns w.0 z [] [] v → MovesBy (PumpsAll lines (map (λ w. w.0) (ws ++ w ∷ []))) x v
pumps_next r lines ws w x y z v sent_bytes before pumped settled =
    subst (λ (ids : List ℕ). MovesBy (PumpsAll lines ids) x v) (sym (map-append (λ w. w.0) ws (w ∷ []))) (pumps_then r lines (map (λ w. w.0) ws) w.0 x y z v sent_bytes before pumped settled)

pub pumps_all : {W : Type 0} (lines : ℕ) (ws vs : List (ℕ × W)) (x y : Hub) → ws ≡ vs → MovesBy (PumpsAll lines (map (λ w. w.0) ws)) x y → MovesBy (PumpsAll lines (map (λ w. w.0) vs)) x y
pumps_all {W} lines ws vs x y same does = subst (λ (us : List (ℕ × W)). MovesBy (PumpsAll lines (map (λ w. w.0) us)) x y) same does

pub tidies : (keep lines : ℕ) (ids : List ℕ) (ms : ℕ) (x y z v : Hub) → MovesBy (Hands (ticks ms)) x y → MovesBy (Compacts keep) y z → MovesBy (PumpsAll lines ids) z v → MovesBy (Tidies keep lines ids ms) x v
tidies keep lines ids ms x y z v ticked compacted pumped = λ s is.
    let one = ticked s is in
    let two = compacted one.0 one.2 in
    let three = pumped two.0 two.2 in
    (three.0, (one.0, two.0, one.1, two.1, three.1), three.2)

-- ---- which is a run

run_if : (b : Bool) (e : Event) (s t : State) → HandsIf b e s t → (hs : List Action) × Runs s hs t
run_if true e s t (h, is, follows) = (h ∷ [], (t, follows, refl))
run_if false e s t is = ([], is)

run_pumps : (lines : ℕ) (ids : List ℕ) (s t : State) → PumpsAll lines ids s t → (hs : List Action) × Runs s hs t
run_pumps lines [] s t is = ([], is)
run_pumps lines (id ∷ ids) s t (mid, (first, sent_bytes, (h, is, follows), turns), rest) =
    let others = run_pumps lines ids mid t rest in
    (h ∷ (turns.0 ++ others.0), (first, follows, runs_then first mid t turns.0 others.0 turns.1 others.1))

pub reaches_tidied : (keep lines : ℕ) (ids : List ℕ) (ms : ℕ) (x y : Hub) → MovesBy (Tidies keep lines ids ms) x y → Reaches x y
reaches_tidied keep lines ids ms x y does = λ s is.
    let one = does s is in
    let second = run_if _ _ one.1.0 one.1.1 one.1.3 in
    let third = run_pumps lines ids one.1.1 one.0 one.1.4 in
    (one.1.2.0 ∷ (second.0 ++ third.0), one.0, (one.1.0, one.1.2.2, runs_then one.1.0 one.1.1 one.0 second.0 third.0 second.1 third.1), one.2)

-- ---- one connection after another

pub rounds_none : (limits : Limits) (hub : Hub) → DoesRounds limits hub hub
rounds_none limits hub = (zero, λ s is. (s, refl, is))

pub rounds_more : (now limits : Limits) (ms : ℕ) (ids : List ℕ) (x y z v : Hub) → now ≡ limits → DoesRounds limits x y → ServesOne y z → MovesBy (Tidies now.keep now.lines ids ms) z v
    → DoesRounds limits x v
rounds_more now limits ms ids x y z v same before (id, received, sent_bytes, serves) tidied = (
  suc before.0,
  λ s is.
      let one = before.1 s is in
      let two = serves one.0 one.2 in
      let three = (subst (λ (m : Limits). MovesBy (Tidies m.keep m.lines ids ms) z v) same tidied) two.0 two.2 in
      (three.0, (one.0, one.1, (id, received, sent_bytes, ids, ms, two.0, two.1, three.1)), three.2),
)
