-- A connection whose peer has gone stays as it is.
use Rattle.std.proofs.Common.{arith, ◌≡◌, ℕ, ◌+◌, Bool, true, false, cond, List, [], drop, length, min, Option, Some, None, refl, sym, ap, ◌∙◌}
use Rattle.std.specs.Prelude.{option_map, unwrap_or}
use Rattle.std.specs.Cmp.{nat_cmp_total}
use Rattle.std.specs.FinMap as fin
use Rattle.std.specs.Ordering.{nat_cmp, eq_by_cmp}
use Rattle.requests.specs.Asks.{CallDecision}
use Rattle.verbs.specs.Retyping.{retyping}
use Rattle.httpedge.specs.Connections.{Connection, Connections, Phase, waiting, watching, ended, gone, each, gone_on, has_ended, has_gone, is_new, is_open, is_watching, untaken_in, out_of, out_on, with_phase, with_taken}
use Rattle.httpedge.specs.Runs.{Follows, Action, happens, runs_out_of_memory, takes}
use Rattle.httpedge.specs.Steps.{Event, Refusal, State, id_not_above, opens, comes, goes, pumps, ticks, compacts, retypes, by_connection, killed, killed_or_ticked, opening, received_by, refusal, out_of_memory, applied_event, unless_refused, with_connection, with_turn}
use Rattle.httpedge.specs.Watches.{pumped, ticked}
use Rattle.httpedge.proofs.Connected.{got_each, tied_same, unknown}
use Rattle.httpedge.proofs.OtherTypes.{same_connections}
use Rattle.httpedge.proofs.Staying.{dead_idle, turn_idle}

-- ---- one connection

isnt_watching : (st : Phase) → has_gone st ≡ true → is_watching st ≡ false
isnt_watching (waiting prefix) is = refl
isnt_watching (watching w) is = absurd cc
isnt_watching ended is = refl
isnt_watching (gone had_ended) is = refl

isnt_open : (st : Phase) → has_gone st ≡ true → is_open st ≡ false
isnt_open (waiting prefix) is = absurd cc
isnt_open (watching w) is = absurd cc
isnt_open ended is = refl
isnt_open (gone had_ended) is = refl

nothing_left : (st : Phase) (out : List ℕ) → has_gone st ≡ true → untaken_in st out ≡ []
nothing_left (waiting prefix) out is = absurd cc
nothing_left (watching w) out is = absurd cc
nothing_left ended out is = absurd cc
nothing_left (gone had_ended) out is = refl

goes_again : (st : Phase) → has_gone st ≡ true → gone (has_ended st) ≡ st
goes_again (waiting prefix) is = absurd cc
goes_again (watching w) is = absurd cc
goes_again ended is = absurd cc
goes_again (gone had_ended) is = refl

none_more : (taken n : ℕ) → taken + min n 0 ≡ taken
none_more taken n = omega arith

taken_still : (c : Connection) (n : ℕ) → has_gone c.phase ≡ true → with_taken c n ≡ c
taken_still c n is =
    ap (λ (out : List ℕ). record { written = c.written; taken = c.taken + min n (length out); phase = c.phase }) (nothing_left c.phase (drop c.taken c.written) is)
    ∙ ap (λ (taken : ℕ). record { written = c.written; taken = taken; phase = c.phase }) (none_more c.taken n)

dead_still : (c : Connection) → has_gone c.phase ≡ true → killed c ≡ c
dead_still c is = ap (λ (b : Bool). cond b (with_phase c ended) c) (isnt_open c.phase is)

-- ---- one of all connections

abbrev Stays : State → ℕ → Connection → Type 0
Stays s q c = fin.get s.connections q ≡ Some c

-- what is put under an id leaves the connection there as it is, if it is this one
put_still : (all : Connections) (id q : ℕ) (c d : Connection) → (q ≡ id → d ≡ c) → fin.get all q ≡ Some c → fin.get (fin.insert all id d) q ≡ Some c
put_still all id q c d same got = fin.get-insert nat_cmp_total all id d q ∙ go (eq_by_cmp nat_cmp q id) refl
  where
    go : (b : Bool) → eq_by_cmp nat_cmp q id ≡ b → cond b (Some d) (fin.get all q) ≡ Some c
    go true e = ap (λ (x : Connection). Some x) (same (tied_same q id e))
    go false e = got

some_is : (x y : Connection) → Some x ≡ Some y → x ≡ y
some_is x y e = cc

this_is : (s : State) (id q : ℕ) (c d : Connection) → Stays s q c → Stays s id d → q ≡ id → d ≡ c
this_is s id q c d got at same = some_is d c (sym at ∙ sym (ap (fin.get s.connections) same) ∙ got)

-- what becomes of the connection that is there
there_still : (s : State) (id q : ℕ) (c : Connection) (f : Connection → Connection) → f c ≡ c → Stays s q c
    → (o : Option Connection) → fin.get s.connections id ≡ o → Stays (by_connection s o (λ d. with_connection s id (f d))) q c
there_still s id q c f same got None at = got
there_still s id q c f same got (Some d) at = put_still s.connections id q c (f d) (λ e. ap f (this_is s id q c d got at e) ∙ same) got

wrong : false ≡ true → ⊥
wrong e = cc

received_still : (s : State) (id q : ℕ) (c d : Connection) (st : Phase) (bytes : List ℕ) (decision : CallDecision) → has_gone c.phase ≡ true → Stays s q c → Stays s id d → d.phase ≡ st
    → Stays (received_by s id d st bytes decision) q c
received_still s id q c d (waiting prefix) bytes decision is got at represents =
    put_still s.connections id q c _ (λ e. absurd (wrong (sym (ap has_gone represents) ∙ ap (λ (x : Connection). has_gone x.phase) (this_is s id q c d got at e) ∙ is))) got
received_still s id q c d (watching w) bytes decision is got at represents = got
received_still s id q c d ended bytes decision is got at represents = got
received_still s id q c d (gone had_ended) bytes decision is got at represents = got

comes_still : (s : State) (id q : ℕ) (c : Connection) (bytes : List ℕ) (decision : CallDecision) → has_gone c.phase ≡ true → Stays s q c
    → (o : Option Connection) → fin.get s.connections id ≡ o → Stays (by_connection s o (λ d. received_by s id d d.phase bytes decision)) q c
comes_still s id q c bytes decision is got None at = got
comes_still s id q c bytes decision is got (Some d) at = received_still s id q c d d.phase bytes decision is got at refl

each_still : (f : ℕ → Connection → Connection) (all : Connections) (q : ℕ) (c : Connection) → f q c ≡ c → fin.get all q ≡ Some c → fin.get (each f all) q ≡ Some c
each_still f all q c same got = got_each f all q ∙ ap (option_map (f q)) got ∙ ap (λ (x : Connection). Some x) same

opens_still : (s : State) (id q : ℕ) (c : Connection) (b : Bool) → is_new s.connections id ≡ b → Stays s q c
    → Stays (unless_refused (cond b None (Some id_not_above)) s (with_connection s id (opening s.connections))) q c
opens_still s id q c true new got =
    put_still s.connections id q c (opening s.connections)
    (λ e. absurd (nothing c (sym got ∙ ap (fin.get s.connections) e ∙ unknown s.connections id (fin.get s.connections id) refl new))) got
  where
    nothing : (x : Connection) → Some x ≡ None → ⊥
    nothing x e = cc
opens_still s id q c false new got = got

unless_still : (s t : State) (o : Option Refusal) (q : ℕ) (c : Connection) → Stays t q c → Stays s q c → Stays (unless_refused o s t) q c
unless_still s t None q c then is = then
unless_still s t (Some why) q c then is = is

stepped_still : (s : State) (e : Event) (decision : CallDecision) (q : ℕ) (c : Connection) → has_gone c.phase ≡ true → Stays s q c → Stays (unless_refused (refusal s e) s (applied_event s e decision)) q c
stepped_still s (opens id) decision q c is got = opens_still s id q c (is_new s.connections id) refl got
stepped_still s (comes id bytes) decision q c is got =
    unless_still s _ (refusal s (comes id bytes)) q c (comes_still s id q c bytes decision is got (fin.get s.connections id) refl) got
stepped_still s (goes id) decision q c is got =
    unless_still s _ (refusal s (goes id)) q c
    (there_still s id q c (λ d. with_phase d (gone (has_ended d.phase))) (ap (with_phase c) (goes_again c.phase is)) got (fin.get s.connections id) refl) got
stepped_still s (pumps id max) decision q c is got =
    unless_still s _ (refusal s (pumps id max)) q c
    (there_still s id q c (with_turn (pumped s.machine max)) (turn_idle (pumped s.machine max) c c.phase (isnt_watching c.phase is)) got (fin.get s.connections id) refl) got
stepped_still s (ticks ms) decision q c is got =
    unless_still s _ (refusal s (ticks ms)) q c
    (each_still (λ id d. with_turn (ticked s.types ms) d) s.connections q c (turn_idle (ticked s.types ms) c c.phase (isnt_watching c.phase is)) got) got
stepped_still s (compacts r) decision q c is got = unless_still s _ (refusal s (compacts r)) q c got got
stepped_still s (retypes file) decision q c is got =
    unless_still s _ (refusal s (retypes file)) q c (ap (λ (all : Connections). fin.get all q) (same_connections s (retyping s.types s.machine file)) ∙ got) got

out_of_memory_still : (s : State) (e : Event) (which : ℕ → Bool) (q : ℕ) (c : Connection) → has_gone c.phase ≡ true → Stays s q c → Stays (out_of_memory s e which) q c
out_of_memory_still s (opens id) which q c is got = got
out_of_memory_still s (comes id bytes) which q c is got = there_still s id q c killed (dead_still c is) got (fin.get s.connections id) refl
out_of_memory_still s (goes id) which q c is got = got
out_of_memory_still s (pumps id max) which q c is got = there_still s id q c killed (dead_still c is) got (fin.get s.connections id) refl
out_of_memory_still s (ticks ms) which q c is got =
    each_still (λ id d. killed_or_ticked s.types ms (which id) d) s.connections q c (dead_idle s.types ms (which q) c (isnt_watching c.phase is)) got
out_of_memory_still s (compacts r) which q c is got = got
out_of_memory_still s (retypes file) which q c is got = got

pub goes_stay : (s t : State) (h : Action) (q : ℕ) (c : Connection) → Follows s h t → fin.get s.connections q ≡ Some c → has_gone c.phase ≡ true → fin.get t.connections q ≡ Some c
goes_stay s t (happens e) q c (decision, asks, then) got is = ap (λ (x : State). fin.get x.connections q) then ∙ stepped_still s e decision q c is got
goes_stay s t (runs_out_of_memory e which) q c (unrefused, memory, then) got is = ap (λ (x : State). fin.get x.connections q) then ∙ out_of_memory_still s e which q c is got
goes_stay s t (takes id n) q c then got is =
    ap (λ (x : State). fin.get x.connections q) then ∙ there_still s id q c (λ d. with_taken d n) (taken_still c n is) got (fin.get s.connections id) refl

silent_by : (o : Option Connection) → unwrap_or (option_map (λ c. has_gone c.phase) o) false ≡ true → unwrap_or (option_map out_of o) [] ≡ []
silent_by None is = refl
silent_by (Some c) is = nothing_left c.phase (drop c.taken c.written) is

pub silent : (all : Connections) (id : ℕ) → gone_on all id ≡ true → out_on all id ≡ []
silent all id is = silent_by (fin.get all id) is
