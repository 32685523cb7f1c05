-- What happens to a hub, as one connection sees it.
use Rattle.std.proofs.Common.{◌≡◌, ℕ, Bool, true, false, cond, List, ◌++◌, Option, Some, None, refl, sym, subst}
use Rattle.std.specs.Prelude.{◌&&◌, option_map}
use Rattle.std.specs.Cmp.{nat_cmp_total}
use Rattle.std.specs.FinMap as fin
use Rattle.std.specs.Ordering.{nat_cmp, eq_by_cmp}
use Rattle.std.specs.declared.result.Result.{Result}
use Rattle.std.specs.declared.result.Result.TheVariants.{Ok, Err}
use Rattle.api_types.specs.TypesFile.{ServedShape}
use Rattle.history.specs.History.{History}
use Rattle.verbs.specs.Retyping.{RetypeRefusal, retyping}
use Rattle.requests.specs.Asks.{CallDecision}
use Rattle.httpedge.specs.Connections.{Connection, Connections, Phase, waiting, watching, ended, gone, each, has_ended, is_new, with_phase, with_taken}
use Rattle.httpedge.specs.Runs.{Follows, Action, happens, runs_out_of_memory, takes}
use Rattle.httpedge.specs.Steps.{Event, Refusal, State, id_not_above, opens, comes, goes, pumps, ticks, compacts, retypes, by_connection, connection_after, killed, killed_or_ticked, opening, received_by, refusal, out_of_memory, applied_event, unless_refused, with_connection, with_turn, with_types, writes_at}
use Rattle.httpedge.specs.Watches.{pumped, ticked}
use Rattle.httpedge.proofs.Connected.{got_each, tied_same, unknown}

abbrev pub Between : Type 1
Between = Option Connection → Option Connection → Type 0

-- what holds between a connection and what each thing that happens to the hub in this state makes of it
pub record IsInvariant (R : Between) (s : State) : Type 0 where
  pub same : (o : Option Connection) → R o o
  pub opened : (c : Connection) → R None (Some c)
  pub came : (types : List ServedShape) (m : History) (last_tick : ℕ) (c : Connection) (prefix bytes : List ℕ) (asked : CallDecision) → c.phase ≡ waiting prefix
      → R (Some c) (Some (connection_after types m last_tick c bytes asked))
  pub went : (c : Connection) → R (Some c) (Some (with_phase c (gone (has_ended c.phase))))
  pub at_pump : (max : ℕ) (c : Connection) → R (Some c) (Some (with_turn (pumped s.machine max) c))
  pub at_tick : (ms : ℕ) (c : Connection) → R (Some c) (Some (with_turn (ticked s.types ms) c))
  pub died : (c : Connection) → R (Some c) (Some (killed c))
  pub taken : (c : Connection) (n : ℕ) → R (Some c) (Some (with_taken c n))

put_holds : (R : Between) (all : Connections) (id q : ℕ) (c : Connection) → R (fin.get all q) (fin.get all q) → R (fin.get all id) (Some c) → R (fin.get all q) (fin.get (fin.insert all id c) q)
put_holds R all id q c still here = subst (R (fin.get all q)) (sym (fin.get-insert nat_cmp_total all id c q)) (go (eq_by_cmp nat_cmp q id) refl)
  where
    go : (b : Bool) → eq_by_cmp nat_cmp q id ≡ b → R (fin.get all q) (cond b (Some c) (fin.get all q))
    go true e = subst (λ (k : ℕ). R (fin.get all k) (Some c)) (sym (tied_same q id e)) here
    go false e = still

there_holds : (R : Between) (s : State) → IsInvariant R s → (id q : ℕ) (f : Connection → Connection) → ((c : Connection) → R (Some c) (Some (f c))) → (o : Option Connection) → fin.get s.connections id ≡ o
    → R (fin.get s.connections q) (fin.get (by_connection s o (λ c. with_connection s id (f c))).connections q)
there_holds R s is id q f holds None at = is.same (fin.get s.connections q)
there_holds R s is id q f holds (Some c) at = put_holds R s.connections id q (f c) (is.same (fin.get s.connections q)) (subst (λ (o : Option Connection). R o (Some (f c))) (sym at) (holds c))

received_holds : (R : Between) (s : State) → IsInvariant R s → (id q : ℕ) (c : Connection) (st : Phase) (bytes : List ℕ) (asked : CallDecision) → fin.get s.connections id ≡ Some c → c.phase ≡ st
    → R (fin.get s.connections q) (fin.get (received_by s id c st bytes asked).connections q)
received_holds R s is id q c (waiting prefix) bytes asked at represents =
    put_holds R s.connections id q _ (is.same (fin.get s.connections q))
    (subst (λ (o : Option Connection). R o (Some (connection_after s.types s.machine s.last_tick c (prefix ++ bytes) asked))) (sym at)
    (is.came s.types s.machine s.last_tick c prefix (prefix ++ bytes) asked represents))
received_holds R s is id q c (watching w) bytes asked at represents = is.same (fin.get s.connections q)
received_holds R s is id q c ended bytes asked at represents = is.same (fin.get s.connections q)
received_holds R s is id q c (gone had_ended) bytes asked at represents = is.same (fin.get s.connections q)

comes_holds : (R : Between) (s : State) → IsInvariant R s → (id q : ℕ) (bytes : List ℕ) (asked : CallDecision) (o : Option Connection) → fin.get s.connections id ≡ o
    → R (fin.get s.connections q) (fin.get (by_connection s o (λ c. received_by s id c c.phase bytes asked)).connections q)
comes_holds R s is id q bytes asked None at = is.same (fin.get s.connections q)
comes_holds R s is id q bytes asked (Some c) at = received_holds R s is id q c c.phase bytes asked at refl

each_by : (R : Between) (s : State) → IsInvariant R s → (f : ℕ → Connection → Connection) (q : ℕ) (o : Option Connection) → ((c : Connection) → R (Some c) (Some (f q c))) → R o (option_map (f q) o)
each_by R s is f q None holds = is.same None
each_by R s is f q (Some c) holds = holds c

each_holds : (R : Between) (s : State) → IsInvariant R s → (f : ℕ → Connection → Connection) (all : Connections) (q : ℕ) → ((c : Connection) → R (Some c) (Some (f q c))) → R (fin.get all q) (fin.get (each f all) q)
each_holds R s is f all q holds = subst (R (fin.get all q)) (sym (got_each f all q)) (each_by R s is f q (fin.get all q) holds)

opens_holds : (R : Between) (s : State) → IsInvariant R s → (id q : ℕ) (b : Bool) → is_new s.connections id ≡ b
    → R (fin.get s.connections q) (fin.get (unless_refused (cond b None (Some id_not_above)) s (with_connection s id (opening s.connections))).connections q)
opens_holds R s is id q true new =
    put_holds R s.connections id q (opening s.connections) (is.same (fin.get s.connections q))
    (subst (λ (o : Option Connection). R o (Some (opening s.connections))) (sym (unknown s.connections id (fin.get s.connections id) refl new)) (is.opened (opening s.connections)))
opens_holds R s is id q false new = is.same (fin.get s.connections q)

unless_holds : (R : Between) (s : State) → IsInvariant R s → (t : State) (o : Option Refusal) (q : ℕ) → R (fin.get s.connections q) (fin.get t.connections q) → R (fin.get s.connections q) (fin.get (unless_refused o s t).connections q)
unless_holds R s is t None q then = then
unless_holds R s is t (Some why) q then = is.same (fin.get s.connections q)

types_hold : (R : Between) (s : State) → IsInvariant R s → (q : ℕ) (r : Result (List ServedShape) RetypeRefusal) → R (fin.get s.connections q) (fin.get (with_types s r).connections q)
types_hold R s is q (Ok others) = is.same (fin.get s.connections q)
types_hold R s is q (Err why) = is.same (fin.get s.connections q)

dead_or : (R : Between) (s : State) → IsInvariant R s → (ms : ℕ) (b : Bool) (c : Connection) → R (Some c) (Some (cond b (killed c) (with_turn (ticked s.types ms) c)))
dead_or R s is ms true c = is.died c
dead_or R s is ms false c = is.at_tick ms c

stepped_holds : (R : Between) (s : State) → IsInvariant R s → (e : Event) (asked : CallDecision) (q : ℕ) → R (fin.get s.connections q) (fin.get (unless_refused (refusal s e) s (applied_event s e asked)).connections q)
stepped_holds R s is (opens id) asked q = opens_holds R s is id q (is_new s.connections id) refl
stepped_holds R s is (comes id bytes) asked q = unless_holds R s is _ (refusal s (comes id bytes)) q (comes_holds R s is id q bytes asked (fin.get s.connections id) refl)
stepped_holds R s is (goes id) asked q =
    unless_holds R s is _ (refusal s (goes id)) q (there_holds R s is id q (λ c. with_phase c (gone (has_ended c.phase))) is.went (fin.get s.connections id) refl)
stepped_holds R s is (pumps id max) asked q =
    unless_holds R s is _ (refusal s (pumps id max)) q (there_holds R s is id q (with_turn (pumped s.machine max)) (is.at_pump max) (fin.get s.connections id) refl)
stepped_holds R s is (ticks ms) asked q =
    unless_holds R s is _ (refusal s (ticks ms)) q (each_holds R s is (λ id c. with_turn (ticked s.types ms) c) s.connections q (is.at_tick ms))
stepped_holds R s is (compacts c) asked q = unless_holds R s is _ (refusal s (compacts c)) q (is.same (fin.get s.connections q))
stepped_holds R s is (retypes file) asked q = unless_holds R s is _ (refusal s (retypes file)) q (types_hold R s is q (retyping s.types s.machine file))

out_of_memory_holds : (R : Between) (s : State) → IsInvariant R s → (e : Event) (which : ℕ → Bool) (q : ℕ) → R (fin.get s.connections q) (fin.get (out_of_memory s e which).connections q)
out_of_memory_holds R s is (opens id) which q = is.same (fin.get s.connections q)
out_of_memory_holds R s is (comes id bytes) which q = there_holds R s is id q killed is.died (fin.get s.connections id) refl
out_of_memory_holds R s is (goes id) which q = is.same (fin.get s.connections q)
out_of_memory_holds R s is (pumps id max) which q = there_holds R s is id q killed is.died (fin.get s.connections id) refl
out_of_memory_holds R s is (ticks ms) which q =
    each_holds R s is (λ id c. killed_or_ticked s.types ms (which id) c) s.connections q (λ c. dead_or R s is ms (which q && writes_at ms c.phase) c)
out_of_memory_holds R s is (compacts c) which q = is.same (fin.get s.connections q)
out_of_memory_holds R s is (retypes file) which q = is.same (fin.get s.connections q)

pub follows_hold : (R : Between) (s : State) → IsInvariant R s → (t : State) (h : Action) (q : ℕ) → Follows s h t → R (fin.get s.connections q) (fin.get t.connections q)
follows_hold R s is t (happens e) q (asked, asks, then) = subst (λ (x : State). R (fin.get s.connections q) (fin.get x.connections q)) (sym then) (stepped_holds R s is e asked q)
follows_hold R s is t (runs_out_of_memory e which) q (free, memory, then) = subst (λ (x : State). R (fin.get s.connections q) (fin.get x.connections q)) (sym then) (out_of_memory_holds R s is e which q)
follows_hold R s is t (takes id n) q then =
    subst (λ (x : State). R (fin.get s.connections q) (fin.get x.connections q)) (sym then) (there_holds R s is id q (λ c. with_taken c n) (λ c. is.taken c n) (fin.get s.connections id) refl)
