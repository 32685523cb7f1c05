-- What was taken of a connection stays a prefix of what was written on it.
use Rattle.std.proofs.Common.{◌≡◌, ◌≢◌, ℕ, ◌+◌, zero, suc, Bool, true, false, cond, List, [], ◌++◌, length, take, drop, min, Option, Some, None, refl, sym, ap, ap₂, subst, ◌∙◌, append_assoc, append-nil}
use Rattle.std.specs.Prelude.{◌&&◌, option_map, unwrap_or, ⊤}
use Rattle.std.specs.Cmp.{nat_cmp_total}
use Rattle.std.specs.FinMap as fin
use Rattle.std.specs.Ordering.{nat_cmp, eq_by_cmp}
use Rattle.std.proofs.lemmas.List.{length-append, length-take, take-append-drop}
use Rattle.std.proofs.Math.Seq.{drop-append_seam}
use Rattle.api_types.specs.TypesFile.{ServedShape}
use Rattle.history.specs.History.{History}
use Rattle.verbs.specs.Retyping.{retyping}
use Rattle.api_request.specs.Calls.{at_tick}
use Rattle.verbs.specs.Step.{planned}
use Rattle.requests.specs.Asks.{CallDecision}
use Rattle.httpedge.specs.Connections.{Connection, Connections, Phase, waiting, watching, ended, gone, each, has_ended, is_new, is_open, untaken_in, new_connection, out_of, out_on, with_phase, with_taken, with_written}
use Rattle.requests.specs.Decision.{undecided, refused, accepted}
use Rattle.requests.specs.Refusals.{as_denied, too_many_connections}
use Rattle.httpedge.specs.Runs.{Follows, Action, happens, runs_out_of_memory, takes}
use Rattle.httpedge.specs.Steps.{Event, Refusal, State, id_not_above, opens, comes, goes, pumps, ticks, compacts, retypes, after_turn, answer_phase, phase_after, turn_bytes, by_connection, applied_event, connection_after, killed, killed_or_ticked, opening, received_by, refusal, out_of_memory, unless_refused, with_bytes_taken, with_connection, with_turn, writes_at}
use Rattle.requests.specs.Replies.{answer_bytes, refusal_reply}
use Rattle.httpedge.specs.Watches.{Turn, Watch, pumped, ticked}
use Rattle.httpedge.proofs.Connected.{got_each, put_there, tied_same, unknown}
use Rattle.httpedge.proofs.OtherTypes.{same_connections}
use Rattle.serving.specs.Turns.{IsGiven}

-- nothing is taken of this connection
abbrev pub TakesNone : Action → ℕ → Type 0
TakesNone (happens e) id = ⊤
TakesNone (runs_out_of_memory e which) id = ⊤
TakesNone (takes k n) id = id ≢ k

-- ---- one connection

grown : (given : List ℕ) (c : Connection) (bytes : List ℕ) (st : Phase) → IsGiven given (Some c) → IsGiven given (Some (with_written c bytes st))
grown given c bytes st (taken, (rest, is)) = (taken, (rest ++ bytes, ap (λ (w : List ℕ). w ++ bytes) is ∙ append_assoc given rest bytes))

stood : (given : List ℕ) (c : Connection) (st : Phase) → IsGiven given (Some c) → IsGiven given (Some (with_phase c st))
stood given c st is = (is.0, is.1)

opened_given : (given : List ℕ) (full : Bool) (bytes : List ℕ) → given ≡ [] → IsGiven given (Some (cond full (with_written new_connection bytes ended) new_connection))
opened_given given true bytes none = (ap length (sym none), (bytes, ap (λ (g : List ℕ). g ++ bytes) (sym none)))
opened_given given false bytes none = (ap length (sym none), ([], ap (λ (g : List ℕ). g ++ []) (sym none)))

after_given : (given : List ℕ) (types : List ServedShape) (m : History) (last_tick : ℕ) (c : Connection) (bytes : List ℕ) (asked : CallDecision) → IsGiven given (Some c)
    → IsGiven given (Some (connection_after types m last_tick c bytes asked))
after_given given types m last_tick c bytes undecided is = stood given c (waiting bytes) is
after_given given types m last_tick c bytes (refused d) is = grown given c (refusal_reply d) ended is
after_given given types m last_tick c bytes (accepted call) is =
    let a = (planned types m (at_tick last_tick call)).answer in
    grown given c (answer_bytes a a.watch) (answer_phase last_tick a.watch) is

turn_given : (given : List ℕ) (turn : Watch → Turn) (c : Connection) (st : Phase) → IsGiven given (Some c) → IsGiven given (Some (after_turn turn c st))
turn_given given turn c (waiting prefix) is = is
turn_given given turn c (watching w) is = grown given c (turn_bytes (turn w)) (phase_after (turn w).next) is
turn_given given turn c ended is = is
turn_given given turn c (gone had_ended) is = is

dead_by : (given : List ℕ) (b : Bool) (c : Connection) → IsGiven given (Some c) → IsGiven given (Some (cond b (with_phase c ended) c))
dead_by given true c is = stood given c ended is
dead_by given false c is = is

dead_or : (given : List ℕ) (types : List ServedShape) (ms : ℕ) (b : Bool) (c : Connection) → IsGiven given (Some c) → IsGiven given (Some (cond b (killed c) (with_turn (ticked types ms) c)))
dead_or given types ms true c is = dead_by given (is_open c.phase) c is
dead_or given types ms false c is = turn_given given (ticked types ms) c c.phase is

-- ---- one of all connections

-- a connection that is put, seen under an id
put_one : (given : List ℕ) (all : Connections) (id q : ℕ) (c : Connection) → (q ≡ id → IsGiven given (Some c)) → IsGiven given (fin.get all q) → IsGiven given (fin.get (fin.insert all id c) q)
put_one given all id q c here out = subst (IsGiven given) (sym (fin.get-insert nat_cmp_total all id c q)) (go (eq_by_cmp nat_cmp q id) refl)
  where
    go : (b : Bool) → eq_by_cmp nat_cmp q id ≡ b → IsGiven given (cond b (Some c) (fin.get all q))
    go true e = here (tied_same q id e)
    go false e = out

-- the connection of an id, where that is this one
this_one : (given : List ℕ) (all : Connections) (id q : ℕ) (o : Option Connection) → fin.get all id ≡ o → IsGiven given (fin.get all q) → q ≡ id → IsGiven given o
this_one given all id q o got out same = subst (IsGiven given) (ap (fin.get all) same ∙ got) out

by_one : (given : List ℕ) (s : State) (q : ℕ) (o : Option Connection) (f : Connection → State) → IsGiven given (fin.get s.connections q)
    → ((c : Connection) → o ≡ Some c → IsGiven given (fin.get (f c).connections q)) → IsGiven given (fin.get (by_connection s o f).connections q)
by_one given s q None f out then = out
by_one given s q (Some c) f out then = then c refl

each_by : (given : List ℕ) (f : ℕ → Connection → Connection) (id : ℕ) (o : Option Connection) → ((c : Connection) → IsGiven given (Some c) → IsGiven given (Some (f id c))) → IsGiven given o
    → IsGiven given (option_map (f id) o)
each_by given f id None stays is = is
each_by given f id (Some c) stays is = stays c is

each_one : (given : List ℕ) (f : ℕ → Connection → Connection) (all : Connections) (q : ℕ) → ((c : Connection) → IsGiven given (Some c) → IsGiven given (Some (f q c))) → IsGiven given (fin.get all q)
    → IsGiven given (fin.get (each f all) q)
each_one given f all q stays out = subst (IsGiven given) (sym (got_each f all q)) (each_by given f q (fin.get all q) stays out)

received_one : (given : List ℕ) (s : State) (id q : ℕ) (c : Connection) (st : Phase) (bytes : List ℕ) (asked : CallDecision) → fin.get s.connections id ≡ Some c
    → IsGiven given (fin.get s.connections q) → IsGiven given (fin.get (received_by s id c st bytes asked).connections q)
received_one given s id q c (waiting prefix) bytes asked got out =
    put_one given s.connections id q _ (λ same. after_given given s.types s.machine s.last_tick c _ asked (this_one given s.connections id q (Some c) got out same)) out
received_one given s id q c (watching w) bytes asked got out = out
received_one given s id q c ended bytes asked got out = out
received_one given s id q c (gone had_ended) bytes asked got out = out

unless_one : (given : List ℕ) (s t : State) (o : Option Refusal) (q : ℕ) → IsGiven given (fin.get t.connections q) → IsGiven given (fin.get s.connections q)
    → IsGiven given (fin.get (unless_refused o s t).connections q)
unless_one given s t None q then out = then
unless_one given s t (Some why) q then out = out

opened_one : (given : List ℕ) (s : State) (id q : ℕ) (b : Bool) → is_new s.connections id ≡ b → IsGiven given (fin.get s.connections q)
    → IsGiven given (fin.get (unless_refused (cond b None (Some id_not_above)) s (with_connection s id (opening s.connections))).connections q)
opened_one given s id q true new out =
    put_one given s.connections id q (opening s.connections) (λ same. opened_given given _ (refusal_reply (as_denied too_many_connections))
    (this_one given s.connections id q None (unknown s.connections id (fin.get s.connections id) refl new) out same)) out
opened_one given s id q false new out = out

stepped_one : (given : List ℕ) (s : State) (e : Event) (asked : CallDecision) (q : ℕ) → IsGiven given (fin.get s.connections q)
    → IsGiven given (fin.get (unless_refused (refusal s e) s (applied_event s e asked)).connections q)
stepped_one given s (opens id) asked q out = opened_one given s id q (is_new s.connections id) refl out
stepped_one given s (comes id bytes) asked q out =
    unless_one given s (applied_event s (comes id bytes) asked) (refusal s (comes id bytes)) q
    (by_one given s q (fin.get s.connections id) _ out (λ c got. received_one given s id q c c.phase bytes asked got out)) out
stepped_one given s (goes id) asked q out =
    unless_one given s (applied_event s (goes id) asked) (refusal s (goes id)) q
    (by_one given s q (fin.get s.connections id) _ out
    (λ c got. put_one given s.connections id q _ (λ same. stood given c (gone (has_ended c.phase)) (this_one given s.connections id q (Some c) got out same)) out)) out
stepped_one given s (pumps id max) asked q out =
    let turn = pumped s.machine max in
    unless_one given s (applied_event s (pumps id max) asked) (refusal s (pumps id max)) q
    (by_one given s q (fin.get s.connections id) _ out
    (λ c got. put_one given s.connections id q (with_turn turn c) (λ same. turn_given given turn c c.phase (this_one given s.connections id q (Some c) got out same)) out)) out
stepped_one given s (ticks ms) asked q out =
    unless_one given s (applied_event s (ticks ms) asked) (refusal s (ticks ms)) q
    (each_one given (λ id c. with_turn (ticked s.types ms) c) s.connections q (λ c is. turn_given given (ticked s.types ms) c c.phase is) out) out
stepped_one given s (compacts c) asked q out = unless_one given s (applied_event s (compacts c) asked) (refusal s (compacts c)) q out out
stepped_one given s (retypes file) asked q out =
    unless_one given s (applied_event s (retypes file) asked) (refusal s (retypes file)) q (subst (λ (all : Connections). IsGiven given (fin.get all q)) (sym (same_connections s (retyping s.types s.machine file))) out) out

out_of_memory_one : (given : List ℕ) (s : State) (e : Event) (which : ℕ → Bool) (q : ℕ) → IsGiven given (fin.get s.connections q) → IsGiven given (fin.get (out_of_memory s e which).connections q)
out_of_memory_one given s (opens id) which q out = out
out_of_memory_one given s (comes id bytes) which q out =
    by_one given s q (fin.get s.connections id) _ out
    (λ c got. put_one given s.connections id q _ (λ same. dead_by given (is_open c.phase) c (this_one given s.connections id q (Some c) got out same)) out)
out_of_memory_one given s (goes id) which q out = out
out_of_memory_one given s (pumps id max) which q out =
    by_one given s q (fin.get s.connections id) _ out
    (λ c got. put_one given s.connections id q _ (λ same. dead_by given (is_open c.phase) c (this_one given s.connections id q (Some c) got out same)) out)
out_of_memory_one given s (ticks ms) which q out =
    each_one given (λ id c. killed_or_ticked s.types ms (which id) c) s.connections q (λ c is. dead_or given s.types ms (which q && writes_at ms c.phase) c is) out
out_of_memory_one given s (compacts c) which q out = out
out_of_memory_one given s (retypes file) which q out = out

pub given_stays : (given : List ℕ) (s t : State) (h : Action) (q : ℕ) → TakesNone h q → IsGiven given (fin.get s.connections q) → Follows s h t → IsGiven given (fin.get t.connections q)
given_stays given s t (happens e) q none out (asked, asks, is) = subst (λ (x : State). IsGiven given (fin.get x.connections q)) (sym is) (stepped_one given s e asked q out)
given_stays given s t (runs_out_of_memory e which) q none out (unrefused, memory, is) =
    subst (λ (x : State). IsGiven given (fin.get x.connections q)) (sym is) (out_of_memory_one given s e which q out)
given_stays given s t (takes id n) q none out is =
    subst (λ (x : State). IsGiven given (fin.get x.connections q)) (sym is)
    (by_one given s q (fin.get s.connections id) _ out (λ c got. put_one given s.connections id q _ (λ same. absurd (none same)) out))

-- ---- the next bytes are taken

none_taken : (n : ℕ) → take {A = ℕ} n [] ≡ []
none_taken zero = refl
none_taken (suc n) = refl

prefix_taken : (taken n : ℕ) (written given rest out : List ℕ) → taken ≡ length given → written ≡ given ++ rest → drop taken written ≡ out
    → (more : List ℕ) × (written ≡ (given ++ take n out) ++ more)
prefix_taken taken n written given rest out counts is outs =
    let same : rest ≡ out = sym (ap₂ drop counts is ∙ drop-append_seam given rest) ∙ outs in
    (drop n out, is ∙ ap (λ (r : List ℕ). given ++ r) (same ∙ sym (take-append-drop n out)) ∙ sym (append_assoc given (take n out) (drop n out)))

rest_taken : (st : Phase) (taken n : ℕ) (written given rest out : List ℕ) → taken ≡ length given → written ≡ given ++ rest → untaken_in st (drop taken written) ≡ out
    → (more : List ℕ) × (written ≡ (given ++ take n out) ++ more)
rest_taken (waiting prefix) taken n written given rest out counts is outs = prefix_taken taken n written given rest out counts is outs
rest_taken (watching w) taken n written given rest out counts is outs = prefix_taken taken n written given rest out counts is outs
rest_taken ended taken n written given rest out counts is outs = prefix_taken taken n written given rest out counts is outs
rest_taken (gone had_ended) taken n written given rest out counts is outs =
    (rest, is ∙ ap (λ (g : List ℕ). g ++ rest) (sym (append-nil given) ∙ ap (λ (x : List ℕ). given ++ x) (sym (none_taken n) ∙ ap (take n) outs)))

more_given : (given : List ℕ) (c : Connection) (n : ℕ) (out : List ℕ) → IsGiven given (Some c) → out_of c ≡ out → IsGiven (given ++ take n out) (Some (with_taken c n))
more_given given c n out (counts, (rest, is)) outs = (
  ap₂ (λ (a b : ℕ). a + b) counts (ap (λ (o : List ℕ). min n (length o)) outs ∙ sym (length-take n out)) ∙ sym (length-append given (take n out)),
  rest_taken c.phase c.taken n c.written given rest out counts is outs,
)

taken_by : (given : List ℕ) (s : State) (id n : ℕ) (out : List ℕ) (o : Option Connection) → fin.get s.connections id ≡ o → IsGiven given o → unwrap_or (option_map out_of o) [] ≡ out
    → IsGiven (given ++ take n out) (fin.get (by_connection s o (λ c. with_connection s id (with_taken c n))).connections id)
taken_by given s id n out None at none outs =
    subst (IsGiven (given ++ take n out)) (sym at) (ap (λ (g : List ℕ). g ++ take n out) none ∙ ap (take n) (sym outs) ∙ none_taken n)
taken_by given s id n out (Some c) at is outs = subst (IsGiven (given ++ take n out)) (sym (put_there s.connections id (with_taken c n))) (more_given given c n out is outs)

pub given_grows : (given : List ℕ) (s : State) (id n : ℕ) (out : List ℕ) → IsGiven given (fin.get s.connections id) → out_on s.connections id ≡ out
    → IsGiven (given ++ take n out) (fin.get (with_bytes_taken s id n).connections id)
given_grows given s id n out is outs = taken_by given s id n out (fin.get s.connections id) refl is outs
