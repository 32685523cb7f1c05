-- What the connections are after one is opened, changed or over.
use Rattle.std.proofs.Common.{arith, ◌≡◌, ℕ, Bool, true, false, cond, ◌&&◌, List, [], ◌∷◌, length, drop, Option, Some, None, Result, Ok, Err, refl, sym, ap, ap₂, subst, ◌∙◌}
use Rattle.std.specs.Prelude.{◌==◌, is_some, option_map, unwrap_or, IfOk, OnErr}
use Rattle.std.proofs.lemmas.Bool.{eqb-true}
use Rattle.std.specs.BTreeMap.{BTreeMap, get}
use Rattle.std.specs.BTreeSet.{BTreeSet, contains}
use Rattle.std.specs.Ordering.{nat_cmp, eq_by_cmp}
use Rattle.api_types.specs.TypesFile.{ServedShape}
use Rattle.history.specs.History.{History}
use Rattle.httpedge.specs.declared.shared.Shared.{Shared}
use Rattle.httpedge.specs.SharedViews.{SharedRepresents}
use Rattle.httpedge.specs.declared.connection.Connection as conns
use Rattle.httpedge.specs.declared.connection.Connection.TheVariants as conn
use Rattle.httpedge.specs.declared.connections.Connections.{Connections as TheConnections}
use Rattle.httpedge.specs.declared.event.ConnectionInput as changes
use Rattle.httpedge.specs.declared.event.ConnectionInput.TheVariants as change
use Rattle.httpedge.specs.declared.ids.Ids.{Ids}
use Rattle.httpedge.specs.declared.out.Out.{Out}
use Rattle.httpedge.specs.ChangeViews.{Changes, Makes, Receives}
use Rattle.httpedge.specs.declared.effect.Effect.{Effect}
use Rattle.httpedge.specs.declared.effect.Effect.TheVariants as effect
use Rattle.httpedge.specs.declared.fault.HubFault.{HubFault}
use Rattle.httpedge.specs.declared.fault.HubFault.TheVariants as fault
use Rattle.httpedge.specs.declared.fault.HubRefusal.TheVariants as hub_refusal
use Rattle.httpedge.specs.Effects.{no_change, unasked}
use Rattle.httpedge.specs.Connections.{Connection, Phase, waiting, watching, ended, gone, has_ended, is_open, untaken_in, with_phase, with_taken}
use Rattle.httpedge.specs.ConnectionViews.{BecomesAt, OpenIdsAfter, Forgets, ConnectionRepresents, IsApart, IsAt, IsFresh, IsSame, Opens, PutAt, found, has_ended_in, held_or, is_open_in, is_waiting_in, left, out_in, closed_by, had_ended_if_over_in, had_ended_by_ids}
use Rattle.httpedge.specs.HubViews.{outcome_of, refusal_in, refused}
use Rattle.httpedge.specs.IdViews.{is_in}
use Rattle.httpedge.specs.Steps.{unknown_id}
use Rattle.httpedge.specs.Watches.{pumped}
use Rattle.httpedge.proofs.Connected.{hidden, itself, tied_same}
use Rattle.httpedge.proofs.Representing.{closed_watches, takes_over}
use Rattle.httpedge.proofs.Ticked.{found_put}
use Rattle.httpedge.proofs.Turning.{idle_did, turn_closed}

wrong : false ≡ true → ⊥
wrong e = cc

pub some_of : {A : Type 0} {x y : A} → Some x ≡ Some y → x ≡ y
some_of e = cc

pub none_some : {A : Type 0} {x : A} → None ≡ Some x → ⊥
none_some e = cc

abbrev pub Map : Type 0
Map = BTreeMap ℕ conns.Connection

-- ---- what is found

self_put : (f : ℕ → Option conns.Connection) (id : ℕ) (d : conns.Connection) → f id ≡ Some d → PutAt id d f f
self_put f id d at q = go (eq_by_cmp nat_cmp id q) (tied_same id q)
  where
    go : (b : Bool) → (b ≡ true → id ≡ q) → f q ≡ cond b (Some d) (f q)
    go true same = ap f (sym (same refl)) ∙ at
    go false same = refl

here : (held held' : Map) (id : ℕ) (e : conns.Connection) → ((q : ℕ) → get nat_cmp held' q ≡ cond (eq_by_cmp nat_cmp id q) (Some e) (get nat_cmp held q)) → get nat_cmp held' id ≡ Some e
here held held' id e put = put id ∙ ap (λ (b : Bool). cond b (Some e) (get nat_cmp held id)) (itself id)

abbrev pub with_held : TheConnections → Map → TheConnections
with_held k h = record { held = h; open_ids = k.open_ids; ended = k.ended; cut = k.cut; highest = k.highest }

pub found_held : (k : TheConnections) (id : ℕ) (o : Option conns.Connection) → get nat_cmp k.held id ≡ o → found k id ≡ held_or o (closed_by (is_in k.ended.ranges id) (is_in k.cut.ranges id))
found_held k id o at = ap (λ (o : Option conns.Connection). held_or o (closed_by (is_in k.ended.ranges id) (is_in k.cut.ranges id))) at

-- one that isn't held had ended or not; it doesn't wait, and nothing is out on it
pub ended_over : (a b : Bool) → unwrap_or (had_ended_by_ids a b) false ≡ unwrap_or (option_map has_ended_in (closed_by a b)) false
ended_over true b = refl
ended_over false true = refl
ended_over false false = refl

pub waiting_over : (a b : Bool) → false ≡ unwrap_or (option_map is_waiting_in (closed_by a b)) false
waiting_over true b = refl
waiting_over false true = refl
waiting_over false false = refl

pub out_over : (a b : Bool) → [] ≡ unwrap_or (option_map out_in (closed_by a b)) []
out_over true b = refl
out_over false true = refl
out_over false false = refl

pub known_over : (a b : Bool) → is_some (had_ended_by_ids a b) ≡ is_some (closed_by a b)
known_over true b = refl
known_over false true = refl
known_over false false = refl

-- ---- a connection is changed, and then forgotten where it is over

still_apart : (old : TheConnections) (held' : Map) (id : ℕ) (e : conns.Connection) → is_some (get nat_cmp old.held id) ≡ true → IsApart old
    → ((q : ℕ) → get nat_cmp held' q ≡ cond (eq_by_cmp nat_cmp id q) (Some e) (get nat_cmp old.held q)) → (q : ℕ) → is_some (get nat_cmp held' q) ≡ true → is_in old.ended.ranges q ≡ false
still_apart old held' id e was apart put q has = go (eq_by_cmp nat_cmp id q) (tied_same id q) (sym (ap is_some (put q)) ∙ has)
  where
    go : (b : Bool) → (b ≡ true → id ≡ q) → is_some (cond b (Some e) (get nat_cmp old.held q)) ≡ true → is_in old.ended.ranges q ≡ false
    go true same now = apart q (ap (λ (k : ℕ). is_some (get nat_cmp old.held k)) (sym (same refl)) ∙ was)
    go false same now = apart q now

pub becomes_at : (types : List ServedShape) (still : Bool) (c : Connection) (id : ℕ) (old mid new : TheConnections) (held' : Map) (e : conns.Connection) → ConnectionRepresents types e c
    → is_some (get nat_cmp old.held id) ≡ true → IsApart old → ((q : ℕ) → get nat_cmp held' q ≡ cond (eq_by_cmp nat_cmp id q) (Some e) (get nat_cmp old.held q))
    → mid.held ≡ held' → mid.ended ≡ old.ended → mid.cut ≡ old.cut → mid.highest ≡ old.highest → OpenIdsAfter id still old mid
    → (get nat_cmp mid.held id ≡ Some e → IsApart mid → Forgets id e mid new) → BecomesAt types still c id old new
becomes_at types still c id old mid new held' e holds was apart put held_is ended_is cut_is highest_is closes forgets =
    let at : get nat_cmp mid.held id ≡ Some e = ap (λ (m : Map). get nat_cmp m id) held_is ∙ here old.held held' id e put in
    let f = forgets at mid_apart in
    record {
      one = f.one;
      holds = f.as_much types c holds;
      put = λ q. f.put q ∙ ap (cond (eq_by_cmp nat_cmp id q) (Some f.one)) (mid_put q) ∙ hidden (eq_by_cmp nat_cmp id q) (Some f.one) (Some e) (found old q);
      open_is = λ q. ap (λ (s : BTreeSet ℕ). contains nat_cmp s q) f.open_is ∙ closes q;
      highest = f.highest ∙ highest_is;
      apart = f.apart;
    }
  where
    mid_put : PutAt id e (found old) (found mid)
    mid_put q =
        ap₂ (λ (m : Map) (o : Option conns.Connection). held_or (get nat_cmp m q) o) held_is (ap₂ closed_by (ap (λ (i : Ids). is_in i.ranges q) ended_is) (ap (λ (i : Ids). is_in i.ranges q) cut_is))
        ∙ found_put old.held held' (is_in old.ended.ranges) (is_in old.cut.ranges) id e put q

    mid_apart : IsApart mid
    mid_apart q has = ap (λ (i : Ids). is_in i.ranges q) ended_is ∙ still_apart old held' id e was apart put q (sym (ap (λ (m : Map). is_some (get nat_cmp m q)) held_is) ∙ has)

pub closes_none : (id : ℕ) (k : TheConnections) → OpenIdsAfter id true k k
closes_none id k q = go (eq_by_cmp nat_cmp id q) (contains nat_cmp k.open_ids q)
  where
    go : (b x : Bool) → x ≡ cond b (x && true) x
    go true true = refl
    go true false = refl
    go false x = refl

pub closes_then : (b y x : Bool) → x ≡ false → cond b false y ≡ cond b (y && x) y
closes_then true true x is = sym is
closes_then true false x is = refl
closes_then false y x is = refl

pub closes_else : (b y x : Bool) → x ≡ true → y ≡ cond b (y && x) y
closes_else true true x is = sym is
closes_else true false x is = refl
closes_else false y x is = refl

-- ---- one that is over

no_bytes : (xs : List ℕ) → length xs ≡ 0 → xs ≡ []
no_bytes [] e = refl
no_bytes (x ∷ xs) e = absurd (omega (arith, e))

none_left : (types : List ServedShape) (out : Out) (c : Connection) (h b : Bool) → (length (left out) == 0) ≡ b → cond b (Some true) None ≡ Some h → ConnectionRepresents types (conn.Ended out) c
    → ConnectionRepresents types (conn.Closed h) c
none_left types out c h true is over (represents, rest) = (
  ap is_open represents,
  ap has_ended represents ∙ some_of over,
  ap (λ (st : Phase). untaken_in st (drop c.taken c.written)) represents ∙ rest ∙ no_bytes (left out) (eqb-true (length (left out)) 0 is),
)
none_left types out c h false is over holds = absurd (none_some over)

over_holds : (types : List ServedShape) (d : conns.Connection) (c : Connection) (h : Bool) → had_ended_if_over_in d ≡ Some h → ConnectionRepresents types d c → ConnectionRepresents types (conn.Closed h) c
over_holds types (conn.Head prefix) c h over holds = absurd (none_some over)
over_holds types (conn.Body prefix p) c h over holds = absurd (none_some over)
over_holds types (conn.Watch w out) c h over holds = absurd (none_some over)
over_holds types (conn.Ended out) c h over holds = none_left types out c h (length (left out) == 0) refl over holds
over_holds types (conn.Closed had_ended) c h over (closed, had, none) = (closed, had ∙ some_of over, none)

-- it is held as it was
pub forgets_none : (id : ℕ) (d : conns.Connection) (old new : TheConnections) → get nat_cmp old.held id ≡ Some d → IsApart old → new.held ≡ old.held → new.open_ids ≡ old.open_ids → new.highest ≡ old.highest
    → ((q : ℕ) → is_in new.ended.ranges q ≡ is_in old.ended.ranges q) → ((q : ℕ) → is_in new.cut.ranges q ≡ is_in old.cut.ranges q) → Forgets id d old new
forgets_none id d old new at apart held_is open_is highest_is ended_is cut_is = record {
  one = d;
  as_much = λ types c holds. holds;
  put = λ q.
      ap₂ (λ (m : Map) (o : Option conns.Connection). held_or (get nat_cmp m q) o) held_is (ap₂ closed_by (ended_is q) (cut_is q))
      ∙ self_put (found old) id d (ap (λ (o : Option conns.Connection). held_or o (closed_by (is_in old.ended.ranges id) (is_in old.cut.ranges id))) at) q;
  open_is = open_is;
  highest = highest_is;
  apart = λ q has. ended_is q ∙ apart q (sym (ap (λ (m : Map). is_some (get nat_cmp m q)) held_is) ∙ has);
}

-- its id is kept
pub forgets_one : (id : ℕ) (d : conns.Connection) (h : Bool) (old new : TheConnections) → get nat_cmp old.held id ≡ Some d → had_ended_if_over_in d ≡ Some h → IsApart old
    → ((q : ℕ) → get nat_cmp new.held q ≡ cond (eq_by_cmp nat_cmp id q) None (get nat_cmp old.held q)) → new.open_ids ≡ old.open_ids → new.highest ≡ old.highest
    → ((q : ℕ) → is_in new.ended.ranges q ≡ cond (eq_by_cmp nat_cmp id q) h (is_in old.ended.ranges q))
    → ((q : ℕ) → is_in new.cut.ranges q ≡ cond (eq_by_cmp nat_cmp id q && cond h false true) true (is_in old.cut.ranges q)) → Forgets id d old new
forgets_one id d h old new at over apart held_is open_is highest_is ended_is cut_is = record {
  one = conn.Closed h;
  as_much = λ types c holds. over_holds types d c h over holds;
  put = λ q.
      ap₂ held_or (held_is q) (ap₂ closed_by (ended_is q) (cut_is q))
      ∙ go (eq_by_cmp nat_cmp id q) h (get nat_cmp old.held q) (is_in old.ended.ranges q) (is_in old.cut.ranges q);
  open_is = open_is;
  highest = highest_is;
  apart = λ q has. away q (eq_by_cmp nat_cmp id q) refl has;
}
  where
    go : (b h : Bool) (o : Option conns.Connection) (x y : Bool)
        → held_or (cond b None o) (closed_by (cond b h x) (cond (b && cond h false true) true y)) ≡ cond b (Some (conn.Closed h)) (held_or o (closed_by x y))
    go true true o x y = refl
    go true false o x y = refl
    go false h o x y = refl

    away : (q : ℕ) (b : Bool) → eq_by_cmp nat_cmp id q ≡ b → is_some (get nat_cmp new.held q) ≡ true → is_in new.ended.ranges q ≡ false
    away q true e has = absurd (wrong (sym (ap is_some (held_is q) ∙ ap (λ (b : Bool). is_some (cond b None (get nat_cmp old.held q))) e) ∙ has))
    away q false e has =
        ended_is q ∙ ap (λ (b : Bool). cond b h (is_in old.ended.ranges q)) e
        ∙ apart q (sym (ap is_some (held_is q) ∙ ap (λ (b : Bool). is_some (cond b None (get nat_cmp old.held q))) e) ∙ has)

-- ids that are or aren't there
pub with_id : (b x : Bool) → cond b true x ≡ cond (b && true) true x
with_id true x = refl
with_id false x = refl

pub without_id : (b x : Bool) → x ≡ cond (b && false) true x
without_id true x = refl
without_id false x = refl

pub no_id_there : (f : ℕ → Bool) (id q : ℕ) → f id ≡ false → f q ≡ cond (eq_by_cmp nat_cmp id q) false (f q)
no_id_there f id q none = go (eq_by_cmp nat_cmp id q) (tied_same id q)
  where
    go : (b : Bool) → (b ≡ true → id ≡ q) → f q ≡ cond b false (f q)
    go true same = ap f (sym (same refl)) ∙ none
    go false same = refl

-- ---- a change of one that is over

receives_closed : (types : List ServedShape) (m : History) (last_tick : ℕ) (c : Connection) (st : Phase) (bytes : List ℕ) (shared : Shared) → is_open st ≡ false → SharedRepresents shared types m
    → Receives types m last_tick c st bytes c (unasked no_change) shared
receives_closed types m last_tick c (waiting prefix) bytes shared closed represents = absurd (wrong (sym closed))
receives_closed types m last_tick c (watching w) bytes shared closed represents = absurd (wrong (sym closed))
receives_closed types m last_tick c ended bytes shared closed represents = (refl, refl, represents)
receives_closed types m last_tick c (gone had_ended) bytes shared closed represents = (refl, refl, represents)

-- what it makes of it, and that it is over
makes_over : (types : List ServedShape) (m : History) (last_tick : ℕ) (what : changes.ConnectionInput) (c : Connection) (h : Bool) (shared : Shared) → SharedRepresents shared types m → ConnectionRepresents types (conn.Closed h) c
    → (c' : Connection) × Makes types m last_tick what c c' (unasked no_change) shared × ConnectionRepresents types (conn.Closed h) c'
makes_over types m last_tick (change.Bytes bytes) c h shared represents holds = (c, receives_closed types m last_tick c c.phase bytes.now shared holds.0 represents, holds)
makes_over types m last_tick (change.Lines max) c h shared represents holds =
    (c, (sym (turn_closed (pumped m max) c c.phase holds.0), ap unasked (idle_did (pumped m max) c c.phase refl (closed_watches c.phase holds.0)), represents), holds)
makes_over types m last_tick change.Gone c h shared represents holds = (with_phase c (gone (has_ended c.phase)), (refl, refl, represents), (refl, holds.1, refl))

-- one that isn't held is over
is_over : (a b : Bool) (d : conns.Connection) → closed_by a b ≡ Some d → (h : Bool) × (d ≡ conn.Closed h)
is_over true b d is = (true, sym (some_of is))
is_over false true d is = (false, sym (some_of is))
is_over false false d is = absurd (none_some is)

pub passes : (types : List ServedShape) (m : History) (last_tick : ℕ) (what : changes.ConnectionInput) (id : ℕ) (d : conns.Connection) (c : Connection) (k : TheConnections) (shared : Shared) → SharedRepresents shared types m
    → get nat_cmp k.held id ≡ None → IsAt id d k → ConnectionRepresents types d c → Changes types m last_tick what id c k k shared (Ok effect.Nothing)
passes types m last_tick what id d c k shared represents none (at, there, apart) holds =
    let over = is_over (is_in k.ended.ranges id) (is_in k.cut.ranges id) d
    (sym (ap (λ (o : Option conns.Connection). held_or o (closed_by (is_in k.ended.ranges id) (is_in k.cut.ranges id))) none) ∙ at) in
    let made = makes_over types m last_tick what c over.0 shared represents (subst (λ (x : conns.Connection). ConnectionRepresents types x c) over.1 holds) in (
      made.0,
      unasked no_change,
      made.1,
      refl,
      record {
        one = d;
        holds = subst (λ (x : conns.Connection). ConnectionRepresents types x made.0) (sym over.1) made.2;
        put = self_put (found k) id d at;
        open_is = λ q. go q (is_open made.0.phase) made.2.0 (eq_by_cmp nat_cmp id q) (tied_same id q) (there ∙ ap is_open_in over.1);
        highest = refl;
        apart = apart;
      },
    )
  where
    no_more : (b : Bool) → b ≡ false → (x : Bool) → x ≡ false → b ≡ b && x
    no_more true is x closed = absurd (wrong (sym is))
    no_more false is x closed = refl

    go : (q : ℕ) (x : Bool) → x ≡ false → (b : Bool) → (b ≡ true → id ≡ q) → contains nat_cmp k.open_ids id ≡ false → contains nat_cmp k.open_ids q ≡ cond b (contains nat_cmp k.open_ids q && x) (contains nat_cmp k.open_ids q)
    go q x closed true same shut = no_more (contains nat_cmp k.open_ids q) (ap (contains nat_cmp k.open_ids) (sym (same refl)) ∙ shut) x closed
    go q x closed false same shut = refl

pub takes_passed : (types : List ServedShape) (id n : ℕ) (d : conns.Connection) (c : Connection) (old new : TheConnections) → get nat_cmp old.held id ≡ None → new ≡ old → IsAt id d old → ConnectionRepresents types d c
    → BecomesAt types true (with_taken c n) id old new
takes_passed types id n d c old new none same (at, there, apart) holds =
    let over = is_over (is_in old.ended.ranges id) (is_in old.cut.ranges id) d (sym (found_held old id None none) ∙ at) in
    subst (BecomesAt types true (with_taken c n) id old) (sym same) (record {
      one = d;
      holds = subst (λ (x : conns.Connection). ConnectionRepresents types x (with_taken c n)) (sym over.1) (takes_over types over.0 c n (subst (λ (x : conns.Connection). ConnectionRepresents types x c) over.1 holds));
      put = self_put (found old) id d at;
      open_is = closes_none id old;
      highest = refl;
      apart = apart;
    })

known_by : (a b : Bool) (f : Option conns.Connection) → held_or None (closed_by a b) ≡ f → is_some (had_ended_by_ids a b) ≡ is_some f
known_by a b f is = known_over a b ∙ ap is_some is

abbrev pub Answer : Type 0
Answer = Result Effect HubFault

-- nothing becomes of one that is over
abbrev nothing_if : Bool → Answer
nothing_if b = cond b (Ok effect.Nothing) (Err (fault.Refused hub_refusal.UnknownId))

abbrev pub Passes : TheConnections → ℕ → Answer → Type 0
Passes k id r = r ≡ nothing_if (is_some (had_ended_by_ids (is_in k.ended.ranges id) (is_in k.cut.ranges id)))

passed_is : (k : TheConnections) (id : ℕ) (f : Option conns.Connection) (r : Answer) → get nat_cmp k.held id ≡ None → Passes k id r → found k id ≡ f → r ≡ nothing_if (is_some f)
passed_is k id f r none passes is =
    passes ∙ ap nothing_if (known_by (is_in k.ended.ranges id) (is_in k.cut.ranges id) f (sym (found_held k id None none) ∙ is))

pub pass_known : (types : List ServedShape) (m : History) (last_tick : ℕ) (what : changes.ConnectionInput) (id : ℕ) (d : conns.Connection) (c : Connection) (old new : TheConnections) (shared : Shared) (r : Answer) → SharedRepresents shared types m
    → get nat_cmp old.held id ≡ None → new ≡ old → Passes old id r → IsAt id d old → ConnectionRepresents types d c → Changes types m last_tick what id c old new shared r
pass_known types m last_tick what id d c old new shared r represents none same passed at holds =
    subst (Changes types m last_tick what id c old new shared) (sym (passed_is old id (Some d) r none passed at.0))
    (subst (λ (k : TheConnections). Changes types m last_tick what id c old k shared (Ok effect.Nothing)) (sym same) (passes types m last_tick what id d c old shared represents none at holds))

pub pass_unknown : (old : TheConnections) (id : ℕ) (r : Answer) → get nat_cmp old.held id ≡ None → Passes old id r → found old id ≡ None → outcome_of r ≡ refused unknown_id
pass_unknown old id r none passed is = ap outcome_of (passed_is old id None r none passed is)

pub pass_taken : (old : TheConnections) (id : ℕ) (r : Answer) → get nat_cmp old.held id ≡ None → Passes old id r → is_some (found old id) ≡ true → refusal_in (outcome_of r) ≡ None
pass_taken old id r none passed is = go (found old id) refl is
  where
    go : (f : Option conns.Connection) → found old id ≡ f → is_some f ≡ true → refusal_in (outcome_of r) ≡ None
    go None at has = absurd (wrong has)
    go (Some d) at has = ap (λ (a : Answer). refusal_in (outcome_of a)) (passed_is old id (Some d) r none passed at)

pub if_ok_is : {A E : Type 0} (P : A → Type 0) (r : Result A E) (a : A) → r ≡ Ok a → IfOk r P → P a
if_ok_is {A} {E} P r a is reported = subst (λ (x : Result A E). IfOk x P) is reported

pub on_err_is : {A E P : Type 0} (r : Result A E) (e : E) → r ≡ Err e → OnErr r P → P
on_err_is {A} {E} {P} r e is reported = subst (λ (x : Result A E). OnErr x P) is reported

pub ok_not_err : {A E : Type 0} {a : A} {e : E} (r : Result A E) → r ≡ Ok a → r ≡ Err e → ⊥
ok_not_err r is isnt = cc

-- ---- one is opened

fresh_parts : (o : Option conns.Connection) (a b : Bool) → held_or o (closed_by a b) ≡ None → (o ≡ None) × (a ≡ false)
fresh_parts None true b is = absurd (none_some (sym is))
fresh_parts None false b is = (refl, refl)
fresh_parts (Some d) a b is = absurd (none_some (sym is))

pub opens_one : (id : ℕ) (d : conns.Connection) (old new : TheConnections) → IsFresh id old → ((q : ℕ) → get nat_cmp new.held q ≡ cond (eq_by_cmp nat_cmp id q) (Some d) (get nat_cmp old.held q))
    → ((q : ℕ) → contains nat_cmp new.open_ids q ≡ cond (eq_by_cmp nat_cmp id q) (is_open_in d) (contains nat_cmp old.open_ids q)) → new.ended ≡ old.ended → new.cut ≡ old.cut → new.highest ≡ Some id
    → Opens id d old new
opens_one id d old new (none, shut, apart) put listed ended_is cut_is highest = record {
  put = λ q.
      ap (held_or (get nat_cmp new.held q)) (ap₂ closed_by (ap (λ (i : Ids). is_in i.ranges q) ended_is) (ap (λ (i : Ids). is_in i.ranges q) cut_is))
      ∙ found_put old.held new.held (is_in old.ended.ranges) (is_in old.cut.ranges) id d put q;
  open_is = listed;
  highest = highest;
  apart = λ q has. ap (λ (i : Ids). is_in i.ranges q) ended_is ∙ go q (eq_by_cmp nat_cmp id q) (tied_same id q) (sym (ap is_some (put q)) ∙ has);
}
  where
    go : (q : ℕ) (b : Bool) → (b ≡ true → id ≡ q) → is_some (cond b (Some d) (get nat_cmp old.held q)) ≡ true → is_in old.ended.ranges q ≡ false
    go q true same now = ap (is_in old.ended.ranges) (sym (same refl)) ∙ (fresh_parts (get nat_cmp old.held id) (is_in old.ended.ranges id) (is_in old.cut.ranges id) none).1
    go q false same now = apart q now

pub same_opened : (id : ℕ) (old new : TheConnections) → IsFresh id old → ((q : ℕ) → get nat_cmp new.held q ≡ get nat_cmp old.held q) → ((q : ℕ) → contains nat_cmp new.open_ids q ≡ contains nat_cmp old.open_ids q)
    → new.ended ≡ old.ended → new.cut ≡ old.cut → new.highest ≡ old.highest → IsSame old new
same_opened id old new (none, shut, apart) held_is open_is ended_is cut_is highest_is = record {
  found_is = λ q. ap₂ held_or (held_is q) (ap₂ closed_by (ap (λ (i : Ids). is_in i.ranges q) ended_is) (ap (λ (i : Ids). is_in i.ranges q) cut_is));
  open_is = open_is;
  highest = highest_is;
  apart = λ q has. ap (λ (i : Ids). is_in i.ranges q) ended_is ∙ apart q (sym (ap is_some (held_is q)) ∙ has);
}

-- put in and taken out again
pub in_and_out : (start one two : BTreeSet ℕ) (id q : ℕ) → contains nat_cmp start id ≡ false → contains nat_cmp one q ≡ cond (eq_by_cmp nat_cmp id q) true (contains nat_cmp start q)
    → contains nat_cmp two q ≡ cond (eq_by_cmp nat_cmp id q) false (contains nat_cmp one q) → contains nat_cmp two q ≡ contains nat_cmp start q
in_and_out start one two id q shut put took =
    took ∙ ap (cond (eq_by_cmp nat_cmp id q) false) put ∙ hidden (eq_by_cmp nat_cmp id q) false true (contains nat_cmp start q) ∙ sym (no_id_there (contains nat_cmp start) id q shut)
