-- What becomes of a connection that watches, and of one that is open no more, whatever happens to the hub.
use Rattle.std.proofs.Common.{◌≡◌, ◌⊎◌, inl, inr, ℕ, Bool, true, false, cond, List, [], ◌∷◌, ◌++◌, Option, Some, None, refl, sym, ap, subst, ◌∙◌}
use Rattle.std.specs.Prelude.{⊤}
use Rattle.std.specs.FinMap as fin
use Rattle.httpedge.specs.Connections.{Connection, Phase, waiting, watching, ended, gone, has_ended, is_open, is_watching, with_phase, with_taken, with_written}
use Rattle.httpedge.specs.Runs.{Action, Follows, Runs}
use Rattle.httpedge.specs.Steps.{State, after_turn, phase_after, turn_bytes}
use Rattle.httpedge.specs.Watches.{Turn, Watch, pumped, ticked}
use Rattle.wire_laws.proofs.Following.{IsInvariant, follows_hold}

wrong : false ≡ true → ⊥
wrong e = cc

-- ---- it watches

-- its turn, at a pump or at a tick
abbrev pub IsTurnOf : State → Watch → Turn → Type 0
IsTurnOf s w turn = ((max : ℕ) × (turn ≡ pumped s.machine max w)) ⊎ ((ms : ℕ) × (turn ≡ ticked s.types ms w))

-- nothing was written, and it watches as before or is open no more; or it had its turn
abbrev pub Became : State → Connection → Watch → Connection → Type 0
Became s c w d =
    ((d.written ≡ c.written) × ((d.phase ≡ watching w) ⊎ (is_open d.phase ≡ false)))
    ⊎ ((turn : Turn) × IsTurnOf s w turn × (d.written ≡ c.written ++ turn_bytes turn) × (d.phase ≡ phase_after turn.next))

abbrev pub BecameSome : State → Connection → Watch → Option Connection → Type 0
BecameSome s c w p = (d : Connection) × (p ≡ Some d) × Became s c w d

abbrev Watches : State → Option Connection → Option Connection → Type 0
Watches s None p = ⊤
Watches s (Some c) p = (w : Watch) → c.phase ≡ watching w → BecameSome s c w p

watches_same : (s : State) (o : Option Connection) → Watches s o o
watches_same s None = tt
watches_same s (Some c) = λ w watches. (c, refl, inl (refl, inl watches))

waits_not : (c : Connection) (prefix : List ℕ) (w : Watch) → c.phase ≡ waiting prefix → c.phase ≡ watching w → ⊥
waits_not c prefix w waits watches = wrong (ap is_watching (sym waits ∙ watches))

turn_became : (s : State) (turn : Watch → Turn) (c : Connection) (w : Watch) → c.phase ≡ watching w → IsTurnOf s w (turn w) → BecameSome s c w (Some (after_turn turn c c.phase))
turn_became s turn c w watches is =
    subst (λ (st : Phase). BecameSome s c w (Some (after_turn turn c st))) (sym watches)
    (with_written c (turn_bytes (turn w)) (phase_after (turn w).next), refl, inr (turn w, is, refl, refl))

dead_became : (s : State) (c : Connection) (w : Watch) → c.phase ≡ watching w → BecameSome s c w (Some (cond (is_open c.phase) (with_phase c ended) c))
dead_became s c w watches =
    subst (λ (st : Phase). BecameSome s c w (Some (cond (is_open st) (with_phase c ended) c))) (sym watches) (with_phase c ended, refl, inl (refl, inr refl))

watches_on : (s : State) → IsInvariant (Watches s) s
watches_on s = record {
  same = watches_same s;
  opened = λ c. tt;
  came = λ types m last_tick c prefix bytes asked waits w watches. absurd (waits_not c prefix w waits watches);
  went = λ c w watches. (with_phase c (gone (has_ended c.phase)), refl, inl (refl, inr refl));
  at_pump = λ max c w watches. turn_became s (pumped s.machine max) c w watches (inl (max, refl));
  at_tick = λ ms c w watches. turn_became s (ticked s.types ms) c w watches (inr (ms, refl));
  died = λ c w watches. dead_became s c w watches;
  taken = λ c n w watches. (with_taken c n, refl, inl (refl, inl watches));
}

pub watched : (s t : State) (h : Action) (id : ℕ) (c : Connection) (w : Watch) → Follows s h t → fin.get s.connections id ≡ Some c → c.phase ≡ watching w → BecameSome s c w (fin.get t.connections id)
watched s t h id c w follows got = subst (λ (o : Option Connection). Watches s o (fin.get t.connections id)) got (follows_hold (Watches s) s (watches_on s) t h id follows) w

-- ---- it is open no more

-- nothing is written
abbrev StaysShut : Connection → Option Connection → Type 0
StaysShut c p = (d : Connection) × (p ≡ Some d) × (d.written ≡ c.written) × (is_open d.phase ≡ false)

abbrev Shut : Option Connection → Option Connection → Type 0
Shut None p = ⊤
Shut (Some c) p = is_open c.phase ≡ false → StaysShut c p

shut_same : (o : Option Connection) → Shut o o
shut_same None = tt
shut_same (Some c) = λ shut. (c, refl, refl, shut)

turn_shut : (turn : Watch → Turn) (c : Connection) (st : Phase) → is_open c.phase ≡ false → is_open st ≡ false → StaysShut c (Some (after_turn turn c st))
turn_shut turn c (waiting prefix) shut is = absurd (wrong (sym is))
turn_shut turn c (watching w) shut is = absurd (wrong (sym is))
turn_shut turn c ended shut is = (c, refl, refl, shut)
turn_shut turn c (gone had_ended) shut is = (c, refl, refl, shut)

dead_shut : (c : Connection) → is_open c.phase ≡ false → StaysShut c (Some (cond (is_open c.phase) (with_phase c ended) c))
dead_shut c shut = subst (λ (b : Bool). StaysShut c (Some (cond b (with_phase c ended) c))) (sym shut) (c, refl, refl, shut)

stays_shut : (s : State) → IsInvariant Shut s
stays_shut s = record {
  same = shut_same;
  opened = λ c. tt;
  came = λ types m last_tick c prefix bytes asked waits shut. absurd (wrong (sym shut ∙ ap is_open waits));
  went = λ c shut. (with_phase c (gone (has_ended c.phase)), refl, refl, refl);
  at_pump = λ max c shut. turn_shut (pumped s.machine max) c c.phase shut shut;
  at_tick = λ ms c shut. turn_shut (ticked s.types ms) c c.phase shut shut;
  died = dead_shut;
  taken = λ c n shut. (with_taken c n, refl, refl, shut);
}

pub shut_runs : (hs : List Action) (s t : State) (id : ℕ) (c : Connection) → Runs s hs t → fin.get s.connections id ≡ Some c → is_open c.phase ≡ false → (d : Connection) × (fin.get t.connections id ≡ Some d) × (d.written ≡ c.written)
shut_runs [] s t id c same got shut = (c, ap (λ (x : State). fin.get x.connections id) same ∙ got, refl)
shut_runs (h ∷ hs) s t id c (mid, follows, rest) got shut =
    let one = subst (λ (o : Option Connection). Shut o (fin.get mid.connections id)) got (follows_hold Shut s (stays_shut s) mid h id follows) shut in
    let more = shut_runs hs mid t id one.0 rest one.1 one.3 in
    (more.0, more.1, more.2 ∙ one.2)
