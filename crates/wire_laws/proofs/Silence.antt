-- What is written on a connection that has ended, and on one that watches.
use Rattle.std.proofs.Common.{◌≡◌, ℕ, Bool, true, false, cond, List, [], ◌++◌, Option, Some, refl, sym, ap, ◌∙◌, append-nil}
use Rattle.std.specs.Prelude.{option_map, unwrap_or}
use Rattle.httpedge.specs.Connections.{Connection, Phase, waiting, watching, ended, gone, ended_on, has_ended, is_open, is_watching, watching_on, with_phase, written_on}
use Rattle.requests.specs.ReplyBytes.{chunks}
use Rattle.httpedge.specs.Runs.{Follows, Action}
use Rattle.httpedge.specs.Steps.{State, after_turn, has_no_next}
use Rattle.httpedge.specs.Watches.{Turn, Watch, pumped, ticked}
use Rattle.wire_laws.proofs.Following.{IsInvariant, follows_hold}

wrong : false ≡ true → ⊥
wrong e = cc

abbrev written_in : Option Connection → List ℕ
written_in o = unwrap_or (option_map (λ c. c.written) o) []

-- ---- where the former has ended, nothing more is written on the latter

abbrev Keeps : Option Connection → Option Connection → Type 0
Keeps o p = unwrap_or (option_map (λ c. has_ended c.phase) o) false ≡ true → written_in p ≡ written_in o

turn_keeps : (turn : Watch → Turn) (c : Connection) (st : Phase) → c.phase ≡ st → Keeps (Some c) (Some (after_turn turn c st))
turn_keeps turn c (waiting prefix) represents is = refl
turn_keeps turn c (watching w) represents is = absurd (wrong (sym (ap has_ended represents) ∙ is))
turn_keeps turn c ended represents is = refl
turn_keeps turn c (gone had_ended) represents is = refl

dead_keeps : (b : Bool) (c : Connection) → Keeps (Some c) (Some (cond b (with_phase c ended) c))
dead_keeps true c is = refl
dead_keeps false c is = refl

keeps : (s : State) → IsInvariant Keeps s
keeps s = record {
  same = λ o is. refl;
  opened = λ c is. absurd (wrong is);
  came = λ types m last_tick c prefix bytes asked represents is. absurd (wrong (sym (ap has_ended represents) ∙ is));
  went = λ c is. refl;
  at_pump = λ max c. turn_keeps (pumped s.machine max) c c.phase refl;
  at_tick = λ ms c. turn_keeps (ticked s.types ms) c c.phase refl;
  died = λ c. dead_keeps (is_open c.phase) c;
  taken = λ c n is. refl;
}

pub silent : (s t : State) (h : Action) (q : ℕ) → Follows s h t → ended_on s.connections q ≡ true → written_on t.connections q ≡ written_on s.connections q
silent s t h q follows is = follows_hold Keeps s (keeps s) t h q follows is

-- ---- where the former watches, chunks alone are written on the latter

abbrev Chunked : Option Connection → Option Connection → Type 0
Chunked o p = (lines : List (List ℕ)) × (has_ended : Bool) × (written_in p ≡ written_in o ++ chunks lines has_ended)

abbrev Writes : Option Connection → Option Connection → Type 0
Writes o p = unwrap_or (option_map (λ c. is_watching c.phase) o) false ≡ true → Chunked o p

nothing : (o : Option Connection) → Chunked o o
nothing o = ([], false, sym (append-nil (written_in o)))

turn_writes : (turn : Watch → Turn) (c : Connection) (st : Phase) → Writes (Some c) (Some (after_turn turn c st))
turn_writes turn c (waiting prefix) is = nothing (Some c)
turn_writes turn c (watching w) is = ((turn w).lines, has_no_next (turn w).next, refl)
turn_writes turn c ended is = nothing (Some c)
turn_writes turn c (gone had_ended) is = nothing (Some c)

dead_writes : (b : Bool) (c : Connection) → Writes (Some c) (Some (cond b (with_phase c ended) c))
dead_writes true c is = nothing (Some c)
dead_writes false c is = nothing (Some c)

writes : (s : State) → IsInvariant Writes s
writes s = record {
  same = λ o is. nothing o;
  opened = λ c is. absurd (wrong is);
  came = λ types m last_tick c prefix bytes asked represents is. absurd (wrong (sym (ap is_watching represents) ∙ is));
  went = λ c is. nothing (Some c);
  at_pump = λ max c. turn_writes (pumped s.machine max) c c.phase;
  at_tick = λ ms c. turn_writes (ticked s.types ms) c c.phase;
  died = λ c. dead_writes (is_open c.phase) c;
  taken = λ c n is. nothing (Some c);
}

pub chunks_alone : (s t : State) (h : Action) (q : ℕ) → Follows s h t → watching_on s.connections q ≡ true
    → (lines : List (List ℕ)) × (has_ended : Bool) × (written_on t.connections q ≡ written_on s.connections q ++ chunks lines has_ended)
chunks_alone s t h q follows is = follows_hold Writes s (writes s) t h q follows is
