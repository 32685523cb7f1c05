-- The turns of a watch, as pieces of the history's changes, and what they write over a run.
use Rattle.std.proofs.Common.{◌≡◌, ◌⊎◌, inl, inr, ℕ, suc, ◌-◌, ◌≤◌, max, Bool, true, false, cond, List, [], ◌∷◌, ◌++◌, length, map, Option, Some, None, refl, sym, ap, subst, ◌∙◌, arith, append-nil, append_assoc, flat_map, ltb-false}
use Rattle.std.specs.Prelude.{nat_lt, option_map, slice_get, unwrap_or, ⊤}
use Rattle.std.proofs.lemmas.Grind.{flat_map-append}
use Rattle.std.specs.FinMap as fin
use Rattle.api_types.specs.TypesFile.{ServedShape}
use Rattle.history.specs.History.{Change, History, IsHistory}
use Rattle.history.specs.Seen.{Selection, SeenChange, reached, seen_changes}
use Rattle.history.specs.Whole.{IsGapless}
use Rattle.history.proofs.Following.{prefix_seen, seen_changes-push}
use Rattle.history.proofs.Wholes.{whole_is}
use Rattle.watchline.specs.Lines.{line_of}
use Rattle.watchline.specs.Watches.{Cursor, changes_left, changes_sent, coming, expiring, from_history, is_bookmark_due, no_initial_left, objects_left, position_by, position_past, sending, wanted}
use Rattle.watchline.specs.Watches as cursors
use Rattle.line_laws.proofs.Sent.{left_stays, marked_line, unmarked}
use Rattle.api_validation.specs.Envelope.{api_version_of}
use Rattle.verbs.specs.Machine.{IsMachine}
use Rattle.verbs.specs.Watching.{bookmarked_as}
use Rattle.requests.specs.ReplyBytes.{chunk, chunks, end_bytes}
use Rattle.httpedge.specs.Connections.{Connection, is_open, watching, written_on}
use Rattle.httpedge.specs.Runs.{Action, HasGrown, Runs}
use Rattle.httpedge.specs.Steps.{State, has_no_next, phase_after, turn_bytes}
use Rattle.httpedge.specs.Watches.{Turn, Watch, has_timed_out, bookmark_turned, pumped, ticked, turned, unless_ended, with_cursor}
use Rattle.wire_laws.specs.WatchLines.{AreInOrder, IsWrittenFrom, Piece, bookmark, changes, expiry, lines_from, piece_lines, position_behind}
use Rattle.wire_laws.proofs.WatchTurns.{Became, IsTurnOf, shut_runs, watched}

-- ---- what is seen stays where the history grows

grown_seen : (seen : Selection) (more all : List Change) (top end : ℕ) → IsGapless top more end → (p q : ℕ) → p ≤ top → q ≤ top → seen_changes seen (all ++ more) p q ≡ seen_changes seen all p q
grown_seen seen [] all top end is p q low high = ap (λ cs. seen_changes seen cs p q) (append-nil all)
grown_seen seen (c ∷ more) all top end is p q low high =
    let next : c.revision ≡ suc top = is.0 in
    ap (λ cs. seen_changes seen cs p q) (sym (append_assoc all (c ∷ []) more))
    ∙ grown_seen seen more (all ++ c ∷ []) (suc top) end is.1 p q (omega (arith, low)) (omega (arith, high))
    ∙ seen_changes-push seen all c p q (omega (arith, low, next)) (omega (arith, high, next))

grown_lines : (s t : State) (seen : Selection) (p : ℕ) (x : Piece) → HasGrown s t → p ≤ s.machine.current → position_behind p x ≤ s.machine.current → piece_lines seen s.machine.changes p x ≡ piece_lines seen t.machine.changes p x
grown_lines s t seen p (changes q) grown low high =
    let more = grown.changes in
    ap (map line_of) (sym (ap (λ cs. seen_changes seen cs p q) more.1 ∙ grown_seen seen more.0 s.machine.changes s.machine.current t.machine.current more.2 p q low high))
grown_lines s t seen p (bookmark api_version kind) grown low high = refl
grown_lines s t seen p (expiry compacted) grown low high = refl

-- ---- a turn

-- where it goes on, it sees the same from this revision on
abbrev pub Onward : Watch → ℕ → Option Watch → Type 0
Onward w q None = ⊤
Onward w q (Some v) = (wanted v.cursor ≡ wanted w.cursor) × (v.cursor.left ≡ no_initial_left) × (v.cursor.position ≡ q)

-- nothing follows where changes are forgotten
abbrev pub Ends : Piece → Option Watch → Type 0
Ends (changes q) next = ⊤
Ends (bookmark api_version kind) next = ⊤
Ends (expiry compacted) next = next ≡ None

-- the turn writes this piece
pub record Writes (m : History) (w : Watch) (turn : Turn) (x : Piece) : Type 0 where
  pub lines : turn.lines ≡ piece_lines (wanted w.cursor) m.changes w.cursor.position x
  pub low : w.cursor.position ≤ position_behind w.cursor.position x
  pub high : position_behind w.cursor.position x ≤ m.current
  pub onward : Onward w (position_behind w.cursor.position x) turn.next
  pub ends : Ends x turn.next

-- or it writes nothing
abbrev pub TurnWrites : History → Watch → Turn → Type 0
TurnWrites m w turn = ((turn.lines ≡ []) × Onward w w.cursor.position turn.next) ⊎ ((x : Piece) × Writes m w turn x)

-- the law of a bare cursor: a turn sends what is seen up to where it then stands
abbrev pub SendsAll : Type 0
SendsAll = (h : History) (w : Cursor) (room : ℕ) → IsHistory h → w.left ≡ no_initial_left → h.compacted ≤ w.position
    → (cursors.pumped (from_history h) room w).lines ≡ map line_of (seen_changes (wanted w) h.changes w.position (cursors.pumped (from_history h) room w).next.position)

above : (top r : ℕ) (b : Bool) → r ≤ position_by b top r
above top r true = omega arith
above top r false = omega arith

within : (top r : ℕ) (b : Bool) → r ≤ top → position_by b top r ≤ top
within top r true low = omega (arith, low)
within top r false low = low

module _ (sends : SendsAll) (m : History) (is : IsHistory m) (w : Watch) (none : w.cursor.left ≡ no_initial_left) (come : w.cursor.position ≤ m.current) where
  abbrev p : ℕ
  p = w.cursor.position

  at_pump : (max : ℕ) → TurnWrites m w (pumped m max w)
  at_pump max = by_test (nat_lt p m.compacted) refl
    where
      by_test : (b : Bool) → nat_lt p m.compacted ≡ b → TurnWrites m w (turned w (cond b (expiring (from_history m) w.cursor) (sending (from_history m) max w.cursor)))
      by_test true past = inr (expiry m.compacted, record { lines = refl; low = omega arith; high = come; onward = tt; ends = refl })
      by_test false low =
          let ahead : List SeenChange = changes_left (from_history m) w.cursor in
          let prefix = prefix_seen (wanted w.cursor) m.changes m.current (max - length (objects_left (from_history m) w.cursor)) p ahead is.rising come refl in
          let last : ℕ = reached p (changes_sent (from_history m) max w.cursor) in
          let has_room : Bool = nat_lt (length (coming (from_history m) w.cursor)) max in
          let first : p ≤ last = prefix.low in
          let up : last ≤ position_by has_room m.current last = above m.current last has_room in
          inr (
            changes (position_past (from_history m) max w.cursor),
            record {
              lines = subst (λ (t : cursors.Turn). t.lines ≡ map line_of (seen_changes (wanted w.cursor) m.changes p t.next.position))
                  (ap (λ (b : Bool). cond b (expiring (from_history m) w.cursor) (sending (from_history m) max w.cursor)) low) (sends m w.cursor max is none (ltb-false p m.compacted low));
              low = omega (arith, first, up);
              high = within m.current last has_room prefix.high;
              onward = (refl, left_stays m max w.cursor none, refl);
              ends = tt;
            },
          )

  onward_unless : (b : Bool) (cursor : Cursor) → wanted cursor ≡ wanted w.cursor → cursor.left ≡ no_initial_left → cursor.position ≡ p → Onward w p (unless_ended b (with_cursor w cursor))
  onward_unless true cursor same left at = tt
  onward_unless false cursor same left at = (same, left, at)

  at_tick : (types : List ServedShape) (ms : ℕ) → TurnWrites m w (ticked types ms w)
  at_tick types ms = by_type (slice_get types w.cursor.kind)
    where
      by_due : (t : ServedShape) (b : Bool) → TurnWrites m w (bookmark_turned ms w (cond b (marked_line (api_version_of t) t.kind w.cursor) (unmarked w.cursor)))
      by_due t true = inr (
        bookmark (api_version_of t) t.kind,
        record {
          lines = refl;
          low = omega arith;
          high = come;
          onward = onward_unless (has_timed_out ms w) (cursors.moved w.cursor p p w.cursor.left) refl none refl;
          ends = tt;
        },
      )
      by_due t false = inl (refl, onward_unless (has_timed_out ms w) w.cursor refl none refl)

      by_type : (o : Option ServedShape) → TurnWrites m w (bookmark_turned ms w (bookmarked_as o w.cursor))
      by_type None = inl (refl, onward_unless (has_timed_out ms w) w.cursor refl none refl)
      by_type (Some t) = by_due t (is_bookmark_due w.cursor)

turn_writes : SendsAll → (s : State) → IsHistory s.machine → (w : Watch) → w.cursor.left ≡ no_initial_left → w.cursor.position ≤ s.machine.current → (turn : Turn) → IsTurnOf s w turn → TurnWrites s.machine w turn
turn_writes sends s is w none come turn (inl (max, at)) = subst (TurnWrites s.machine w) (sym at) (at_pump sends s.machine is w none come max)
turn_writes sends s is w none come turn (inr (ms, at)) = subst (TurnWrites s.machine w) (sym at) (at_tick sends s.machine is w none come s.types ms)

-- ---- bytes

chunks_more : (xs ys : List (List ℕ)) (b : Bool) → chunks xs false ++ chunks ys b ≡ chunks (xs ++ ys) b
chunks_more xs ys b =
    ap (λ (l : List ℕ). l ++ chunks ys b) (append-nil (flat_map chunk xs)) ∙ sym (append_assoc (flat_map chunk xs) (flat_map chunk ys) (end_bytes b))
    ∙ ap (λ (l : List ℕ). l ++ end_bytes b) (sym (flat_map-append chunk xs ys))

joined : (lines piece more : List (List ℕ)) (bytes : List ℕ) (b : Bool) → lines ≡ piece → bytes ≡ chunks more b → chunks lines false ++ bytes ≡ chunks (piece ++ more) b
joined lines piece more bytes b first rest = ap (λ (l : List (List ℕ)). chunks l false ++ bytes) first ∙ ap (λ (l : List ℕ). chunks piece false ++ l) rest ∙ chunks_more piece more b

-- what was written on the connection since: these bytes before it, and then what is seen from this revision on
abbrev pub Written : State → ℕ → List ℕ → Selection → ℕ → Type 0
Written t id before seen p = (bytes : List ℕ) × (written_on t.connections id ≡ before ++ bytes) × IsWrittenFrom seen t.machine.changes t.machine.current p bytes

written_of : (t : State) (id : ℕ) (d : Connection) → fin.get t.connections id ≡ Some d → written_on t.connections id ≡ d.written
written_of t id d got = ap (λ (o : Option Connection). unwrap_or (option_map (λ c. c.written) o) []) got

-- nothing more
no_more : (t : State) (id : ℕ) (before : List ℕ) (seen : Selection) (p : ℕ) → written_on t.connections id ≡ before → p ≤ t.machine.current → Written t id before seen p
no_more t id before seen p at come = ([], at ∙ sym (append-nil before), ([], false, come, refl))

-- what may follow a piece
abbrev NothingAfter : Piece → List Piece → Type 0
NothingAfter (changes q) ys = ⊤
NothingAfter (bookmark api_version kind) ys = ⊤
NothingAfter (expiry compacted) ys = ys ≡ []

nothing : (x : Piece) → NothingAfter x []
nothing (changes q) = tt
nothing (bookmark api_version kind) = tt
nothing (expiry compacted) = refl

goes_on : (x : Piece) (ys : List Piece) (v : Watch) → Ends x (Some v) → NothingAfter x ys
goes_on (changes q) ys v ends = tt
goes_on (bookmark api_version kind) ys v ends = tt
goes_on (expiry compacted) ys v ends = absurd cc

ordered : (top p : ℕ) (x : Piece) (ys : List Piece) → p ≤ position_behind p x → position_behind p x ≤ top → NothingAfter x ys → AreInOrder top (position_behind p x) ys → AreInOrder top p (x ∷ ys)
ordered top p (changes q) ys low high last rest = (low, rest)
ordered top p (bookmark api_version kind) ys low high last rest = rest
ordered top p (expiry compacted) ys low high last rest = (high, last)

module _ (s t : State) (id : ℕ) (c d : Connection) (w : Watch) (grown : HasGrown s t) (come : w.cursor.position ≤ s.machine.current) where
  abbrev seen : Selection
  seen = wanted w.cursor

  abbrev from : ℕ
  from = w.cursor.position

  abbrev top : ℕ
  top = t.machine.current

  up : (q : ℕ) → q ≤ s.machine.current → q ≤ top
  up q high = let higher : s.machine.current ≤ top = grown.current in omega (arith, high, higher)

  -- what comes after a turn, where it goes on and where it doesn't
  abbrev pub After : Option Watch → Type 0
  After None = written_on t.connections id ≡ d.written
  After (Some v) = v.cursor.left ≡ no_initial_left → v.cursor.position ≤ s.machine.current → Written t id d.written (wanted v.cursor) v.cursor.position

  lines_later : (turn : Turn) (x : Piece) → Writes s.machine w turn x → turn.lines ≡ piece_lines seen t.machine.changes from x
  lines_later turn x writes = writes.lines ∙ grown_lines s t seen from x grown come writes.high

  last_turn : (turn : Turn) → TurnWrites s.machine w turn → written_on t.connections id ≡ c.written ++ chunks turn.lines true → Written t id c.written seen from
  last_turn turn (inl (none, onward)) at = (chunks turn.lines true, at, ([], true, up from come, ap (λ (l : List (List ℕ)). chunks l true) none))
  last_turn turn (inr (x, writes)) at =
      let high : position_behind from x ≤ top = up (position_behind from x) writes.high in (
        chunks turn.lines true,
        at,
        (x ∷ [], true, ordered top from x [] writes.low high (nothing x) high, ap (λ (l : List (List ℕ)). chunks l true) (lines_later turn x writes ∙ sym (append-nil (piece_lines seen t.machine.changes from x)))),
      )

  turn_more : (turn : Turn) (v : Watch) → TurnWrites s.machine w turn → turn.next ≡ Some v → d.written ≡ c.written ++ chunks turn.lines false → After (Some v) → Written t id c.written seen from
  turn_more turn v (inl (none, onward)) is written after =
      let on : Onward w from (Some v) = subst (Onward w from) is onward in
      let rest = after on.1 (subst (λ (q : ℕ). q ≤ s.machine.current) (sym on.2) come) in
      let same : d.written ≡ c.written = written ∙ ap (λ (l : List (List ℕ)). c.written ++ chunks l false) none ∙ append-nil c.written in
      let all : IsWrittenFrom seen t.machine.changes top from rest.0 =
      subst (λ (f : Selection). IsWrittenFrom f t.machine.changes top from rest.0) on.0 (subst (λ (q : ℕ). IsWrittenFrom (wanted v.cursor) t.machine.changes top q rest.0) on.2 rest.2) in
      (rest.0, rest.1 ∙ ap (λ (l : List ℕ). l ++ rest.0) same, all)
  turn_more turn v (inr (x, writes)) is written after =
      let q : ℕ = position_behind from x in
      let on : Onward w q (Some v) = subst (Onward w q) is writes.onward in
      let rest = after on.1 (subst (λ (r : ℕ). r ≤ s.machine.current) (sym on.2) writes.high) in
      let all : IsWrittenFrom seen t.machine.changes top q rest.0 =
      subst (λ (f : Selection). IsWrittenFrom f t.machine.changes top q rest.0) on.0 (subst (λ (r : ℕ). IsWrittenFrom (wanted v.cursor) t.machine.changes top r rest.0) on.2 rest.2) in (
        chunks turn.lines false ++ rest.0,
        rest.1 ∙ ap (λ (l : List ℕ). l ++ rest.0) written ∙ append_assoc c.written (chunks turn.lines false) rest.0,
        (
          x ∷ all.0,
          all.1,
          ordered top from x all.0 writes.low (up q writes.high) (goes_on x all.0 v (subst (Ends x) is writes.ends)) all.2,
          joined turn.lines (piece_lines seen t.machine.changes from x) (lines_from seen t.machine.changes q all.0) rest.0 all.1 (lines_later turn x writes) all.3,
        ),
      )

  pub one_turn : (turn : Turn) → TurnWrites s.machine w turn → d.written ≡ c.written ++ turn_bytes turn → (next : Option Watch) → turn.next ≡ next → After next → Written t id c.written seen from
  one_turn turn writes written None is after = last_turn turn writes (after ∙ written ∙ ap (λ (o : Option Watch). c.written ++ chunks turn.lines (has_no_next o)) is)
  one_turn turn writes written (Some v) is after = turn_more turn v writes is (written ∙ ap (λ (o : Option Watch). c.written ++ chunks turn.lines (has_no_next o)) is) after

-- ---- a run

pub record HubLaws : Type 0 where
  pub sends : SendsAll
  pub grows : (s t : State) (hs : List Action) → Runs s hs t → HasGrown s t
  pub lasts : (s t : State) (hs : List Action) → IsMachine s.types s.machine → Runs s hs t → IsMachine t.types t.machine

-- where it goes on as a watch, all that is written from there on
abbrev pub Rest : State → State → ℕ → Connection → Type 0
Rest mid t id d = (v : Watch) → d.phase ≡ watching v → v.cursor.left ≡ no_initial_left → v.cursor.position ≤ mid.machine.current → Written t id d.written (wanted v.cursor) v.cursor.position

module _ (laws : HubLaws) (s mid t : State) (hs : List Action) (id : ℕ) (c d : Connection) (w : Watch) (is : IsMachine s.types s.machine) (grown : HasGrown s t) (first : HasGrown s mid) (runs : Runs mid hs t)
    (got : fin.get mid.connections id ≡ Some d) (none : w.cursor.left ≡ no_initial_left) (come : w.cursor.position ≤ s.machine.current) (rest : Rest mid t id d) where
  silent : is_open d.phase ≡ false → written_on t.connections id ≡ d.written
  silent shut = let all = shut_runs hs mid t id d runs got shut in written_of t id all.0 all.1 ∙ all.2

  on_turn : (turn : Turn) → TurnWrites s.machine w turn → d.written ≡ c.written ++ turn_bytes turn → d.phase ≡ phase_after turn.next → (next : Option Watch) → turn.next ≡ next → Written t id c.written (wanted w.cursor) w.cursor.position
  on_turn turn writes written phase None at = one_turn s t id c d w grown come turn writes written None at (silent (ap is_open (phase ∙ ap phase_after at)))
  on_turn turn writes written phase (Some v) at =
      let higher : s.machine.current ≤ mid.machine.current = first.current in
      one_turn s t id c d w grown come turn writes written (Some v) at (λ left low. rest v (phase ∙ ap phase_after at) left (omega (arith, low, higher)))

  pub one_more : Became s c w d → Written t id c.written (wanted w.cursor) w.cursor.position
  one_more (inl (same, inl watches)) =
      let higher : s.machine.current ≤ mid.machine.current = first.current in
      let all = rest w watches none (omega (arith, come, higher)) in
      (all.0, all.1 ∙ ap (λ (l : List ℕ). l ++ all.0) same, all.2)
  one_more (inl (same, inr shut)) =
      let higher : s.machine.current ≤ t.machine.current = grown.current in
      no_more t id c.written (wanted w.cursor) w.cursor.position (silent shut ∙ same) (omega (arith, come, higher))
  one_more (inr (turn, of, written, phase)) =
      on_turn turn (turn_writes laws.sends s (whole_is is.first s.machine is.whole) w none come turn of) written phase turn.next refl

pub all_written : HubLaws → (hs : List Action) (s t : State) (id : ℕ) (c : Connection) (w : Watch) → IsMachine s.types s.machine → Runs s hs t → fin.get s.connections id ≡ Some c → c.phase ≡ watching w
    → w.cursor.left ≡ no_initial_left → w.cursor.position ≤ s.machine.current → Written t id c.written (wanted w.cursor) w.cursor.position
all_written laws [] s t id c w is same got watches none come =
    no_more t id c.written (wanted w.cursor) w.cursor.position (written_of t id c (ap (λ (x : State). fin.get x.connections id) same ∙ got)) (subst (λ (x : State). w.cursor.position ≤ x.machine.current) (sym same) come)
all_written laws (h ∷ hs) s t id c w is (mid, follows, runs) got watches none come =
    let became = watched s mid h id c w follows got watches in
    one_more laws s mid t hs id c became.0 w is (laws.grows s t (h ∷ hs) (mid, follows, runs)) (laws.grows s mid (h ∷ []) (mid, follows, refl)) runs became.1 none come
    (λ v watches none come. all_written laws hs mid t id became.0 v (laws.lasts s mid (h ∷ []) is (mid, follows, refl)) runs became.1 watches none come)
    became.2
