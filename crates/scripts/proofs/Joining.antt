-- What the answers to lines say of each connection, joined.
use Rattle.std.proofs.Common.{◌≡◌, ◌∙◌, ℕ, suc, Bool, true, false, cond, refl, sym, ap, ap₂, subst, inl, inr, List, [], ◌∷◌, ◌++◌, map, append_assoc, append-nil}
use Rattle.std.specs.Prelude.{◌⊎◌, is_none}
use Rattle.std.specs.FinMap as fin
use Rattle.std.specs.List.{flat_map}
use Rattle.std.specs.Option.{option_to_list}
use Rattle.std.specs.Ordering.{eq_by_cmp, nat_cmp}
use Rattle.std.proofs.lemmas.Grind.{flat_map-append}
use Rattle.httpedge.specs.Connections.{written_on}
use Rattle.indexer.specs.Objects.{Stored}
use Rattle.reflector.specs.Client.{kept}
use Rattle.world_laws.specs.Moves.{next_move}
use Rattle.world_laws.specs.Reports as laws
use Rattle.world_laws.specs.Tasks.{Task}
use Rattle.world_laws.specs.World.{Steps, World, WorldEvent}
use Rattle.world.specs.Stepping.{added, ended_since, joined_on, opened_by, refusal_of}
use Rattle.scripts.specs.Script.{IsEventLine}
use Rattle.scripts.specs.Asking.{Question, asks_next, asks_objects}
use Rattle.scripts.specs.Piped.{Answered, Converses, IsBad, Joins, Part, asked_parts, done, ended, holds, moves, event_parts, last_part, opened, printed_on, report_part, written_part}

-- ---- the parts of an event

none_opened : (id : ℕ) (ks : List ℕ) → flat_map (printed_on id) (map opened ks) ≡ []
none_opened id [] = refl
none_opened id (k ∷ ks) = none_opened id ks

none_ended : (id : ℕ) (ks : List ℕ) → flat_map (printed_on id) (map ended ks) ≡ []
none_ended id [] = refl
none_ended id (k ∷ ks) = none_ended id ks

none_reported : (id : ℕ) (label : List ℕ) (rs : List laws.Report) → flat_map (printed_on id) (map (report_part label) rs) ≡ []
none_reported id label [] = refl
none_reported id label (r ∷ rs) = none_reported id label rs

none_last : (id n : ℕ) (b : Bool) (why : List ℕ) → flat_map (printed_on id) (last_part n b why ∷ []) ≡ []
none_last id n true why = refl
none_last id n false why = refl

all_written : (id : ℕ) (es : List (ℕ × List ℕ)) → flat_map (printed_on id) (map written_part es) ≡ joined_on id es
all_written id [] = refl
all_written id (e ∷ es) = ap (λ (xs : List ℕ). cond (eq_by_cmp nat_cmp id e.0) e.1 [] ++ xs) (all_written id es)

event_joined : (id : ℕ) (task : Task) (n : ℕ) (w : World) (e : WorldEvent) (v : World) (why : List ℕ) → flat_map (printed_on id) (event_parts task n w e v why) ≡ joined_on id (added w.hub v.hub)
event_joined id task n w e v why =
    let a = map opened (option_to_list (opened_by task w e)) in
    let b = map written_part (added w.hub v.hub) in
    let x = map ended (ended_since w.hub v.hub) in
    let r = map (report_part task.settings.label) (laws.reports_after n w v) in
    let l = last_part n (is_none (refusal_of task w e)) why ∷ [] in
    flat_map-append (printed_on id) a (b ++ (x ++ (r ++ l)))
    ∙ ap₂ (λ (p q : List ℕ). p ++ q) (none_opened id (option_to_list (opened_by task w e)))
    (flat_map-append (printed_on id) b (x ++ (r ++ l)) ∙ ap₂ (λ (p q : List ℕ). p ++ q) (all_written id (added w.hub v.hub))
    (flat_map-append (printed_on id) x (r ++ l) ∙ ap₂ (λ (p q : List ℕ). p ++ q) (none_ended id (ended_since w.hub v.hub))
    (flat_map-append (printed_on id) r l ∙ ap₂ (λ (p q : List ℕ). p ++ q) (none_reported id task.settings.label (laws.reports_after n w v)) (none_last id n (is_none (refusal_of task w e)) why))))
    ∙ append-nil (joined_on id (added w.hub v.hub))

-- ---- the parts of what is asked

none_moved : (id : ℕ) (es : List WorldEvent) → flat_map (printed_on id) (map moves es) ≡ []
none_moved id [] = refl
none_moved id (e ∷ es) = none_moved id es

none_held : (id : ℕ) (os : List Stored) → flat_map (printed_on id) (map holds os) ≡ []
none_held id [] = refl
none_held id (o ∷ os) = none_held id os

before_end : (id n : ℕ) (parts : List Part) → flat_map (printed_on id) parts ≡ [] → flat_map (printed_on id) (parts ++ done n ∷ []) ≡ []
before_end id n parts none = flat_map-append (printed_on id) parts (done n ∷ []) ∙ ap (λ (xs : List ℕ). xs ++ flat_map (printed_on id) (done n ∷ [])) none

none_asked : (id : ℕ) (question : Question) (n : ℕ) (w : World) → flat_map (printed_on id) (asked_parts question n w) ≡ []
none_asked id asks_next n w = before_end id n (map moves (option_to_list (next_move w))) (none_moved id (option_to_list (next_move w)))
none_asked id asks_objects n w =
    let objects : List Stored = map (λ e. e.1) (fin.entries (kept w.client.cache)) in
    before_end id n (map holds objects) (none_held id objects)

-- ---- one line after another

abbrev pub StepsJoin : Type 0
StepsJoin = (task : Task) (w : World) (e : WorldEvent) (v : World) → Steps task w e v → (id : ℕ) → written_on v.hub.connections id ≡ written_on w.hub.connections id ++ joined_on id (added w.hub v.hub)

-- a line of no event
unmoved : (task : Task) (n k : ℕ) (w mid : World) (line : List ℕ) (lines : List (List ℕ)) (first rest : List Part) (v : World)
    → (line ≡ []) ⊎ IsBad line → k ≡ n → mid ≡ w → ((id : ℕ) → flat_map (printed_on id) first ≡ []) → Joins task k mid lines rest v → Joins task n w (line ∷ lines) (first ++ rest) v
unmoved task n k w mid line lines first rest v none count same silent (events, reports, have, runs, joined) = (
  events,
  reports,
  inl (none, have),
  subst (λ (x : World). laws.Runs task (suc n) x events v reports) same (subst (λ (j : ℕ). laws.Runs task (suc j) mid events v reports) count runs),
  (λ id.
      joined id ∙ ap₂ (λ (x : World) (xs : List ℕ). written_on x.hub.connections id ++ xs) same
      (sym (flat_map-append (printed_on id) first rest ∙ ap (λ (xs : List ℕ). xs ++ flat_map (printed_on id) rest) (silent id)))),
)

moved : StepsJoin → (task : Task) (n k : ℕ) (w mid : World) (line : List ℕ) (lines : List (List ℕ)) (first rest : List Part) (v : World) (e : WorldEvent) (why : List ℕ)
    → IsEventLine line e → Steps task w e mid → first ≡ event_parts task (suc n) w e mid why → k ≡ suc n → Joins task k mid lines rest v → Joins task n w (line ∷ lines) (first ++ rest) v
moved law task n k w mid line lines first rest v e why says steps emitted count (events, reports, have, runs, joined) = (
  e ∷ events,
  laws.reports_after (suc n) w mid ++ reports,
  inr (e, events, says, have, refl),
  (mid, reports, steps, subst (λ (j : ℕ). laws.Runs task (suc j) mid events v reports) count runs, refl),
  (λ id.
      let before = written_on w.hub.connections id in
      joined id ∙ ap (λ (xs : List ℕ). xs ++ flat_map (printed_on id) rest) (law task w e mid steps id)
      ∙ append_assoc before (joined_on id (added w.hub mid.hub)) (flat_map (printed_on id) rest)
      ∙ ap (λ (xs : List ℕ). before ++ xs) (sym (flat_map-append (printed_on id) first rest ∙ ap (λ (xs : List ℕ). xs ++ flat_map (printed_on id) rest) (ap (flat_map (printed_on id)) emitted ∙ event_joined id task (suc n) w e mid why)))),
)

one_joined : StepsJoin → (task : Task) (n k : ℕ) (w mid : World) (line : List ℕ) (lines : List (List ℕ)) (first rest : List Part) (v : World)
    → Answered task n w line first k mid → Joins task k mid lines rest v → Joins task n w (line ∷ lines) (first ++ rest) v
one_joined law task n k w mid line lines first rest v (inl ignores) more =
    unmoved task n k w mid line lines first rest v (inl ignores.empty) ignores.count ignores.same (λ id. ap (flat_map (printed_on id)) ignores.silent) more
one_joined law task n k w mid line lines first rest v (inr (inl rejects)) more =
    unmoved task n k w mid line lines first rest v (inr rejects.is_bad) rejects.count rejects.same (λ id. ap (flat_map (printed_on id)) rejects.emitted) more
one_joined law task n k w mid line lines first rest v (inr (inr (inl asks))) more =
    unmoved task n k w mid line lines first rest v (inr asks.is_bad) asks.count asks.same (λ id. ap (flat_map (printed_on id)) asks.emitted ∙ none_asked id asks.question n w) more
one_joined law task n k w mid line lines first rest v (inr (inr (inr takes))) more =
    moved law task n k w mid line lines first rest v takes.event takes.why takes.says takes.steps takes.emitted takes.count more

pub all_joined : StepsJoin → (task : Task) (n : ℕ) (w : World) (lines : List (List ℕ)) (parts : List Part) (m : ℕ) (v : World) → Converses task n w lines parts m v → Joins task n w lines parts v
all_joined law task n w [] parts m v (none, count, same) = (
  [],
  [],
  refl,
  (same, refl),
  (λ id. ap (λ (x : World). written_on x.hub.connections id) same ∙ sym (ap (λ (ps : List Part). written_on w.hub.connections id ++ flat_map (printed_on id) ps) none ∙ append-nil (written_on w.hub.connections id))),
)
all_joined law task n w (line ∷ lines) parts m v (first, rest, k, mid, answered, others, is) =
    subst (λ (ps : List Part). Joins task n w (line ∷ lines) ps v) (sym is) (one_joined law task n k w mid line lines first rest v answered (all_joined law task k mid lines rest m v others))
