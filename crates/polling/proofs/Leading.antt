-- What happens in turn, joined.
use Rattle.std.proofs.Common.{◌≡◌, ◌≢◌, ℕ, Bool, true, false, List, [], ◌∷◌, ◌++◌, take, drop, length, Option, refl, sym, ap, subst, ◌∙◌, append_assoc, append-nil}
use Rattle.std.specs.Prelude.{◌-◌, ◌==◌, nat_lt}
use Rattle.std.specs.List.{flat_map}
use Rattle.std.specs.declared.result.Result.{Result}
use Rattle.std.proofs.lemmas.Grind.{flat_map-append}
use Rattle.std.proofs.lemmas.List.{take-append-drop}
use Rattle.std.specs.Io.KnownBytes.{Appends, Consumes, Keeps}
use Rattle.std.proofs.KnownBytes.{Appends-kept, Appends-nil, Appends-trans, Consumes-nil, Consumes-trans}
use Rattle.httpedge.specs.Connections.{out_on}
use Rattle.httpedge.specs.HubViews.{IsActionOf, HubRepresents, ReportsOutcome as SendsWhy, ReportsFile, outcome_of}
use Rattle.httpedge.specs.Runs.{Follows, Action, IsElsewhere, Runs, bytes_of, came, happens, runs_out_of_memory, subject, takes}
use Rattle.httpedge.specs.Steps.{Event, State, comes, compacts, with_bytes_taken}
use Rattle.httpedge.specs.StreamViews.{Compacts, MovesBy, Hands, HandsIf}
use Rattle.httpedge.specs.declared.fault.HubFault.{HubFault}
use Rattle.httpedge.specs.declared.hub.Hub.{Hub}
use Rattle.httpedge.proofs.Handed.{by_hands, runs_then}
use Rattle.wire.proofs.Pieces.{reads_none}
use Rattle.polling.specs.Happens.{Answers, BringsNone, Each, Receives, IsAny, IsComing, IsTaking, IsUnaskedOn, Reaches, ReachesBy, ReachesUnasked, ReachesUnaskedOn, SendsBytes, Talks}

wrong : false ≡ true → ⊥
wrong e = cc

pub clash : (b : Bool) → b ≡ false → b ≡ true → ⊥
clash b isnt is = wrong (sym isnt ∙ is)

-- ---- lists of what happens

each_then : (P : Action → Type 0) (hs gs : List Action) → Each P hs → Each P gs → Each P (hs ++ gs)
each_then P [] gs all more = more
each_then P (h ∷ hs) gs (first, rest) more = (first, each_then P hs gs rest more)

each_weaker : (P Q : Action → Type 0) → ((h : Action) → P h → Q h) → (hs : List Action) → Each P hs → Each Q hs
each_weaker P Q weaker [] all = tt
each_weaker P Q weaker (h ∷ hs) (first, rest) = (weaker h first, each_weaker P Q weaker hs rest)

-- ---- what leads from a hub to another

pub reaches_none : (P : Action → Type 0) (x : Hub) → ReachesBy P x x
reaches_none P x = λ s is. ([], s, refl, tt, is)

pub reaches_then : (P : Action → Type 0) (x y z : Hub) → ReachesBy P x y → ReachesBy P y z → ReachesBy P x z
reaches_then P x y z first second = λ s is.
    let one = first s is in
    let two = second one.1 one.4 in
    (one.0 ++ two.0, two.1, runs_then s one.1 two.1 one.0 two.0 one.2 two.2, each_then P one.0 two.0 one.3 two.3, two.4)

pub reaches_weaker : (P Q : Action → Type 0) (x y : Hub) → ((h : Action) → P h → Q h) → ReachesBy P x y → ReachesBy Q x y
reaches_weaker P Q x y weaker reaches = λ s is.
    let one = reaches s is in
    (one.0, one.1, one.2, each_weaker P Q weaker one.0 one.3, one.4)

pub reaches_same : (P : Action → Type 0) (x y : Hub) → y ≡ x → ReachesBy P x y
reaches_same P x y same = subst (λ (z : Hub). ReachesBy P x z) (sym same) (reaches_none P x)

-- any, and any again
pub any_then : (x y z : Hub) → Reaches x y → Reaches y z → Reaches x z
any_then x y z first second = reaches_then IsAny x y z first second

pub any_none : (x : Hub) → Reaches x x
any_none x = reaches_none IsAny x

pub any_same : (x y : Hub) → y ≡ x → Reaches x y
any_same x y same = reaches_same IsAny x y same

-- the same where no bytes come
pub unasked_then : (x y z : Hub) → ReachesUnasked x y → ReachesUnasked y z → ReachesUnasked x z
unasked_then x y z first second = reaches_then BringsNone x y z first second

pub unasked_none : (x : Hub) → ReachesUnasked x x
unasked_none x = reaches_none BringsNone x

pub unasked_same : (x y : Hub) → y ≡ x → ReachesUnasked x y
unasked_same x y same = reaches_same BringsNone x y same

pub unasked_any : (x y : Hub) → ReachesUnasked x y → Reaches x y
unasked_any x y reaches = reaches_weaker BringsNone IsAny x y (λ h none. tt) reaches

pub unasked_all : (id : ℕ) (x y : Hub) → ReachesUnaskedOn id x y → ReachesUnasked x y
unasked_all id x y reaches = reaches_weaker (IsUnaskedOn id) BringsNone x y (λ h on. on.1) reaches

-- ---- one event

reaches_event : (x y : Hub) (e : Event) (P : Action → Type 0) → P (happens e) → ((which : ℕ → Bool) → P (runs_out_of_memory e which)) → MovesBy (Hands e) x y → ReachesBy P x y
reaches_event x y e P done none hands = λ s is.
    let one = hands s is in
    (one.1.0 ∷ [], one.0, (one.0, one.1.2, refl), (by_hands e P done none one.1.0 one.1.1, tt), one.2)

pub unasked_on : (id : ℕ) (x y : Hub) (e : Event) → MovesBy (Hands e) x y → ((other : ℕ) → other ≢ id → IsElsewhere (subject e) other) → bytes_of e ≡ [] → ReachesUnaskedOn id x y
unasked_on id x y e hands apart none = reaches_event x y e (IsUnaskedOn id) (apart, none) (λ which. (apart, none)) hands

pub unasked_event : (x y : Hub) (e : Event) → MovesBy (Hands e) x y → bytes_of e ≡ [] → ReachesUnasked x y
unasked_event x y e hands none = reaches_event x y e BringsNone none (λ which. none) hands

pub reaches_by_any : (x y : Hub) (e : Event) → MovesBy (Hands e) x y → Reaches x y
reaches_by_any x y e hands = reaches_event x y e IsAny tt (λ which. tt) hands

-- what the hub says of an event, and others after it
pub answers_then : {A : Type 0} (x y z : Hub) (e : Event) (r : Result A HubFault) → ReportsFile e r → ((s : State) → HubRepresents x s → SendsWhy s e (outcome_of r))
    → ((s : State) → HubRepresents x s → (h : Action) × (t : State) × IsActionOf e (outcome_of r) h × Follows s h t × HubRepresents y t) → Reaches y z → Answers e r x z
answers_then x y z e r of_file sent_bytes follows more = (
  of_file,
  λ s is.
      let one = follows s is in
      let others = more one.1 one.4 in
      (sent_bytes s is, one.0, one.1, one.2, one.3, others.0, others.1, others.2, others.4),
)

-- a compaction, or none
none_if : (b : Bool) (e : Event) (s t : State) → HandsIf b e s t → bytes_of e ≡ [] → (hs : List Action) × Runs s hs t × Each BringsNone hs
none_if true e s t (h, is, follows) none = (h ∷ [], (t, follows, refl), (by_hands e BringsNone none (λ which. none) h is, tt))
none_if false e s t is none = ([], is, tt)

pub unasked_compacts : (keep : ℕ) (x y : Hub) → MovesBy (Compacts keep) x y → ReachesUnasked x y
unasked_compacts keep x y compacted = λ s is.
    let one = compacted s is in
    let ran = none_if (nat_lt s.machine.compacted (s.machine.current - keep)) (compacts (s.machine.current - keep)) s one.0 one.1 refl in
    (ran.0, one.0, ran.1, ran.2, one.2)

-- ---- bytes that come

pub receives_none : (id : ℕ) (x : Hub) → Receives id [] x x
receives_none id x = λ s is. ([], s, refl, tt, refl, is)

pub receives_one : (id : ℕ) (piece : List ℕ) (x y : Hub) → MovesBy (Hands (comes id piece)) x y → Receives id piece x y
receives_one id piece x y hands = λ s is.
    let one = hands s is in (
      one.1.0 ∷ [],
      one.0,
      (one.0, one.1.2, refl),
      (by_hands (comes id piece) (IsComing id) (piece, refl) (λ which. (piece, refl)) one.1.0 one.1.1, tt),
      append-nil (came one.1.0) ∙ by_hands (comes id piece) (λ h. came h ≡ piece) refl (λ which. refl) one.1.0 one.1.1,
      one.2,
    )

receives_then : (id : ℕ) (a b : List ℕ) (x y z : Hub) → Receives id a x y → Receives id b y z → Receives id (a ++ b) x z
receives_then id a b x y z first second = λ s is.
    let one = first s is in
    let two = second one.1 one.5 in (
      one.0 ++ two.0,
      two.1,
      runs_then s one.1 two.1 one.0 two.0 one.2 two.2,
      each_then (IsComing id) one.0 two.0 one.3 two.3,
      flat_map-append came one.0 two.0 ∙ ap (λ (l : List ℕ). l ++ flat_map came two.0) one.4 ∙ ap (λ (l : List ℕ). a ++ l) two.4,
      two.5,
    )

pub receives_reaches : (id : ℕ) (received : List ℕ) (x y : Hub) → Receives id received x y → Reaches x y
receives_reaches id received x y receives = λ s is.
    let one = receives s is in
    (one.0, one.1, one.2, each_weaker (IsComing id) IsAny (λ h coming. tt) one.0 one.3, one.5)

-- ---- bytes that are taken

pub sends_none : (id : ℕ) (x : Hub) → SendsBytes id [] x x
sends_none id x = λ s is. ([], s, refl, tt, refl, is)

-- the law of the hub
abbrev pub AreTaken : Type 0
AreTaken = (s : State) (id n : ℕ) → out_on (with_bytes_taken s id n).connections id ≡ drop n (out_on s.connections id)

pub sends_take : AreTaken → (id n : ℕ) (out : List ℕ) (x y : Hub) → ((s : State) → HubRepresents x s → out ≡ out_on s.connections id) → ((s : State) → HubRepresents x s → HubRepresents y (with_bytes_taken s id n))
    → SendsBytes id (take n out) x y
sends_take law id n out x y outs taken = λ s is. (
  takes id n ∷ [],
  with_bytes_taken s id n,
  (with_bytes_taken s id n, refl, refl),
  ((n, refl), tt),
  sym (outs s is) ∙ sym (take-append-drop n out) ∙ ap (λ (l : List ℕ). take n out ++ drop n l) (outs s is) ∙ ap (λ (l : List ℕ). take n out ++ l) (sym (law s id n)),
  taken s is,
)

sends_then : (id : ℕ) (a b : List ℕ) (x y z : Hub) → SendsBytes id a x y → SendsBytes id b y z → SendsBytes id (a ++ b) x z
sends_then id a b x y z first second = λ s is.
    let one = first s is in
    let two = second one.1 one.5 in (
      one.0 ++ two.0,
      two.1,
      runs_then s one.1 two.1 one.0 two.0 one.2 two.2,
      each_then (IsTaking id) one.0 two.0 one.3 two.3,
      one.4 ∙ ap (λ (l : List ℕ). a ++ l) two.4 ∙ sym (append_assoc a b (out_on two.1.connections id)),
      two.5,
    )

taking_unasked : (id : ℕ) (h : Action) → IsTaking id h → IsUnaskedOn id h
taking_unasked id h (n, is) = subst (IsUnaskedOn id) (sym is) ((λ other isnt. isnt), refl)

pub sends_unasked : (id : ℕ) (sent_bytes : List ℕ) (x y : Hub) → SendsBytes id sent_bytes x y → ReachesUnaskedOn id x y
sends_unasked id sent_bytes x y sends = λ s is.
    let one = sends s is in
    (one.0, one.1, one.2, each_weaker (IsTaking id) (IsUnaskedOn id) (taking_unasked id) one.0 one.3, one.5)

-- ---- with what a reader has left, or a writer holds

-- what left the reader came on the connection
abbrev pub HandsOver : ℕ → Option (List ℕ) → Option (List ℕ) → Hub → Hub → Type 0
HandsOver id a b x y = (received : List ℕ) × Consumes a b received × Receives id received x y

pub hands_none : (id : ℕ) (a : Option (List ℕ)) (x : Hub) → HandsOver id a a x x
hands_none id a x = ([], Consumes-nil a, receives_none id x)

pub hands_then : (id : ℕ) (a b c : Option (List ℕ)) (x y z : Hub) (piece : List ℕ) → HandsOver id a b x y → Consumes b c piece → Receives id piece y z → HandsOver id a c x z
hands_then id a b c x y z piece before read came =
    (before.0 ++ piece, Consumes-trans a b c before.0 piece before.1 read, receives_then id before.0 piece x y z before.2 came)

pub hands_more : (id : ℕ) (a b c : Option (List ℕ)) (x y z : Hub) → HandsOver id a b x y → HandsOver id b c y z → HandsOver id a c x z
hands_more id a b c x y z before more = hands_then id a b c x y z more.0 before more.1 more.2

-- a read that gave nothing
pub hands_end : (id : ℕ) (a b : Option (List ℕ)) (x : Hub) (piece : List ℕ) → Consumes a b piece → (length piece == 0) ≡ true → HandsOver id a b x x
hands_end id a b x piece read none = ([], reads_none a b piece read none, receives_none id x)

-- what the writer got was taken of the connection
abbrev pub WritesOut : ℕ → Option (List ℕ) → Option (List ℕ) → Hub → Hub → Type 0
WritesOut id a b x y = (sent_bytes : List ℕ) × Appends a b sent_bytes × SendsBytes id sent_bytes x y

pub writes_none : (id : ℕ) (a : Option (List ℕ)) (x : Hub) → WritesOut id a a x x
writes_none id a x = ([], Appends-nil a, sends_none id x)

pub writes_then : (id : ℕ) (a b c : Option (List ℕ)) (x y z : Hub) (more : List ℕ) → WritesOut id a b x y → Appends b c more → SendsBytes id more y z → WritesOut id a c x z
writes_then id a b c x y z more before written taken =
    (before.0 ++ more, Appends-trans a b c before.0 more before.1 written, sends_then id before.0 more x y z before.2 taken)

pub writes_kept : (id : ℕ) (a b c : Option (List ℕ)) (x y : Hub) → WritesOut id a b x y → Keeps b c → WritesOut id a c x y
writes_kept id a b c x y before kept = (before.0, Appends-kept a b c before.0 before.1 kept, before.2)

pub writes_more : (id : ℕ) (a b c : Option (List ℕ)) (x y z : Hub) → WritesOut id a b x y → WritesOut id b c y z → WritesOut id a c x z
writes_more id a b c x y z before more = writes_then id a b c x y z more.0 before more.1 more.2

-- bytes that came, and bytes that were written after them
pub talks : (id : ℕ) (a b d e : Option (List ℕ)) (sent_bytes : List ℕ) (x y z : Hub) → HandsOver id a b x y → Appends d e sent_bytes → SendsBytes id sent_bytes y z → Talks id a b d e x z
talks id a b d e sent_bytes x y z hands written sends = record {
  received = hands.0;
  sent_bytes = sent_bytes;
  between = y;
  reads = hands.1;
  receives = hands.2;
  writes = written;
  sends = sends;
}

pub talks_reach : (id : ℕ) (a b d e : Option (List ℕ)) (x z : Hub) → Talks id a b d e x z → Reaches x z
talks_reach id a b d e x z spoke =
    any_then x spoke.between z (receives_reaches id spoke.received x spoke.between spoke.receives)
    (unasked_any spoke.between z (unasked_all id spoke.between z (sends_unasked id spoke.sent_bytes spoke.between z spoke.sends)))
