-- Pieces that are read and handed over, or written and taken, one after another.
use Rattle.std.proofs.Common.{◌≡◌, ◌∙◌, ℕ, true, false, List, [], ◌++◌, length, take, drop, Option, Result, Ok, Err, ap, sym, subst, arith}
use Rattle.std.specs.Prelude.{IsErrAnd, MatchResult}
use Rattle.std.specs.Result.{OnOk, is_err}
use Rattle.std.specs.Io.KnownBytes.{Appends, Consumes}
use Rattle.std.proofs.lemmas.List.{drop_all}
use Rattle.std.proofs.KnownBytes.{Appends-nil, Appends-trans, Consumes-nil, Consumes-trans}
use Rattle.httpedge.specs.Connections.{out_on}
use Rattle.httpedge.specs.HubViews.{HubRepresents}
use Rattle.httpedge.specs.Steps.{State, pumps, with_bytes_taken}
use Rattle.httpedge.specs.StreamViews.{MovesBy, Hands}
use Rattle.httpedge.specs.declared.hub.Hub.{Hub}
use Rattle.serving.specs.Serving.{Goes, HasTurn, HasTurns, IsPumped, Served, ServesAll}
use Rattle.serving.proofs.Joining.{serves_none, serves_then, take_turn, turned, turns_then}

-- what left the reader came on the connection
abbrev pub Receives : ℕ → Option (List ℕ) → Option (List ℕ) → Hub → Hub → Type 0
Receives id a b x y = (received : List ℕ) × Consumes a b received × HasTurns id x received [] y

-- what the writer got was taken of the connection, and where it ends well that was all
abbrev pub SendsAll : {A E : Type 0} → Result A E → ℕ → Option (List ℕ) → Option (List ℕ) → Hub → Hub → Type 0
SendsAll r id a b x y = (sent_bytes : List ℕ) × Appends a b sent_bytes × ServesAll r id x [] sent_bytes y

-- bytes that were read, and bytes that were written
abbrev pub Talks : ℕ → Option (List ℕ) → Option (List ℕ) → Option (List ℕ) → Option (List ℕ) → Hub → Hub → Type 0
Talks id a b d e x y = (received : List ℕ) × (sent_bytes : List ℕ) × Consumes a b received × Appends d e sent_bytes × HasTurns id x received sent_bytes y

abbrev pub TalksAll : {A E : Type 0} → Result A E → ℕ → Option (List ℕ) → Option (List ℕ) → Option (List ℕ) → Option (List ℕ) → Hub → Hub → Type 0
TalksAll r id a b d e x y = (received : List ℕ) × (sent_bytes : List ℕ) × Consumes a b received × Appends d e sent_bytes × ServesAll r id x received sent_bytes y

-- an error, where no byte left the reader
pub none_read : {T E : Type 0} (P : T → Type 0) (Q : E → Type 0) (r : Result T E) (a b : Option (List ℕ)) → IsErrAnd r Q → Consumes a b [] → MatchResult r P (λ _. Consumes a b [])
none_read P Q (Ok x) a b is read = absurd is
none_read P Q (Err e) a b is read = read

pub receives_none : (id : ℕ) (a : Option (List ℕ)) (x : Hub) → Receives id a a x x
receives_none id a x = ([], Consumes-nil a, serves_none id x)

pub receives_then : (id : ℕ) (a b c : Option (List ℕ)) (x y z : Hub) (piece : List ℕ) → Receives id a b x y → Consumes b c piece → HasTurns id y piece [] z → Receives id a c x z
receives_then id a b c x y z piece before read came =
    (before.0 ++ piece, Consumes-trans a b c before.0 piece before.1 read, serves_then id x y z before.0 [] piece [] before.2 came)

all_taken : {A E : Type 0} (r : Result A E) (n : ℕ) (out left : List ℕ) → OnOk r (n ≡ length out) → left ≡ drop n out → OnOk r (left ≡ [])
all_taken (Ok a) n out left all is = is ∙ drop_all n out (omega (arith, all))
all_taken (Err e) n out left all is = tt

-- what the writer got of what was out is taken
pub sends_taken : {A E : Type 0} (r : Result A E) (id : ℕ) (a b : Option (List ℕ)) (x y : Hub) (n : ℕ) (out : List ℕ)
    → ((s : State) (k m : ℕ) → out_on (with_bytes_taken s k m).connections k ≡ drop m (out_on s.connections k))
    → ((s : State) → HubRepresents x s → out ≡ out_on s.connections id) → ((s : State) → HubRepresents x s → HubRepresents y (with_bytes_taken s id n))
    → Appends a b (take n out) → OnOk r (n ≡ length out) → SendsAll r id a b x y
sends_taken r id a b x y n out law outs taken written all = (
  take n out,
  written,
  λ s is.
      let left = law s id n ∙ ap (drop n) (sym (outs s is)) in
      (with_bytes_taken s id n, take_turn id s n out (sym (outs s is)), all_taken r n out (out_on (with_bytes_taken s id n).connections id) all left, taken s is),
)

pub receives_alone : (id : ℕ) (a b d : Option (List ℕ)) (x y z : Hub) → HasTurns id x [] [] y → Receives id a b y z → Talks id a b d d x z
receives_alone id a b d x y z first receives = (receives.0, [], receives.1, Appends-nil d, serves_then id x y z [] [] receives.0 [] first receives.2)

pub talks_then : {A E : Type 0} (r : Result A E) (id : ℕ) (a b d e f : Option (List ℕ)) (x y z : Hub) → Talks id a b d e x y → SendsAll r id e f y z → TalksAll r id a b d f x z
talks_then r id a b d e f x y z (received, sent_bytes, read, written, serves) sends = (
  received ++ [],
  sent_bytes ++ sends.0,
  Consumes-trans a b b received [] read (Consumes-nil b),
  Appends-trans d e f sent_bytes sends.0 written sends.1,
  λ s is.
      let one = serves s is in
      let two = sends.2 one.0 one.2 in
      (two.0, turns_then id s one.0 two.0 received sent_bytes [] sends.0 one.1 two.1, two.2, two.3),
)

-- an error ends it early
pub talks_until : {A E : Type 0} (Q : E → Type 0) (r : Result A E) (id : ℕ) (a b d e : Option (List ℕ)) (x y : Hub) → IsErrAnd r Q → Talks id a b d e x y → TalksAll r id a b d e x y
talks_until Q (Ok v) id a b d e x y is talks = absurd is
talks_until Q (Err f) id a b d e x y is (received, sent_bytes, read, written, serves) = (
  received,
  sent_bytes,
  read,
  written,
  λ s here.
      let one = serves s here in
      (one.0, one.1, tt, one.2),
)

-- ---- how a turn ends

abbrev pub Over : {A E : Type 0} → Result A E → ℕ → Option (List ℕ) → Option (List ℕ) → Option (List ℕ) → Option (List ℕ) → Hub → Hub → Type 0
Over r id a b d e x y = (received : List ℕ) × (sent_bytes : List ℕ) × Consumes a b received × Appends d e sent_bytes × HasTurn r id x received sent_bytes y

done_well : {A E : Type 0} (r : Result A E) (id : ℕ) (x y : Hub) (received sent_bytes : List ℕ) → is_err r ≡ false → ServesAll r id x received sent_bytes y → HasTurn r id x received sent_bytes y
done_well (Ok a) id x y received sent_bytes well serves = serves
done_well (Err e) id x y received sent_bytes well serves = absurd cc

done_badly : {A E : Type 0} (r : Result A E) (id : ℕ) (x y z : Hub) (received sent_bytes : List ℕ) → is_err r ≡ true → ServesAll r id x received sent_bytes y → Goes id y z
    → HasTurn r id x (received ++ []) (sent_bytes ++ []) z
done_badly (Ok a) id x y z received sent_bytes badly serves goes = absurd cc
done_badly (Err e) id x y z received sent_bytes badly serves goes = λ s is.
    let one = serves s is in
    let two = goes one.0 one.3 in
    (two.0, turns_then id s one.0 two.0 received sent_bytes [] [] one.1 two.1, two.2, two.3)

-- the turn of a watch
abbrev pub Ended : {A E : Type 0} → Result A E → ℕ → ℕ → Option (List ℕ) → Option (List ℕ) → Hub → Hub → Type 0
Ended r id lines a b x y = (sent_bytes : List ℕ) × Appends a b sent_bytes × MovesBy (IsPumped r id lines sent_bytes) x y

pub ended_well : {A E : Type 0} (r : Result A E) (id lines : ℕ) (a b : Option (List ℕ)) (x y z : Hub) → is_err r ≡ false → MovesBy (Hands (pumps id lines)) x y → SendsAll r id a b y z
    → Ended r id lines a b x z
ended_well r id lines a b x y z well sent sends = (
  sends.0,
  sends.1,
  λ s is.
      let one = sent s is in
      let two = done_well r id y z [] sends.0 well sends.2 one.0 one.2 in
      (two.0, (one.0, one.1, two.1, two.2), two.3),
)

pub ended_badly : {A E : Type 0} (r : Result A E) (id lines : ℕ) (a b : Option (List ℕ)) (x y z v : Hub) → is_err r ≡ true → MovesBy (Hands (pumps id lines)) x y → SendsAll r id a b y z
    → Goes id z v → Ended r id lines a b x v
ended_badly r id lines a b x y z v badly sent sends left = (
  sends.0 ++ [],
  Appends-trans a b b sends.0 [] sends.1 (Appends-nil b),
  λ s is.
      let one = sent s is in
      let two = done_badly r id y z v [] sends.0 badly sends.2 left one.0 one.2 in
      (two.0, (one.0, one.1, two.1, two.2), two.3),
)

pub over_well : {A E : Type 0} (r : Result A E) (id : ℕ) (a b d e : Option (List ℕ)) (x y : Hub) → is_err r ≡ false → TalksAll r id a b d e x y → Over r id a b d e x y
over_well r id a b d e x y well talks = (talks.0, talks.1, talks.2, talks.3, done_well r id x y talks.0 talks.1 well talks.4)

pub over_badly : {A E : Type 0} (r : Result A E) (id : ℕ) (a b d e : Option (List ℕ)) (x y z : Hub) → is_err r ≡ true → TalksAll r id a b d e x y → Goes id y z → Over r id a b d e x z
over_badly r id a b d e x y z badly talks goes = (
  talks.0 ++ [],
  talks.1 ++ [],
  Consumes-trans a b b talks.0 [] talks.2 (Consumes-nil b),
  Appends-trans d e e talks.1 [] talks.3 (Appends-nil e),
  done_badly r id x y z talks.0 talks.1 badly talks.4 goes,
)

-- ---- a connection that is served

pub served_none : (id : ℕ) (a d : Option (List ℕ)) (x : Hub) → Served id a a d x x
served_none id a d x = (d, [], [], Consumes-nil a, Appends-nil d, serves_none id x)

pub served_then : {A E : Type 0} (r : Result A E) (id next : ℕ) (a b d e : Option (List ℕ)) (x y z : Hub) → id ≡ next → Over r id a b d e x y → HasTurns id y [] [] z → Served next a b d x z
served_then r id next a b d e x y z is over settled =
    subst (λ (k : ℕ). Served k a b d x z) is (
      e,
      over.0 ++ [],
      over.1 ++ [],
      Consumes-trans a b b over.0 [] over.2 (Consumes-nil b),
      Appends-trans d e e over.1 [] over.3 (Appends-nil e),
      serves_then id x y z over.0 over.1 [] [] (turned r id x y over.0 over.1 over.4) settled,
    )
