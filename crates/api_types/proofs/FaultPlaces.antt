-- A place in one of the types is a place in all of them, and in the file that lists them.
use Rattle.std.proofs.Common.{◌≡◌, ℕ, zero, suc, ◌+◌, ◌<◌, ◌≤◌, List, [], ◌∷◌, ◌++◌, append_assoc, append-nil, length, drop, get_or, drop-cons, add-one, Some, None, true, false, is_some, inl, inr, not, ◌&&◌, ◌==◌, if◌then◌else◌, Bool, Option, String, Global, string_bytes, IfOk, IfSome, Ok, Err, option_and_then, option_map, codes, refl, sym, ap, subst, ◌∙◌}
use Rattle.std.proofs.lemmas.List.{drop_all}
use Rattle.std.proofs.lemmas.List.Elements.{All-append, All-cons, All-head, All-nil, All-push, All-tail, All-weaker}
use Rattle.std.specs.List.{All}
use Rattle.std.specs.declared.alloc.AllocError.{AllocError}
use Rattle.std.specs.declared.result.Result.{Result}
use Rattle.json_values.specs.Members.{members_at}
use Rattle.serde_json.specs.Data.{Data, Items, Members, object}
use Rattle.serde_json.specs.Find.{as_object, get_item, get_member}
use Rattle.serde_json.specs.View.{items_view, view}
use Rattle.serde_json.specs.declared.value.Value.{Value}
use Rattle.api_types.specs.FaultPlaces.{AreBroken, AreBrokenIn, ArePlacesAmong, ArePlacesOf, AreReportedOf, BeginsBy, Breaks, BreaksAt, BreaksKnown, EndsReading, FirstIs, IsBroken, IsBrokenIn, IsPlaceAmong, IsPlaceOf, IsLocated, IsRefusedBy, IsReportedOf, ReportsFile, ReportsType, ReportsTypes, TypeBreaks, behind, says}
use Rattle.api_types.specs.Keywords.{has_only, keywords}
use Rattle.api_types.specs.Refusals.{Refusal, and_then, misfit, unknown_keyword}
use Rattle.api_types.specs.Forms.{Form, known_form}
use Rattle.api_types.specs.Views.{FailsWith, ReportsFault}
use Rattle.api_types.specs.TypesFile.{ServedShape, listed, type_of, type_properties}
use Rattle.api_types.specs.declared.fault.TypesFault.{TypesFault}
use Rattle.api_types.specs.declared.fault.TypesFault.TheVariants as fault
use Rattle.api_types.specs.declared.fault_place.LocatedFault.{LocatedFault}
use Rattle.api_types.specs.declared.fault_place.Step.{Step}
use Rattle.api_types.specs.declared.fault_place.Step.TheVariants as step
use Rattle.api_types.specs.declared.locate.Broken.{Broken}
use Rattle.api_types.specs.declared.profile.Profile.TheVariants.{Plain}

-- ---- parts of a schema

-- a type's schema whose form is another
says_misfit : (ms : Members) (form : Form) → known_form 1 ms ≡ Ok form → is_some (type_properties form ms) ≡ false → says known_form 1 ms ≡ Err misfit
says_misfit ms form is other =
    ap (λ r. and_then r (λ f. if 1 == 1 && not (is_some (type_properties f ms)) then Err misfit else Ok f)) is ∙ ap (λ b. if 1 == 1 && not b then Err misfit else Ok form) other

pub misfit_here : (depth : ℕ) (ms : Members) (form : Form) (f : TypesFault) → depth ≡ 1 → known_form depth ms ≡ Ok form → is_some (type_properties form ms) ≡ false → f ≡ fault.Misfit → BreaksKnown f depth (object ms)
misfit_here depth ms form f one known other misfits =
    subst (λ g. BreaksKnown g depth (object ms)) (sym misfits)
    (subst (λ n. says known_form n ms ≡ Err misfit) (sym one) (says_misfit ms form (subst (λ n. known_form n ms ≡ Ok form) one known) other))

-- where reading ends, the rule is broken
ends_breaks : (f : TypesFault) (depth : ℕ) (steps : List Step) (d : Data) → BreaksAt EndsReading f depth steps d → BreaksAt Breaks f depth steps d
ends_breaks f depth [] d h = inl h
ends_breaks f depth (s ∷ steps) d (part, is, h) = (part, is, ends_breaks f (suc depth) steps part h)

known_ends : (f : TypesFault) (depth : ℕ) (ms : Members) → has_only keywords ms ≡ true → BreaksKnown f depth (object ms) → EndsReading f depth (object ms)
known_ends f depth ms known h =
    subst (λ b. FailsWith f (and_then (if not b then Err unknown_keyword else known_form depth ms) (λ form. if depth == 1 && not (is_some (type_properties form ms)) then Err misfit else Ok form))) (sym known) h

-- ---- lists and their first

first_joined : {X : Type 0} (P : X → Type 0) (xs ys : List X) → FirstIs P xs → FirstIs P ys → FirstIs P (xs ++ ys)
first_joined P [] ys h k = k
first_joined P (x ∷ xs) ys h k = h

first_of : {X : Type 0} (P : X → Type 0) (xs : List X) → All P xs → FirstIs P xs
first_of P [] h = tt
first_of P (x ∷ xs) h = All-head P x xs h

first_weaker : {X : Type 0} (P Q : X → Type 0) → ((x : X) → P x → Q x) → (xs : List X) → FirstIs P xs → FirstIs Q xs
first_weaker P Q weaker [] h = tt
first_weaker P Q weaker (x ∷ xs) h = weaker x h

at_here : (breaks : TypesFault → ℕ → Data → Type 0) (depth : ℕ) (d : Data) (b : Broken) → b.part.steps.items ≡ [] → breaks b.fault depth d → IsBroken breaks depth d b
at_here breaks depth d b none h = subst (λ ss. BreaksAt breaks b.fault depth ss d) (sym none) h

pub all_end : (depth : ℕ) (d : Data) (all : List Broken) → All (IsBroken EndsReading depth d) all → AreBroken depth d all
all_end depth d all h =
    (All-weaker (IsBroken EndsReading depth d) (IsBroken Breaks depth d) (λ b. ends_breaks b.fault depth b.part.steps.items d) all h, first_of (IsBroken EndsReading depth d) all h)

-- the keywords that are unknown, and what the others break
pub own_broken : (depth : ℕ) (ms : Members) (found all : List Broken) (b : Broken) → all ≡ found ++ b ∷ [] → All (IsBroken EndsReading depth (object ms)) found → (found ≡ [] → has_only keywords ms ≡ true)
    → b.part.steps.items ≡ [] → BreaksKnown b.fault depth (object ms) → AreBroken depth (object ms) all
own_broken depth ms found all b is ends known none h = subst (AreBroken depth (object ms)) (sym is) (of found ends known)
  where
    of : (xs : List Broken) → All (IsBroken EndsReading depth (object ms)) xs → (xs ≡ [] → has_only keywords ms ≡ true) → AreBroken depth (object ms) (xs ++ b ∷ [])
    of [] ends known =
        all_end depth (object ms) (b ∷ []) (All-cons (IsBroken EndsReading depth (object ms)) b [] (at_here EndsReading depth (object ms) b none (known_ends b.fault depth ms (known refl) h)) (All-nil (IsBroken EndsReading depth (object ms))))
    of (x ∷ xs) ends known =
        let first = all_end depth (object ms) (x ∷ xs) ends in
        (All-push (IsBroken Breaks depth (object ms)) (x ∷ xs) b first.0 (at_here Breaks depth (object ms) b none (inr h)), first.1)

-- a keyword that was looked at and is known
pub known_left : (b rest whole : Bool) → b ≡ true → (b && rest) ≡ whole → rest ≡ whole
known_left b rest whole is h = subst (λ x. (x && rest) ≡ whole) is h

pub property_behind : {V : Type 0} (o : Option V) (view_of : V → Data) (name : String Global) (k : List ℕ) (ms ps : Members) → members_at (codes "properties") ms ≡ Some ps → string_bytes name ≡ k
    → option_map view_of o ≡ get_member k ps → IfSome o (λ v. behind (step.Property name) ms ≡ Some (view_of v))
property_behind None view_of name k ms ps at same found = tt
property_behind (Some v) view_of name k ms ps at same found = ap (option_and_then (get_member (string_bytes name))) at ∙ ap (λ n. get_member n ps) same ∙ sym found

-- what is left to move, and what was moved
abbrev pub AreMoved : {X Y : Type 0} → (X → Type 0) → (Y → Type 0) → List X → List X → List Y → Type 0
AreMoved P Q whole left done = All P whole → All P left × All Q done

pub none_moved : {X Y : Type 0} (P : X → Type 0) (Q : Y → Type 0) (whole left : List X) (done : List Y) → left ≡ whole → done ≡ [] → AreMoved P Q whole left done
none_moved P Q whole left done same none all = (subst (All P) (sym same) all, subst (All Q) (sym none) (All-nil Q))

pub one_moved : {X Y : Type 0} (P : X → Type 0) (Q : Y → Type 0) (whole left rest : List X) (x : X) (done new : List Y) (y : Y) → left ≡ x ∷ rest → new ≡ done ++ y ∷ [] → (P x → Q y)
    → AreMoved P Q whole left done → AreMoved P Q whole rest new
one_moved P Q whole left rest x done new y steps pushed made kept all =
    let there = subst (All P) steps (kept all).0 in
    (All-tail P x rest there, subst (All Q) (sym pushed) (All-push Q done y (kept all).1 (made (All-head P x rest there))))

-- the first, once something was moved, has come from the first
abbrev pub FirstMoved : {X Y : Type 0} → (X → Type 0) → (Y → Type 0) → List X → List X → List Y → Type 0
FirstMoved P Q whole left [] = left ≡ whole
FirstMoved P Q whole left (y ∷ done) = FirstIs P whole → Q y

pub no_first : {X Y : Type 0} (P : X → Type 0) (Q : Y → Type 0) (whole left : List X) (done : List Y) → left ≡ whole → done ≡ [] → FirstMoved P Q whole left done
no_first P Q whole left done same none = subst (FirstMoved P Q whole left) (sym none) same

pub first_moved : {X Y : Type 0} (P : X → Type 0) (Q : Y → Type 0) (whole left rest : List X) (x : X) (done new : List Y) (y : Y) → left ≡ x ∷ rest → new ≡ done ++ y ∷ [] → (P x → Q y) → FirstMoved P Q whole left done
    → FirstMoved P Q whole rest new
first_moved P Q whole left rest x [] new y steps pushed made kept = subst (FirstMoved P Q whole rest) (sym pushed) (λ h. made (subst (FirstIs P) (sym kept ∙ steps) h))
first_moved P Q whole left rest x (z ∷ done) new y steps pushed made kept = subst (FirstMoved P Q whole rest) (sym pushed) kept

pub first_is_moved : {X Y : Type 0} (P : X → Type 0) (Q : Y → Type 0) (whole left : List X) (done : List Y) → FirstMoved P Q whole left done → FirstIs P whole → FirstIs Q done
first_is_moved P Q whole left [] kept h = tt
first_is_moved P Q whole left (y ∷ done) kept h = kept h

pub in_schema : {V : Type 0} (items : V → List Broken) (t s : Data) (r : Result V AllocError) → option_and_then (get_member (codes "schema")) (as_object t) ≡ Some s
    → IfOk r (λ v. AreBroken 1 s (items v)) → IfOk r (λ v. AreBrokenIn t (items v))
in_schema items t s (Ok v) is all =
    (All-weaker (IsBroken Breaks 1 s) (IsBrokenIn Breaks t) (λ b h. (s, is, h)) (items v) all.0, first_weaker (IsBroken EndsReading 1 s) (IsBrokenIn EndsReading t) (λ b h. (s, is, h)) (items v) all.1)
in_schema items t s (Err e) is all = tt

-- ---- types

pub begun : (own : TypesFault) (r : Result ServedShape Refusal) (reported : LocatedFault) (others all : List LocatedFault) → IsRefusedBy r (Some own) → all ≡ reported ∷ others → reported.fault ≡ own → BeginsBy r all
begun own (Ok t) reported others all is prefix same = absurd is
begun own (Err e) reported others all is prefix same = subst (BeginsBy (Err e)) (sym prefix) (subst (λ f. ReportsFault f e) (sym same) is)

pub refused_by : (own : TypesFault) (r : Result ServedShape Refusal) → (own ≡ fault.Memory → ⊥) → FailsWith own r → IsRefusedBy r (Some own)
refused_by fault.UnknownKeyword r known is = subst (λ q. IsRefusedBy q (Some fault.UnknownKeyword)) (sym is) refl
refused_by fault.UnknownType r known is = subst (λ q. IsRefusedBy q (Some fault.UnknownType)) (sym is) refl
refused_by fault.Misfit r known is = subst (λ q. IsRefusedBy q (Some fault.Misfit)) (sym is) refl
refused_by fault.TooDeep r known is = subst (λ q. IsRefusedBy q (Some fault.TooDeep)) (sym is) refl
refused_by fault.SameNames r known is = subst (λ q. IsRefusedBy q (Some fault.SameNames)) (sym is) refl
refused_by fault.NotTheForm r known is = subst (λ q. IsRefusedBy q (Some fault.NotTheForm)) (sym is) refl
refused_by fault.Memory r known is = absurd (known refl)

pub fails_by : (own : TypesFault) (r : Result ServedShape Refusal) → IsRefusedBy r (Some own) → FailsWith own r
fails_by own (Ok t) is = absurd is
fails_by fault.UnknownKeyword (Err e) is = ap Err is
fails_by fault.UnknownType (Err e) is = ap Err is
fails_by fault.Misfit (Err e) is = ap Err is
fails_by fault.TooDeep (Err e) is = ap Err is
fails_by fault.SameNames (Err e) is = ap Err is
fails_by fault.NotTheForm (Err e) is = ap Err is
fails_by fault.Memory (Err e) is = absurd is

pub reported_part : (breaks : TypesFault → ℕ → Data → Type 0) (n : ℕ) (t : Data) (b : Broken) (reported : LocatedFault) → IsLocated n b reported → IsBrokenIn breaks t b → IsReportedOf breaks n t reported
reported_part breaks n t b reported (same, number, part) h =
    (number, subst (λ f. TypeBreaks breaks f (option_map (λ p. p.steps.items) reported.place.part) t) (sym same) (subst (λ o. TypeBreaks breaks b.fault o t) (sym part) h))

reported_whole : (breaks : TypesFault → ℕ → Data → Type 0) (n : ℕ) (t : Data) (own : TypesFault) (reported : LocatedFault) → reported.fault ≡ own → reported.place.number ≡ n → reported.place.part ≡ None → FailsWith own (type_of Plain t) → IsReportedOf breaks n t reported
reported_whole breaks n t own reported same number none h =
    (number, subst (λ o. TypeBreaks breaks reported.fault (option_map (λ p. p.steps.items) o) t) (sym none) (subst (λ f. FailsWith f (type_of Plain t)) (sym same) h))

-- the fault of a type as a whole before those of its schema
pub whole_first : (n : ℕ) (t : Data) (own : TypesFault) (reported : LocatedFault) (others all : List LocatedFault) → all ≡ reported ∷ others → reported.fault ≡ own → reported.place.number ≡ n → reported.place.part ≡ None → FailsWith own (type_of Plain t)
    → AreReportedOf n t others → AreReportedOf n t all
whole_first n t own reported others all is same number none h k =
    subst (AreReportedOf n t) (sym is) (All-cons (IsReportedOf Breaks n t) reported others (reported_whole Breaks n t own reported same number none h) k.0, reported_whole EndsReading n t own reported same number none h)

dropped : (vs : List Value) (i : ℕ) → get_item i (items_view vs) ≡ get_item 0 (items_view (drop i vs))
dropped [] zero = refl
dropped [] (suc i) = refl
dropped (v ∷ vs) zero = refl
dropped (v ∷ vs) (suc i) = dropped vs i

item_there : (vs : List Value) (i : ℕ) (v : Value) → i < length vs → v ≡ get_or vs i v → get_item i (items_view vs) ≡ Some (view v)
item_there vs i v lt is = dropped vs i ∙ ap (λ us. get_item 0 (items_view us)) (drop-cons vs i v lt) ∙ ap (λ u. Some (view u)) (sym is)

-- what is told of the first types, with all that may be told of the others
abbrev pub IsReportedSoFar : ℕ → List Value → List LocatedFault → Type 0
IsReportedSoFar i vs done =
    ((more : List LocatedFault) → ReportsTypes i (items_view (drop i vs)) more → ReportsTypes 0 (items_view vs) (done ++ more)) × ArePlacesAmong (items_view vs) done

pub none_reported : (vs : List Value) (done : List LocatedFault) → done ≡ [] → IsReportedSoFar 0 vs done
none_reported vs done is = subst (IsReportedSoFar 0 vs) (sym is) (λ more h. h, (All-nil (λ reported. IsPlaceAmong Breaks reported.fault reported.place (items_view vs)), tt))

pub one_reported : (vs : List Value) (i : ℕ) (v : Value) (done found new : List LocatedFault) → i < length vs → v ≡ get_or vs i v → new ≡ done ++ found → ReportsType i (view v) found
    → IsReportedSoFar i vs done → IsReportedSoFar (i + 1) vs new
one_reported vs i v done found new lt is appended reported kept =
    let among : LocatedFault → Type 0 = λ t. IsPlaceAmong Breaks t.fault t.place (items_view vs) in
    let ending : LocatedFault → Type 0 = λ t. IsPlaceAmong EndsReading t.fault t.place (items_view vs) in
    let left : drop i vs ≡ v ∷ drop (i + 1) vs = drop-cons vs i v lt ∙ ap (λ u. u ∷ drop (suc i) vs) (sym is) ∙ ap (λ n. v ∷ drop n vs) (sym (add-one i)) in (
      λ more h.
          subst (ReportsTypes 0 (items_view vs)) (sym (append_assoc done found more) ∙ ap (λ ts. ts ++ more) (sym appended))
          (kept.0 (found ++ more) (subst (λ us. ReportsTypes i (items_view us) (found ++ more)) (sym left) (found, more, refl, reported, subst (λ n. ReportsTypes n (items_view (drop (i + 1) vs)) more) (add-one i) h))),
      subst (ArePlacesAmong (items_view vs)) (sym appended) (
        All-append among done found kept.1.0 (All-weaker (IsReportedOf Breaks i (view v)) among (λ t h. (view v, ap (λ n. get_item n (items_view vs)) h.0 ∙ item_there vs i v lt is, h.1)) found reported.1.0),
        first_joined ending done found kept.1.1 (first_weaker (IsReportedOf EndsReading i (view v)) ending (λ t h. (view v, ap (λ n. get_item n (items_view vs)) h.0 ∙ item_there vs i v lt is, h.1)) found reported.1.1),
      ),
    )

pub all_reported : (vs : List Value) (i : ℕ) (done : List LocatedFault) → length vs ≤ i → IsReportedSoFar i vs done → ReportsTypes 0 (items_view vs) done
all_reported vs i done le kept = subst (ReportsTypes 0 (items_view vs)) (append-nil done) (kept.0 [] (subst (λ us. ReportsTypes i (items_view us) []) (sym (drop_all i vs le)) refl))

-- ---- the file

pub none_listed : (f : TypesFault) (file : Data) (all : List LocatedFault) → f ≡ fault.NotTheForm → FailsWith f (listed file) → all ≡ [] → ReportsFile (listed file) all
none_listed f file all form is none = subst (λ r. ReportsFile r all) (sym (subst (λ g. FailsWith g (listed file)) form is)) none

pub in_file : {V : Type 0} (items : V → List LocatedFault) (file : Data) (ts : Items) (r : Result V AllocError) → listed file ≡ Ok ts → IfOk r (λ v. ArePlacesAmong ts (items v)) → IfOk r (λ v. ArePlacesOf file (items v))
in_file items file ts (Ok v) is all = (
  All-weaker (λ t. IsPlaceAmong Breaks t.fault t.place ts) (λ t. IsPlaceOf Breaks t.fault t.place file) (λ t h. (ts, is, h)) (items v) all.0,
  first_weaker (λ t. IsPlaceAmong EndsReading t.fault t.place ts) (λ t. IsPlaceOf EndsReading t.fault t.place file) (λ t h. (ts, is, h)) (items v) all.1,
)
in_file items file ts (Err e) is all = tt
