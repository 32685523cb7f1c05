-- The refusals of a types file are those of the faults that are told of it.
use Rattle.std.proofs.Common.{◌≡◌, ◌==◌, ℕ, suc, Bool, true, false, length, List, [], ◌∷◌, ◌++◌, append_assoc, append-nil, get_or, Option, Some, None, Ok, Err, IfOk, IfSome, inl, inr, refl, sym, ap, subst, ◌∙◌, if◌then◌else◌}
use Rattle.std.proofs.lemmas.List.Elements.{All-nil}
use Rattle.std.specs.declared.alloc.AllocError.{AllocError}
use Rattle.std.specs.declared.result.Result.{Result}
use Rattle.serde_json.specs.Data.{Data, Items, no_items, item}
use Rattle.api_types.specs.FaultPlaces.{ArePlacesOf, BeginsBy, Breaks, EndsReading, IsPlaceOf, ReportsFile, ReportsTypes}
use Rattle.api_types.specs.Refusals.{Refusal, unknown_keyword, unknown_type, misfit, too_deep, same_names, not_the_form, and_then}
use Rattle.api_types.specs.Views.{FailsWith, ReportsFault as ReportsRefusal}
use Rattle.api_types.specs.TypesFile.{ServedShape, declared_types, listed, names_differ, one_type, type_of, types_of}
use Rattle.api_types.specs.declared.fault.TypesFault.{TypesFault}
use Rattle.api_types.specs.declared.fault.TypesFault.TheVariants as fault
use Rattle.api_types.specs.declared.fault_place.LocatedFault.{LocatedFault}
use Rattle.api_types.specs.declared.profile.Profile.TheVariants.{Plain}
use Rattle.programs.specs.ReplayProgram.{AreNumbered, AreRefusals, IsNumberOf, IsNumbered, IsRefusal, IsWhole, types_refusal_number}
use Rattle.programs.specs.declared.types_refusal.TypesRefusal.{TypesRefusal}

-- ---- a fault and its refusal

same_refusal : (f : TypesFault) (d e : Refusal) → ReportsRefusal f d → ReportsRefusal f e → d ≡ e
same_refusal fault.UnknownKeyword d e one other = one ∙ sym other
same_refusal fault.UnknownType d e one other = one ∙ sym other
same_refusal fault.Misfit d e one other = one ∙ sym other
same_refusal fault.TooDeep d e one other = one ∙ sym other
same_refusal fault.SameNames d e one other = one ∙ sym other
same_refusal fault.NotTheForm d e one other = one ∙ sym other
same_refusal fault.Memory d e one other = absurd one

fails_reported : (f : TypesFault) (r : Result (List ServedShape) Refusal) (e : Refusal) → r ≡ Err e → ReportsRefusal f e → FailsWith f r
fails_reported fault.UnknownKeyword r e is reported = is ∙ ap Err reported
fails_reported fault.UnknownType r e is reported = is ∙ ap Err reported
fails_reported fault.Misfit r e is reported = is ∙ ap Err reported
fails_reported fault.TooDeep r e is reported = is ∙ ap Err reported
fails_reported fault.SameNames r e is reported = is ∙ ap Err reported
fails_reported fault.NotTheForm r e is reported = is ∙ ap Err reported
fails_reported fault.Memory r e is reported = absurd reported

number_of : (f : TypesFault) (r : Result (List ServedShape) Refusal) (n : ℕ) → FailsWith f r → IsNumberOf f n → (e : Refusal) × (r ≡ Err e) × (n ≡ types_refusal_number e)
number_of fault.UnknownKeyword r n is num = (unknown_keyword, is, num.2 ∙ ap types_refusal_number num.1)
number_of fault.UnknownType r n is num = (unknown_type, is, num.2 ∙ ap types_refusal_number num.1)
number_of fault.Misfit r n is num = (misfit, is, num.2 ∙ ap types_refusal_number num.1)
number_of fault.TooDeep r n is num = (too_deep, is, num.2 ∙ ap types_refusal_number num.1)
number_of fault.SameNames r n is num = (same_names, is, num.2 ∙ ap types_refusal_number num.1)
number_of fault.NotTheForm r n is num = (not_the_form, is, num.2 ∙ ap types_refusal_number num.1)
number_of fault.Memory r n is num = absurd num.1

-- ---- the first fault that is told is the one by which the reading ends

abbrev IsSome : List LocatedFault → Type 0
IsSome [] = ⊥
IsSome (reported ∷ all) = Unit {0}

not_none : (reported : LocatedFault) (all : List LocatedFault) → reported ∷ all ≡ [] → ⊥
not_none reported all is = subst IsSome is tt

abbrev IsYes : Bool → Type 0
IsYes true = Unit {0}
IsYes false = ⊥

pub some_left : (all : List LocatedFault) (n : ℕ) → n ≡ length all → (n == 0) ≡ false → all ≡ [] → ⊥
some_left [] n is some none = subst IsYes (sym (ap (λ k. k == 0) is) ∙ some) tt
some_left (reported ∷ all) n is some none = not_none reported all none

first_reported : (n : ℕ) (ts : Items) (reported : LocatedFault) (all : List LocatedFault) → ReportsTypes n ts (reported ∷ all) → (e : Refusal) × (types_of Plain ts ≡ Err e) × ReportsRefusal reported.fault e
first_reported n no_items reported all is = absurd (not_none reported all is)
first_reported n (item t ts) reported all (prefix, others, joined, of_type, left) = by_type (first_reported (suc n) ts reported all) (type_of Plain t) refl prefix joined of_type.0
  where
    by_type : (ReportsTypes (suc n) ts (reported ∷ all) → (e : Refusal) × (types_of Plain ts ≡ Err e) × ReportsRefusal reported.fault e) → (r : Result ServedShape Refusal) → type_of Plain t ≡ r → (first : List LocatedFault) → reported ∷ all ≡ first ++ others → BeginsBy r first
        → (e : Refusal) × (types_of Plain (item t ts) ≡ Err e) × ReportsRefusal reported.fault e
    by_type next (Ok s) is first same begins =
        let later = next (subst (ReportsTypes (suc n) ts) (sym (same ∙ ap (λ fs. fs ++ others) begins)) left) in
        (later.0, ap (λ r. one_type r (types_of Plain ts)) is ∙ ap (one_type (Ok s)) later.1, later.2)
    by_type next (Err e) is [] same begins = absurd begins
    by_type next (Err e) is (one ∷ more) same begins = (e, ap (λ r. one_type r (types_of Plain ts)) is, subst (λ p. ReportsRefusal p.fault e) (sym (ap (λ ps. get_or ps 0 reported) same)) begins)

first_declared : (file : Data) (r : Result Items Refusal) (reported : LocatedFault) (all : List LocatedFault) → listed file ≡ r → ReportsFile r (reported ∷ all)
    → (e : Refusal) × (declared_types Plain file ≡ Err e) × ReportsRefusal reported.fault e
first_declared file (Ok ts) reported all is reports =
    let first = first_reported 0 ts reported all reports in (
      first.0,
      ap (λ r. and_then r (λ ds. and_then (types_of Plain ds) (λ us. if names_differ us then Ok us else Err same_names))) is ∙ ap (λ r. and_then r (λ us. if names_differ us then Ok us else Err same_names)) first.1,
      first.2,
    )
first_declared file (Err e) reported all is reports = absurd (not_none reported all reports)

-- ---- all of them

pub one_numbered : (whole left rest : List LocatedFault) (reported : LocatedFault) (done new : List TypesRefusal) (refusal : TypesRefusal) → left ≡ reported ∷ rest → new ≡ done ++ refusal ∷ [] → IsNumbered reported refusal
    → ((more : List TypesRefusal) → AreNumbered left more → AreNumbered whole (done ++ more)) → (more : List TypesRefusal) → AreNumbered rest more → AreNumbered whole (new ++ more)
one_numbered whole left rest reported done new refusal steps pushed is kept more h =
    subst (AreNumbered whole) (sym (ap (λ rs. rs ++ more) pushed ∙ append_assoc done (refusal ∷ []) more)) (kept (refusal ∷ more) (subst (λ ts. AreNumbered ts (refusal ∷ more)) (sym steps) (is, h)))

pub none_left : (whole left : List LocatedFault) (done : List TypesRefusal) → left ≡ [] → ((more : List TypesRefusal) → AreNumbered left more → AreNumbered whole (done ++ more)) → AreNumbered whole done
none_left whole left done none kept = subst (AreNumbered whole) (append-nil done) (kept [] (subst (λ ts. AreNumbered ts []) (sym none) tt))

refusals_reported : (file : Data) (all : List LocatedFault) (refusals : List TypesRefusal) → (all ≡ [] → ⊥) → ReportsFile (listed file) all → ArePlacesOf file all → AreNumbered all refusals
    → AreRefusals file refusals
refusals_reported file [] refusals some reports places numbered = absurd (some refl)
refusals_reported file (reported ∷ all) [] some reports places numbered = absurd numbered
refusals_reported file (reported ∷ all) (first ∷ others) some reports places numbered = (first_is, (reported ∷ all, reports, places, inl numbered))
  where
    first_is : IsRefusal file first
    first_is =
        let (same, place, number) = numbered.0 in
        let declared = first_declared file (listed file) reported all refl reports in
        let telling : ReportsRefusal first.fault declared.0 = subst (λ f. ReportsRefusal f declared.0) (sym same) declared.2 in (
          (declared.0, declared.1, number.2 ∙ ap types_refusal_number (same_refusal first.fault number.0 declared.0 number.1 telling)),
          fails_reported first.fault (declared_types Plain file) declared.0 declared.1 telling,
          subst (λ o. IfSome o (λ p. IsPlaceOf EndsReading first.fault p file)) (sym place) (subst (λ f. IsPlaceOf EndsReading f reported.place file) (sym same) places.1),
        )

pub whole_refusals : (file : Data) (f : TypesFault) (all : List LocatedFault) (refusals : List TypesRefusal) → all ≡ [] → ReportsFile (listed file) all → FailsWith f (declared_types Plain file) → IsWhole f refusals
    → AreRefusals file refusals
whole_refusals file f all refusals none reports fails (refusal, one, same, place, number) =
    let failed : FailsWith refusal.fault (declared_types Plain file) = subst (λ g. FailsWith g (declared_types Plain file)) (sym same) fails in
    subst (AreRefusals file) (sym one) (
      (number_of refusal.fault (declared_types Plain file) refusal.number failed number, failed, subst (λ o. IfSome o (λ p. IsPlaceOf EndsReading refusal.fault p file)) (sym place) tt),
      ([], subst (ReportsFile (listed file)) none reports, (All-nil (λ reported. IsPlaceOf Breaks reported.fault reported.place file), tt), inr (refl, refl)),
    )

pub all_refusals : {V : Type 0} (items : V → List TypesRefusal) (file : Data) (all : List LocatedFault) (r : Result (Option V) AllocError) → (all ≡ [] → ⊥) → ReportsFile (listed file) all
    → ArePlacesOf file all → IfOk r (λ o. IfSome o (λ v. AreNumbered all (items v))) → IfOk r (λ o. IfSome o (λ v. AreRefusals file (items v)))
all_refusals items file all (Ok None) some reports places numbered = tt
all_refusals items file all (Ok (Some v)) some reports places numbered = refusals_reported file all (items v) some reports places numbered
all_refusals items file all (Err e) some reports places numbered = tt
