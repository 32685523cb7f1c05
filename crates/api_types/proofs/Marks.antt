-- The profile of types stays, and what follows from it.
use Rattle.std.proofs.Common.{◌≡◌, ◌||◌, true, false, true≢false, List, [], ◌∷◌, refl, sym, ap, ap₂}
use Rattle.std.proofs.lemmas.Bool.{and_parts, eqb-true, or_parts}
use Rattle.api_types.specs.ChangeLaws.{MarksStay, NoneFollowsNone}
use Rattle.api_types.specs.Discovered.{are_discovered, profile_of}
use Rattle.api_types.specs.Profiles.{is_discovered, is_same}
use Rattle.api_types.specs.Retyping.{type_may_become, types_may_become}
use Rattle.api_types.specs.TypesFile.{ServedShape, declared_types}
use Rattle.api_types.specs.declared.profile.Profile.{Profile}
use Rattle.api_types.specs.declared.profile.Profile.TheVariants.{Plain, Discovered, Kubernetes}

same_is : (p q : Profile) → is_same p q ≡ true → q ≡ p
same_is Plain Plain h = refl
same_is Plain Discovered h = absurd (true≢false (sym h))
same_is Plain (Kubernetes other) h = absurd (true≢false (sym h))
same_is Discovered Plain h = absurd (true≢false (sym h))
same_is Discovered Discovered h = refl
same_is Discovered (Kubernetes other) h = absurd (true≢false (sym h))
same_is (Kubernetes epoch) Plain h = absurd (true≢false (sym h))
same_is (Kubernetes epoch) Discovered h = absurd (true≢false (sym h))
same_is (Kubernetes epoch) (Kubernetes other) h = ap Kubernetes (sym (eqb-true epoch other h))

pub same_profile : (t u : ServedShape) → type_may_become t u ≡ true → u.profile ≡ t.profile
same_profile t u h = same_is t.profile u.profile (and_parts (is_same t.profile u.profile) _ h).0

pub marks_stay : MarksStay
marks_stay [] [] h = refl
marks_stay [] (u ∷ us) h = absurd (true≢false (sym h))
marks_stay (t ∷ ts) [] h = absurd (true≢false (sym h))
marks_stay (t ∷ ts) (u ∷ us) h =
    let parts = and_parts (type_may_become t u) (types_may_become ts us) h in ap₂ (λ a b. a || b) (ap is_discovered (same_profile t u parts.0)) (marks_stay ts us parts.1)

plain : (p : Profile) → is_discovered p ≡ false → p ≡ Plain
plain Plain h = refl
plain Discovered h = absurd (true≢false h)
plain (Kubernetes epoch) h = absurd (true≢false h)

all_plain : (types : List ServedShape) → are_discovered types ≡ false → profile_of types ≡ Plain
all_plain [] h = refl
all_plain (t ∷ ts) h = plain t.profile (or_parts (is_discovered t.profile) (are_discovered ts) h).0

pub none_follows : NoneFollowsNone
none_follows types file none = ap (λ p. declared_types p file) (all_plain types none)
