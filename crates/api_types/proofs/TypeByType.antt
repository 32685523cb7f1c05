-- Types, one after another.
use Rattle.std.proofs.Common.{◌≡◌, ℕ, suc, ◌+◌, ◌<◌, List, [], ◌∷◌, ◌++◌, map, length, drop, get_or, drop-cons, add-one, Ok, Err, refl, sym, ap, ◌∙◌, append_assoc, append-nil, subst}
use Rattle.std.proofs.lemmas.List.{map-append}
use Rattle.std.specs.declared.result.Result.{Result}
use Rattle.serde_json.specs.View.{view, items_view}
use Rattle.serde_json.specs.declared.value.Value.{Value}
use Rattle.api_types.specs.Refusals.{Refusal, and_then}
use Rattle.api_types.specs.Served.{served}
use Rattle.api_types.specs.TypesFile.{ServedShape, type_of, types_of, one_type}
use Rattle.api_types.specs.Views.{FailsWith}
use Rattle.api_types.specs.declared.fault.TypesFault.{TypesFault}
use Rattle.api_types.specs.declared.fault.TypesFault.TheVariants as faults
use Rattle.api_types.specs.declared.profile.Profile.{Profile}
use Rattle.api_types.specs.declared.served.Served.{Served}

-- the types so far, with those that are left
abbrev pub after : List ServedShape → Result (List ServedShape) Refusal → Result (List ServedShape) Refusal
after done left = and_then left (λ more. Ok (done ++ more))

pub after_none : (left : Result (List ServedShape) Refusal) → after [] left ≡ left
after_none (Ok all) = refl
after_none (Err e) = refl

after_pushed : (done : List ServedShape) (t : ServedShape) (left : Result (List ServedShape) Refusal) → after done (one_type (Ok t) left) ≡ after (done ++ t ∷ []) left
after_pushed done t (Err e) = refl
after_pushed done t (Ok more) = ap Ok (sym (append_assoc done (t ∷ []) more))

pub after_all : (done : List ServedShape) → after done (Ok []) ≡ Ok done
after_all done = ap Ok (append-nil done)

fails_first : (e : TypesFault) (done : List ServedShape) (t : Result ServedShape Refusal) (left : Result (List ServedShape) Refusal) → FailsWith e t → FailsWith e (after done (one_type t left))
fails_first faults.UnknownKeyword done t left h = rw h refl
fails_first faults.UnknownType done t left h = rw h refl
fails_first faults.Misfit done t left h = rw h refl
fails_first faults.TooDeep done t left h = rw h refl
fails_first faults.SameNames done t left h = rw h refl
fails_first faults.NotTheForm done t left h = rw h refl
fails_first faults.Memory done t left h = tt

module _ (p : Profile) (vs : List Value) (i : ℕ) (v : Value) (lt : i < length vs) (is : v ≡ get_or vs i v) (whole : Result (List ServedShape) Refusal) (ts : List Served)
    (kept : whole ≡ after (map served ts) (types_of p (items_view (drop i vs)))) where
  first : whole ≡ after (map served ts) (one_type (type_of p (view v)) (types_of p (items_view (drop (i + 1) vs))))
  first = kept ∙ ap (after (map served ts))
      (rw add-one (ap (λ us. types_of p (items_view us)) (drop-cons vs i v lt) ∙ ap (λ u. one_type (type_of p (view u)) (types_of p (items_view (drop (suc i) vs)))) (sym is)))

  pub one_more : (t : Served) → type_of p (view v) ≡ Ok (served t) → whole ≡ after (map served (ts ++ t ∷ [])) (types_of p (items_view (drop (i + 1) vs)))
  one_more t read =
      first ∙ ap (λ r. after (map served ts) (one_type r (types_of p (items_view (drop (i + 1) vs))))) read ∙ after_pushed (map served ts) (served t) _
      ∙ ap (λ us. after us (types_of p (items_view (drop (i + 1) vs)))) (sym (map-append served ts (t ∷ [])))

  pub one_fault : (e : TypesFault) → FailsWith e (type_of p (view v)) → FailsWith e whole
  one_fault e h = subst (FailsWith e) (sym first) (fails_first e (map served ts) (type_of p (view v)) (types_of p (items_view (drop (i + 1) vs))) h)
