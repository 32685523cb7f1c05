-- Lines and their creations in turn.
use Rattle.std.proofs.Common.{◌≡◌, ◌∙◌, ◌<◌, ◌+◌, ℕ, suc, true, false, Result, Ok, Err, ap, sym, subst, refl, arith, List, [], ◌∷◌, ◌++◌, length, map, take, drop, drop-cons, append-nil}
use Rattle.std.specs.Prelude.{IfErr, IsErrAnd, slice_index_or}
use Rattle.std.specs.Borrow.{Bor}
use Rattle.std.specs.List.{AllByRecursion, AllZip, filter}
use Rattle.std.proofs.lemmas.List.{take_more, take-append-drop, map-append, length-map, length-take-le}
use Rattle.std.proofs.lemmas.List.Elements.{filter-append}
use Rattle.api_types.specs.TypesFile.{ServedShape}
use Rattle.history.specs.History.{History}
use Rattle.api_request.specs.Calls.{Answer, Call, Plan}
use Rattle.verbs.specs.Machine.{after}
use Rattle.verbs.specs.Views.{ApiRepresents}
use Rattle.verbs.specs.Step.{planned, step, steps}
use Rattle.verbs.specs.declared.api.Api.{Api}
use Rattle.server_program.specs.declared.object_fault.ObjectFault.{ObjectFault}
use Rattle.server_program.specs.Creations.{Creates, CreatesAll, EndsAtLine, IsCreation, IsRefused, is_filled}

-- a fault that is handed on as it is
pub error_is : {T E : Type 0} (r : Result T E) (e : E) (P : E → Type 0) → IsErrAnd r (λ x. x ≡ e) → P e → IfErr r P
error_is (Ok x) e P is p = tt
error_is (Err x) e P is p = subst P (sym is) p

-- ---- one call

-- a creation whose plan is answered as one, and whose change is made
pub creates_by : (types : List ServedShape) (m : History) (line : List ℕ) (call : Call) (plan : Plan) (new : Api) → IsCreation types line call → plan ≡ planned types m call
    → plan.answer.status ≡ 201 → ApiRepresents new types (after m plan.changes) → Creates types m line new
creates_by types m line call plan new creation is created stands = record {
  call = call;
  creation = creation;
  created = ap (λ (p : Plan). p.answer.status) (sym is) ∙ created;
  stands = subst (λ (p : Plan). ApiRepresents new types (after m p.changes)) is stands;
}

-- ---- calls in turn, and one more

steps_more : (types : List ServedShape) (m : History) (calls : List Call) (call : Call) → (steps types m (calls ++ call ∷ [])).1 ≡ (step types (steps types m calls).1 call).1
steps_more types m [] call = refl
steps_more types m (c ∷ cs) call = steps_more types (step types m c).1 cs call

answers_more : (P : Answer → Type 0) (types : List ServedShape) (m : History) (calls : List Call) (call : Call)
    → AllByRecursion P (steps types m calls).0 → P (step types (steps types m calls).1 call).0 → AllByRecursion P (steps types m (calls ++ call ∷ [])).0
answers_more P types m [] call before last = (last, tt)
answers_more P types m (c ∷ cs) call before last = (before.0, answers_more P types (step types m c).1 cs call before.1 last)

zip_push : {A B : Type 0} (R : A → B → Type 0) (xs : List A) (ys : List B) (x : A) (y : B) → AllZip R xs ys → R x y → AllZip R (xs ++ x ∷ []) (ys ++ y ∷ [])
zip_push R [] [] x y before last = (last, tt)
zip_push R [] (z ∷ ys) x y before last = absurd before
zip_push R (w ∷ xs) [] x y before last = absurd before
zip_push R (w ∷ xs) (z ∷ ys) x y before last = (before.0, zip_push R xs ys x y before.1 last)

-- ---- lines in turn, and one more

abbrev pub texts : List (Bor (List ℕ)) → List (List ℕ)
texts = map (λ l. l.now)

filled_more : (lines : List (Bor (List ℕ))) (i : ℕ) (d : Bor (List ℕ)) → i < length lines
    → filter is_filled (texts (take (i + 1) lines)) ≡ filter is_filled (texts (take i lines)) ++ filter is_filled ((slice_index_or lines i d).now ∷ [])
filled_more lines i d lt =
    ap (λ ls. filter is_filled (texts ls)) (take_more lines i d lt) ∙ ap (filter is_filled) (map-append (λ (l : Bor (List ℕ)). l.now) (take i lines) (slice_index_or lines i d ∷ []))
    ∙ filter-append is_filled (texts (take i lines)) ((slice_index_or lines i d).now ∷ [])

-- an empty line is read past
pub past_empty : (types : List ServedShape) (m : History) (lines : List (Bor (List ℕ))) (i : ℕ) (d : Bor (List ℕ)) (api : Api) → i < length lines → is_filled (slice_index_or lines i d).now ≡ false
    → CreatesAll types m (texts (take i lines)) api → CreatesAll types m (texts (take (i + 1) lines)) api
past_empty types m lines i d api lt empty before =
    let same : filter is_filled (texts (take (i + 1) lines)) ≡ filter is_filled (texts (take i lines)) =
    filled_more lines i d lt ∙ ap (λ xs. filter is_filled (texts (take i lines)) ++ xs) (rw empty refl) ∙ append-nil _ in
    record {
      calls = before.calls;
      creations = subst (λ xs. AllZip (IsCreation types) xs before.calls) (sym same) before.creations;
      created = before.created;
      stands = before.stands;
    }

-- a line's creation comes after the others
pub with_creation : (types : List ServedShape) (m : History) (lines : List (Bor (List ℕ))) (i : ℕ) (d : Bor (List ℕ)) (old new : Api) → i < length lines → is_filled (slice_index_or lines i d).now ≡ true
    → ((now : History) → ApiRepresents old types now → Creates types now (slice_index_or lines i d).now new)
    → CreatesAll types m (texts (take i lines)) old → CreatesAll types m (texts (take (i + 1) lines)) new
with_creation types m lines i d old new lt full creates before =
    let line = (slice_index_or lines i d).now in
    let same : filter is_filled (texts (take (i + 1) lines)) ≡ filter is_filled (texts (take i lines)) ++ line ∷ [] =
    filled_more lines i d lt ∙ ap (λ xs. filter is_filled (texts (take i lines)) ++ xs) (rw full refl) in
    let made = creates (steps types m before.calls).1 before.stands in
    record {
      calls = before.calls ++ made.call ∷ [];
      creations = subst (λ xs. AllZip (IsCreation types) xs (before.calls ++ made.call ∷ [])) (sym same) (zip_push (IsCreation types) _ before.calls line made.call before.creations made.creation);
      created = answers_more (λ a. a.status ≡ 201) types m before.calls made.call before.created made.created;
      stands = subst (ApiRepresents new types) (sym (steps_more types m before.calls made.call)) made.stands;
    }

-- a line whose object isn't created is where it ends
pub ends_at : (types : List ServedShape) (m : History) (lines : List (Bor (List ℕ))) (i : ℕ) (d : Bor (List ℕ)) (n : ℕ) (why : ObjectFault) (old new : Api)
    → i < length lines → is_filled (slice_index_or lines i d).now ≡ true → n ≡ i + 1 → new ≡ old
    → ((now : History) → ApiRepresents old types now → IsRefused types now (slice_index_or lines i d).now why)
    → CreatesAll types m (texts (take i lines)) old → EndsAtLine types m (texts lines) n why new
ends_at types m lines i d n why old new lt full counted same refused before = record {
  before = texts (take i lines);
  line = (slice_index_or lines i d).now;
  after = texts (drop (suc i) lines);
  split = ap texts (sym (take-append-drop i lines) ∙ ap (λ xs. take i lines ++ xs) (drop-cons lines i d lt)) ∙ map-append (λ (l : Bor (List ℕ)). l.now) (take i lines) (slice_index_or lines i d ∷ drop (suc i) lines);
  place = counted ∙ ap (λ k. k + 1) (sym (length-map (take i lines) (λ (l : Bor (List ℕ)). l.now) ∙ length-take-le i lines (omega arith)));
  filled = λ e. let bad : true ≡ false = sym full ∙ ap is_filled e in cc;
  so_far = record { calls = before.calls; creations = before.creations; created = before.created; stands = subst (λ a. ApiRepresents a types (steps types m before.calls).1) (sym same) before.stands };
  refused = refused (steps types m before.calls).1 before.stands;
}
