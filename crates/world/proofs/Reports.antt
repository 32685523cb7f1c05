-- Reports, as the code makes them.
use Rattle.std.proofs.Common.{◌≡◌, ◌∙◌, ℕ, ap, ap₂, refl, sym, subst, List, [], ◌∷◌, ◌++◌, map, Bool, true, false, Option, Some, None, String, Global, string_bytes}
use Rattle.std.specs.Prelude.{IfOk, nat_lt, option_map}
use Rattle.std.specs.BTreeMap.{BTreeMap}
use Rattle.std.specs.FinMap as fin
use Rattle.std.specs.List.{AllZip}
use Rattle.std.specs.Result.{MatchResult}
use Rattle.std.specs.declared.result.Result.{Result}
use Rattle.std.specs.declared.result.Result.TheVariants.{Ok, Err}
use Rattle.history.specs.History.{History}
use Rattle.indexer.specs.Kept.{objects_in}
use Rattle.indexer.specs.Objects.{Place, Stored}
use Rattle.reflector.specs.Client.{Cache, Objects}
use Rattle.reflector.specs.MirrorViews.{Keys, keyed, with_keys}
use Rattle.reflector.proofs.Keyed.{keyed-entries}
use Rattle.summary.specs.Summary.{counts_in}
use Rattle.world_laws.specs.Reports.{Report, reports_between}
use Rattle.world.specs.Reporting.{is_due}
use Rattle.world_laws.specs.World.{World}
use Rattle.world.specs.Shown.{AllShow, Shows, Traces}
use Rattle.world.specs.declared.trace.Report as shown
use Rattle.world.specs.declared.trace.Trace.{Trace}

-- ---- objects

without : (ks : Keys) (es : List (Place × Stored)) → map (λ e. (e.0, e.1.0)) (with_keys ks es) ≡ es
without ks [] = refl
without ks (e ∷ es) = ap (λ (xs : List (Place × Stored)). e ∷ xs) (without ks es)

pub keyed_objects : (ks : Keys) (o : Objects) → objects_in (keyed ks o) ≡ fin.entries o
keyed_objects ks o = ap (map (λ e. (e.0, e.1.0))) (keyed-entries ks o) ∙ without ks (fin.entries o)

pub second_of : {A B C D : Type 0} (f : A → C) (g : B → D) (xs : List (A × B)) → map (λ (e : A × B). g e.1) xs ≡ map (λ (e : C × D). e.1) (map (λ (e : A × B). (f e.0, g e.1)) xs)
second_of f g [] = refl
second_of f g (x ∷ xs) = ap (λ ys. g x.1 ∷ ys) (second_of f g xs)

-- ---- counts

abbrev Count : Type 0
Count = String Global × ℕ

abbrev count_seen : Count → List ℕ × ℕ
count_seen e = (string_bytes e.0, e.1)

abbrev AreCopies : List Count → List Count → Type 0
AreCopies es fs = AllZip (λ p q. (string_bytes q.0 ≡ string_bytes p.0) × (q.1 ≡ p.1)) es fs

same_counts : (es fs : List Count) → AreCopies es fs → map count_seen fs ≡ map count_seen es
same_counts [] [] h = refl
same_counts [] (f ∷ fs) h = absurd h
same_counts (e ∷ es) [] h = absurd h
same_counts (e ∷ es) (f ∷ fs) h = ap₂ (λ (x : List ℕ × ℕ) xs. x ∷ xs) (ap₂ (λ (k : List ℕ) (v : ℕ). (k, v)) h.0.0 h.0.1) (same_counts es fs h.1)

pub copied : {E : Type 0} (r : Result (BTreeMap (String Global) ℕ) E) (m : BTreeMap (String Global) ℕ) (Q : E → Type 0) → MatchResult r (λ n. AreCopies m.entries n.entries) Q → IfOk r (λ n. counts_in n ≡ counts_in m)
copied (Ok n) m Q h = ap (λ es. fin.from_entries es) (same_counts m.entries n.entries h)
copied (Err e) m Q h = tt

-- ---- when there is a report

-- a client without a revision reports none
pub silent : (event : ℕ) (m : History) (was cache : Option Cache) → None ≡ option_map (λ (now : Cache). now.revision) cache → reports_between event m was cache ≡ []
silent event m was None none = refl
silent event m was (Some now) none = absurd cc

lower : (event : ℕ) (m : History) (was now : Cache) (b : Bool) → nat_lt was.revision now.revision ≡ b → b ≡ false → reports_between event m (Some was) (Some now) ≡ []
lower event m was now b is none = rw (is ∙ none) refl

-- nor one whose revision isn't due
pub undue : (event : ℕ) (m : History) (was cache : Option Cache) (before : Option ℕ) (revision : ℕ) → before ≡ option_map (λ (now : Cache). now.revision) was → Some revision ≡ option_map (λ (now : Cache). now.revision) cache
    → is_due before revision ≡ false → reports_between event m was cache ≡ []
undue event m was None before revision old at due = absurd cc
undue event m None (Some now) before revision old at due = let bad : true ≡ false = sym (ap (λ o. is_due o revision) old) ∙ due in absurd cc
undue event m (Some was) (Some now) before revision old at due =
    let same : revision ≡ now.revision = cc in
    lower event m was now false (sym (ap₂ is_due old same) ∙ due) refl

-- one whose revision is due reports it
pub due : (event : ℕ) (m : History) (was cache : Option Cache) (before : Option ℕ) (revision : ℕ) → before ≡ option_map (λ (now : Cache). now.revision) was → Some revision ≡ option_map (λ (now : Cache). now.revision) cache
    → is_due before revision ≡ true → (now : Cache) × (cache ≡ Some now) × (revision ≡ now.revision) × (reports_between event m was cache ≡ record { event = event; machine = m; now = now } ∷ [])
due event m was None before revision old at is = absurd cc
due event m None (Some now) before revision old at is = let same : revision ≡ now.revision = cc in (now, refl, same, refl)
due event m (Some was) (Some now) before revision old at is =
    let same : revision ≡ now.revision = cc in
    let rises : nat_lt was.revision now.revision ≡ true = sym (ap₂ is_due old same) ∙ is in
    (now, refl, same, rw (rises) refl)

-- ---- reports in turn

pub shown_one : {I : Type 0} (keys : I → Stored → List (List ℕ)) (indexes : List I) (names : List (List ℕ)) (label : List ℕ) (x : shown.Report) (r : Report) (rs : List Report) → rs ≡ r ∷ []
    → Shows keys indexes names label x r → AllShow keys indexes names label (x ∷ []) rs
shown_one keys indexes names label x r rs is shows = subst (AllShow keys indexes names label (x ∷ [])) (sym is) (shows, tt)

pub shown_none : {I : Type 0} (keys : I → Stored → List (List ℕ)) (indexes : List I) (names : List (List ℕ)) (label : List ℕ) (rs : List Report) → rs ≡ [] → AllShow keys indexes names label [] rs
shown_none keys indexes names label rs is = subst (AllShow keys indexes names label []) (sym is) tt

pub shown_more : {I : Type 0} (keys : I → Stored → List (List ℕ)) (indexes : List I) (names : List (List ℕ)) (label : List ℕ) (xs ys : List shown.Report) (rs qs : List Report)
    → AllShow keys indexes names label xs rs → AllShow keys indexes names label ys qs → AllShow keys indexes names label (xs ++ ys) (rs ++ qs)
shown_more keys indexes names label [] ys [] qs first then = then
shown_more keys indexes names label [] ys (r ∷ rs) qs first then = absurd first
shown_more keys indexes names label (x ∷ xs) ys [] qs first then = absurd first
shown_more keys indexes names label (x ∷ xs) ys (r ∷ rs) qs first then = (first.0, shown_more keys indexes names label xs ys rs qs first.1 then)

pub traces_as : {I : Type 0} (keys : I → Stored → List (List ℕ)) (indexes others : List I) (names titles : List (List ℕ)) (label tag : List ℕ) (w : World) (rs : List Report) (t : Trace) → indexes ≡ others → names ≡ titles → label ≡ tag
    → Traces keys indexes names label w rs t → Traces keys others titles tag w rs t
traces_as keys indexes others names titles label tag w rs t same_indexes same_names same_label traces =
    subst (λ l. Traces keys others titles l w rs t) same_label (subst (λ ns. Traces keys others ns label w rs t) same_names (subst (λ is. Traces keys is names label w rs t) same_indexes traces))
