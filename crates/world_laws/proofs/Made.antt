-- Settings without a fault make one task.
use Rattle.std.specs.Prelude.{◌≡◌, ℕ, Bool, true, false, is_ok, is_some, List, [], ◌∷◌, Option, Some, None, refl, slice_get, zero, suc}
use Rattle.std.proofs.Common.{sym, ◌∙◌, ap, subst}
use Rattle.std.specs.List.{All}
use Rattle.std.proofs.lemmas.List.Elements.{All-head, All-tail}
use Rattle.std.specs.declared.result.Result.{Result}
use Rattle.std.specs.declared.result.Result.TheVariants.{Ok, Err}
use Rattle.api_types.proofs.Numbering.{number_found}
use Rattle.api_types.specs.Named.{has_names}
use Rattle.api_types.specs.TypesFile.{ServedShape, names_differ}
use Rattle.selector.specs.Grammar.{parse_selector}
use Rattle.selector.specs.Requirement.{Requirement}
use Rattle.selector.specs.declared.fault.Fault.{Fault}
use Rattle.indexer.specs.Names.{are_distinct}
use Rattle.lists.specs.TokenLaws.{IsText}
use Rattle.reflector.specs.Faults.{is_namespace_or_all, is_page_size}
use Rattle.world_laws.specs.Tasks.{IsTask, RunSettings, Task, or_fault, settings_fault}

-- where there is no fault it holds, and there is none in the others
none_here : (n : ℕ) (b : Bool) (others : Option ℕ) → or_fault n b others ≡ None → (b ≡ true) × (others ≡ None)
none_here n true others e = (refl, e)
none_here n false others e = absurd cc

none_there : (n : ℕ) (b : Bool) (others : Option ℕ) → b ≡ true → others ≡ None → or_fault n b others ≡ None
none_there n b others e f = ap (λ (x : Bool). or_fault n x others) e ∙ f

read_of : (r : Result (List Requirement) Fault) → is_ok r ≡ true → (reqs : List Requirement) × (r ≡ Ok reqs)
read_of (Ok reqs) e = (reqs, refl)
read_of (Err f) e = absurd cc

found_of : (o : Option ServedShape) → is_some o ≡ true → (t : ServedShape) × (o ≡ Some t)
found_of None e = absurd cc
found_of (Some t) e = (t, refl)

-- what holds of all types holds of the one with a number
of_one : (types : List ServedShape) (k : ℕ) (t : ServedShape) → All (λ t. has_names t ≡ true) types → slice_get types k ≡ Some t → has_names t ≡ true
of_one [] k t all at = absurd cc
of_one (u ∷ us) zero t all at = let same : u ≡ t = cc in subst (λ (x : ServedShape). has_names x ≡ true) same (All-head (λ t. has_names t ≡ true) u us all)
of_one (u ∷ us) (suc k) t all at = of_one us k t (All-tail (λ t. has_names t ≡ true) u us all) at

pub made : (types : List ServedShape) (names : List (List ℕ)) (settings : RunSettings) → All (λ t. has_names t ≡ true) types → names_differ types ≡ true → IsText settings.selector
    → settings_fault types names settings ≡ None → (task : Task) × IsTask types task × (task.settings ≡ settings)
made types names s lawful apart text none =
    let page = none_here 1 (is_page_size s.page) _ none in
    let selector = none_here 2 (is_ok (parse_selector s.selector)) _ page.1 in
    let kind = none_here 3 (is_some (slice_get types s.kind)) _ selector.1 in
    let names_of = none_here 4 (are_distinct names) _ kind.1 in
    let namespace = none_here 5 (is_namespace_or_all s.namespace) None names_of.1 in
    let reqs = read_of (parse_selector s.selector) selector.0 in
    let found = found_of (slice_get types s.kind) kind.0 in
    let task : Task = record { settings = s; t = found.0; requirements = reqs.0 } in (
      task,
      record {
        served = found.1;
        named = of_one types s.kind found.0 lawful found.1;
        numbered = number_found types s.kind found.0 apart found.1;
        text = text;
        selector = reqs.1;
        page = page.0;
        namespace = namespace.0;
      },
      refl,
    )

pub needed : (types : List ServedShape) (names : List (List ℕ)) (task : Task) → IsTask types task → are_distinct names ≡ true → settings_fault types names task.settings ≡ None
needed types names task is distinct =
    none_there 1 (is_page_size task.settings.page) _ is.page
    (none_there 2 (is_ok (parse_selector task.settings.selector)) _ (ap is_ok is.selector)
    (none_there 3 (is_some (slice_get types task.settings.kind)) _ (ap is_some is.served)
    (none_there 4 (are_distinct names) _ distinct (none_there 5 (is_namespace_or_all task.settings.namespace) None is.namespace refl))))

some_same : {A : Type 0} (x y : A) → Some x ≡ Some y → x ≡ y
some_same x y e = cc

abbrev read_in : Result (List Requirement) Fault → List Requirement
read_in (Ok reqs) = reqs
read_in (Err f) = []

read_same : (r q : Result (List Requirement) Fault) → r ≡ q → (x y : List Requirement) → r ≡ Ok x → q ≡ Ok y → x ≡ y
read_same r q same x y is are = ap read_in (sym is ∙ same ∙ are)

pub one : (types : List ServedShape) (task other : Task) → IsTask types task → IsTask types other → task.settings ≡ other.settings → task ≡ other
one types task other is are same =
    let t : task.t ≡ other.t = some_same task.t other.t (sym is.served ∙ ap (λ (s : RunSettings). slice_get types s.kind) same ∙ are.served) in
    let reqs : task.requirements ≡ other.requirements = read_same (parse_selector task.settings.selector) (parse_selector other.settings.selector) (ap (λ (s : RunSettings). parse_selector s.selector) same) task.requirements other.requirements is.selector are.selector in
    let by_settings : RunSettings → Task = λ s. record { settings = s; t = task.t; requirements = task.requirements } in
    let by_type : ServedShape → Task = λ u. record { settings = other.settings; t = u; requirements = task.requirements } in
    let by_requirements : List Requirement → Task = λ r. record { settings = other.settings; t = other.t; requirements = r } in
    ap by_settings same ∙ ap by_type t ∙ ap by_requirements reqs
