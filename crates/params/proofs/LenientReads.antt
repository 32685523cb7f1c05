-- What a query says word for word, it says leniently too: each parameter is read alike, or not at all.
use Rattle.std.proofs.Common.{◌≡◌, ℕ, Bool, true, false, cond, ◌||◌, List, [], ◌∷◌, Some, None, option_map, unwrap_or, append-nil, codes, is_ok, refl, sym, ap, ◌∙◌, true≢false}
use Rattle.std.specs.declared.result.Result.TheVariants.{Ok, Err}
use Rattle.std.specs.Cmp.Lexicographic.{bytes_decides}
use Rattle.std.specs.Str.{bytes_eq}
use Rattle.names.specs.Decimals.{decimal_up_to, version_of}
use Rattle.selector.specs.Fields.{fields_of}
use Rattle.selector.specs.Grammar.{parse_selector}
use Rattle.selector.specs.Requirement.{Requirement}
use Rattle.params.specs.declared.parameter.Parameter.{Parameter}
use Rattle.params.specs.declared.parameter.Parameter.TheVariants as parameter
use Rattle.params.specs.declared.params.Asked.{Asked}
use Rattle.params.specs.declared.params.Asked.TheVariants as asked
use Rattle.params.specs.Lenient.{LenientReadsAll, asking, dry_run_meant, fields_asked, fields_meant, lenient, truth_meant, validation_meant, value_meant}
use Rattle.params.specs.Parameters.{name_of}
use Rattle.params.specs.Query.{Pairs, first_at, value_of}
use Rattle.params.specs.Reading.{Read, ◌>>=◌, absent_in, applied, deleted, got, listed, listed_or_watched, manager_in, manager_or, match_in, number_in, or_bad, params_of, selected, selector_in, strict_in, text_or, token_in, truth_in, version_in, watched, written}
use Rattle.params.specs.Texts.{manager_of, match_of, token_of, truth_of}
use Rattle.params.specs.Values.{Values}

-- ---- the value under a name

by_name : (name : List ℕ) (p : List ℕ × List ℕ) (ps : Pairs) (b : Bool) → bytes_eq p.0 name ≡ b → first_at name (lenient ps) ≡ value_meant name (first_at name ps)
    → cond b (value_meant p.0 p.1) (first_at name (lenient ps)) ≡ value_meant name (cond b p.1 (first_at name ps))
by_name name p ps true is rest = ap (λ (n : List ℕ). value_meant n p.1) ((bytes_decides p.0 name).0 is)
by_name name p ps false is rest = rest

meant_at : (name : List ℕ) → value_meant name [] ≡ [] → (pairs : Pairs) → first_at name (lenient pairs) ≡ value_meant name (first_at name pairs)
meant_at name none [] = sym none
meant_at name none (p ∷ ps) = by_name name p ps (bytes_eq p.0 name) refl (meant_at name none ps)

-- ---- what is read stays so

abbrev Keeps : {A : Type 0} → Read A → Read A → Type 0
Keeps r s = (x : _) → r ≡ Ok x → s ≡ Ok x

same : {A : Type 0} (r s : Read A) → r ≡ s → Keeps r s
same r s e x is = sym e ∙ is

then : {A B : Type 0} (r s : Read A) (f g : A → Read B) → Keeps r s → ((x : A) → Keeps (f x) (g x)) → Keeps (r >>= f) (s >>= g)
then (Ok x) s f g keeps each y is = ap (λ q. q >>= g) (keeps x refl) ∙ each x y is
then (Err p) s f g keeps each y is = absurd (true≢false (sym (ap is_ok is)))

no_ok : {A P : Type 0} (p : Parameter) (x : A) → ◌≡◌ {A = Read A} (Err p) (Ok x) → P
no_ok p x e = absurd (true≢false (sym (ap is_ok e)))

-- ---- truth values, validation and dry runs

abbrev truth_by : Parameter → List ℕ → Read Bool
truth_by p value = text_or false truth_of p value

truth_kept : (p : Parameter) (value : List ℕ) → Keeps (truth_by p value) (truth_by p (truth_meant value))
truth_kept p value x is = as_true (bytes_eq value (codes "True")) refl
  where
    as_false : (b : Bool) → bytes_eq value (codes "False") ≡ b → truth_by p (cond b (codes "false") value) ≡ Ok x
    as_false true e = no_ok p x (sym (ap (truth_by p) ((bytes_decides value (codes "False")).0 e)) ∙ is)
    as_false false e = is

    as_true : (b : Bool) → bytes_eq value (codes "True") ≡ b → truth_by p (cond b (codes "true") (cond (bytes_eq value (codes "False")) (codes "false") value)) ≡ Ok x
    as_true true e = no_ok p x (sym (ap (truth_by p) ((bytes_decides value (codes "True")).0 e)) ∙ is)
    as_true false e = as_false (bytes_eq value (codes "False")) refl

abbrev strict_by : List ℕ → Read (Unit {0})
strict_by value = text_or tt (λ text. cond (bytes_eq text (codes "Strict")) (Some tt) None) parameter.FieldValidation value

either : (a b : Bool) → (a || b) ≡ true → (a ≡ true → ⊥) → (b ≡ true → ⊥) → ⊥
either true b e left right = left refl
either false true e left right = right refl
either false false e left right = true≢false (sym e)

strict_kept : (value : List ℕ) → Keeps (strict_by value) (strict_by (validation_meant value))
strict_kept value x is = go (bytes_eq value (codes "Ignore") || bytes_eq value (codes "Warn")) refl
  where
    not_said : (word : List ℕ) → strict_by word ≡ Err parameter.FieldValidation → bytes_eq value word ≡ true → ⊥
    not_said word refused e = no_ok parameter.FieldValidation x (sym refused ∙ sym (ap strict_by ((bytes_decides value word).0 e)) ∙ is)

    go : (b : Bool) → (bytes_eq value (codes "Ignore") || bytes_eq value (codes "Warn")) ≡ b → strict_by (cond b (codes "Strict") value) ≡ Ok x
    go true e = absurd (either _ _ e (not_said (codes "Ignore") refl) (not_said (codes "Warn") refl))
    go false e = is

abbrev absent_by : Parameter → List ℕ → Read (Unit {0})
absent_by p value = text_or tt (λ text. None) p value

dry_run_kept : (value : List ℕ) → Keeps (absent_by parameter.DryRun value) (absent_by parameter.DryRun (dry_run_meant value))
dry_run_kept [] x is = is
dry_run_kept (b ∷ bs) x is = no_ok parameter.DryRun x is

fields_kept : (value : List ℕ) → Keeps (absent_by parameter.FieldSelector value) (absent_by parameter.FieldSelector (fields_meant value))
fields_kept [] x is = is
fields_kept (b ∷ bs) x is = no_ok parameter.FieldSelector x is

-- ---- calls

module _ (pairs : Pairs) where
  abbrev meant : Pairs
  meant = lenient pairs

  value_is : (p : Parameter) → value_meant (name_of p) [] ≡ [] → value_of p meant ≡ value_meant (name_of p) (value_of p pairs)
  value_is p none = meant_at (name_of p) none pairs

  truth_keeps : (p : Parameter) → value_meant (name_of p) [] ≡ [] → ((v : List ℕ) → value_meant (name_of p) v ≡ truth_meant v) → Keeps (truth_in p pairs) (truth_in p meant)
  truth_keeps p none is x e = ap (truth_by p) (value_is p none ∙ is (value_of p pairs)) ∙ truth_kept p (value_of p pairs) x e

  strict_keeps : Keeps (strict_in pairs) (strict_in meant)
  strict_keeps x e = ap strict_by (value_is parameter.FieldValidation refl) ∙ strict_kept (value_of parameter.FieldValidation pairs) x e

  dry_run_keeps : Keeps (absent_in parameter.DryRun pairs) (absent_in parameter.DryRun meant)
  dry_run_keeps x e = ap (absent_by parameter.DryRun) (value_is parameter.DryRun refl) ∙ dry_run_kept (value_of parameter.DryRun pairs) x e

  fields_keep : Keeps (absent_in parameter.FieldSelector pairs) (absent_in parameter.FieldSelector meant)
  fields_keep x e = ap (absent_by parameter.FieldSelector) (value_is parameter.FieldSelector refl) ∙ fields_kept (value_of parameter.FieldSelector pairs) x e

  -- a parameter that is read as it stands
  as_it_stands : (p : Parameter) → ((v : List ℕ) → value_meant (name_of p) v ≡ v) → value_of p meant ≡ value_of p pairs
  as_it_stands p is = value_is p (is []) ∙ is (value_of p pairs)

  keeps_by : {A : Type 0} (read : List ℕ → Read A) (p : Parameter) → ((v : List ℕ) → value_meant (name_of p) v ≡ v) → Keeps (read (value_of p pairs)) (read (value_of p meant))
  keeps_by read p is = same _ _ (ap read (sym (as_it_stands p is)))

  absent_keeps : (p : Parameter) → ((v : List ℕ) → value_meant (name_of p) v ≡ v) → Keeps (absent_in p pairs) (absent_in p meant)
  absent_keeps p is = keeps_by (absent_by p) p is

  version_keeps : Keeps (version_in pairs) (version_in meant)
  version_keeps = keeps_by (λ v. text_or None (λ text. option_map Some (version_of text)) parameter.ResourceVersion v) parameter.ResourceVersion (λ v. refl)

  match_keeps : Keeps (match_in pairs) (match_in meant)
  match_keeps = keeps_by (λ v. text_or None (λ text. option_map Some (match_of text)) parameter.ResourceVersionMatch v) parameter.ResourceVersionMatch (λ v. refl)

  token_keeps : Keeps (token_in pairs) (token_in meant)
  token_keeps = keeps_by (λ v. text_or None (λ text. option_map Some (token_of text)) parameter.Continue v) parameter.Continue (λ v. refl)

  selector_keeps : Keeps (selector_in pairs) (selector_in meant)
  selector_keeps = keeps_by (λ v. selected (parse_selector v)) parameter.LabelSelector (λ v. refl)

  number_keeps : (p : Parameter) (max : ℕ) → ((v : List ℕ) → value_meant (name_of p) v ≡ v) → Keeps (number_in p max pairs) (number_in p max meant)
  number_keeps p max is = keeps_by (λ v. text_or 0 (decimal_up_to max) p v) p is

  manager_keeps : Keeps (manager_in pairs) (manager_in meant)
  manager_keeps = keeps_by (λ v. or_bad parameter.FieldManager (manager_of v)) parameter.FieldManager (λ v. refl)

  manager_or_keeps : (absent : List ℕ) → Keeps (manager_or absent pairs) (manager_or absent meant)
  manager_or_keeps absent = keeps_by (λ v. text_or absent manager_of parameter.FieldManager v) parameter.FieldManager (λ v. refl)

  got_keeps : Keeps (got pairs) (got meant)
  got_keeps = then _ _ _ _ version_keeps (λ v. same _ _ refl)

  listed_keeps : Keeps (listed pairs) (listed meant)
  listed_keeps =
      then _ _ _ _ token_keeps (λ token.
      then _ _ _ _ fields_keep (λ fields.
      then _ _ _ _ selector_keeps (λ selector.
      then _ _ _ _ (number_keeps parameter.Limit 9223372036854775807 (λ v. refl)) (λ limit.
      then _ _ _ _ version_keeps (λ version.
      then _ _ _ _ match_keeps (λ match.
      then _ _ _ _ (absent_keeps parameter.SendInitialEvents (λ v. refl)) (λ events. same _ _ refl)))))))

  watched_keeps : Keeps (watched pairs) (watched meant)
  watched_keeps =
      then _ _ _ _ (truth_keeps parameter.AllowWatchBookmarks refl (λ v. refl)) (λ bookmarks.
      then _ _ _ _ fields_keep (λ fields.
      then _ _ _ _ selector_keeps (λ selector.
      then _ _ _ _ version_keeps (λ version.
      then _ _ _ _ (absent_keeps parameter.ResourceVersionMatch (λ v. refl)) (λ match.
      then _ _ _ _ (absent_keeps parameter.SendInitialEvents (λ v. refl)) (λ events.
      then _ _ _ _ (number_keeps parameter.TimeoutSeconds 2147483647 (λ v. refl)) (λ timeout. same _ _ refl)))))))

  by_watch : (b : Bool) → Keeps (cond b (watched pairs) (listed pairs)) (cond b (watched meant) (listed meant))
  by_watch true = watched_keeps
  by_watch false = listed_keeps

  listed_or_watched_keeps : Keeps (listed_or_watched pairs) (listed_or_watched meant)
  listed_or_watched_keeps = then _ _ _ _ (truth_keeps parameter.Watch refl (λ v. refl)) by_watch

  written_keeps : Keeps (written pairs) (written meant)
  written_keeps =
      then _ _ _ _ dry_run_keeps (λ u.
      then _ _ _ _ (manager_or_keeps (codes "unknown")) (λ manager.
      then _ _ _ _ strict_keeps (λ v. same _ _ refl)))

  applied_keeps : Keeps (applied pairs) (applied meant)
  applied_keeps =
      then _ _ _ _ dry_run_keeps (λ u.
      then _ _ _ _ manager_keeps (λ manager.
      then _ _ _ _ strict_keeps (λ v.
      then _ _ _ _ (truth_keeps parameter.Force refl (λ v. refl)) (λ is_forced. same _ _ refl))))

  deleted_keeps : Keeps (deleted pairs) (deleted meant)
  deleted_keeps = then _ _ _ _ dry_run_keeps (λ u. same _ _ refl)

kept : (asked : Asked) (pairs : Pairs) → Keeps (params_of asked pairs) (params_of asked (lenient pairs))
kept asked.Get pairs = got_keeps pairs
kept asked.List pairs = listed_or_watched_keeps pairs
kept asked.Post pairs = written_keeps pairs
kept asked.Put pairs = written_keeps pairs
kept asked.Apply pairs = applied_keeps pairs
kept asked.Delete pairs = deleted_keeps pairs

-- ---- what is read word for word asks for no name

-- what is read first, and with which the rest is read
first : {A B : Type 0} (r : Read A) (f : A → Read B) (y : B) → (r >>= f) ≡ Ok y → (x : A) × (r ≡ Ok x) × (f x ≡ Ok y)
first (Ok x) f y is = (x, refl, is)
first (Err p) f y is = no_ok p y is

none_there : (value : List ℕ) (x : Unit {0}) → absent_by parameter.FieldSelector value ≡ Ok x → unwrap_or (fields_of value) [] ≡ []
none_there [] x is = refl
none_there (b ∷ bs) x is = no_ok parameter.FieldSelector x is

module _ (pairs : Pairs) where
  abbrev AsksNoName : Type 0
  AsksNoName = fields_asked asked.List pairs ≡ []

  after_it : {A B : Type 0} (r : Read A) (f : A → Unit {0} → Read B) (y : B) → (r >>= λ x. absent_in parameter.FieldSelector pairs >>= f x) ≡ Ok y → AsksNoName
  after_it r f y is =
      let found = first r (λ x. absent_in parameter.FieldSelector pairs >>= f x) y is in
      let absent = first (absent_in parameter.FieldSelector pairs) (f found.0) y found.2 in
      none_there (value_of parameter.FieldSelector pairs) absent.0 absent.1

  none_by_watch : (b : Bool) (y : Values) → cond b (watched pairs) (listed pairs) ≡ Ok y → AsksNoName
  none_by_watch true y is = after_it (truth_in parameter.AllowWatchBookmarks pairs) _ y is
  none_by_watch false y is = after_it (token_in pairs) _ y is

  none_listed : (y : Values) → listed_or_watched pairs ≡ Ok y → AsksNoName
  none_listed y is = let found = first (truth_in parameter.Watch pairs) (λ b. cond b (watched pairs) (listed pairs)) y is in none_by_watch found.0 y found.2

asks_no_name : (asked : Asked) (pairs : Pairs) (values : Values) → params_of asked pairs ≡ Ok values → fields_asked asked pairs ≡ []
asks_no_name asked.Get pairs values is = refl
asks_no_name asked.List pairs values is = none_listed pairs values is
asks_no_name asked.Post pairs values is = refl
asks_no_name asked.Put pairs values is = refl
asks_no_name asked.Apply pairs values is = refl
asks_no_name asked.Delete pairs values is = refl

asking_nothing : (requirements : List Requirement) (values : Values) → requirements ≡ [] → asking requirements values ≡ values
asking_nothing requirements values none = rw (none, append-nil values.selector) refl

pub lenient_reads_all : LenientReadsAll
lenient_reads_all asked pairs values is =
    let asks : List Requirement = fields_asked asked pairs in
    ap (λ r. r >>= λ v. Ok (asking asks v)) (kept asked pairs values is) ∙ ap Ok (asking_nothing asks values (asks_no_name asked pairs values is))
