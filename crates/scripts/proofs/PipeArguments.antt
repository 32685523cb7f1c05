-- What a parse by the command of a program that reads a script from its standard input gives.
use Rattle.std.proofs.Common.{◌≡◌, ◌∙◌, ◌≤◌, ◌∷◌, ℕ, [], List, Option, Some, None, true, ap, refl, subst, sym, arith, codes, inl, inr}
use Rattle.std.specs.Prelude.{◌⊎◌, Result, Ok, Err, IsErrAnd, ⊤, unwrap_or}
use Rattle.clap.specs.Matches.{first_value, found_of}
use Rattle.clap.specs.declared.error.Error.{Error}
use Rattle.clap.specs.declared.parser.matches.ArgMatches.{ArgMatches}
use Rattle.clap.specs.Words.{FailsBy, HasKind, HasMatchesOf, Kinds, Text, app_of, fault_of, first_of, is_simple, is_simple_and_free, matches_of}
use Rattle.clap.specs.declared.builder.command.Command.{Command}
use Rattle.clap.specs.Walk.{Row}
use Rattle.history.specs.History.{last_revision}
use Rattle.programs.specs.Numbers.{IsNumberIn}
use Rattle.programs.specs.Resources.{resource_in}
use Rattle.programs.specs.declared.numbers.NumberOption.{NumberOption}
use Rattle.programs.specs.declared.run_fault.RunFault.{RunFault}
use Rattle.programs.specs.declared.run_fault.RunFault.TheVariants.{Arguments, Memory, Number}
use Rattle.scripts.specs.declared.program_fault.ProgramFault.{ProgramFault}
use Rattle.scripts.specs.declared.program_fault.ProgramFault.TheVariants.{Form, Run}
use Rattle.clap.proofs.OnLiterals.{clap_on_literals}
use Rattle.programs.proofs.OptionValues.{IsOwn, differ, value_is}
use Rattle.scripts.specs.PlayerCommand.{RefusedByPipe, default_page, default_revision, default_type, pipe_app}

module _ (name : Text) where
  pub is_plain : is_simple (pipe_app name) ≡ true
  unfolding clap_on_literals
  is_plain = refl

  pub is_free : is_simple_and_free (pipe_app name) ≡ true
  unfolding clap_on_literals
  is_free = refl

pub revision_own : IsOwn (codes "revision")
revision_own = ((λ e. absurd (omega arith)), (λ e. absurd (omega arith)), (λ e. absurd (omega arith)))

abbrev pub names : List Text
names = codes "types" ∷ codes "page" ∷ codes "selector" ∷ codes "namespace" ∷ codes "type" ∷ codes "label" ∷ codes "discovery" ∷ codes "revision" ∷ []

pub names_are : {types page selector namespace type_name label discovery revision : Text} → types ≡ codes "types" → page ≡ codes "page" → selector ≡ codes "selector"
    → namespace ≡ codes "namespace" → type_name ≡ codes "type" → label ≡ codes "label" → discovery ≡ codes "discovery" → revision ≡ codes "revision"
    → types ∷ page ∷ selector ∷ namespace ∷ type_name ∷ label ∷ discovery ∷ revision ∷ [] ≡ names
names_are a b c d e f g h = rw (a, b, c, d, e, f, g, h) refl

pub names_differ : differ names ≡ true
unfolding clap_on_literals
names_differ = refl

module _ (name : Text) (cmd : Command) (is : app_of cmd ≡ pipe_app name) (m : ArgMatches) (words : List Text) (exact : HasMatchesOf (app_of cmd) words m) where
  -- the value at an id is that of the exact matches
  pub value_at : (id : Text) → first_value (found_of m) id ≡ first_of id (matches_of (pipe_app name) words)
  value_at = value_is (pipe_app name) (is_plain name) cmd is m words exact

-- the kinds of the faults are those of the definition
pub fails_by : {T : Type 0} (name : Text) (cmd : Command) → app_of cmd ≡ pipe_app name → (words : List Text) (r : Result T Error)
    → (is_simple_and_free (app_of cmd) ≡ true → FailsBy (fault_of (app_of cmd) words) r) → FailsBy (fault_of (pipe_app name) words) r
fails_by name cmd is words r known = subst (λ a. FailsBy (fault_of a words) r) is (known (ap is_simple_and_free is ∙ is_free name))

-- ---- what is refused

-- a fault that is handed on
emitted : {A : Type 0} (kinds : Kinds) (rows : List Row) (r : Result A ProgramFault) (f : ProgramFault) → IsErrAnd r (λ x. x ≡ f) → RefusedByPipe {A = A} kinds rows (Err f) → RefusedByPipe kinds rows r
emitted kinds rows (Ok x) f h is = absurd h
emitted {A} kinds rows (Err x) f h is = subst (λ (y : ProgramFault). RefusedByPipe {A = A} kinds rows (Err y)) (sym h) is

-- one of clap
pub emitted_by_clap : {A : Type 0} (kinds : Kinds) (rows : List Row) (r : Result A ProgramFault) (e : Error) → IsErrAnd r (λ x. (x ≡ Run Memory) ⊎ (x ≡ Run (Arguments e))) → HasKind kinds e → RefusedByPipe kinds rows r
emitted_by_clap kinds rows (Ok x) e h is = absurd h
emitted_by_clap {A} kinds rows (Err x) e h is = elim h [
  | inl m ↦ subst (λ (y : ProgramFault). RefusedByPipe {A = A} kinds rows (Err y)) (sym m) tt
  | inr a ↦ subst (λ (y : ProgramFault). RefusedByPipe {A = A} kinds rows (Err y)) (sym a) is
]

-- of a page that is no number of the option's range
pub page_refused : {A : Type 0} (kinds : Kinds) (rows : List Row) (r : Result A ProgramFault) (f : RunFault) (option : NumberOption) (first : Option Text) → IsErrAnd r (λ x. x ≡ Run f) → f ≡ Number option → kinds ≡ []
    → first ≡ first_of (codes "page") rows → ((n : ℕ) → IsNumberIn (Some default_page) first 0 4294967295 n → ⊥) → RefusedByPipe kinds rows r
page_refused kinds rows r f option first h is none same refused =
    emitted kinds rows r (Run (Number option)) (subst (λ (x : RunFault). IsErrAnd r (λ y. y ≡ Run x)) is h)
    (none, inl (λ n number most. refused n (subst (λ (o : Option Text). IsNumberIn (Some default_page) o 0 4294967295 n) (sym same) (number, low n, most))))
  where
    low : (n : ℕ) → 0 ≤ n
    low n = omega arith

-- of a revision that is none
pub revision_refused : {A : Type 0} (kinds : Kinds) (rows : List Row) (r : Result A ProgramFault) (f : RunFault) (option : NumberOption) (first : Option Text) → IsErrAnd r (λ x. x ≡ Run f) → f ≡ Number option → kinds ≡ []
    → first ≡ first_of (codes "revision") rows → ((n : ℕ) → IsNumberIn (Some default_revision) first 1 last_revision n → ⊥) → RefusedByPipe kinds rows r
revision_refused kinds rows r f option first h is none same refused =
    emitted kinds rows r (Run (Number option)) (subst (λ (x : RunFault). IsErrAnd r (λ y. y ≡ Run x)) is h)
    (none, inr (λ n number. refused n (subst (λ (o : Option Text). IsNumberIn (Some default_revision) o 1 last_revision n) (sym same) number)))

-- of a type that isn't told by three names
pub type_refused : {A : Type 0} (kinds : Kinds) (rows : List Row) (r : Result A ProgramFault) (f : ProgramFault) (first : Option Text) → IsErrAnd r (λ x. x ≡ f) → (f ≡ Form) × (resource_in (unwrap_or first default_type) ≡ None)
    → kinds ≡ [] → first ≡ first_of (codes "type") rows → RefusedByPipe kinds rows r
type_refused kinds rows r f first h is none same =
    emitted kinds rows r Form (subst (λ (x : ProgramFault). IsErrAnd r (λ y. y ≡ x)) is.0 h) (none, ap (λ o. resource_in (unwrap_or o default_type)) (sym same) ∙ is.1)
