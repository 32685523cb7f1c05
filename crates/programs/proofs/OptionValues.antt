-- What a parse by a program's command gives: of each option its value, by the exact matches.
use Rattle.std.proofs.Common.{◌≡◌, ◌∙◌, ◌<◌, ◌&&◌, ℕ, zero, suc, Bool, true, false, not, List, [], ◌∷◌, length, ap, ap₂, refl, sym, subst, arith, inl, inr, slice_index, Option, Some, None, option_map}
use Rattle.std.specs.List.{All, slice_index_or}
use Rattle.std.specs.Prelude.{is_some, map, unwrap_or}
use Rattle.std.specs.Borrow.{Bor}
use Rattle.std.specs.Str.{bytes_eq}
use Rattle.std.specs.Str.Parse.{ParsesUnsigned}
use Rattle.std.proofs.lemmas.Slice.Eq.{bytes_eq-Decides}
use Rattle.clap.specs.Built.{AddsArg, AddsInTurn, FitsChain, HasDistinctIds, IsAuto, IsParsedFrom, TakesValue}
use Rattle.clap.specs.Facts.{args_of, groups_of}
use Rattle.clap.specs.Matches.{first_value, found_of, one_text}
use Rattle.clap.specs.Words.{App, HasMatchesOf, Rule, Text, app_of, first_of, is_simple, matches_of, one_of, rule_of, with_rule}
use Rattle.clap.specs.declared.builder.arg.Arg.{Arg}
use Rattle.clap.specs.declared.builder.command.Command.{Command}
use Rattle.clap.specs.declared.builder.command.Command.TheViews.{out-Command}
use Rattle.clap.specs.declared.parser.matches.ArgMatches.{ArgMatches}
use Rattle.clap.proofs.CallerLemmas.{required_in_chain}
use Rattle.clap.proofs.WalkLemmas.{first_value-rows, one_text-rows}
use Rattle.programs.specs.Commands.{IsFlag}
use Rattle.programs.specs.Numbers.{IsNumber, IsNumberBy, IsNumberIn}

-- the name of an option begins as none that `clap` adds
abbrev pub IsOwn : Text → Type 0
IsOwn name = (slice_index name 0 ≡ 0 → ⊥) × (slice_index name 0 ≡ 104 → ⊥) × (slice_index name 0 ≡ 118 → ⊥)

fits : (a : Arg) (name : Text) → a.id.now ≡ name → IsOwn name → ((name ≡ [] → ⊥) → (IsAuto a → ⊥) → FitsChain a) → FitsChain a
fits a name is own rest = rest (λ e. own.0 (ap (λ t. slice_index t 0) e)) (λ auto. elim auto [
  | inl h ↦ own.1 (ap (λ t. slice_index t 0) (sym is ∙ h))
  | inr h ↦ own.2 (ap (λ t. slice_index t 0) (sym is ∙ h))
])

-- an option as it is made, with the rule that its name gives it
abbrev pub IsOption : (Text → Rule) → Bor Text → Arg → Type 0
IsOption rule name a = (a.id ≡ name) × (rule_of a ≡ rule name.now) × ((name.now ≡ [] → ⊥) → (IsAuto a → ⊥) → FitsChain a)

-- the same, for an option whose name is its own
abbrev pub IsMade : (Text → Rule) → Text → Arg → Type 0
IsMade rule name a = (a.id.now ≡ name) × (rule_of a ≡ rule name) × FitsChain a

pub made : (rule : Text → Rule) (a : Arg) (n : Bor Text) (name : Text) → n.now ≡ name → IsOwn name → IsOption rule n a → IsMade rule name a
made rule a n name named own (id, is, fitting) =
    let is_named : a.id.now ≡ name = ap (λ (s : Bor Text). s.now) id ∙ named in
    (is_named, is ∙ ap rule named, fits a name is_named own (λ there auto. fitting (λ e. there (sym named ∙ e)) auto))

pub added : (rule : Text → Rule) (base : App) (old new : Command) (a : Arg) (name : Text) → app_of old ≡ base → IsMade rule name a
    → AddsArg old a new → app_of new ≡ with_rule base (rule name)
added rule base old new a name before (id, is, fit) adds = adds.shape fit.1 ∙ ap₂ with_rule before is

abbrev pub ids : List Arg → List Text
ids = map (λ (a : Arg). a.id.now)

-- whether none of the texts is this one
abbrev pub lacks : Text → List Text → Bool
lacks t [] = true
lacks t (x ∷ xs) = not (bytes_eq x t) && lacks t xs

-- whether no two of the texts are the same
abbrev pub differ : List Text → Bool
differ [] = true
differ (x ∷ xs) = lacks x xs && differ xs

both : (a b : Bool) → (a && b) ≡ true → (a ≡ true) × (b ≡ true)
both true b h = (refl, h)
both false b h = cc

is_other : (t : Text) (xs : List Arg) (k : ℕ) (d : Arg) → lacks t (ids xs) ≡ true → k < length xs → (slice_index_or xs k d).id.now ≡ t → ⊥
is_other t [] k d h lt same = absurd (omega arith)
is_other t (x ∷ xs) zero d h lt same =
    let is : bytes_eq x.id.now t ≡ true = (bytes_eq-Decides x.id.now t).1 same in
    let isnt : not (bytes_eq x.id.now t) ≡ true = (both (not (bytes_eq x.id.now t)) _ h).0 in
    let bad : false ≡ true = rw is at isnt in
    cc
is_other t (x ∷ xs) (suc k) d h lt same = is_other t xs k d (both (not (bytes_eq x.id.now t)) _ h).1 (omega arith) same

ids_differ : (xs : List Arg) → differ (ids xs) ≡ true → HasDistinctIds xs
ids_differ [] h j k d e low high same = absurd (omega arith)
ids_differ (x ∷ xs) h zero zero d e low high same = refl
ids_differ (x ∷ xs) h zero (suc k) d e low high same =
    absurd (is_other x.id.now xs k d (both _ _ h).0 (omega arith) (sym ((bytes_eq-Decides x.id.now (slice_index_or xs k d).id.now).0 same)))
ids_differ (x ∷ xs) h (suc j) zero d e low high same =
    absurd (is_other x.id.now xs j e (both _ _ h).0 (omega arith) ((bytes_eq-Decides (slice_index_or xs j e).id.now x.id.now).0 same))
ids_differ (x ∷ xs) h (suc j) (suc k) d e low high same = ap suc (ids_differ xs (both _ _ h).1 j k d e (omega arith) (omega arith) same)

-- a command without options
abbrev pub IsBare : Command → Type 0
IsBare c = (args_of c ≡ []) × (groups_of c ≡ []) × ((out-Command c).has_globals ≡ false) × ((out-Command c).subcommand_negates_reqs ≡ false)

-- a parse has the value of an option that is required
pub given : (start cmd : Command) (xs : List Arg) (k : ℕ) (d : Arg) (m : ArgMatches) (names : List Text) (name : Text) → AddsInTurn AddsArg start xs cmd → IsBare start
    → All FitsChain xs → ids xs ≡ names → differ names ≡ true → k < length xs → (slice_index_or xs k d).id.now ≡ name → TakesValue (slice_index_or xs k d) → IsParsedFrom cmd m
    → is_some (first_value (found_of m) name) ≡ true
given start cmd xs k d m names name adds bare fit are apart lt id takes parsed =
    subst (λ t. is_some (first_value (found_of m) t) ≡ true) id
    (required_in_chain start cmd xs k d m adds bare.0 bare.1 bare.2 bare.3 fit (ids_differ xs (ap differ are ∙ apart)) lt takes parsed)

module _ (app : App) (plain : is_simple app ≡ true) (cmd : Command) (is : app_of cmd ≡ app) (m : ArgMatches) (arguments : List Text) (exact : HasMatchesOf (app_of cmd) arguments m) where
  -- the value at an id is that of the exact matches
  pub value_is : (id : Text) → first_value (found_of m) id ≡ first_of id (matches_of app arguments)
  value_is id = first_value-rows (found_of m) id ∙ ap (first_of id) (exact (ap is_simple is ∙ plain)).0 ∙ ap (λ a. first_of id (matches_of a arguments)) is

  -- so is the text of a flag
  pub flag_is : (id : Text) → one_text (found_of m) id ≡ one_of id (matches_of app arguments)
  flag_is id = one_text-rows (found_of m) id ∙ ap (one_of id) (exact (ap is_simple is ∙ plain)).0 ∙ ap (λ a. one_of id (matches_of a arguments)) is

pub text_is : (o : Option (Bor Text)) (r : Bor Text) (first : Option Text) → option_map (λ (s : Bor Text). s.now) o ≡ first → o ≡ Some r → first ≡ Some r.now
text_is o r first read some = sym read ∙ ap (option_map (λ (s : Bor Text). s.now)) some

-- the number of an option is that of its value
pub number_by : (first value : Option Text) (default : Option Text) (least most n m : ℕ) → first ≡ value → m ≡ n → IsNumberIn default first least most n → IsNumberIn default value least most m
number_by first value default least most n m same is number =
    subst (λ (o : Option Text). IsNumberIn default o least most m) same (subst (λ (k : ℕ). IsNumberIn default first least most k) (sym is) number)

-- the number of an option that is required is one of its text
pub number_given : (value : Option Text) (n : ℕ) → IsNumberBy None value n → (t : Text) × (value ≡ Some t) × IsNumber t n
number_given (Some t) n is = (t, refl, is)
number_given None n is = absurd is

-- the text of an option, or else the default's
pub text_or : (o : Option (Bor Text)) (r d : Bor Text) (first : Option Text) (default : Text) → option_map (λ (s : Bor Text). s.now) o ≡ first → r ≡ unwrap_or o d → d.now ≡ default
    → r.now ≡ unwrap_or first default
text_or None r d first default read is at = ap (λ (s : Bor Text). s.now) is ∙ at ∙ ap (λ (f : Option Text). unwrap_or f default) read
text_or (Some x) r d first default read is at = ap (λ (s : Bor Text). s.now) is ∙ ap (λ (f : Option Text). unwrap_or f default) read

pub flag_by : (text read : Option Text) (given : Bool) → text ≡ read → IsFlag text given → IsFlag read given
flag_by text read given same flag = subst (λ (o : Option Text). IsFlag o given) same flag
