-- How a play ends, by what ends a part of it.
use Rattle.std.proofs.Common.{◌≡◌, ◌∙◌, ℕ, List, [], Result, Ok, Err, Option, None, Some, ap, refl, subst, sym, inl, inr}
use Rattle.std.specs.Prelude.{◌⊎◌, IfErr, OnErr}
use Rattle.std.specs.Result.{IsErrAnd}
use Rattle.api_types.specs.TypesFile.{ServedShape}
use Rattle.world.specs.FaultViews as worlds
use Rattle.world.specs.declared.fault.WorldFault.{WorldFault}
use Rattle.world.specs.declared.fault.WorldFault.TheVariants as stopped
use Rattle.world_laws.specs.Tasks.{RunSettings, settings_fault}
use Rattle.programs.specs.declared.run_fault.RunFault.TheVariants as run
use Rattle.scripts.specs.Asked.{CanBeHad, Ends, EndsBy, IsGood}
use Rattle.scripts.specs.Parts.{IsOfOutput}
use Rattle.scripts.specs.Piped.{EndsPlaying, IsOfPlay}
use Rattle.scripts.specs.Plays.{Answers, AnswersBy, index_names, replay_fault_of}
use Rattle.scripts.specs.Script.{IsFirstBad}
use Rattle.scripts.specs.Statuses.{replay_fault_reported, script_fault_reported}
use Rattle.scripts.specs.declared.line_fault.LineFault.{LineFault}
use Rattle.scripts.specs.declared.program_fault.ProgramFault.{ProgramFault}
use Rattle.scripts.specs.declared.program_fault.ProgramFault.TheVariants as fault
use Rattle.scripts.specs.declared.replay_fault.ReplayFault.{ReplayFault}
use Rattle.scripts.specs.declared.replay_fault.ReplayFault.TheVariants as replay
use Rattle.scripts.specs.declared.script.ScriptFault.{ScriptFault}
use Rattle.scripts.specs.declared.script.ScriptFault.TheVariants as script

-- what holds anyway holds where it fails
pub where_it_fails : {T E P : Type 0} (r : Result T E) → P → OnErr r P
where_it_fails (Ok x) p = tt
where_it_fails (Err e) p = p

-- ---- a run

run_answers : (A : Type 0) (f : WorldFault) (number : Option ℕ) → worlds.Answers {A = A} number (Err f) → AnswersBy number (replay_fault_of f)
run_answers A stopped.Memory number is = tt
run_answers A stopped.Store number is = is
run_answers A (stopped.Settings n) number is = is
run_answers A stopped.Link number is = is

-- a fault of a run refuses the settings as the run does
pub answers_by_run : {T : Type 0} (A : Type 0) (r : Result T ReplayFault) (f : WorldFault) (number : Option ℕ) → IsErrAnd r (λ e. e ≡ replay_fault_of f) → worlds.Answers {A = A} number (Err f) → Answers number r
answers_by_run A (Ok x) f number given is = absurd given
answers_by_run A (Err e) f number given is = subst (AnswersBy number) (sym given) (run_answers A f number is)

abbrev replay_error : {T : Type 0} → Result T ReplayFault → ReplayFault
replay_error (Ok x) = replay.Memory
replay_error (Err e) = e

run_blames : (f : WorldFault) → (f ≡ stopped.Link → ⊥) → replay_fault_of f ≡ replay.Link → ⊥
run_blames stopped.Memory isnt is = cc
run_blames stopped.Store isnt is = cc
run_blames (stopped.Settings n) isnt is = cc
run_blames stopped.Link isnt is = isnt refl

-- what is no failure of the link is told as none
pub run_spares_link : {T : Type 0} (r : Result T ReplayFault) (f : WorldFault) → IsErrAnd r (λ e. e ≡ replay_fault_of f) → (f ≡ stopped.Link → ⊥) → r ≡ Err replay.Link → ⊥
run_spares_link (Ok x) f given isnt is = absurd given
run_spares_link (Err e) f given isnt is = run_blames f isnt (sym given ∙ ap replay_error is)

-- out of memory is told of no settings
pub answers_out_of_memory : {T : Type 0} (r : Result T ReplayFault) (number : Option ℕ) → IsErrAnd r (λ e. e ≡ replay.Memory) → Answers number r
answers_out_of_memory (Ok x) number given = absurd given
answers_out_of_memory (Err e) number given = subst (AnswersBy number) (sym given) tt

-- ---- printing

-- a fault that is handed on
pub output_as : {T : Type 0} (r : Result T ReplayFault) (f : ReplayFault) → IsErrAnd r (λ e. e ≡ f) → IsOfOutput f → IfErr r IsOfOutput
output_as (Ok x) f given is = absurd given
output_as (Err e) f given is = subst IsOfOutput (sym given) is

-- it is told of no settings
pub answers_output : {T : Type 0} (r : Result T ReplayFault) (number : Option ℕ) → IfErr r IsOfOutput → number ≡ None → Answers number r
answers_output (Ok x) number is none = none
answers_output (Err replay.Memory) number is none = tt
answers_output (Err replay.Store) number is none = absurd is
answers_output (Err (replay.Settings n)) number is none = absurd is
answers_output (Err replay.Link) number is none = absurd is
answers_output (Err (replay.Write e)) number is none = none

pub output_spares_link : {T : Type 0} (r : Result T ReplayFault) → IfErr r IsOfOutput → r ≡ Err replay.Link → ⊥
output_spares_link (Ok x) is same = cc
output_spares_link (Err e) is same = subst IsOfOutput (ap replay_error same) is

-- ---- a play

module _ (types : List ServedShape) (asked : Option RunSettings) (lines : List (List ℕ)) where
  -- a fault that is handed on
  pub ends_as : {A : Type 0} (r : Result A ProgramFault) (f : ProgramFault) → IsErrAnd r (λ x. x ≡ f) → EndsBy types asked lines f → Ends types asked lines r
  ends_as (Ok x) f given is = absurd given
  ends_as (Err x) f given is = subst (EndsBy types asked lines) (sym given) is

  pub ends_reading : (f : ScriptFault) → ((n : ℕ) (why : LineFault) → f ≡ script.BadEvent n why → IsFirstBad lines n) → EndsBy types asked lines (script_fault_reported f)
  ends_reading (script.BadEvent n why) bad = bad n why refl
  ends_reading script.Memory bad = tt

  pub ends_asking : (f : ProgramFault) → IsGood lines → (f ≡ fault.Run run.Memory) ⊎ ((f ≡ fault.NoType) × (asked ≡ None)) → EndsBy types asked lines f
  ends_asking f good is = elim is [
    | inl out_of_memory ↦ subst (EndsBy types asked lines) (sym out_of_memory) tt
    | inr unserved ↦ subst (EndsBy types asked lines) (sym unserved.0) (good, unserved.1)
  ]

  pub ends_playing : (f : ReplayFault) (s : RunSettings) → IsGood lines → asked ≡ Some s → AnswersBy (settings_fault types index_names s) f → EndsBy types asked lines (replay_fault_reported f)
  ends_playing replay.Memory s good are answers = tt
  ends_playing replay.Store s good are answers = (good, (s, are, answers))
  ends_playing (replay.Settings n) s good are answers = (good, (s, are, answers))
  ends_playing replay.Link s good are answers = (good, (s, are, answers))
  ends_playing (replay.Write e) s good are answers = (good, (s, are, answers))

-- ---- the link

abbrev program_error : {T : Type 0} → Result T ProgramFault → ProgramFault
program_error (Ok x) = fault.Form
program_error (Err e) = e

pub spares_link : {T : Type 0} (r : Result T ProgramFault) (f : ProgramFault) → IsErrAnd r (λ e. e ≡ f) → (f ≡ fault.Link → ⊥) → r ≡ Err fault.Link → ⊥
spares_link (Ok x) f given isnt is = absurd given
spares_link (Err e) f given isnt is = isnt (sym given ∙ ap program_error is)

pub reading_spares_link : (f : ScriptFault) → script_fault_reported f ≡ fault.Link → ⊥
reading_spares_link (script.BadEvent n why) is = cc
reading_spares_link script.Memory is = cc

pub asking_spares_link : {X : Type 0} (f : ProgramFault) → (f ≡ fault.Run run.Memory) ⊎ ((f ≡ fault.NoType) × X) → f ≡ fault.Link → ⊥
asking_spares_link f why is = elim why [
  | inl out_of_memory ↦ bad (sym out_of_memory ∙ is)
  | inr unserved ↦ bad_type (sym unserved.0 ∙ is)
]
  where
    bad : fault.Run run.Memory ≡ fault.Link → ⊥
    bad e = cc

    bad_type : fault.NoType ≡ fault.Link → ⊥
    bad_type e = cc

pub playing_spares_link : (f : ReplayFault) → (f ≡ replay.Link → ⊥) → replay_fault_reported f ≡ fault.Link → ⊥
playing_spares_link replay.Memory isnt is = cc
playing_spares_link replay.Store isnt is = cc
playing_spares_link (replay.Settings n) isnt is = cc
playing_spares_link replay.Link isnt is = isnt refl
playing_spares_link (replay.Write e) isnt is = cc

-- ---- lines that are answered one by one

play_fails : (f : ReplayFault) → AnswersBy None f → IsOfPlay (replay_fault_reported f)
play_fails replay.Memory is = tt
play_fails replay.Store is = tt
play_fails (replay.Settings n) is = absurd cc
play_fails replay.Link is = tt
play_fails (replay.Write e) is = tt

-- what ends a play of settings without a fault
pub fails_playing : {A : Type 0} (r : Result A ProgramFault) (f : ReplayFault) → IsErrAnd r (λ x. x ≡ replay_fault_reported f) → AnswersBy None f → EndsPlaying r
fails_playing (Ok x) f given is = tt
fails_playing (Err e) f given is = subst IsOfPlay (sym given) (play_fails f is)

-- a fault that is handed on
pub fails_as : {A : Type 0} (r : Result A ProgramFault) (f : ProgramFault) → IsErrAnd r (λ x. x ≡ f) → IsOfPlay f → EndsPlaying r
fails_as (Ok x) f given is = tt
fails_as (Err e) f given is = subst IsOfPlay (sym given) is

-- with no lines the settings have been checked all the same
pub ends_piping : (types : List ServedShape) (asked : Option RunSettings) (e : ProgramFault) → IsOfPlay e → CanBeHad types asked → EndsBy types asked [] e
ends_piping types asked (fault.Run run.Memory) is had = tt
ends_piping types asked (fault.Run run.Store) is had = (([], tt), had)
ends_piping types asked (fault.Run (run.Output x)) is had = (([], tt), had)
ends_piping types asked (fault.Run (run.Arguments x)) is had = absurd is
ends_piping types asked (fault.Run run.NotText) is had = absurd is
ends_piping types asked (fault.Run (run.Number o)) is had = absurd is
ends_piping types asked (fault.Run (run.TypesFile p x)) is had = absurd is
ends_piping types asked (fault.Run (run.TypesText p x)) is had = absurd is
ends_piping types asked (fault.Run (run.Types x)) is had = absurd is
ends_piping types asked (fault.Run (run.Port n x)) is had = absurd is
ends_piping types asked fault.Form is had = absurd is
ends_piping types asked (fault.ScriptFile p x) is had = absurd is
ends_piping types asked (fault.Script n why) is had = absurd is
ends_piping types asked fault.NoType is had = absurd is
ends_piping types asked (fault.Settings n) is had = absurd is
ends_piping types asked fault.Link is had = (([], tt), had)
ends_piping types asked (fault.Input x) is had = (([], tt), had)

pub ends_all : {A : Type 0} (types : List ServedShape) (asked : Option RunSettings) (r : Result A ProgramFault) → EndsPlaying r → CanBeHad types asked → Ends types asked [] r
ends_all types asked (Ok x) is had = (([], tt), had)
ends_all types asked (Err e) is had = ends_piping types asked e is had
