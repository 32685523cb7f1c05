-- What a parse reads of a command is not its texts of help, and of its version only that there is one.
use Rattle.std.proofs.Common.{◌≡◌, ◌∙◌, [], ap, Some}
use Rattle.std.specs.Prelude.{false}
use Rattle.std.specs.Borrow.{Bor}
use Rattle.clap.specs.Simple.{app_of_fields}
use Rattle.clap.specs.Words.{Text, app_of, args_of, groups_of, new_app}
use Rattle.clap.specs.declared.builder.command.Command.{Command}
use Rattle.clap.specs.declared.builder.command.Command.TheOpen.{Command-F}
use Rattle.clap.specs.declared.builder.command.Command.TheViews.{out-Command}
use Rattle.programs.specs.Commands.{program, versioned}

module _ (bare reported numbered noted : Command) (about version notes : Bor Text)
    (reports : out-Command reported ≡ record (out-Command bare) { about = Some about })
    (numbers : out-Command numbered ≡ record (out-Command reported) { version = Some version })
    (notes_on : out-Command noted ≡ record (out-Command numbered) { after_help = Some notes }) where
  pub is_program : (name : Text) → app_of bare ≡ new_app name → app_of noted ≡ program name
  is_program name named = ap app_of_fields notes_on ∙ ap app_of_fields numbers ∙ ap versioned (ap app_of_fields reports ∙ named)

  pub has_no_options : (args_of bare ≡ []) × (groups_of bare ≡ []) → (args_of noted ≡ []) × (groups_of noted ≡ [])
  has_no_options none = (
    ap (λ (f : Command-F Command). f.args.items) notes_on ∙ ap (λ (f : Command-F Command). f.args.items) numbers
        ∙ ap (λ (f : Command-F Command). f.args.items) reports ∙ none.0,
    ap (λ (f : Command-F Command). f.groups.items) notes_on ∙ ap (λ (f : Command-F Command). f.groups.items) numbers
        ∙ ap (λ (f : Command-F Command). f.groups.items) reports ∙ none.1,
  )

  pub is_local : (out-Command bare).has_globals ≡ false → (out-Command noted).has_globals ≡ false
  is_local none =
      ap (λ (f : Command-F Command). f.has_globals) notes_on ∙ ap (λ (f : Command-F Command). f.has_globals) numbers
      ∙ ap (λ (f : Command-F Command). f.has_globals) reports ∙ none

  pub keeps_needs : (out-Command bare).subcommand_negates_reqs ≡ false → (out-Command noted).subcommand_negates_reqs ≡ false
  keeps_needs none =
      ap (λ (f : Command-F Command). f.subcommand_negates_reqs) notes_on ∙ ap (λ (f : Command-F Command). f.subcommand_negates_reqs) numbers
      ∙ ap (λ (f : Command-F Command). f.subcommand_negates_reqs) reports ∙ none
