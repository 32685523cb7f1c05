-- The parts of a program's command line, as `clap` reads it.
use Rattle.std.specs.Prelude.{◌≡◌, Bool, Option, Some, None, true, false, codes}
use Rattle.clap.specs.Simple.{on_top}
use Rattle.clap.specs.Words.{App, Rule, Text, new_app, new_rule}
use Rattle.clap.specs.declared.builder.action.ArgAction.TheVariants.{Set, SetTrue}

-- a command with a version
abbrev pub versioned : App → App
versioned = on_top (λ s. record s { has_version = true })

-- a command with a name and a version, which has no option yet
abbrev pub program : Text → App
program name = versioned (new_app name)

-- `--<name> <text>`
abbrev pub text_option : Text → Rule
text_option name = record (new_rule name) { long = Some name; action = Some Set; value_names = 1 }

-- the same, which is required
abbrev pub required_option : Text → Rule
required_option name = record (text_option name) { required = true }

-- `--<name> FILE`, which is required
abbrev pub file_option : Text → Rule
file_option = required_option

-- `--<name>`
abbrev pub flag_option : Text → Rule
flag_option name = record (new_rule name) { long = Some name; action = Some SetTrue }

-- whether a flag is given, as the text of its value tells it
abbrev pub IsFlag : Option Text → Bool → Type 0
IsFlag text given = (text ≡ None → given ≡ false) × (text ≡ Some (codes "true") → given ≡ true) × (text ≡ Some (codes "false") → given ≡ false)
