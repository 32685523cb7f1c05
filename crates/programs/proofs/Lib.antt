pub mod OptionValues
mod CommandParts
mod Cuts
mod Refusals
mod TypesText
