mod Asking
mod Creating
mod ServerArguments
