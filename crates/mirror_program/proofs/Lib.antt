mod MirrorArguments
mod Printed
