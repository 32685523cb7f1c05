-- What is told of a query whose parameters were refused.
use Rattle.std.specs.Prelude.{ℕ, List, ◌++◌, codes}
use Rattle.params.specs.declared.fault.ParamsFault.{ParamsFault}
use Rattle.params.specs.declared.fault.ParamsFault.TheVariants.{Bad, Memory}
use Rattle.params.specs.Parameters.{name_of}

abbrev pub fault_text : ParamsFault → List ℕ
fault_text (Bad parameter) = codes "bad parameter: " ++ name_of parameter
fault_text Memory = codes "out of memory"
