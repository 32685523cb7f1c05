-- What is told of a text that is no selector.
use Rattle.std.specs.Prelude.{ℕ, List, ◌++◌, codes}
use Rattle.selector.specs.declared.fault.Fault.{Fault}
use Rattle.selector.specs.declared.fault.Fault.TheVariants.{EmptyPart, BadKey, BadValue, Bracket}
use Rattle.selector.specs.declared.fault.ReadError.{ReadError}
use Rattle.selector.specs.declared.fault.ReadError.TheVariants as errors

abbrev pub fault_text : Fault → List ℕ
fault_text EmptyPart = codes "a part is empty"
fault_text BadKey = codes "a key is not a label's"
fault_text BadValue = codes "a value is not a label's"
fault_text Bracket = codes "a bracket is misplaced"

abbrev pub error_text : ReadError → List ℕ
error_text (errors.Fault f) = codes "bad selector: " ++ fault_text f
error_text errors.Memory = codes "out of memory"
