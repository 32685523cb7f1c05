use Rattle.std.proofs.Common.{◌≡◌, take}
use Rattle.fieldpath.specs.Scalars.{key_fields}
use Rattle.fieldpath.proofs.keys.copy_fields.Given as goal

abbrev pub invariant-loop-name : goal.invariant-loop-name
invariant-loop-name l = key_fields l.copy.items ≡ key_fields (take l.name-index l.fields)
