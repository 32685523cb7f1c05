use Rattle.std.proofs.Common.{◌≡◌, ◌++◌, drop, string_bytes}
use Rattle.fieldpath.specs.Elements.{shown_keys}
use Rattle.fieldpath.specs.Scalars.{key_fields}
use Rattle.fieldpath.proofs.KeyFields.{shown_rest}
use Rattle.fieldpath.proofs.keys.push_fields.Given as goal

abbrev pub invariant-loop-field : goal.invariant-loop-field
invariant-loop-field l = string_bytes l.shown ++ shown_rest (key_fields (drop l.field-index l.rest)) ≡ string_bytes l.fn.shown ++ shown_keys (key_fields l.fields)
