use Rattle.std.proofs.Common.{◌≡◌, drop}
use Rattle.std.specs.List.{list_all}
use Rattle.fieldpath.specs.Scalars.{key_fields}
use Rattle.schema.specs.KeyFields.{fits_key}
use Rattle.schema.specs.KeyNames.{names_in}
use Rattle.schema.specs.Shape.{fields_in}
use Rattle.schema.proofs.step.fit_each.Given as goal

abbrev pub invariant-loop-key : goal.invariant-loop-key
invariant-loop-key l = list_all (fits_key (names_in l.names) (fields_in l.fields)) (key_fields (drop l.key-index l.keys)) ≡ list_all (fits_key (names_in l.names) (fields_in l.fields)) (key_fields l.keys)
