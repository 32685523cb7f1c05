use Rattle.std.proofs.Common.{◌≡◌, drop}
use Rattle.schema.specs.Becoming.{fields_become}
use Rattle.schema.specs.Shape.{fields_in}
use Rattle.api_types.proofs.becoming.+becomes.Given as goal

-- what is said of the fields that are left is said of all
abbrev pub invariant-fields_become-loop-name :
    goal.invariant-fields_become-loop-name
invariant-fields_become-loop-name l =
    fields_become l.rises (fields_in (drop l.name-index l.fields)) (fields_in l.left) ≡ fields_become l.rises (fields_in l.fields) (fields_in l.others)
