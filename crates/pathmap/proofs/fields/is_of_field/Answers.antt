use Rattle.std.proofs.Common.{string_bytes, ◌∙◌}
use Rattle.pathmap.proofs.FieldTexts.{other_name, same_name}
use Rattle.pathmap.proofs.fields.is_of_field.Goals as goal

pub returns-in-Some : goal.returns-in-Some
returns-in-Some c = c.eq.ensures ∙ same_name (string_bytes c.args.child.now.0) c.in-Some.known.now c.args.name.now c.in-Some.ensures

pub returns-in-None : goal.returns-in-None
returns-in-None c = other_name (string_bytes c.args.child.now.0) c.args.name.now c.in-None.ensures
