use Rattle.std.proofs.Common.{◌≡◌, Option, OnOk, ap, sym, subst, ◌∙◌, option_map}
use Rattle.std.specs.Prelude.{option_and_then}
use Rattle.pathmap.specs.Contents.{LeafValue}
use Rattle.pathmap.specs.Maps.{leaf_value}
use Rattle.typed.specs.Printing.{value_of}
use Rattle.typed.specs.Rows.{IsWritable}
use Rattle.typed.specs.Writes.{with_value}
use Rattle.typed.proofs.pushing.push_top.Goals as goal

pub returns-in-Some : goal.returns-in-Some
returns-in-Some c =
    subst (λ (o : Option LeafValue). IsWritable o → OnOk c.push_held.result (c.push_held.new.out ≡ with_value (option_and_then value_of o) c.args.out.now))
    (sym (sym c.held.ensures ∙ ap (option_map (λ h. leaf_value h.now)) c.in-Some.is)) c.push_held.ensures

pub returns-in-None : goal.returns-in-None
returns-in-None c = λ writable. sym (ap (λ o. with_value (option_and_then value_of o) c.args.out.now) (sym c.held.ensures ∙ ap (option_map (λ h. leaf_value h.now)) c.in-None.is))
