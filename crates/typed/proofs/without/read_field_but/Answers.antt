use Rattle.std.proofs.Common.{map, sym, ap, subst, ◌∙◌}
use Rattle.std.specs.Prelude.{option_map}
use Rattle.serde_json.specs.Data.{Data}
use Rattle.serde_json.specs.View.{view}
use Rattle.pathmap.specs.Contents.{Content}
use Rattle.pathmap.specs.Maps.{content}
use Rattle.schema.specs.Shape.{fields_in, shape}
use Rattle.typed.specs.Faults.{Returns, Read, fault_in}
use Rattle.typed.specs.Reading.{content_of_field}
use Rattle.typed.specs.Without.{but}
use Rattle.typed.proofs.KeyFields.{field-at, no_field-at}
use Rattle.typed.proofs.without.read_field_but.Goals as goal

pub returns-in-Some : goal.returns-in-Some
returns-in-Some c =
    let d : Data = but (map (λ n. n.now) c.args.names.now) (view c.args.value.now) in
    subst (λ (r : Read Content). Returns content c.read_but.result r)
    (sym (field-at (fields_in c.args.fields.now) c.args.name.now d (shape c.in-Some.inner.now) (sym c.field_at.ensures ∙ ap (option_map (λ s. shape s.now)) c.in-Some.is)))
    c.read_but.ensures

pub returns-in-None : goal.returns-in-None
returns-in-None c =
    let d : Data = but (map (λ n. n.now) c.args.names.now) (view c.args.value.now) in
    c.wrong.ensures (fault_in (content_of_field (fields_in c.args.fields.now) c.args.name.now d))
    (ap fault_in (no_field-at (fields_in c.args.fields.now) c.args.name.now d (sym c.field_at.ensures ∙ ap (option_map (λ s. shape s.now)) c.in-None.is)))
