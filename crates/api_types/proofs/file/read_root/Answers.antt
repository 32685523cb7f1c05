use Rattle.std.proofs.Common.{◌≡◌, false, codes, ap, ap₂, ◌∙◌, subst, sym}
use Rattle.schema.specs.ObjectShape.{IsObjectShape}
use Rattle.schema.specs.Shape.{struct_of, fields_in}
use Rattle.api_types.specs.Profiles.{metadata_of}
use Rattle.api_types.specs.TypesFile.{put_field}
use Rattle.api_types.proofs.ObjectShapes.{object_shape}
use Rattle.schema.proofs.Shapes.{shape-Struct}
use Rattle.api_types.proofs.file.read_root.Goals as goal

pub returns-clause-kept : goal.returns-clause-kept
returns-clause-kept c =
    let all = fields_in c.in_ok-fields.fields.items in
    let put : fields_in c.put_field.new.fields.items ≡ put_field (codes "metadata") (metadata_of c.args.profile) all =
    c.in_ok-put_field.ensures ∙ ap₂ (λ n s. put_field n s all) c.in_ok-from_str.ensures.ok c.in_ok-metadata.ensures in
    subst IsObjectShape (sym (shape-Struct c.put_field.new.fields false ∙ ap (λ fs. struct_of fs false) put)) (object_shape c.args.profile all c.in_ok-fields.ensures.kept c.in_ok-fields.ensures.apart)
