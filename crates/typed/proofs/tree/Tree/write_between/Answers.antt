use Rattle.std.proofs.Common.{OnOk, ◌∙◌, ap, false, option_map, refl, subst, sym}
use Rattle.json_texts.specs.Writing.{AppendsMembers}
use Rattle.pathmap.specs.Maps.{content}
use Rattle.schema.specs.Shape.{fields_in, struct_of}
use Rattle.typed.specs.Between.{fields_between, then_fields}
use Rattle.typed.specs.Fitting.{IsContent}
use Rattle.typed.proofs.Fitting.{content_well_typed}
use Rattle.typed.proofs.Rows.{struct_fits}
use Rattle.typed.proofs.Wholes.{weaker}
use Rattle.typed.proofs.Writes.{closed, fields_closed}
use Rattle.typed.proofs.tree.Tree.write_between.Goals as goal

pub returns : goal.returns
returns c = λ formed is_content.
    let all = fields_in c.args.fields.now in
    let s = struct_of all false in
    let whole = content c.self.inside.map in
    let fits = struct_fits all false whole refl (formed, content_well_typed s formed whole (subst (IsContent s) (sym c.self.view_is) is_content)) in
    let some = fields_between (option_map (λ b. b.now) c.args.low) (option_map (λ b. b.now) c.args.high) all in
    subst (λ d. OnOk c.write_fields.result (AppendsMembers (then_fields some d) c.args.out.now c.write_fields.new.out)) c.self.view_is
    (weaker c.write_fields.result (λ wrote rest. ap (closed rest) wrote ∙ fields_closed some whole c.args.out.now rest) (c.write_fields.ensures fits))
