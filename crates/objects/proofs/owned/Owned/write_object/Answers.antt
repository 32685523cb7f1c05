use Rattle.std.proofs.Common.{ap, ap₂, sym, ◌∙◌, subst, false}
use Rattle.std.proofs.lemmas.Result.{on_ok_weaker}
use Rattle.serde_json.specs.Data.{object}
use Rattle.serde_json.specs.Written.{compact_text, has_float, members_have_float}
use Rattle.json_texts.specs.Writing.{with_text}
use Rattle.schema.specs.Lawful.{is_lawful}
use Rattle.schema.specs.Shape.{Shape, fields_in, struct_of}
use Rattle.typed.specs.Fitting.{IsContent}
use Rattle.typed.specs.Printing.{print}
use Rattle.objects.specs.ObjectText.{metadata_members, metadata_of, object_text}
use Rattle.objects.specs.Views.{identity_of, stamp_of, state_of}
use Rattle.objects.proofs.Textual.{metadata_clean, metadata_members_fine}
use Rattle.objects.proofs.Wholly.{struct_written, well_formed}
use Rattle.objects.proofs.owned.Owned.write_object.Goals as goal

pub returns : goal.returns
returns c = λ lawful content members.
    let all = fields_in c.in-Some.fields.now in
    let s = struct_of all false in
    let is = c.in-Some.ensures.there in
    let of = identity_of c.args.envelope.of in
    let stamp = stamp_of c.args.envelope.stamp in
    let state = state_of c.args.self.now in
    let lawful_here = ap is_lawful (sym is) ∙ lawful in
    let content_here = subst (λ (x : Shape). IsContent x state.content) is content in
    let members_here = members ∙ ap (λ (x : Shape). metadata_members (print x state.content)) is in
    let fine = metadata_members_fine s lawful_here of stamp state content_here in
    let clean = ap members_have_float members_here ∙ fine.2 in
    let whole = ap₂ (λ x ms. has_float (object (metadata_of x of stamp state.owners ms))) is members_here ∙ metadata_clean s lawful_here of stamp state.owners _ fine.2 in
    let formed = well_formed s lawful_here in
    let three = c.name.new.self in
    let value = c.in_ok-write_metadata.ensures clean whole ∙ ap₂ (λ x ms. with_text (compact_text (object (metadata_of x of stamp state.owners ms))) three) is members_here in
    on_ok_weaker c.end_object.result (λ closed. struct_written all of stamp state formed c.args.out.now c.begin_object.new.self c.write_type.new.out three c.write_metadata.new.out c.write_between.new.out c.end_object.new.self
    c.in_ok-begin_object.ensures (c.in_ok-write_type.ensures formed content_here) c.in_ok-name.ensures value (c.in_ok-write_between.ensures formed content_here) closed
    ∙ ap (λ x. with_text (object_text x of stamp state) c.args.out.now) (sym is)) c.end_object.ensures
