use Rattle.std.proofs.Common.{refl, string_bytes, subst}
use Rattle.std.proofs.lemmas.Result.{on_ok_weaker}
use Rattle.schema.specs.Shape.{fields_in, shape}
use Rattle.discovery.specs.OpenApi.{add_field, own_fields}
use Rattle.discovery.specs.Writing.{AddsMembers}
use Rattle.discovery.proofs.Loops.{members_end, members_next}
use Rattle.discovery.proofs.type_schema.put_fields.Goals as goal

pub loop-name-preserved : goal.loop-name-preserved
loop-name-preserved c =
    let x = c.loop-name-item.result in
    let w = c.loop-name.writer in
    let n = c.add_field.new.writer in
    members_next (λ ys. own_fields (fields_in ys)) c.args.fields.now c.args.writer.now c.loop-name.name-index (add_field (string_bytes x.0) (shape x.1)) x refl c.loop-name-test.true c.loop-name-item.is w n
    c.loop-name.invariant (subst (λ k. AddsMembers (add_field k (shape x.1)) w n) c.as_str.ensures.value c.in_ok-add_field.ensures)

pub returns : goal.returns
returns c =
    on_ok_weaker c.put.result
    (λ ended. members_end (λ ys. own_fields (fields_in ys)) c.args.fields.now c.args.writer.now c.loop-name.name-index refl c.loop-name-test.false c.loop-name.writer c.put.new.writer c.loop-name.invariant ended)
    c.put.ensures
