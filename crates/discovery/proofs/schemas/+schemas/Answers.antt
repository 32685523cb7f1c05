use Rattle.std.proofs.Common.{OnOk, [], ◌∷◌, ap, refl, string_bytes, subst, sym}
use Rattle.std.proofs.lemmas.Result.{on_ok_weaker}
use Rattle.json.specs.Json.{member}
use Rattle.json.specs.Token.{key}
use Rattle.schema.specs.Shape.{fields_in, shape}
use Rattle.schema.proofs.Shapes.{struct_is}
use Rattle.discovery.specs.OpenApi.{properties_of, schema_of}
use Rattle.discovery.specs.Writing.{AddsValue}
use Rattle.discovery.proofs.Appended.{member_added, same_added, then_added}
use Rattle.discovery.proofs.Loops.{members_end, members_next}
use Rattle.discovery.proofs.schemas.+schemas.Goals as goal

pub put_properties-loop-name-preserved : goal.put_properties-loop-name-preserved
put_properties-loop-name-preserved t c =
    let x = c.loop-name-item.result in
    let w = c.loop-name.writer in
    let m = c.put.new.writer in
    let n = c.put_schema.new.writer in
    let k = string_bytes x.0 in
    let j = schema_of (shape x.1) in
    let named = same_added _ (key k ∷ []) w m (ap (λ s. key s ∷ []) c.as_str.ensures.value) c.in_ok-put.ensures in
    members_next (λ ys. properties_of (fields_in ys)) c.args.fields.now c.args.writer.now c.loop-name.name-index (member k j) x refl c.loop-name-test.true c.loop-name-item.is w n c.loop-name.invariant
    (member_added k j w m n named c.in_ok-put_schema.ensures)

pub put_properties-returns : goal.put_properties-returns
put_properties-returns t c =
    on_ok_weaker c.put-2.result
    (λ ended. members_end (λ ys. properties_of (fields_in ys)) c.args.fields.now c.args.writer.now c.loop-name.name-index refl c.loop-name-test.false c.loop-name.writer c.put-2.new.writer c.loop-name.invariant ended)
    c.put-2.ensures

pub put_struct-returns : goal.put_struct-returns
put_struct-returns t c =
    let w0 = c.args.writer.now in
    let w1 = c.begin.new.writer in
    let w2 = c.put.new.writer in
    let w3 = c.put_properties.new.writer in
    let w4 = c.put_map_type.new.writer in
    on_ok_weaker c.put_map_type.result
    (λ ended. then_added _ _ w0 w1 w4 c.in_ok-begin.ensures (then_added _ _ w1 w2 w4 c.in_ok-put.ensures (then_added _ _ w2 w3 w4 c.in_ok-put_properties.ensures ended))) c.put_map_type.ensures

pub put_map-returns : goal.put_map-returns
put_map-returns t c =
    let w0 = c.args.writer.now in
    let w1 = c.begin.new.writer in
    let w2 = c.put_schema.new.writer in
    let w3 = c.put_map_type.new.writer in
    on_ok_weaker c.put_map_type.result (λ ended. then_added _ _ w0 w1 w3 c.in_ok-begin.ensures (then_added _ _ w1 w2 w3 c.in_ok-put_schema.ensures ended)) c.put_map_type.ensures

pub put_list-returns : goal.put_list-returns
put_list-returns t c =
    let w0 = c.args.writer.now in
    let w1 = c.begin.new.writer in
    let w2 = c.put_schema.new.writer in
    let w3 = c.put_list_kind.new.writer in
    on_ok_weaker c.put_list_kind.result (λ ended. then_added _ _ w0 w1 w3 c.in_ok-begin.ensures (then_added _ _ w1 w2 w3 c.in_ok-put_schema.ensures ended)) c.put_list_kind.ensures

pub put_schema-returns-in-Struct : goal.put_schema-returns-in-Struct
put_schema-returns-in-Struct t c =
    subst (λ s. OnOk c.put_struct.result (AddsValue (schema_of s) c.args.writer.now c.put_struct.new.writer))
    (sym (struct_is c.args.schema.now c.in-Struct.fields c.in-Struct.is_atomic c.deref.result.now c.in-Struct.is c.deref.ensures.value)) c.put_struct.ensures
