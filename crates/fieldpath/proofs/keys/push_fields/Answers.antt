use Rattle.std.proofs.Common.{string_bytes}
use Rattle.fieldpath.proofs.KeyFields.{shown_begin, shown_end}
use Rattle.fieldpath.proofs.keys.push_fields.Goals as goal

pub loop-field-init : goal.loop-field-init
loop-field-init c =
    shown_begin (string_bytes c.args.shown.now) (string_bytes c.push_field.new.shown) c.args.fields.now c.in-Some.first.now c.in-Some.rest.now c.in-Some.ensures.cases.0 c.in_ok-push_field.ensures

pub returns : goal.returns
returns c = shown_end (string_bytes c.loop-field.shown) c.loop-field.field-index c.in-Some.rest.now _ c.loop-field-test.false c.loop-field.invariant
