use Rattle.std.proofs.Common.{Global, ◌∙◌, ap, string_bytes, sym, true≢false}
use Rattle.std.specs.Cmp.Lexicographic.{bytes_decides}
use Rattle.json.specs.Value.{value_view}
use Rattle.json_texts.specs.InOrder.{data_of}
use Rattle.schema.specs.Shape.{shape}
use Rattle.objects.specs.ObjectText.{object_text}
use Rattle.objects.specs.Views.{identity_of, state_of, stored_stamp}
use Rattle.objects.proofs.Answered.{handed, unread, no_parts, not_leaf_value, not_printed, read_back}
use Rattle.objects.proofs.owned.Owned.from_object.Goals as goal

pub returns-in_err-value : goal.returns-in_err-value
returns-in_err-value c = λ shaped.
    let s = shape c.args.schema.now in
    let of = identity_of c.args.of in
    let t = c.args.text.now in
    let e = c.in_err-value.field-0.0 in
    handed s of t c.from_residual.result e c.from_residual.ensures.1 (unread s of t shaped (λ v. data_of (value_view {A = Global} v)) e c.in_err-value.ensures.value)

pub returns-in_err-stored : goal.returns-in_err-stored
returns-in_err-stored c = λ shaped.
    let s = shape c.args.schema.now in
    let of = identity_of c.args.of in
    let t = c.args.text.now in
    let e = c.in_err-stored.field-0.0 in
    handed s of t c.from_residual-in_err-stored.result e c.from_residual-in_err-stored.ensures.1
    (no_parts s of t shaped (data_of (value_view c.in_ok-value.value)) c.in_ok-value.ensures.value e c.in_err-stored.ensures)

pub returns-then-not-owned_stand : goal.returns-then-not-owned_stand
returns-then-not-owned_stand c = λ shaped.
    not_leaf_value (shape c.args.schema.now) (identity_of c.args.of) c.args.text.now shaped (data_of (value_view c.in_ok-value.value)) c.in_ok-value.ensures.value (state_of c.in_ok-stored.stored.owned) (stored_stamp c.in_ok-stored.stored) c.in_ok-stored.ensures
    (λ stand. true≢false (sym (c.owned_stand.ensures.1 stand) ∙ c.if-not-owned_stand.true))

pub returns-then-are_same : goal.returns-then-are_same
returns-then-are_same c = λ shaped.
    read_back (shape c.args.schema.now) (identity_of c.args.of) c.args.text.now shaped (data_of (value_view c.in_ok-value.value)) (state_of c.in_ok-stored.stored.owned) (stored_stamp c.in_ok-stored.stored) (string_bytes c.in_ok-printed.printed) c.in_ok-value.ensures.value c.in_ok-stored.ensures
    (c.owned_stand.ensures.0 c.if-not-owned_stand.false) (λ lawful content. c.in_ok-printed.ensures lawful content ∙ ap (λ v. object_text (shape c.args.schema.now) (identity_of c.args.of) v (state_of c.in_ok-stored.stored.owned)) c.stamp-stamp.ensures)
    (sym c.as_str.ensures.value ∙ (bytes_decides c.as_str.result.now c.args.text.now).0 (sym c.are_same.ensures ∙ c.if-are_same.true))

pub returns : goal.returns
returns c = λ shaped.
    not_printed (shape c.args.schema.now) (identity_of c.args.of) c.args.text.now shaped (data_of (value_view c.in_ok-value.value)) c.in_ok-value.ensures.value (state_of c.in_ok-stored.stored.owned) (stored_stamp c.in_ok-stored.stored) c.in_ok-stored.ensures
    (string_bytes c.in_ok-printed.printed) (λ lawful content. c.in_ok-printed.ensures lawful content ∙ ap (λ v. object_text (shape c.args.schema.now) (identity_of c.args.of) v (state_of c.in_ok-stored.stored.owned)) c.stamp-stamp.ensures)
    (λ same. true≢false (sym ((bytes_decides c.as_str.result.now c.args.text.now).1 (c.as_str.ensures.value ∙ same)) ∙ sym c.are_same.ensures ∙ c.if-are_same.false))
