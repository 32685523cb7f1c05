use Rattle.std.proofs.Common.{ℕ, List, [], Ok, map, sym, subst, ap, ◌∙◌}
use Rattle.std.proofs.lemmas.List.{drop_all}
use Rattle.std.proofs.lemmas.Result.{err_from_is_err_and}
use Rattle.serde_json.specs.Data.{Data, object, array}
use Rattle.serde_json.specs.View.{items_view, members_view, view}
use Rattle.serde_json.proofs.Views.{view-Array, view-Object}
use Rattle.schema.specs.Shape.{fields_in, kind_of, shape}
use Rattle.typed.specs.Faults.{Returns, Read, ReportsFault, fault_in, below}
use Rattle.typed.specs.Reading.{plain_item, plain_items, plain_members, plain_of, plain_of_field}
use Rattle.typed.proofs.Faults.{passed_on, reports-within}
use Rattle.typed.proofs.Plains.{ended, items_ended, items_failed, items_taken, skip_null, take_in}
use Rattle.typed.proofs.Shapes.{plain_struct, plain_map, plain_list}
use Rattle.typed.proofs.plain.+plain.Goals as goal

pub plain_fields-loop-name-preserved-in-Continue-1 :
    goal.plain_fields-loop-name-preserved-in-Continue-1
plain_fields-loop-name-preserved-in-Continue-1 t c =
    let inner : List ℕ → Data → Read Data = λ k d. plain_of_field (fields_in c.args.fields.now) k d in
    take_in inner (plain_members inner (members_view c.args.members.now.entries)) (members_view c.loop-name.plain.entries) c.loop-name.name-iterator (c.in-Some.name.now, c.in-Some.member.now) c.next.new.self c.in-Some.ensures.steps c.loop-name.invariant
    c.as_str-text.result.now c.as_str-text.ensures.value (sym c.is_null.ensures ∙ c.if-not-is_null.true) (members_view c.put_member.new.members.entries)
    (c.in_ok-put_member.ensures (plain_of_field (fields_in c.args.fields.now) c.as_str-text.result.now (view c.in-Some.member.now)) c.plain_field-read.ensures)

pub plain_fields-loop-name-preserved : goal.plain_fields-loop-name-preserved
plain_fields-loop-name-preserved t c =
    let inner : List ℕ → Data → Read Data = λ k d. plain_of_field (fields_in c.args.fields.now) k d in
    skip_null inner (plain_members inner (members_view c.args.members.now.entries)) (members_view c.loop-name.plain.entries) c.loop-name.name-iterator (c.in-Some.name.now, c.in-Some.member.now) c.next.new.self c.in-Some.ensures.steps c.loop-name.invariant
    (sym c.is_null.ensures ∙ c.if-not-is_null.false)

pub plain_fields-returns : goal.plain_fields-returns
plain_fields-returns t c =
    ended (λ k d. plain_of_field (fields_in c.args.fields.now) k d) (members_view c.loop-name.plain.entries) c.loop-name.name-iterator (plain_members (λ k d. plain_of_field (fields_in c.args.fields.now) k d) (members_view c.args.members.now.entries)) c.in-None.ensures.steps.0 c.loop-name.invariant.0

pub plain_values-loop-name-preserved-in-Continue-1 :
    goal.plain_values-loop-name-preserved-in-Continue-1
plain_values-loop-name-preserved-in-Continue-1 t c =
    let inner : List ℕ → Data → Read Data = λ k d. plain_of (shape c.args.inner.now) d in
    take_in inner (plain_members inner (members_view c.args.members.now.entries)) (members_view c.loop-name.plain.entries) c.loop-name.name-iterator (c.in-Some.name.now, c.in-Some.member.now) c.next.new.self c.in-Some.ensures.steps c.loop-name.invariant
    c.as_str-text.result.now c.as_str-text.ensures.value (sym c.is_null.ensures ∙ c.if-not-is_null.true) (members_view c.put_member.new.members.entries)
    (c.in_ok-put_member.ensures (plain_of (shape c.args.inner.now) (view c.in-Some.member.now)) c.read_plain-read.ensures)

pub plain_values-loop-name-preserved : goal.plain_values-loop-name-preserved
plain_values-loop-name-preserved t c =
    let inner : List ℕ → Data → Read Data = λ k d. plain_of (shape c.args.inner.now) d in
    skip_null inner (plain_members inner (members_view c.args.members.now.entries)) (members_view c.loop-name.plain.entries) c.loop-name.name-iterator (c.in-Some.name.now, c.in-Some.member.now) c.next.new.self c.in-Some.ensures.steps c.loop-name.invariant
    (sym c.is_null.ensures ∙ c.if-not-is_null.false)

pub plain_values-returns : goal.plain_values-returns
plain_values-returns t c =
    ended (λ k d. plain_of (shape c.args.inner.now) d) (members_view c.loop-name.plain.entries) c.loop-name.name-iterator (plain_members (λ k d. plain_of (shape c.args.inner.now) d) (members_view c.args.members.now.entries)) c.in-None.ensures.steps.0 c.loop-name.invariant.0

pub plain_list-loop-place-preserved : goal.plain_list-loop-place-preserved
plain_list-loop-place-preserved t c =
    let inner : Data → Read Data = plain_item (kind_of c.args.kind.now) (λ e. plain_of (shape c.args.inner.now) e) (λ ms. plain_of (shape c.args.inner.now) (object ms)) in
    let pushed = c.in_ok-push_item.ensures (inner (view c.index-items-place.result)) c.plain_one-read.ensures in
    items_taken inner (map view c.loop-place.plain.items) c.args.items.now c.loop-place.place c.index-items-place.result c.loop-place-test.true (plain_items inner 0 (items_view c.args.items.now)) c.loop-place.invariant c.index-items-place.is
    pushed.0 (map view c.push_item.new.items.items) pushed.1 pushed.2

pub plain_list-returns-in_err-push_item : goal.plain_list-returns-in_err-push_item
plain_list-returns-in_err-push_item t c =
    let inner : Data → Read Data = plain_item (kind_of c.args.kind.now) (λ e. plain_of (shape c.args.inner.now) e) (λ ms. plain_of (shape c.args.inner.now) (object ms)) in
    let p = err_from_is_err_and c.from_residual.result c.from_residual.ensures.1 in
    passed_on (λ v. items_view v.items) p.0 c.in_err-push_item.field-0.0 c.from_residual.result _ p.1 p.2
    (items_failed inner (map view c.loop-place.plain.items) c.args.items.now c.loop-place.place c.index-items-place.result c.loop-place-test.true (plain_items inner 0 (items_view c.args.items.now)) c.loop-place.invariant c.index-items-place.is
    c.in_err-push_item.field-0.0 (c.in_err-push_item.ensures (inner (view c.index-items-place.result)) c.plain_one-read.ensures))

pub plain_list-returns : goal.plain_list-returns
plain_list-returns t c =
    items_ended (plain_item (kind_of c.args.kind.now) (λ e. plain_of (shape c.args.inner.now) e) (λ ms. plain_of (shape c.args.inner.now) (object ms))) (map view c.loop-place.plain.items) c.args.items.now c.loop-place.place
    (plain_items (plain_item (kind_of c.args.kind.now) (λ e. plain_of (shape c.args.inner.now) e) (λ ms. plain_of (shape c.args.inner.now) (object ms))) 0 (items_view c.args.items.now)) (drop_all c.loop-place.place c.args.items.now c.loop-place-test.false) c.loop-place.invariant

pub plain_one-returns-in_err-check_item : goal.plain_one-returns-in_err-check_item
plain_one-returns-in_err-check_item t c =
    let p = err_from_is_err_and c.from_residual.result c.from_residual.ensures.1 in
    passed_on view p.0 c.in_err-check_item.field-0.0 c.from_residual.result _ p.1 p.2 (c.in_err-check_item.ensures.err (λ e. plain_of (shape c.args.inner.now) e))

pub plain_one-returns : goal.plain_one-returns
plain_one-returns t c = subst (Returns view c.read_plain.result) (sym (c.in_ok-check_item.ensures.ok (λ e. plain_of (shape c.args.inner.now) e))) c.read_plain.ensures

pub read_plain-returns-in_ok-plain_fields-in-Struct :
    goal.read_plain-returns-in_ok-plain_fields-in-Struct
read_plain-returns-in_ok-plain_fields-in-Struct t c =
    plain_struct c.args.schema.now c.in-Struct.fields c.in-Struct.field-1 c.deref.result.now (view c.args.value.now) (members_view c.in_ok-members-in-Struct.members.now.entries) c.in-Struct.is c.deref.ensures.value c.in_ok-members-in-Struct.ensures
    ∙ ap (below [] object) c.in_ok-plain_fields-in-Struct.ensures ∙ ap Ok (sym (view-Object c.in_ok-plain_fields-in-Struct.field-0))

pub read_plain-returns-in_err-plain_fields-in-Struct :
    goal.read_plain-returns-in_err-plain_fields-in-Struct
read_plain-returns-in_err-plain_fields-in-Struct t c =
    let p = err_from_is_err_and c.from_residual-in_err-plain_fields-in-Struct.result c.from_residual-in_err-plain_fields-in-Struct.ensures.1 in
    let f = c.in_err-plain_fields-in-Struct.field-0.0 in
    passed_on view p.0 f c.from_residual-in_err-plain_fields-in-Struct.result _ p.1 p.2
    (subst (λ r. ReportsFault f (fault_in r)) (sym (plain_struct c.args.schema.now c.in-Struct.fields c.in-Struct.field-1 c.deref.result.now (view c.args.value.now) (members_view c.in_ok-members-in-Struct.members.now.entries) c.in-Struct.is c.deref.ensures.value c.in_ok-members-in-Struct.ensures))
    (reports-within f object _ c.in_err-plain_fields-in-Struct.ensures))

pub read_plain-returns-in_ok-plain_values-in-MapOf :
    goal.read_plain-returns-in_ok-plain_values-in-MapOf
read_plain-returns-in_ok-plain_values-in-MapOf t c =
    plain_map c.args.schema.now c.in-MapOf.inner c.in-MapOf.field-1 c.deref-in-MapOf.result.now (view c.args.value.now) (members_view c.in_ok-members-in-MapOf.members.now.entries) c.in-MapOf.is c.deref-in-MapOf.ensures c.in_ok-members-in-MapOf.ensures
    ∙ ap (below [] object) c.in_ok-plain_values-in-MapOf.ensures ∙ ap Ok (sym (view-Object c.in_ok-plain_values-in-MapOf.field-0))

pub read_plain-returns-in_err-plain_values-in-MapOf :
    goal.read_plain-returns-in_err-plain_values-in-MapOf
read_plain-returns-in_err-plain_values-in-MapOf t c =
    let p = err_from_is_err_and c.from_residual-in_err-plain_values-in-MapOf.result c.from_residual-in_err-plain_values-in-MapOf.ensures.1 in
    let f = c.in_err-plain_values-in-MapOf.field-0.0 in
    passed_on view p.0 f c.from_residual-in_err-plain_values-in-MapOf.result _ p.1 p.2
    (subst (λ r. ReportsFault f (fault_in r))
    (sym (plain_map c.args.schema.now c.in-MapOf.inner c.in-MapOf.field-1 c.deref-in-MapOf.result.now (view c.args.value.now) (members_view c.in_ok-members-in-MapOf.members.now.entries) c.in-MapOf.is c.deref-in-MapOf.ensures c.in_ok-members-in-MapOf.ensures))
    (reports-within f object _ c.in_err-plain_values-in-MapOf.ensures))

pub read_plain-returns-in_ok-plain_list-in-List : goal.read_plain-returns-in_ok-plain_list-in-List
read_plain-returns-in_ok-plain_list-in-List t c =
    plain_list c.args.schema.now c.in-List.inner c.in-List.kind c.deref-in-List.result.now c.deref-in-List-2.result.now (view c.args.value.now) c.in_ok-items-in-List.items.now.items c.in-List.is c.deref-in-List.ensures c.deref-in-List-2.ensures.value c.in_ok-items-in-List.ensures
    ∙ ap (below [] array) c.in_ok-plain_list-in-List.ensures ∙ ap Ok (sym (view-Array c.in_ok-plain_list-in-List.field-0))

pub read_plain-returns-in_err-plain_list-in-List : goal.read_plain-returns-in_err-plain_list-in-List
read_plain-returns-in_err-plain_list-in-List t c =
    let p = err_from_is_err_and c.from_residual-in_err-plain_list-in-List.result c.from_residual-in_err-plain_list-in-List.ensures.1 in
    let f = c.in_err-plain_list-in-List.field-0.0 in
    passed_on view p.0 f c.from_residual-in_err-plain_list-in-List.result _ p.1 p.2
    (subst (λ r. ReportsFault f (fault_in r)) (sym (plain_list c.args.schema.now c.in-List.inner c.in-List.kind c.deref-in-List.result.now c.deref-in-List-2.result.now (view c.args.value.now) c.in_ok-items-in-List.items.now.items c.in-List.is c.deref-in-List.ensures c.deref-in-List-2.ensures.value c.in_ok-items-in-List.ensures))
    (reports-within f array _ c.in_err-plain_list-in-List.ensures))
