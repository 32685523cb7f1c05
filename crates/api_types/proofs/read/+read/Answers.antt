use Rattle.std.proofs.Common.{◌≡◌, String, Global, suc, Ok, option_map, string_bytes, sym, ap, ap₂, subst, ◌∙◌, add-one, codes}
use Rattle.serde_json.specs.Data.{object}
use Rattle.serde_json.specs.View.{view, members_view}
use Rattle.serde_json.specs.Find.{get_member}
use Rattle.serde_json.proofs.Views.{view-lookup, view-Object, view_of_ref}
use Rattle.schema.specs.Shape.{shape, map_of, list_of, kind_of, fields_in}
use Rattle.api_types.specs.TypesFile.{schema_at, shape_in, properties_in, fields_at, fields_of, one_field}
use Rattle.api_types.specs.Forms.{own_form, list_form}
use Rattle.api_types.specs.Views.{Returns, FailsWith, form_view}
use Rattle.api_types.proofs.Items.{items_lawful}
use Rattle.api_types.proofs.Reading.{schema_at-is, schema_or, properties_in-is, fields_or, after, after_none, both_none, pushed, passed_on, fails_first}
use Rattle.schema.specs.declared.schema.Schema.{Schema}
use Rattle.api_types.specs.Depths.{KeepAt, KeepsAt}
use Rattle.api_types.proofs.Depths.{kept_pushed, kept_none, kept_list, object_ascends}
use Rattle.schema.proofs.Shapes.{shape-MapOf, shape-List}
use Rattle.std.proofs.lemmas.Result.{err_from_is_err_and}
use Rattle.api_types.proofs.read.+read.Goals as goal

pub schema_at-returns-in-Some-clause-read : goal.schema_at-returns-in-Some-clause-read
schema_at-returns-in-Some-clause-read t c =
    let ms = members_view c.args.schema.now.entries in
    let looked : option_map (λ v. view v.now) c.get.result ≡ get_member c.args.name.now ms = view_of_ref c.get.result ∙ ap (option_map view) c.get.ensures.value ∙ view-lookup c.args.name.now c.args.schema.now.entries in
    let is : schema_at c.args.name.now c.args.depth ms ≡ shape_in (suc c.args.depth) (view c.in-Some.value.now) =
    schema_at-is c.args.name.now c.args.depth ms ∙ ap (schema_or c.args.depth) (sym looked ∙ ap (option_map (λ v. view v.now)) c.in-Some.is) in
    subst (Returns shape c.read_schema.result) (ap (λ n. shape_in n (view c.in-Some.value.now)) (add-one c.args.depth) ∙ sym is) c.read_schema.ensures.read

pub schema_at-returns-in-None-clause-read : goal.schema_at-returns-in-None-clause-read
schema_at-returns-in-None-clause-read t c =
    let ms = members_view c.args.schema.now.entries in
    let looked : option_map (λ v. view v.now) c.get.result ≡ get_member c.args.name.now ms = view_of_ref c.get.result ∙ ap (option_map view) c.get.ensures.value ∙ view-lookup c.args.name.now c.args.schema.now.entries in
    schema_at-is c.args.name.now c.args.depth ms ∙ ap (schema_or c.args.depth) (sym looked ∙ ap (option_map (λ v. view v.now)) c.in-None.is)

pub properties_in-returns-in-Some-clause-read : goal.properties_in-returns-in-Some-clause-read
properties_in-returns-in-Some-clause-read t c =
    let ms = members_view c.args.schema.now.entries in
    let looked : option_map (λ v. view v.now) c.get.result ≡ get_member (codes "properties") ms = view_of_ref c.get.result ∙ ap (option_map view) c.get.ensures.value ∙ view-lookup (codes "properties") c.args.schema.now.entries in
    let is : properties_in c.args.depth ms ≡ fields_at c.args.depth (view c.in-Some.value.now) =
    properties_in-is c.args.depth ms ∙ ap (fields_or c.args.depth) (sym looked ∙ ap (option_map (λ v. view v.now)) c.in-Some.is) in
    subst (Returns (λ v. fields_in v.items) c.read_fields.result) (sym is) c.read_fields.ensures.read

pub properties_in-returns-in-None-clause-read : goal.properties_in-returns-in-None-clause-read
properties_in-returns-in-None-clause-read t c =
    let ms = members_view c.args.schema.now.entries in
    let looked : option_map (λ v. view v.now) c.get.result ≡ get_member (codes "properties") ms = view_of_ref c.get.result ∙ ap (option_map view) c.get.ensures.value ∙ view-lookup (codes "properties") c.args.schema.now.entries in
    properties_in-is c.args.depth ms ∙ ap (fields_or c.args.depth) (sym looked ∙ ap (option_map (λ v. view v.now)) c.in-None.is) ∙ ap (λ fs. Ok (fields_in fs)) (sym c.new.ensures.items)

pub read_fields-returns-clause-read : goal.read_fields-returns-clause-read
read_fields-returns-clause-read t c =
    c.loop-name.invariant.1 ∙ ap (λ es. after (fields_in c.loop-name.fields.items) (fields_of c.args.depth (members_view es))) c.in-None.ensures.steps.0 ∙ ap Ok (both_none (fields_in c.loop-name.fields.items))

pub read_fields-loop-name-preserved : goal.read_fields-loop-name-preserved
read_fields-loop-name-preserved t c =
    let fs = c.loop-name.fields.items in
    let f : String Global × Schema = (c.in_ok-clone.field-0, c.in_ok-inner.inner) in
    let d = view c.in-Some.value.now in
    let left = fields_of c.args.depth (members_view c.next.new.self) in
    let kept : fields_at c.args.depth (view c.args.value.now) ≡ after (fields_in fs) (one_field (string_bytes c.in-Some.name.now) (shape_in (suc c.args.depth) d) left) =
    c.loop-name.invariant.1 ∙ ap (λ es. after (fields_in fs) (fields_of c.args.depth (members_view es))) c.in-Some.ensures.steps in (
      subst (λ gs. KeepAt c.args.depth (fields_in gs)) (sym c.in_ok-push.ensures.items) (kept_pushed c.args.depth fs f c.loop-name.invariant.0 c.in_ok-inner.ensures.kept),
      pushed (fields_at c.args.depth (view c.args.value.now)) fs c.in_ok-clone.field-0 c.in_ok-inner.inner (string_bytes c.in-Some.name.now) (shape_in (suc c.args.depth) d) left
          kept (ap (λ n. shape_in n d) (sym (add-one c.args.depth)) ∙ c.in_ok-inner.ensures.read) c.in_ok-clone.ensures.cases
          ∙ ap (λ gs. after (fields_in gs) left) (sym c.in_ok-push.ensures.items),
      c.loop-name.invariant.2,
    )

pub read_fields-returns-in_err-inner-clause-read : goal.read_fields-returns-in_err-inner-clause-read
read_fields-returns-in_err-inner-clause-read t c =
    let d = view c.in-Some.value.now in
    let left = fields_of c.args.depth (members_view c.next.new.self) in
    let kept : fields_at c.args.depth (view c.args.value.now) ≡ after (fields_in c.loop-name.fields.items) (one_field (string_bytes c.in-Some.name.now) (shape_in (suc c.args.depth) d) left) =
    c.loop-name.invariant.1 ∙ ap (λ es. after (fields_in c.loop-name.fields.items) (fields_of c.args.depth (members_view es))) c.in-Some.ensures.steps in
    let p = err_from_is_err_and c.from_residual.result c.from_residual.ensures.1 in
    let fault = c.in_err-inner.field-0.0 in
    passed_on (λ v. fields_in v.items) p.0 fault c.from_residual.result (fields_at c.args.depth (view c.args.value.now)) p.1 p.2
    (subst (FailsWith fault) (sym kept) (fails_first fault (fields_in c.loop-name.fields.items) (string_bytes c.in-Some.name.now) (shape_in (suc c.args.depth) d) left
    (subst (λ n. FailsWith fault (shape_in n d)) (add-one c.args.depth) c.in_err-inner.ensures.read)))

pub read_object-returns-then-has-clause-read : goal.read_object-returns-then-has-clause-read
read_object-returns-then-has-clause-read t c =
    rw (sym c.has.ensures ∙ c.if-has.true, c.in_ok-values.ensures.read, shape-MapOf c.in_ok-new.field-0 c.args.is_atomic) (ap (λ s. Ok (map_of (shape s) c.args.is_atomic)) (sym c.in_ok-new.ensures.ok))

pub read_fields-returns-clause-kept : goal.read_fields-returns-clause-kept
read_fields-returns-clause-kept t c =
    (c.loop-name.invariant.0, object_ascends c.args.depth (view c.args.value.now) (fields_in c.loop-name.fields.items) c.loop-name.invariant.2 (read_fields-returns-clause-read t c))

pub read_schema-returns-in_ok-new-in-List-clause-kept : goal.read_schema-returns-in_ok-new-in-List-clause-kept
read_schema-returns-in_ok-new-in-List-clause-kept t c =
    let item = c.in_ok-item-in-List.item in
    let ms = members_view c.in-Object.schema.entries in
    let own : own_form c.args.depth ms ≡ Ok (list_form (kind_of c.in-List.kind)) = c.in_ok-is_atomic.ensures.form ∙ ap (λ f. Ok (form_view f)) c.in-List.is in
    let lawful = items_lawful c.args.depth ms (kind_of c.in-List.kind) (shape item) own c.in_ok-item-in-List.ensures.read in
    subst (KeepsAt c.args.depth) (sym (shape-List c.in_ok-new-in-List.field-0 c.in-List.kind ∙ ap (λ v. list_of (shape v) (kind_of c.in-List.kind)) c.in_ok-new-in-List.ensures.ok))
    (kept_list c.args.depth (shape item) (kind_of c.in-List.kind) lawful c.in_ok-item-in-List.ensures.kept)

pub read_fields-loop-name-init : goal.read_fields-loop-name-init
read_fields-loop-name-init t c =
    let d = c.args.depth in
    let es = c.in-Object.properties.entries in
    let is : view c.args.value.now ≡ object (members_view es) = ap view c.in-Object.is ∙ view-Object c.in-Object.properties in
    let none = c.new-fields.ensures.items in (
      subst (λ fs. KeepAt d (fields_in fs)) (sym none) (kept_none d c.requires),
      ap (fields_at d) is ∙ sym (after_none (fields_of d (members_view es)))
          ∙ ap₂ (λ fs gs. after (fields_in fs) (fields_of d (members_view gs))) (sym none) (sym (c.into_iter-name-iterator.ensures.into_iter_gives ∙ c.iter-name-items.ensures.rest)),
      (es, is, c.iter-name-items.ensures.ordered),
    )
