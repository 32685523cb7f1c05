use Rattle.std.proofs.Common.{◌≡◌, String, Global, ℕ, List, Ok, false, cond, string_bytes, sym, ap, subst, ◌∙◌}
use Rattle.serde_json.specs.Data.{Data, Members, member}
use Rattle.serde_json.specs.View.{view, members_view}
use Rattle.schema.specs.Shape.{fields_in}
use Rattle.api_types.specs.TypesFile.{shape_in, fields_of, own_properties, is_envelope, one_field}
use Rattle.schema.specs.declared.schema.Schema.{Schema}
use Rattle.api_types.specs.Depths.{KeepAt}
use Rattle.api_types.proofs.Depths.{kept_pushed, own_fields_ascend, own_fields_lack}
use Rattle.api_types.proofs.Reading.{after, both_none, pushed}
use Rattle.api_types.proofs.file.own_fields.Goals as goal

own : (k : List ℕ) (d : Data) (ms : Members) → is_envelope k ≡ false → own_properties (member k d ms) ≡ member k d (own_properties ms)
own k d ms not = ap (λ b. cond b (own_properties ms) (member k d (own_properties ms))) not

pub loop-name-preserved-in_ok-push : goal.loop-name-preserved-in_ok-push
loop-name-preserved-in_ok-push c =
    let whole = fields_of 1 (own_properties (members_view c.args.properties.now.entries)) in
    let k = string_bytes c.in-Some.name.now in
    let d = view c.in-Some.value.now in
    let left = fields_of 1 (own_properties (members_view c.next.new.self)) in
    let not : is_envelope k ≡ false = ap is_envelope (sym c.as_str.ensures.value) ∙ sym c.is_envelope.ensures ∙ c.if-not-is_envelope.true in
    let kept : whole ≡ after (fields_in c.loop-name.fields.items) (one_field k (shape_in 2 d) left) =
    c.loop-name.invariant.1 ∙ ap (λ es. after (fields_in c.loop-name.fields.items) (fields_of 1 (own_properties (members_view es)))) c.in-Some.ensures.steps
    ∙ ap (λ ms. after (fields_in c.loop-name.fields.items) (fields_of 1 ms)) (own k d (members_view c.next.new.self) not) in
    let fs = c.loop-name.fields.items in
    let f : String Global × Schema = (c.in_ok-clone.field-0, c.in_ok-inner.inner) in (
      subst (λ gs. KeepAt 1 (fields_in gs)) (sym c.in_ok-push.ensures.items) (kept_pushed 1 fs f c.loop-name.invariant.0 c.in_ok-inner.ensures.kept),
      pushed whole fs c.in_ok-clone.field-0 c.in_ok-inner.inner k (shape_in 2 d) left kept c.in_ok-inner.ensures.read c.in_ok-clone.ensures.cases
          ∙ ap (λ gs. after (fields_in gs) left) (sym c.in_ok-push.ensures.items),
      c.loop-name.invariant.2,
    )

pub returns-clause-read : goal.returns-clause-read
returns-clause-read c =
    c.loop-name.invariant.1 ∙ ap (λ es. after (fields_in c.loop-name.fields.items) (fields_of 1 (own_properties (members_view es)))) c.in-None.ensures.steps.0 ∙ ap Ok (both_none (fields_in c.loop-name.fields.items))

pub returns-clause-kept : goal.returns-clause-kept
returns-clause-kept c =
    let read = returns-clause-read c in
    (c.loop-name.invariant.0, own_fields_ascend c.args.properties.now.entries (fields_in c.loop-name.fields.items) c.loop-name.invariant.2 read)

pub returns-clause-apart : goal.returns-clause-apart
returns-clause-apart c k known = own_fields_lack k (members_view c.args.properties.now.entries) (fields_in c.loop-name.fields.items) known (returns-clause-read c)
