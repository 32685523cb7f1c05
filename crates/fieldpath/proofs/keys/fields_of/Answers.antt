use Rattle.std.proofs.Common.{[], ◌∷◌, ◌++◌, option_map, sym, ap, ◌∙◌}
use Rattle.serde_json.specs.View.{members_view}
use Rattle.fieldpath.specs.Elements.{keys_of_members}
use Rattle.fieldpath.specs.Scalars.{key_fields, scalar}
use Rattle.fieldpath.proofs.KeyFields.{read_more, read_end, read_ascending, key_fields-push}
use Rattle.fieldpath.proofs.keys.fields_of.Goals as goal

pub loop-name-preserved : goal.loop-name-preserved
loop-name-preserved c =
    let fields = c.loop-name.fields.items in
    let name = c.in_ok-clone-in-Some-2.field-0 in
    let s = c.in-Some-2.scalar in (
      read_more (keys_of_members (members_view c.args.members.now.entries)) (key_fields fields) (key_fields c.push.new.self.items) c.loop-name.name-iterator (c.in-Some.name.now, c.in-Some.value.now) c.next.new.self (scalar s)
          c.in-Some.ensures.steps
          (sym c.in_ok-scalar.ensures ∙ ap (option_map scalar) c.in-Some-2.is)
          (ap key_fields c.in_ok-push-in-Some-2.ensures.items ∙ key_fields-push fields name s ∙ ap (λ n. key_fields fields ++ (n, scalar s) ∷ []) c.in_ok-clone-in-Some-2.ensures.cases)
          c.loop-name.invariant.0,
      c.loop-name.invariant.1,
    )

pub returns-clause-ascending : goal.returns-clause-ascending
returns-clause-ascending c =
    read_ascending c.args.members.now.entries (key_fields c.loop-name.fields.items) c.loop-name.invariant.1
    (read_end (keys_of_members (members_view c.args.members.now.entries)) (key_fields c.loop-name.fields.items) c.loop-name.name-iterator c.in-None.ensures.steps.0 c.loop-name.invariant.0)
