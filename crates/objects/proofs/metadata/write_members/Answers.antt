use Rattle.std.proofs.Common.{ap, ◌∙◌, String, Global}
use Rattle.json_texts.specs.Writing.{with_name}
use Rattle.serde_json.specs.declared.value.Value.{Value}
use Rattle.objects.proofs.MetadataTexts.{first_written, member_written, members_written}
use Rattle.objects.proofs.metadata.write_members.Goals as goal

pub loop-name-init : goal.loop-name-init
loop-name-init c = first_written c.args.members.now.entries c.into_iter-name-iterator.result c.args.out.now (c.into_iter-name-iterator.ensures.into_iter_gives ∙ c.iter-name-items.ensures.rest)

pub loop-name-preserved : goal.loop-name-preserved
loop-name-preserved c =
    let e : String Global × Value = (c.in-Some.name.now, c.in-Some.value.now) in
    member_written c.args.members.now.entries c.loop-name.name-iterator c.next.new.self e c.in-Some.ensures.steps c.args.out.now c.loop-name.out c.loop-name.invariant c.name.new.self c.value.new.self
    (c.in_ok-name.ensures ∙ ap (λ k. with_name k c.loop-name.out) c.as_str.ensures.value) c.in_ok-value.ensures

pub returns : goal.returns
returns c = members_written c.args.members.now.entries c.loop-name.name-iterator c.args.out.now c.loop-name.out c.in-None.ensures.steps.0 c.loop-name.invariant
