use Rattle.std.proofs.Common.{map, rules, sym, ◌∙◌}
use Rattle.schema.specs.Among.{is_in}
use Rattle.serde_json.specs.View.{members_view}
use Rattle.typed.proofs.LeftOut.{copy_adds, copy_begins, copy_ends, copy_passes}
use Rattle.typed.proofs.omitted.copy_members_but.Goals as goal

pub loop-name-init : goal.loop-name-init
loop-name-init c =
    copy_begins (is_in (map (λ n. n.now) c.args.names.now)) (λ k d. d) c.new-left.result.entries c.into_iter-name-iterator.result c.args.members.now.entries c.new-left.ensures.empty
    (c.into_iter-name-iterator.ensures.into_iter_gives ∙ c.iter-name-items.ensures.rest) c.iter-name-items.ensures.ordered

pub loop-name-preserved : goal.loop-name-preserved
loop-name-preserved c =
    copy_passes (is_in (map (λ n. n.now) c.args.names.now)) (λ k d. d) (members_view c.args.members.now.entries) (members_view c.loop-name.left.entries) c.loop-name.name-iterator (c.in-Some.name.now, c.in-Some.member.now) c.next.new.self c.in-Some.ensures.steps c.loop-name.invariant
    c.as_str-text.result.now c.as_str-text.ensures.value (sym c.is_in.ensures ∙ c.if-not-is_in.false)

pub returns : goal.returns
returns c = copy_ends (is_in (map (λ n. n.now) c.args.names.now)) (λ k d. d) (members_view c.args.members.now.entries) (members_view c.loop-name.left.entries) c.loop-name.name-iterator c.in-None.ensures.steps.0 c.loop-name.invariant

pub loop-name-preserved-in_ok-put : goal.loop-name-preserved-in_ok-put
loop-name-preserved-in_ok-put c =
    copy_adds (is_in (map (λ n. n.now) c.args.names.now)) (λ k d. d) (members_view c.args.members.now.entries) (members_view c.loop-name.left.entries) c.loop-name.name-iterator (c.in-Some.name.now, c.in-Some.member.now) c.next.new.self c.in-Some.ensures.steps c.loop-name.invariant
    c.as_str-text.result.now c.as_str-text.ensures.value (sym c.is_in.ensures ∙ c.if-not-is_in.true) (members_view c.put.new.map.entries) (search rules)
