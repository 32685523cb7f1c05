use Rattle.std.proofs.Common.{sym, ◌∙◌, arith}
use Rattle.serde_json.specs.View.{members_view, view}
use Rattle.json_patch.specs.Equality.{have_members}
use Rattle.json_patch.proofs.Alike.{all_alike, all_members_alike, differs_here, member_alike, member_differs, no_member, other_count, same_count, same_so_far, unequal}
use Rattle.json_patch.proofs.equality.+equality.Goals as goal

pub same_items-returns-then-xs-ys : goal.same_items-returns-then-xs-ys
same_items-returns-then-xs-ys t c = unequal c.args.xs.now c.args.ys.now c.if-xs-ys.true

pub same_items-returns-then-not-same : goal.same_items-returns-then-not-same
same_items-returns-then-not-same t c =
    differs_here c.args.xs.now c.args.ys.now c.loop-place.place c.index-xs-place.result c.index-ys-place.result c.loop-place-test.true (omega arith) c.index-xs-place.is c.index-ys-place.is
    c.loop-place.invariant c.same.result c.same.ensures c.if-not-same.true

pub same_items-loop-place-preserved : goal.same_items-loop-place-preserved
same_items-loop-place-preserved t c =
    same_so_far c.args.xs.now c.args.ys.now c.loop-place.place c.index-xs-place.result c.index-ys-place.result c.loop-place-test.true (omega arith) c.index-xs-place.is c.index-ys-place.is
    c.loop-place.invariant c.same.result c.same.ensures c.if-not-same.false

pub same_items-returns : goal.same_items-returns
same_items-returns t c = all_alike c.args.xs.now c.args.ys.now c.loop-place.place c.loop-place-test.false c.if-xs-ys.false c.loop-place.invariant

pub same_members-returns-then-len : goal.same_members-returns-then-len
same_members-returns-then-len t c =
    other_count c.args.xs.now.entries c.args.ys.now.entries (have_members (members_view c.args.xs.now.entries) (members_view c.args.ys.now.entries))
    (λ e. c.if-len.true (c.len.ensures.len ∙ e ∙ sym c.len-2.ensures.len))

pub same_members-returns-in_default : goal.same_members-returns-in_default
same_members-returns-in_default t c =
    let whole = have_members (members_view c.args.xs.now.entries) (members_view c.args.ys.now.entries) in
    no_member whole (members_view c.args.ys.now.entries) c.loop-name.name-iterator (c.in-Some.name.now, c.in-Some.x.now) c.next.new.self c.in-Some.ensures.steps c.loop-name.invariant
    c.as_str.result.now c.as_str.ensures.value c.in_default.ensures
    ∙ same_count c.args.xs.now.entries c.args.ys.now.entries whole (sym c.len.ensures.len ∙ c.if-len.false ∙ c.len-2.ensures.len)

pub same_members-returns-then-not-same : goal.same_members-returns-then-not-same
same_members-returns-then-not-same t c =
    let whole = have_members (members_view c.args.xs.now.entries) (members_view c.args.ys.now.entries) in
    member_differs whole (members_view c.args.ys.now.entries) c.loop-name.name-iterator (c.in-Some.name.now, c.in-Some.x.now) c.next.new.self c.in-Some.ensures.steps c.loop-name.invariant
    c.as_str.result.now c.as_str.ensures.value (view c.in-Some-member.y.now) c.in-Some-member.ensures c.same.result c.same.ensures c.if-not-same.true
    ∙ same_count c.args.xs.now.entries c.args.ys.now.entries whole (sym c.len.ensures.len ∙ c.if-len.false ∙ c.len-2.ensures.len)

pub same_members-loop-name-preserved : goal.same_members-loop-name-preserved
same_members-loop-name-preserved t c =
    let whole = have_members (members_view c.args.xs.now.entries) (members_view c.args.ys.now.entries) in
    member_alike whole (members_view c.args.ys.now.entries) c.loop-name.name-iterator (c.in-Some.name.now, c.in-Some.x.now) c.next.new.self c.in-Some.ensures.steps c.loop-name.invariant
    c.as_str.result.now c.as_str.ensures.value (view c.in-Some-member.y.now) c.in-Some-member.ensures c.same.result c.same.ensures c.if-not-same.false

pub same_members-returns : goal.same_members-returns
same_members-returns t c =
    let whole = have_members (members_view c.args.xs.now.entries) (members_view c.args.ys.now.entries) in
    all_members_alike whole (members_view c.args.ys.now.entries) c.loop-name.name-iterator c.in-None.ensures.steps.0 c.loop-name.invariant
    ∙ same_count c.args.xs.now.entries c.args.ys.now.entries whole (sym c.len.ensures.len ∙ c.if-len.false ∙ c.len-2.ensures.len)
