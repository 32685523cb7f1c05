use Rattle.std.proofs.Common.{ℕ, List, map, sym, ◌∙◌}
use Rattle.serde_json.specs.Data.{Data}
use Rattle.serde_json.specs.View.{members_view, view}
use Rattle.pathmap.specs.Maps.{content}
use Rattle.pathmap.specs.Contents.{Content}
use Rattle.schema.specs.Among.{is_in}
use Rattle.schema.specs.Shape.{fields_in}
use Rattle.typed.specs.Faults.{Read}
use Rattle.typed.specs.Reading.{content_of_field}
use Rattle.typed.proofs.LeftOut.{as_it_is, reading_adds, reading_begins, reading_new, reading_passes}
use Rattle.typed.proofs.Members.{members_end}
use Rattle.typed.proofs.Plains.{Entry}
use Rattle.typed.proofs.without.read_members_but.Goals as goal

pub loop-name-init : goal.loop-name-init
loop-name-init c =
    reading_begins (is_in (map (λ n. n.now) c.args.names.now)) (λ k d. d) (λ k e. content_of_field (fields_in c.args.fields.now) k e) as_it_is (content c.empty-map.result) c.into_iter-name-iterator.result c.args.members.now.entries
    c.empty-map.ensures (c.into_iter-name-iterator.ensures.into_iter_gives ∙ c.iter-name-items.ensures.rest) c.iter-name-items.ensures.ordered

pub loop-name-preserved : goal.loop-name-preserved
loop-name-preserved c =
    reading_passes (is_in (map (λ n. n.now) c.args.names.now)) (λ k d. d) (λ k e. content_of_field (fields_in c.args.fields.now) k e) (members_view c.args.members.now.entries) (content c.loop-name.map) c.loop-name.name-iterator
    (c.in-Some.name.now, c.in-Some.member.now) c.next.new.self c.in-Some.ensures.steps c.loop-name.invariant c.as_str-text.result.now c.as_str-text.ensures.value (sym c.is_absent.ensures ∙ c.if-not-is_absent.false)

pub loop-name-preserved-in-Continue-1 : goal.loop-name-preserved-in-Continue-1
loop-name-preserved-in-Continue-1 c =
    let out = is_in (map (λ n. n.now) c.args.names.now) in
    let inner : List ℕ → Data → Read Content = λ k e. content_of_field (fields_in c.args.fields.now) k e in
    let all = members_view c.args.members.now.entries in
    let e : Entry = (c.in-Some.name.now, c.in-Some.member.now) in
    let k = c.as_str-text.result.now in
    let new = reading_new out (λ k d. d) inner all (content c.loop-name.map) c.loop-name.name-iterator e c.next.new.self c.in-Some.ensures.steps c.loop-name.invariant k c.as_str-text.ensures.value in
    reading_adds out (λ k d. d) inner all (content c.loop-name.map) c.loop-name.name-iterator e c.next.new.self c.in-Some.ensures.steps c.loop-name.invariant k c.as_str-text.ensures.value (sym c.is_absent.ensures ∙ c.if-not-is_absent.true)
    (content c.add_member.new.map) (c.in_ok-add_member.ensures (inner k (view c.in-Some.member.now)) new c.read_field-read.ensures)

pub returns : goal.returns
returns c =
    members_end _ _ (content c.loop-name.map) c.loop-name.name-iterator c.in-None.ensures.steps.0 c.loop-name.invariant
