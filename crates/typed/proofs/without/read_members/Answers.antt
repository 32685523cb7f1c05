use Rattle.std.proofs.Common.{ℕ, List, sym, ◌∙◌}
use Rattle.serde_json.specs.Data.{Data}
use Rattle.serde_json.specs.View.{members_view, view}
use Rattle.std.proofs.lemmas.Result.{err_from_is_err_and}
use Rattle.pathmap.specs.Contents.{Content}
use Rattle.pathmap.specs.Maps.{content}
use Rattle.schema.specs.Among.{is_in}
use Rattle.schema.specs.Shape.{fields_in}
use Rattle.typed.specs.Faults.{Read}
use Rattle.typed.specs.Reading.{content_of_field}
use Rattle.typed.specs.Without.{kept, omitted_of}
use Rattle.typed.proofs.Faults.{passed_on}
use Rattle.typed.proofs.LeftOut.{kept_null, reading_adds, reading_begins, reading_fails, reading_new, reading_passes}
use Rattle.typed.proofs.Members.{members_end}
use Rattle.typed.proofs.Plains.{Entry}
use Rattle.typed.proofs.without.read_members.Goals as goal

pub loop-name-init : goal.loop-name-init
loop-name-init c =
    let o = omitted_of c.args.omitted in
    reading_begins (is_in o.names) (kept o) (λ k e. content_of_field (fields_in c.args.fields.now) k e) (kept_null o) (content c.empty-map.result) c.into_iter-name-iterator.result c.args.members.now.entries
    c.empty-map.ensures (c.into_iter-name-iterator.ensures.into_iter_gives ∙ c.iter-name-items.ensures.rest) c.iter-name-items.ensures.ordered

pub loop-name-preserved : goal.loop-name-preserved
loop-name-preserved c =
    let o = omitted_of c.args.omitted in
    reading_passes (is_in o.names) (kept o) (λ k e. content_of_field (fields_in c.args.fields.now) k e) (members_view c.args.members.now.entries) (content c.loop-name.map) c.loop-name.name-iterator
    (c.in-Some.name.now, c.in-Some.member.now) c.next.new.self c.in-Some.ensures.steps c.loop-name.invariant c.as_str-text.result.now c.as_str-text.ensures.value (sym c.is_absent.ensures ∙ c.if-not-is_absent.false)

pub loop-name-preserved-in-Continue-1 : goal.loop-name-preserved-in-Continue-1
loop-name-preserved-in-Continue-1 c =
    let o = omitted_of c.args.omitted in
    let inner : List ℕ → Data → Read Content = λ k e. content_of_field (fields_in c.args.fields.now) k e in
    let all = members_view c.args.members.now.entries in
    let e : Entry = (c.in-Some.name.now, c.in-Some.member.now) in
    let k = c.as_str-text.result.now in
    let new = reading_new (is_in o.names) (kept o) inner all (content c.loop-name.map) c.loop-name.name-iterator e c.next.new.self c.in-Some.ensures.steps c.loop-name.invariant k c.as_str-text.ensures.value in
    reading_adds (is_in o.names) (kept o) inner all (content c.loop-name.map) c.loop-name.name-iterator e c.next.new.self c.in-Some.ensures.steps c.loop-name.invariant k c.as_str-text.ensures.value (sym c.is_absent.ensures ∙ c.if-not-is_absent.true)
    (content c.add_member.new.map) (c.in_ok-add_member.ensures (inner k (kept o k (view c.in-Some.member.now))) new c.read_kept-read.ensures)

pub returns-in_err-add_member : goal.returns-in_err-add_member
returns-in_err-add_member c =
    let o = omitted_of c.args.omitted in
    let inner : List ℕ → Data → Read Content = λ k e. content_of_field (fields_in c.args.fields.now) k e in
    let all = members_view c.args.members.now.entries in
    let e : Entry = (c.in-Some.name.now, c.in-Some.member.now) in
    let k = c.as_str-text.result.now in
    let new = reading_new (is_in o.names) (kept o) inner all (content c.loop-name.map) c.loop-name.name-iterator e c.next.new.self c.in-Some.ensures.steps c.loop-name.invariant k c.as_str-text.ensures.value in
    let p = err_from_is_err_and c.from_residual.result c.from_residual.ensures.1 in
    let f = c.in_err-add_member.field-0.0 in
    passed_on content p.0 f c.from_residual.result _ p.1 p.2
    (reading_fails (is_in o.names) (kept o) inner all (content c.loop-name.map) c.loop-name.name-iterator e c.next.new.self c.in-Some.ensures.steps c.loop-name.invariant k c.as_str-text.ensures.value (sym c.is_absent.ensures ∙ c.if-not-is_absent.true) f
    (c.in_err-add_member.ensures (inner k (kept o k (view c.in-Some.member.now))) new c.read_kept-read.ensures))

pub returns : goal.returns
returns c =
    members_end _ _ (content c.loop-name.map) c.loop-name.name-iterator c.in-None.ensures.steps.0 c.loop-name.invariant
