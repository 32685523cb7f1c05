use Rattle.std.proofs.Common.{ap, ◌∙◌, string_bytes}
use Rattle.std.proofs.lemmas.Result.{on_ok_weaker}
use Rattle.serde_json.specs.View.{members_view, view}
use Rattle.json_texts.specs.Writing.{with_name}
use Rattle.json_texts.proofs.Appended.{closed_clean, opened_clean, value_written}
use Rattle.json_texts.proofs.writing.TextWriter.+values.Goals as goal

pub object-loop-name-init : goal.object-loop-name-init
object-loop-name-init t c =
    opened_clean (members_view c.args.members.now.entries) (members_view c.into_iter-name-iterator.result) c.args.self.now c.begin_object.new.self
    (ap members_view (c.into_iter-name-iterator.ensures.into_iter_gives ∙ c.iter-name-items.ensures.rest)) c.in_ok-begin_object.ensures

pub object-loop-name-preserved : goal.object-loop-name-preserved
object-loop-name-preserved t c =
    let now = c.loop-name.self in
    value_written (members_view c.loop-name.name-iterator) (string_bytes c.in-Some.name.now) (view c.in-Some.value.now) (members_view c.next.new.self) (ap members_view c.in-Some.ensures.steps)
    now c.name.new.self c.value.new.self (members_view c.args.members.now.entries) c.args.self.now c.loop-name.invariant
    (c.in_ok-name.ensures ∙ ap (λ k. with_name k now) c.as_str.ensures.value) c.in_ok-value.ensures

pub object-returns : goal.object-returns
object-returns t c =
    on_ok_weaker c.end_object.result
    (λ closing clean. closed_clean (members_view c.loop-name.name-iterator) c.loop-name.self c.end_object.new.self (members_view c.args.members.now.entries) c.args.self.now (ap members_view c.in-None.ensures.steps.0) c.loop-name.invariant clean closing)
    c.end_object.ensures
