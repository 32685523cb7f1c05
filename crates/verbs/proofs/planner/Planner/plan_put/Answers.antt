use Rattle.std.proofs.Common.{add-one, ap, ◌∙◌, ℕ, suc}
use Rattle.std.specs.Prelude.{string_bytes}
use Rattle.objects.specs.SystemMetadata.{plain_stamp}
use Rattle.objects.specs.Views.{state_of}
use Rattle.history.specs.Read.{key_of}
use Rattle.verbs.specs.Machine.{identity_of}
use Rattle.verbs.specs.Step.{object_value_at, text_at}
use Rattle.verbs.specs.PlannerViews.{type_of}
use Rattle.verbs.proofs.Counts.{counted}
use Rattle.verbs.proofs.Recalling.{answer_says, answer_system}
use Rattle.verbs.proofs.planner.Planner.plan_put.Goals as goal

pub returns-clause-plan : goal.returns-clause-plan
returns-clause-plan c =
    let t = type_of c.args.self in
    let k = key_of c.args.key in
    let s = state_of c.args.owned.now in
    let object = object_value_at t k (suc c.args.self.current) s in
    c.plan_put_text.ensures.plan object (c.in_ok-text.ensures.text ∙ ap (λ (n : ℕ). text_at t k n s) (add-one c.args.self.current))
    (c.in_ok-text.ensures.labels (identity_of t k) (plain_stamp (suc c.args.self.current)) ∙ counted object)

pub returns-clause-says : goal.returns-clause-says
returns-clause-says c =
    let t = type_of c.args.self in
    let k = key_of c.args.key in
    let s = state_of c.args.owned.now in
    answer_says t k c.args.self.current s (string_bytes c.in_ok-text.text) c.plan_put_text.result c.requires.planner.1 c.requires.well_typed
    (c.in_ok-text.ensures.text ∙ ap (λ (n : ℕ). text_at t k n s) (add-one c.args.self.current)) c.plan_put_text.ensures.left c.plan_put_text.ensures.text

pub returns-clause-system : goal.returns-clause-system
returns-clause-system c =
    let t = type_of c.args.self in
    let k = key_of c.args.key in
    let s = state_of c.args.owned.now in
    answer_system t k c.args.self.current s (string_bytes c.in_ok-text.text) c.plan_put_text.result c.requires.planner.1 c.requires.well_typed
    (c.in_ok-text.ensures.text ∙ ap (λ (n : ℕ). text_at t k n s) (add-one c.args.self.current)) c.plan_put_text.ensures.left c.plan_put_text.ensures.text
