-- A dry run of a plan, or the plan.
use Rattle.std.proofs.Common.{◌≡◌, Bool, true, false, List, [], refl, sym, ap, ◌∙◌}
use Rattle.history.specs.History.{Change, Objects}
use Rattle.api_request.specs.Calls.{Plan, only_key}
use Rattle.verbs.specs.DryRuns.{answer_tried, run_by, tried}

-- what holds of no change and of the plan's
pub changes_of_run : (P : List Change → Type 0) (is_dry : Bool) (objects : Objects) (p : Plan) → P [] → P p.changes → P (run_by is_dry objects p).changes
changes_of_run P true objects p none is = none
changes_of_run P false objects p none is = is

-- a plan without a change comes to the same, dry or not
pub no_change_runs : (is_dry : Bool) (objects : Objects) (p : Plan) → p.changes ≡ [] → run_by is_dry objects p ≡ p
no_change_runs false objects p is = refl
no_change_runs true objects p is =
    let none : tried objects p ≡ record { answer = p.answer; changes = [] } =
    ap (λ (changes : List Change). record { answer = answer_tried objects (only_key changes) p.answer; changes = [] }) is in
    none ∙ ap (λ (changes : List Change). record { answer = p.answer; changes = changes }) (sym is)
