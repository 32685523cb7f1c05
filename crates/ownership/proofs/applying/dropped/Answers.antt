use Rattle.std.proofs.Common.{◌≡◌, IfOk, sym, ap, ◌∙◌, subst}
use Rattle.pathmap.specs.Contents.{dom}
use Rattle.pathmap.specs.Beside.{clear_of}
use Rattle.ownership.specs.Apply.{clear_of_all}
use Rattle.objects.specs.Owners.{others}
use Rattle.objects.specs.Managers.{manager_view}
use Rattle.objects.specs.Views.{state_of}
use Rattle.ownership.proofs.Clearing.{clear_of-all_paths}
use Rattle.ownership.proofs.Dropping.{dropped_some, dropped_none}
use Rattle.ownership.proofs.applying.dropped.Goals as goal

pub returns-in_ok-left-in-Some : goal.returns-in_ok-left-in-Some
returns-in_ok-left-in-Some c = λ config is.
    let live = c.args.live.now in
    let m = manager_view c.args.manager.now in
    let owned = c.in-Some.owned.now in
    subst (λ t. IfOk c.clear_of_others.result (λ s. s ≡ t))
    (ap (λ s. clear_of_all s (others live.managers m)) (c.in_ok-left-in-Some.ensures ∙ ap (clear_of owned) is) ∙ sym (clear_of-all_paths owned (dom config) (others live.managers m))
    ∙ sym (dropped_some (state_of live) config m owned (sym c.in-Some.ensures))) c.clear_of_others.ensures

pub returns-in-None : goal.returns-in-None
returns-in-None c = λ config is. c.new.ensures ∙ sym (dropped_none (state_of c.args.live.now) config (manager_view c.args.manager.now) (sym c.in-None.ensures))
