use Rattle.std.proofs.Common.{◌≡◌, false, map, sym, ap, ap₂, ◌∙◌}
use Rattle.objects.specs.State.{State}
use Rattle.pathmap.specs.Beside.{changed}
use Rattle.ownership.specs.Apply.{applied, conflicts, is_refused}
use Rattle.ownership.specs.Sides.{own_part}
use Rattle.objects.specs.Managers.{manager_view}
use Rattle.objects.specs.Owners.{manager_by, apply_operation}
use Rattle.objects.specs.Views.{state_of}
use Rattle.ownership.specs.Results.{conflict_of}
use Rattle.ownership.proofs.Clauses.{keeps_others, keeps_places, keeps_leaf_value, keeps_leaves, keeps_well_typed, settles}
use Rattle.ownership.proofs.Dropping.{conflicts_are}
use Rattle.ownership.proofs.Sides.{keeps_apart, keeps_sides, own_content, own_places}
use Rattle.ownership.proofs.applying.apply.Goals as goal

pub returns-then-is_refused : goal.returns-then-is_refused
returns-then-is_refused c =
    let live = state_of c.args.live.now in
    let body = own_part c.args.is_apart c.args.subresource c.args.config in
    let changed_are = c.in_ok-changed.ensures ∙ ap (λ b. changed b live.content) c.own_part-config.ensures in
    let cs = conflicts_are live body (manager_by c.args.manager.now apply_operation c.args.subresource) c.in_ok-changed.changed changed_are
    (map conflict_of c.in_ok-conflicts.conflicts.items) (manager_view c.in_ok-manager.manager) c.in_ok-manager.ensures c.in_ok-conflicts.ensures in
    record {
      applies = (ap (λ l. is_refused l c.args.force) (sym cs) ∙ ap (λ l. is_refused (map conflict_of l) c.args.force) (sym c.deref.ensures.value) ∙ sym c.is_refused.ensures ∙ c.if-is_refused.true, cs);
      others = λ gentle. tt;
      sides = λ before. tt;
      apart = λ before. tt;
      places = λ s places body_places. tt;
      stand = λ before. tt;
      leaves = λ s places body_places before. tt;
      well_typed = λ s content well_typed. tt;
      again = tt;
    }

pub returns : goal.returns
returns c =
    let live = state_of c.args.live.now in
    let apart = c.args.is_apart in
    let x = c.args.subresource in
    let config = c.args.config in
    let body = own_part apart x config in
    let m = manager_by c.args.manager.now apply_operation x in
    let changed_are = c.in_ok-changed.ensures ∙ ap (λ b. changed b live.content) c.own_part-config.ensures in
    let cs = conflicts_are live body m c.in_ok-changed.changed changed_are
    (map conflict_of c.in_ok-conflicts.conflicts.items) (manager_view c.in_ok-manager.manager) c.in_ok-manager.ensures c.in_ok-conflicts.ensures in
    let free : is_refused (conflicts live body m) c.args.force ≡ false = ap (λ l. is_refused l c.args.force) (sym cs) ∙ ap (λ l. is_refused (map conflict_of l) c.args.force) (sym c.deref.ensures.value) ∙ sym c.is_refused.ensures ∙ c.if-is_refused.false in
    let new : State = state_of c.in_ok-applied.field-0 in
    let is : new ≡ applied live body m = c.in_ok-applied.ensures c.in_ok-changed.ensures ∙ ap₂ (applied live) c.own_part-config.ensures c.in_ok-manager.ensures in
    record {
      applies = (free, is);
      others = keeps_others live body m c.args.force new free is;
      sides = keeps_sides apart live config m new is;
      apart = keeps_apart apart live config m new is;
      places = λ s places body_places. keeps_places live body m c.args.force new free is s places (own_places apart x s config body_places);
      stand = keeps_leaf_value live body m c.args.force new free is;
      leaves = λ s places body_places. keeps_leaves live body m c.args.force new free is s places (own_places apart x s config body_places);
      well_typed = λ s content. keeps_well_typed live body m c.args.force new free is s (own_content apart x s config content);
      again = settles live body m c.args.force new free is;
    }
