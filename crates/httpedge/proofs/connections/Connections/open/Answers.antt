use Rattle.std.proofs.Common.{rules, ◌≡◌, Bool, true, false, cond, refl, sym, ap, ◌∙◌}
use Rattle.std.specs.BTreeMap.{is_at}
use Rattle.std.specs.BTreeSet.{contains}
use Rattle.std.specs.List.{list_any}
use Rattle.std.specs.Map.{lookup}
use Rattle.std.specs.Ordering.{nat_cmp, eq_by_cmp}
use Rattle.httpedge.specs.ConnectionViews.{is_open_in}
use Rattle.httpedge.proofs.Forgetting.{in_and_out, no_id_there, opens_one, same_opened}
use Rattle.httpedge.proofs.Results.{on_err}
use Rattle.httpedge.proofs.connections.Connections.open.Goals as goal

pub returns-then-not-is_open-clause-ok : goal.returns-then-not-is_open-clause-ok
returns-then-not-is_open-clause-ok c = λ fresh.
    let self = c.args.self.now in
    let id = c.args.id in
    let had_ended_if_over : is_open_in c.args.connection ≡ false = search rules in
    opens_one id c.args.connection self _ fresh c.in_ok-insert.ensures.updates.0
    (λ q. no_id_there (contains nat_cmp self.open_ids) id q fresh.1 ∙ ap (λ (x : Bool). cond (eq_by_cmp nat_cmp id q) x (contains nat_cmp self.open_ids q)) (sym had_ended_if_over)) refl refl refl

pub returns-in_err-insert-clause-err : goal.returns-in_err-insert-clause-err
returns-in_err-insert-clause-err c = λ fresh.
    on_err _ (same_opened c.args.id c.args.self.now _ fresh (λ q. ap (lookup (is_at (nat_cmp q))) c.in_err-insert.ensures.err) (λ q. refl) refl refl refl)

pub returns-in_err-insert-2-clause-err : goal.returns-in_err-insert-2-clause-err
returns-in_err-insert-2-clause-err c = λ fresh.
    on_err _ (same_opened c.args.id c.args.self.now _ fresh (λ q. refl) (λ q. ap (list_any (is_at (nat_cmp q))) c.in_err-insert-2.ensures.err) refl refl refl)

pub returns-in-Err-clause-err : goal.returns-in-Err-clause-err
returns-in-Err-clause-err c = λ fresh.
    same_opened c.args.id c.args.self.now _ fresh (λ q. ap (lookup (is_at (nat_cmp q))) c.in-Err.ensures.err)
    (λ q. in_and_out c.args.self.now.open_ids c.insert-2.new.self c.remove.new.self c.args.id q fresh.1 (c.in_ok-insert-2.ensures.updates.0 q) (c.remove.ensures.updates.0 q)) refl refl refl

pub returns-clause-ok : goal.returns-clause-ok
returns-clause-ok c = λ fresh.
    let self = c.args.self.now in
    let id = c.args.id in
    let opened : is_open_in c.args.connection ≡ true = search rules in
    opens_one id c.args.connection self _ fresh c.in_default.ensures.updates.0
    (λ q. c.in_ok-insert-2.ensures.updates.0 q ∙ ap (λ (x : Bool). cond (eq_by_cmp nat_cmp id q) x (contains nat_cmp self.open_ids q)) (sym opened)) refl refl refl
