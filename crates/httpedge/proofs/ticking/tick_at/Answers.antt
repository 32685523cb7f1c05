use Rattle.std.proofs.Common.{rules, sym, ap}
use Rattle.std.specs.Prelude.{is_some}
use Rattle.std.specs.BTreeMap.{get}
use Rattle.std.specs.Ordering.{nat_cmp}
use Rattle.httpedge.specs.ConnectionViews.{found_in, held_or, closed_by}
use Rattle.httpedge.proofs.Ticked.{found_put, none_tells, none_ticks, put_keys, some_tells, some_ticks}
use Rattle.httpedge.proofs.ticking.tick_at.Goals as goal

pub returns-in-None-clause-ticks : goal.returns-in-None-clause-ticks
returns-in-None-clause-ticks c = λ types m before had_ended cut represents all.
    none_ticks types c.args.ms c.args.id before c.args.held.now c.get_mut.follows.lender-at-none had_ended cut all (sym c.in-None.ensures.value) c.get_mut.follows.holds-at-none

pub returns-in-Some-clause-ticks : goal.returns-in-Some-clause-ticks
returns-in-Some-clause-ticks c = λ types m before had_ended cut represents all.
    let new = c.tick_one.new.connection in
    let put = ((c.get_mut.follows.holds new).3 (search rules)).0 in
    some_ticks types c.args.ms c.args.id before (found_in c.args.held.now had_ended cut) (found_in (c.get_mut.follows.lender new) had_ended cut) _ new c.tick_one.result all
    (ap (λ o. held_or o (closed_by (had_ended c.args.id) (cut c.args.id))) (sym c.in-Some.ensures.value))
    (found_put c.args.held.now (c.get_mut.follows.lender new) had_ended cut c.args.id new put)
    (λ x holds. c.tick_one.ensures.ticks types m x represents holds) (λ x holds. c.tick_one.ensures.due types x holds)

pub returns-in-None-clause-keys : goal.returns-in-None-clause-keys
returns-in-None-clause-keys c = λ q. ap (λ m. is_some (get nat_cmp m q)) c.get_mut.follows.holds-at-none

pub returns-in-Some-clause-keys : goal.returns-in-Some-clause-keys
returns-in-Some-clause-keys c = λ q.
    let new = c.tick_one.new.connection in
    let put = ((c.get_mut.follows.holds new).3 (search rules)).0 in
    put_keys c.args.held.now (c.get_mut.follows.lender new) c.args.id new (ap is_some (sym c.in-Some.ensures.value)) put q

pub returns-in-None-clause-told : goal.returns-in-None-clause-told
returns-in-None-clause-told c = λ types m before had_ended cut represents all.
    none_tells types c.args.ms c.args.id before c.args.held.now had_ended cut c.args.changes.now.items all (sym c.in-None.ensures.value)

pub returns-in-Some-clause-told : goal.returns-in-Some-clause-told
returns-in-Some-clause-told c = λ types m before had_ended cut represents all.
    some_tells types c.args.ms c.args.id before (found_in c.args.held.now had_ended cut) _ c.args.changes.now.items c.tick_one.new.changes.items c.tick_one.result all
    (ap (λ o. held_or o (closed_by (had_ended c.args.id) (cut c.args.id))) (sym c.in-Some.ensures.value)) (λ x holds fine. c.tick_one.ensures.told types m x represents holds fine)
