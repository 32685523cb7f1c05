use Rattle.std.proofs.Common.{◌≡◌, ◌<◌, ◌≤◌, ◌+◌, inl, inr, [], ◌∷◌, ◌++◌, refl, ap, map, length, length-append, ◌∙◌, arith, rules}
use Rattle.sqlite.specs.Held.{state}
use Rattle.sqlite.specs.Values.{bound}
use Rattle.history.specs.History.{last_revision}
use Rattle.history.specs.Read.{entry_of}
use Rattle.revtable.specs.Rows.{Keeps}
use Rattle.revtable.proofs.FirstKept.{begun, ended, failed_keeps, found_next, still_fits, stopped, unchanged_keeps}
use Rattle.revtable.proofs.first_kept.read.Goals as goal

pub returns-in_err-rows-clause-keeps : goal.returns-in_err-rows-clause-keeps
returns-in_err-rows-clause-keeps g c st keeps =
    let new = c.query.follows.lender-at-none in
    let refused = rw c.in_err-rows.was at c.query.follows.holds-at-none in
    failed_keeps c.args.sql.now c.requires.plain (state g.S.Store c.args.base.now) (state g.S.Store new) (bound c.args.params.now) st c.in_err-rows.field-0.0 keeps (refused.err (c.requires.clean new))

pub rows-init : goal.rows-init
rows-init g c = (
  refl,
  λ st keeps.
      let new = c.in_ok-rows.rows.conn.now in
      let it = begun c.args.sql.now c.requires.plain c.requires.unlisted c.requires.bare (bound c.args.params.now) st g.S.Store c.args.base.now new keeps (c.in_ok-rows.ensures.begun (c.requires.clean new)) in
      ([], it.0, unchanged_keeps (state g.S.Store c.args.base.now) (state g.S.Store new) st it.1 keeps, refl, ap (map entry_of) c.new-found.ensures.items),
  omega (arith, ap length c.new-found.ensures.items),
)

pub rows-preserved : goal.rows-preserved
rows-preserved g c =
    let moved = c.next.follows.holds-at-none in
    let old = c.rows.rows.conn.now in
    let new = c.next.follows.lender-at-none.conn.now in
    let kept = g.K.Keep.kept c.args.keep.now in
    let row = c.in-Some.row.now in
    let short : length c.rows.found.items < c.args.max = omega (arith, c.if-len-max.false, c.len.ensures, c.rows.found.ok.0) in (
      moved.same_reference ∙ c.rows.invariant.0,
      λ st keeps.
          let it = c.rows.invariant.1 st keeps in (
            it.0 ++ row ∷ [],
            (rw (c.in_ok-row.was, c.in-Some.is) at (moved.ok (c.requires.clean new))) c.args.sql.now (bound c.args.params.now) it.0 it.1,
            unchanged_keeps (state g.S.Store old) (state g.S.Store new) st (rw c.in_ok-row.was at (moved.same (c.requires.clean new))) it.2,
            length-append it.0 (row ∷ []) ∙ ap (λ n. n + 1) it.3,
            found_next kept it.0 row c.rows.found.items c.push_kept.new.found.items it.4 c.in_ok-push_kept.ensures,
          ),
      still_fits kept c.args.max row c.rows.found.items c.push_kept.new.found.items c.in_ok-push_kept.ensures short,
    )

pub returns-then-len-max-clause-keeps : goal.returns-then-len-max-clause-keeps
returns-then-len-max-clause-keeps g c st keeps = let now : Keeps st (state g.S.Store c.rows.rows.conn.now) = (c.rows.invariant.1 st keeps).2 in search rules

pub returns-then-len-max-clause-found : goal.returns-then-len-max-clause-found
returns-then-len-max-clause-found g c st keeps =
    let it = c.rows.invariant.1 st keeps in
    let few : length it.0 ≤ last_revision = omega (arith, it.3, c.rows-test.true) in
    let enough : c.args.max ≤ length c.rows.found.items = omega (arith, c.if-len-max.true, c.len.ensures, c.rows.found.ok.0) in
    stopped c.args.sql.now c.requires.plain c.requires.unlisted c.requires.bare (bound c.args.params.now) st g.S.Store (g.K.Keep.kept c.args.keep.now) c.args.max c.rows.rows.conn.now it.0 c.rows.found.items it.2 it.1 it.4 few c.rows.invariant.2 (inr enough)

pub returns-in_err-row-clause-keeps : goal.returns-in_err-row-clause-keeps
returns-in_err-row-clause-keeps g c st keeps =
    let it = c.rows.invariant.1 st keeps in
    let old = c.rows.rows.conn.now in
    let new = c.next.follows.lender-at-none.conn.now in
    let failed = (rw c.in_err-row.was at (c.next.follows.holds-at-none.err (c.requires.clean new))) c.args.sql.now (bound c.args.params.now) it.0 it.1 in
    let now : Keeps st (state g.S.Store new) = failed_keeps c.args.sql.now c.requires.plain (state g.S.Store old) (state g.S.Store new) (bound c.args.params.now) st _ it.2 failed in
    search rules

pub returns-in_default-clause-keeps : goal.returns-in_default-clause-keeps
returns-in_default-clause-keeps g c st keeps =
    let it = c.rows.invariant.1 st keeps in
    let new = c.next.follows.lender-at-none.conn.now in
    let now : Keeps st (state g.S.Store new) =
    unchanged_keeps (state g.S.Store c.rows.rows.conn.now) (state g.S.Store new) st (rw c.in_ok-row.was at (c.next.follows.holds-at-none.same (c.requires.clean new))) it.2 in
    search rules

pub returns-in_default-clause-found : goal.returns-in_default-clause-found
returns-in_default-clause-found g c st keeps =
    let it = c.rows.invariant.1 st keeps in
    let new = c.next.follows.lender-at-none.conn.now in
    let few : length it.0 ≤ last_revision = omega (arith, it.3, c.rows-test.true) in
    let shown = (rw (c.in_ok-row.was, c.in_default.is) at (c.next.follows.holds-at-none.ok (c.requires.clean new))) c.args.sql.now (bound c.args.params.now) it.0 it.1 in
    ended c.args.sql.now c.requires.plain c.requires.unlisted c.requires.bare (bound c.args.params.now) st g.S.Store (g.K.Keep.kept c.args.keep.now) c.args.max c.rows.rows.conn.now new it.0 c.rows.found.items it.2 shown it.4 few c.rows.invariant.2

pub returns-in_err-push_kept-clause-keeps : goal.returns-in_err-push_kept-clause-keeps
returns-in_err-push_kept-clause-keeps g c st keeps =
    let it = c.rows.invariant.1 st keeps in
    let new = c.next.follows.lender-at-none.conn.now in
    let now : Keeps st (state g.S.Store new) =
    unchanged_keeps (state g.S.Store c.rows.rows.conn.now) (state g.S.Store new) st (rw c.in_ok-row.was at (c.next.follows.holds-at-none.same (c.requires.clean new))) it.2 in
    search rules

pub returns-clause-keeps : goal.returns-clause-keeps
returns-clause-keeps g c st keeps = let now : Keeps st (state g.S.Store c.rows.rows.conn.now) = (c.rows.invariant.1 st keeps).2 in search rules

pub returns-clause-found : goal.returns-clause-found
returns-clause-found g c st keeps =
    let it = c.rows.invariant.1 st keeps in
    let all : length it.0 ≡ last_revision = omega (arith, it.3, c.rows-test.false, c.rows.auto.counter-end) in
    let few : length it.0 ≤ last_revision = omega (arith, all) in
    stopped c.args.sql.now c.requires.plain c.requires.unlisted c.requires.bare (bound c.args.params.now) st g.S.Store (g.K.Keep.kept c.args.keep.now) c.args.max c.rows.rows.conn.now it.0 c.rows.found.items it.2 it.1 it.4 few c.rows.invariant.2 (inl all)
