use Rattle.std.proofs.Common.{◌≡◌, sym, ap, subst, ◌∙◌}
use Rattle.sqlite.specs.Held.{state}
use Rattle.revtable.specs.Rows.{stored_in, Keeps}
use Rattle.revtable.specs.Spans.{Stored, history_of, spans_of, changes_in, stored_of}
use Rattle.revtable.proofs.change_log.ChangeLog.put_all.Goals as goal

-- what stands is what the history's changes leave
stands : (st : Stored) → st.spans ≡ spans_of (changes_in st.spans) → st ≡ stored_of (history_of st)
stands st rows = ap (λ l. record { spans = l; current = st.current; compacted = st.compacted }) rows

pub invariant_of-self : goal.invariant_of-self
invariant_of-self g c =
    let is = c.self.view_is ∙ stands c.args.self.now c.requires.rows in
    let keeps = subst (λ st. Keeps st (state g.S.Store c.self.inside.base)) is c.self.invariant.1 in (
      c.self.invariant.0,
      subst (λ st. Keeps st (state g.S.Store c.put_all.new.base)) (sym is) (c.in_err-put_all.ensures.err (history_of c.args.self.now) c.requires.rising (sym c.requires.current) (sym c.requires.compacted) keeps),
    )

pub invariant_of-self-2 : goal.invariant_of-self-2
invariant_of-self-2 g c =
    let is = c.self.view_is ∙ stands c.args.self.now c.requires.rows in
    let keeps = subst (λ st. Keeps st (state g.S.Store c.self.inside.base)) is c.self.invariant.1 in
    let now = c.in_ok-put_all.ensures.ok (history_of c.args.self.now) c.requires.rising (sym c.requires.current) (sym c.requires.compacted) keeps in (
      c.self.invariant.0,
      subst (λ st. Keeps st (state g.S.Store c.put_all.new.base)) (sym (ap (λ b. stored_in (state g.S.Store b).now) c.of.ensures ∙ now.1)) now.0,
    )

pub returns-clause-ok : goal.returns-clause-ok
returns-clause-ok g c =
    let is = c.self.view_is ∙ stands c.args.self.now c.requires.rows in
    let keeps = subst (λ st. Keeps st (state g.S.Store c.self.inside.base)) is c.self.invariant.1 in
    ap (λ b. stored_in (state g.S.Store b).now) c.of.ensures ∙ (c.in_ok-put_all.ensures.ok (history_of c.args.self.now) c.requires.rising (sym c.requires.current) (sym c.requires.compacted) keeps).1
