use Rattle.std.proofs.Common.{ap, subst, ◌∙◌, min, slice_get, option_map, Some}
use Rattle.history.specs.History.{History}
use Rattle.history.specs.Kept.{IsPruned}
use Rattle.history.specs.Read.{key_of}
use Rattle.revtable.specs.Decoded.{object_shown}
use Rattle.revtable.proofs.Numbers.{latest_is}
use Rattle.revtable.proofs.table.Table.latest_at.Goals as goal

pub returns-in-None-clause-ok : goal.returns-in-None-clause-ok
returns-in-None-clause-ok c =
    ap (option_map object_shown) (c.in-None.ensures.value ∙ ap (λ l. slice_get l 0) c.deref.ensures.value)
    ∙ latest_is c.args.self.now (key_of c.args.key.now) c.args.revision c.min-revision.result c.in_ok-rows.rows.items (subst IsPruned c.self.view_is c.self.invariant.0.pruned)
    (c.min-revision.ensures ∙ ap (min c.args.revision) (c.self.invariant.1 ∙ ap (λ (h : History). h.current) c.self.view_is)) c.in_ok-rows.ensures.ok

pub returns-clause-ok : goal.returns-clause-ok
returns-clause-ok c =
    ap Some c.in_ok-read_object-in-Some.ensures
    ∙ ap (option_map object_shown) (c.in-Some.ensures.value ∙ ap (λ l. slice_get l 0) c.deref.ensures.value)
    ∙ latest_is c.args.self.now (key_of c.args.key.now) c.args.revision c.min-revision.result c.in_ok-rows.rows.items (subst IsPruned c.self.view_is c.self.invariant.0.pruned)
    (c.min-revision.ensures ∙ ap (min c.args.revision) (c.self.invariant.1 ∙ ap (λ (h : History). h.current) c.self.view_is)) c.in_ok-rows.ensures.ok
