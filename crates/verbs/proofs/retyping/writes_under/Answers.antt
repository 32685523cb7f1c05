use Rattle.std.proofs.Common.{◌∙◌, ap, map, sym}
use Rattle.std.specs.Prelude.{is_ok}
use Rattle.std.proofs.lemmas.Result.{IfErr-weaker}
use Rattle.api_types.specs.Served.{types_view}
use Rattle.history.specs.Read.{write_of}
use Rattle.verbs.proofs.Served.{lawful_seen, none_reported, refused_seen, writes_seen}
use Rattle.verbs.proofs.retyping.writes_under.Goals as goal

pub returns-clause-lawful : goal.returns-clause-lawful
returns-clause-lawful c = λ m is store.
    lawful_seen _ _ _ _ (ap types_view c.in-Ok.ensures.old) (ap types_view c.in-Ok.ensures.new) m is c.args.store.now store c.current-current.result c.current-current.ensures.current
    (λ v. map write_of v.items) c.writes.result (sym c.change_to.ensures.lawful ∙ ap is_ok c.in-Ok.is) c.writes.ensures.ok c.writes.ensures.writable

pub returns-clause-writes : goal.returns-clause-writes
returns-clause-writes c = λ m is store.
    writes_seen _ _ _ _ (ap types_view c.in-Ok.ensures.old) (ap types_view c.in-Ok.ensures.new) m is c.args.store.now store c.current-current.result c.current-current.ensures.current
    (λ v. map write_of v.items) c.writes.result c.writes.ensures.ok

pub returns-clause-refused : goal.returns-clause-refused
returns-clause-refused c = λ m is store.
    refused_seen _ _ _ _ (ap types_view c.in-Ok.ensures.old) (ap types_view c.in-Ok.ensures.new) m is c.args.store.now store c.current-current.result c.current-current.ensures.current
    (λ v. map write_of v.items) c.writes.result (sym c.change_to.ensures.lawful ∙ ap is_ok c.in-Ok.is) c.writes.ensures.refused

pub returns-clause-reported : goal.returns-clause-reported
returns-clause-reported c = IfErr-weaker c.writes.result _ _ (λ e many. none_reported _ e many) c.writes.ensures.refused
