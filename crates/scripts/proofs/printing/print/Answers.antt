use Rattle.std.proofs.Common.{◌∙◌, [], ap, map, refl, subst}
use Rattle.std.proofs.KnownBytes.{Appends-nil}
use Rattle.std.proofs.lemmas.Result.{on_err_weaker, on_ok_weaker}
use Rattle.scripts.specs.Output.{Prints, PrintsPrefix, parts_of}
use Rattle.scripts.specs.Parts.{part_seen}
use Rattle.scripts.proofs.Endings.{output_as, where_it_fails}
use Rattle.scripts.proofs.OutputLemmas.{prefix_at}
use Rattle.scripts.proofs.printing.print.Goals as goal

pub returns-in_err-parts-clause-prefix : goal.returns-in_err-parts-clause-prefix
returns-in_err-parts-clause-prefix g c = where_it_fails c.from_residual.result ([], prefix_at (parts_of c.args.trace.now) 0 [] refl, Appends-nil (g.W.Write.contents c.args.writer.now))

pub returns-in_err-parts-clause-fault : goal.returns-in_err-parts-clause-fault
returns-in_err-parts-clause-fault g c = output_as _ _ c.from_residual.ensures.1 tt

pub returns-clause-ok : goal.returns-clause-ok
returns-clause-ok g c =
    let parts = ap (map part_seen) c.deref.ensures.value ∙ c.in_ok-parts.ensures in
    on_ok_weaker c.write_parts.result (λ emitted. (emitted.0, subst (λ ps. Prints ps emitted.0) parts emitted.1, emitted.2)) c.write_parts.ensures.ok

pub returns-clause-prefix : goal.returns-clause-prefix
returns-clause-prefix g c =
    let parts = ap (map part_seen) c.deref.ensures.value ∙ c.in_ok-parts.ensures in
    on_err_weaker c.write_parts.result (λ emitted. (emitted.0, subst (λ ps. PrintsPrefix ps emitted.0) parts emitted.1, emitted.2)) c.write_parts.ensures.prefix
