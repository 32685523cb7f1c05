use Rattle.std.proofs.Common.{◌∙◌, ap, map, refl}
use Rattle.std.proofs.lemmas.List.{map-append, take_all}
use Rattle.scripts.specs.Parts.{part_seen}
use Rattle.scripts.proofs.OutputLemmas.{all_parts, one_reported, parts_are}
use Rattle.scripts.proofs.printing.parts_of.Goals as goal

pub loop-report-preserved : goal.loop-report-preserved
loop-report-preserved c =
    ap (map part_seen) c.in_ok-push.ensures.items ∙ map-append part_seen c.loop-report.parts.items _ ∙ one_reported _ _ _ _ _ _ c.loop-report-test.true c.report-item.is c.loop-report.invariant refl

pub returns : goal.returns
returns c =
    let ids = c.deref.result.now in
    let reports = c.deref-report-items.result.now in
    all_parts _ _ _ _ _ _ reports c.loop-report.report-index (ap (map part_seen) c.in_ok-parts.ensures.items) (c.in_ok-push_replies.ensures ids c.in_ok-requested.ensures)
    (c.in_ok-push_connections.ensures ids c.in_ok-requested.ensures) c.loop-report.invariant (take_all c.loop-report.report-index reports c.loop-report-test.false)
    ∙ parts_are c.args.trace.now ids _ _ reports c.deref.ensures.value c.deref-2.ensures.value c.deref-3.ensures.value c.deref-report-items.ensures.value
