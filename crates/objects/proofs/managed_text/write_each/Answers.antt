use Rattle.schema.specs.Shape.{shape}
use Rattle.objects.proofs.EntryTexts.{all_written, next_written}
use Rattle.objects.proofs.managed_text.write_each.Goals as goal

pub loop-entry-preserved : goal.loop-entry-preserved
loop-entry-preserved c =
    next_written (shape c.args.schema.now) c.args.api_version.now c.args.entries.now c.loop-entry.entry-index c.loop-entry.out _ c.loop-entry.invariant c.entry-item.result c.loop-entry-test.true c.entry-item.is
    c.write_entry.new.out c.in_ok-write_entry.ensures

pub returns : goal.returns
returns c = all_written (shape c.args.schema.now) c.args.api_version.now c.args.entries.now c.loop-entry.entry-index c.loop-entry.out _ c.loop-entry.invariant c.loop-entry-test.false
