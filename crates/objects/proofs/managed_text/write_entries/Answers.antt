use Rattle.std.proofs.lemmas.Result.{on_ok_weaker}
use Rattle.schema.specs.Shape.{shape}
use Rattle.objects.specs.Managers.{pairs}
use Rattle.objects.specs.ObjectText.{entry_items}
use Rattle.objects.proofs.Appended.{array_written}
use Rattle.objects.proofs.managed_text.write_entries.Goals as goal

pub returns : goal.returns
returns c =
    on_ok_weaker c.end_array.result (λ closed. array_written (entry_items (shape c.args.schema.now) c.args.api_version.now (pairs c.args.entries.now)) c.args.out.now c.begin_array.new.self c.write_each.new.out c.end_array.new.self
    c.in_ok-begin_array.ensures c.in_ok-write_each.ensures closed) c.end_array.ensures
