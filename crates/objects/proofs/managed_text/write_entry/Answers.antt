use Rattle.std.proofs.lemmas.Result.{on_ok_weaker}
use Rattle.fieldset.specs.FieldsV1.{fields_v1_of}
use Rattle.schema.specs.Shape.{shape}
use Rattle.objects.specs.Managers.{manager_view}
use Rattle.objects.proofs.EntryTexts.{entry_written}
use Rattle.objects.proofs.managed_text.write_entry.Goals as goal

pub returns : goal.returns
returns c =
    on_ok_weaker c.end_object.result (λ closed. entry_written c.args.api_version.now (manager_view c.args.entry.now.manager) (fields_v1_of (shape c.args.schema.now) c.args.entry.now.paths) c.args.out.now
    c.begin_object.new.self c.write_prefix.new.out c.write_manager.new.out c.end_object.new.self c.in_ok-begin_object.ensures c.in_ok-write_prefix.ensures c.in_ok-write_manager.ensures closed) c.end_object.ensures
