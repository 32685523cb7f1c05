use Rattle.std.proofs.lemmas.Result.{on_ok_weaker}
use Rattle.serde_json.specs.Data.{string}
use Rattle.objects.proofs.Appended.{member_appended}
use Rattle.objects.proofs.managed_text.write_string.Goals as goal

pub returns : goal.returns
returns c = on_ok_weaker c.string.result (λ value. member_appended c.args.name.now (string c.args.text.now) c.args.out.now c.name.new.self c.string.new.self c.in_ok-name.ensures value) c.string.ensures
