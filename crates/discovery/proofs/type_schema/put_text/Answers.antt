use Rattle.std.proofs.Common.{refl}
use Rattle.std.proofs.lemmas.Result.{on_ok_weaker}
use Rattle.json.specs.Json.{member}
use Rattle.discovery.specs.OpenApi.{text_schema}
use Rattle.discovery.proofs.Appended.{members_added}
use Rattle.discovery.proofs.type_schema.put_text.Goals as goal

pub returns : goal.returns
returns c = on_ok_weaker c.put.result (λ told. members_added (member c.args.name.now text_schema) _ c.args.writer.now c.put.new.writer (λ rest. refl) told) c.put.ensures
