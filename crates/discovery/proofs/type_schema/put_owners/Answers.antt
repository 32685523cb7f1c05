use Rattle.std.proofs.Common.{codes, refl}
use Rattle.std.proofs.lemmas.Result.{on_ok_weaker}
use Rattle.json.specs.Json.{member}
use Rattle.discovery.specs.OpenApi.{owners_schema}
use Rattle.discovery.proofs.Appended.{members_added}
use Rattle.discovery.proofs.type_schema.put_owners.Goals as goal

pub returns : goal.returns
returns c = on_ok_weaker c.put.result (λ told. members_added (member (codes "managedFields") owners_schema) _ c.args.writer.now c.put.new.writer (λ rest. refl) told) c.put.ensures
