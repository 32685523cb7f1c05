use Rattle.std.proofs.Common.{rules}
use Rattle.programs.proofs.TypesText.{reports_alike}
use Rattle.programs.proofs.types_file.types_in.Goals as goal

pub returns : goal.returns
returns c = reports_alike c.args.profile c.args.path.now c.args.text.now _ _ c.refused.result c.in-Ok.ensures.ok c.in-Err-read.ensures c.refused.ensures

pub returns-in-Err-2 : goal.returns-in-Err-2
returns-in-Err-2 c = c.not_json.ensures c.args.profile c.args.text.now (search rules)
