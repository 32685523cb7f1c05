use Rattle.lists.proofs.Values.{lists_are_json}
use Rattle.lists.proofs.laws.lists_are_json.Goals as goal

pub returns : goal.returns
returns c = lists_are_json
