use Rattle.system_metadata.proofs.Rounds.{same_name}
use Rattle.system_metadata.proofs.laws.generated_names_differ.Goals as goal

pub returns : goal.returns
returns c = same_name
