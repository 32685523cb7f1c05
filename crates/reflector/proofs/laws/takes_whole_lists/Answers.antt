use Rattle.reflector.proofs.Lists.{list_taken}
use Rattle.reflector.proofs.laws.takes_whole_lists.Goals as goal

pub returns : goal.returns
returns c = λ wanted c o r bodies sync pages few. list_taken wanted o r few bodies c sync pages
