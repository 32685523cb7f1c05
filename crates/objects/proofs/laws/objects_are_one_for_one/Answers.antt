use Rattle.objects.proofs.Back.{one_for_one}
use Rattle.objects.proofs.laws.objects_are_one_for_one.Goals as goal

pub returns : goal.returns
returns c = one_for_one
