use Rattle.objects.proofs.Lent.{others_left}
use Rattle.objects.proofs.envelope.split_off.Goals as goal

pub returns-clause-ordered : goal.returns-clause-ordered
returns-clause-ordered c = (
  others_left c.args.members.items c.take.new.members.items c.requires (c.take.ensures.left_ordered c.requires) c.take.ensures.left,
  c.in-Some-into_object.ensures.ordered (c.in-Some.ensures.value_ordered c.requires),
)
