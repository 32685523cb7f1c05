use Rattle.schema.specs.Shape.{shape}
use Rattle.objects.specs.Views.{state_of}
use Rattle.objects.proofs.Counted.{has_labels}
use Rattle.objects.proofs.owned.Owned.to_object_with_labels.Goals as goal

pub returns-clause-text : goal.returns-clause-text
returns-clause-text c = λ lawful content. c.in_ok-text.ensures lawful content (c.in_ok-metadata_members.ensures lawful)

pub returns-clause-labels : goal.returns-clause-labels
returns-clause-labels c = λ lawful. has_labels (shape c.args.schema.now) (state_of c.args.self.now) _ _ c.count_labels-labels.ensures (c.in_ok-metadata_members.ensures lawful)
