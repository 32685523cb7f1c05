use Rattle.objects.proofs.FieldTexts.{fields_v1_textual}
use Rattle.objects.proofs.laws.fields_v1_are_textual.Goals as goal

pub returns : goal.returns
returns c = fields_v1_textual
