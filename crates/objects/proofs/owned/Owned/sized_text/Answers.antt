use Rattle.objects.proofs.owned.Owned.sized_text.Goals as goal

pub returns : goal.returns
returns c = λ lawful content. c.text_with.ensures lawful content (c.in_ok-metadata_members.ensures lawful)
