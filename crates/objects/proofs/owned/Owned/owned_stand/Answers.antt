use Rattle.std.proofs.Common.{◌∙◌, ap}
use Rattle.pathmap.specs.Contents.{dom}
use Rattle.objects.specs.Parts.{all_within}
use Rattle.objects.specs.Views.{state_of}
use Rattle.objects.proofs.LeafValue.{stand_decided}
use Rattle.objects.proofs.owned.Owned.owned_stand.Goals as goal

pub returns : goal.returns
returns c = stand_decided (state_of c.args.self.now) c.all_stand_in.result (c.all_stand_in.ensures ∙ ap (all_within (dom c.args.self.now.tree)) c.entries.ensures.entries)
