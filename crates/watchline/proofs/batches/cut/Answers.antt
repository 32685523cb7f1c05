use Rattle.std.proofs.Common.{◌∙◌, ap, map, sym}
use Rattle.std.proofs.lemmas.List.{take-map}
use Rattle.watchline.specs.Views.{seen_change_of}
use Rattle.watchline.proofs.batches.cut.Goals as goal

pub returns : goal.returns
returns c = ap (map seen_change_of) c.truncate.ensures.items ∙ sym (take-map seen_change_of c.args.max c.args.found.items)
