use Rattle.std.proofs.Common.{ap, ◌∙◌, rules, string_bytes}
use Rattle.std.proofs.lemmas.Fn.{filter_same}
use Rattle.pathmap.specs.Maps.{contents_in}
use Rattle.pathmap.specs.Parted.{has}
use Rattle.pathmap.proofs.Parting.{named-those}
use Rattle.pathmap.proofs.parts.keep_part.Goals as goal

pub returns : goal.returns
returns c =
    let part = c.args.part in
    let name = c.args.name.now in
    ap contents_in (filter_same _ (λ x. has part name (string_bytes x.0)) _ (λ x b f' k. search rules) _ _ c.retain.ensures.filtered) ∙ named-those (has part name) c.args.below.now.items
