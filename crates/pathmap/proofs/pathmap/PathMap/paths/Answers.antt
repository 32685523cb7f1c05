use Rattle.std.proofs.Common.{◌++◌, ap₂, ◌∙◌}
use Rattle.pathmap.specs.Contents.{dom, in_order}
use Rattle.pathmap.specs.Maps.{content}
use Rattle.pathmap.proofs.Listing.{after_prefix, no_prefix}
use Rattle.pathmap.proofs.pathmap.PathMap.paths.Goals as goal

pub returns : goal.returns
returns c =
    let all = in_order (dom (content c.args.self.now)) in
    c.in_ok-list.ensures ∙ ap₂ (λ xs p. xs ++ after_prefix p all) c.new-all.ensures.items c.new.ensures ∙ no_prefix all
