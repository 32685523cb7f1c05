use Rattle.std.proofs.Common.{[], ap, not, sym, ◌∙◌, map, string_bytes}
use Rattle.pathmap.specs.Beside.{has_at_or_below}
use Rattle.pathmap.specs.Contents.{dom, nothing}
use Rattle.pathmap.specs.Maps.{content}
use Rattle.pathmap.proofs.Finding.{has_at}
use Rattle.pathmap.proofs.Picking.{picks-Clear, twice}
use Rattle.pathmap.proofs.Sets.{nothing-has}
use Rattle.pathmap.proofs.pathmap.PathMap.has_at_or_below.Goals as goal

pub returns-in-Some : goal.returns-in-Some
returns-in-Some c =
    let mine = content c.args.self.now in
    let here = content c.in-Some.map.now in
    ap not (picks-Clear c.in-Some.map.now c.is_bare.result c.is_bare.ensures.0 c.is_bare.ensures.1) ∙ sym (twice (has_at_or_below (dom here) []))
    ∙ sym (has_at (map string_bytes c.texts.result.now) mine here c.in-Some.ensures) ∙ ap (has_at_or_below (dom mine)) c.texts.ensures

pub returns-in-None : goal.returns-in-None
returns-in-None c =
    let mine = content c.args.self.now in
    sym nothing-has ∙ sym (has_at (map string_bytes c.texts.result.now) mine nothing c.in-None.ensures) ∙ ap (has_at_or_below (dom mine)) c.texts.ensures
