use Rattle.std.proofs.Common.{[], ap, sym, ◌∙◌, map, string_bytes}
use Rattle.std.specs.FinMap as fin
use Rattle.pathmap.specs.Contents.{nothing}
use Rattle.pathmap.specs.Maps.{content, contents_in}
use Rattle.pathmap.proofs.Contents.{get-nothing}
use Rattle.pathmap.proofs.Finding.{get_at, held-map}
use Rattle.pathmap.proofs.Levels.{get-level-top}
use Rattle.pathmap.proofs.pathmap.PathMap.get.Goals as goal

pub returns-in-Some : goal.returns-in-Some
returns-in-Some c =
    let mine = content c.args.self.now in
    let texts = map string_bytes c.texts.result.now in
    held-map c.as_ref.result c.map.inside.held c.as_ref.ensures.value ∙ sym (get-level-top c.map.inside.held (contents_in c.map.inside.below.items)) ∙ ap (λ m. fin.get m []) c.map.view_is
    ∙ get_at mine (content c.in-Some.map.now) texts c.in-Some.ensures ∙ ap (fin.get mine) c.texts.ensures

pub returns-in-None : goal.returns-in-None
returns-in-None c =
    let mine = content c.args.self.now in
    sym (get-nothing []) ∙ get_at mine nothing (map string_bytes c.texts.result.now) c.in-None.ensures ∙ ap (fin.get mine) c.texts.ensures
