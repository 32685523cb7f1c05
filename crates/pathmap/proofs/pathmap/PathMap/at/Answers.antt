use Rattle.std.proofs.Common.{◌++◌, ◌+◌, ap, sym, ◌∙◌, drop, map, string_bytes}
use Rattle.std.specs.FinMap as fin
use Rattle.pathmap.specs.Maps.{content}
use Rattle.pathmap.proofs.Contents.{get-nothing}
use Rattle.pathmap.proofs.Finding.{texts_more}
use Rattle.pathmap.proofs.Insides.{get-inside}
use Rattle.pathmap.proofs.pathmap.PathMap.at.Goals as goal

pub loop-text-preserved : goal.loop-text-preserved
loop-text-preserved c = λ q.
    let here = content c.loop-text.here.now in
    let left = map string_bytes (drop (c.loop-text.text-index + 1) c.args.texts.now) in
    ap (λ m. fin.get m (left ++ q)) c.in-Some.ensures.inside ∙ get-inside (string_bytes c.text-item.result) here (left ++ q)
    ∙ ap (λ p. fin.get here (p ++ q)) (sym (texts_more c.args.texts.now c.loop-text.text-index c.text-item.result c.loop-text-test.true c.text-item.is)) ∙ c.loop-text.invariant q

pub returns-in_default : goal.returns-in_default
returns-in_default c = λ q.
    let here = content c.loop-text.here.now in
    let left = map string_bytes (drop (c.loop-text.text-index + 1) c.args.texts.now) in
    get-nothing q ∙ sym (get-nothing (left ++ q)) ∙ ap (λ m. fin.get m (left ++ q)) c.in_default.ensures.inside ∙ get-inside (string_bytes c.text-item.result) here (left ++ q)
    ∙ ap (λ p. fin.get here (p ++ q)) (sym (texts_more c.args.texts.now c.loop-text.text-index c.text-item.result c.loop-text-test.true c.text-item.is)) ∙ c.loop-text.invariant q
