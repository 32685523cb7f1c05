use Rattle.std.proofs.Common.{ℕ, List, [], Bor, get_or, map, refl}
use Rattle.std.proofs.lemmas.Result.{on_ok_weaker}
use Rattle.json.specs.Json.{item, string}
use Rattle.discovery.specs.Documents.{texts}
use Rattle.discovery.proofs.Appended.{item_added}
use Rattle.discovery.proofs.Loops.{get_or_is, items_end, items_next}
use Rattle.discovery.proofs.key_names.put_texts.Goals as goal

pub loop-text-preserved : goal.loop-text-preserved
loop-text-preserved c =
    let all = c.args.all.now in
    let i = c.loop-text.text-index in
    let none : Bor (List ℕ) = record { ref_ptr = (0, 0); now = [] } in
    let x = get_or all i none in
    let w = c.loop-text.writer in
    let n = c.put.new.writer in
    items_next (λ ys. texts (map (λ s. s.now) ys)) all c.args.writer.now i (item (string x.now)) x refl c.loop-text-test.true (get_or_is all i none c.loop-text-test.true) w n c.loop-text.invariant
    (item_added (string x.now) w n c.in_ok-put.ensures)

pub returns : goal.returns
returns c =
    on_ok_weaker c.put-2.result
    (λ ended. items_end (λ ys. texts (map (λ s. s.now) ys)) c.args.all.now c.args.writer.now c.loop-text.text-index refl c.loop-text-test.false c.loop-text.writer c.put-2.new.writer c.loop-text.invariant ended)
    c.put-2.ensures
