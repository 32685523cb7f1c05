use Rattle.std.proofs.Common.{◌∙◌, ◌&&◌, not, ap}
use Rattle.indexer.specs.Keys.{is_same}
use Rattle.indexer.specs.Objects.{is_among, texts_at, under_at}
use Rattle.indexer.proofs.Flags.{moved, taken_back}
use Rattle.indexer.proofs.kept.move_to.Goals as goal

pub returns-clause-ok : goal.returns-clause-ok
returns-clause-ok c = λ i k q.
    let u = under_at c.args.postings.now.items i k q in
    let m = is_among (texts_at c.args.had.now i) k in
    let n = is_among (texts_at c.args.keys.now i) k in
    let s = is_same c.args.key.now q in
    c.remove_all-2.ensures i k q ∙ ap (λ b. b && not ((m && not n) && s)) (c.in_default.ensures.ok i k q) ∙ moved u m n s (c.requires i k q)

pub returns-in-Err-clause-err : goal.returns-in-Err-clause-err
returns-in-Err-clause-err c = λ i k q.
    let u = under_at c.args.postings.now.items i k q in
    let m = is_among (texts_at c.args.had.now i) k in
    let n = is_among (texts_at c.args.keys.now i) k in
    let s = is_same c.args.key.now q in
    let part = (c.in-Err.ensures.err i k q).0 in
    c.remove_all.ensures i k q ∙ ap (λ b. b && not ((n && not m) && s)) (c.in-Err.ensures.err i k q).1 ∙ taken_back u m n part s (c.requires i k q)
