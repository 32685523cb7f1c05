use Rattle.std.proofs.Common.{◌∙◌, ◌&&◌, ◌||◌, not, ap, sym, map, take}
use Rattle.std.specs.Rc.{rc_str_bytes}
use Rattle.std.specs.Str.{bytes_eq}
use Rattle.std.proofs.lemmas.Result.{err_from_is_err_and}
use Rattle.indexer.specs.Keys.{is_same}
use Rattle.indexer.specs.Objects.{is_among}
use Rattle.indexer.specs.Postings.{Postings, under}
use Rattle.indexer.proofs.Among.{any-more, any-take, same_text, not_kept, is_kept}
use Rattle.indexer.proofs.Flags.{adds_more, skips_more, some_of}
use Rattle.indexer.proofs.postings.add_each.Goals as goal
use Rattle.indexer.proofs.postings.add_each.Goals.{then-not-contains+in_ok-add, else-not-contains}

pub loop-text-preserved : goal.loop-text-preserved
loop-text-preserved c = λ k q.
    let i = c.loop-text.text-index in
    let text = rc_str_bytes c.text-item.result in
    let u = under c.args.postings.now k q in
    let m = is_among (map rc_str_bytes (take i c.args.texts.now)) k in
    let e = bytes_eq text k in
    let had = is_among (map rc_str_bytes c.args.had.now) k in
    let s = is_same c.args.key.now q in
    let more = ap (λ b. u || ((b && not had) && s)) (sym (any-more rc_str_bytes (λ t. bytes_eq t k) c.args.texts.now i c.text-item.result c.loop-text-test.true c.text-item.is)) in
    let same = same_text c.args.had.now text k c.contains.result c.contains.ensures.value in
    elim c.if-not-contains.branch [
      | then-not-contains+in_ok-add w ↦
          ap (λ (p : Postings). under p k q) w.postings-is ∙ w.in_ok-add.ensures.ok k q
          ∙ ap (λ a. a || (e && s)) (c.loop-text.invariant k q)
          ∙ adds_more u m e (not had) s (not_kept e had c.contains.result same w.if-not-contains.true) ∙ more
      | else-not-contains w ↦
          ap (λ (p : Postings). under p k q) w.postings-is ∙ c.loop-text.invariant k q
          ∙ skips_more u m e (not had) s (is_kept e had c.contains.result same w.if-not-contains.false) ∙ more
    ]

pub returns-in_err-add-clause-err : goal.returns-in_err-add-clause-err
returns-in_err-add-clause-err c =
    let p = err_from_is_err_and c.from_residual.result c.from_residual.ensures.1 in
    let i = c.loop-text.text-index in
    rw p.1 (λ k q. (
      is_among (map rc_str_bytes (take i c.args.texts.now)) k,
      c.in_err-add.ensures.err k q ∙ c.loop-text.invariant k q
          ∙ ap (λ m. under c.args.postings.now k q || (m && is_same c.args.key.now q))
          (some_of (is_among (map rc_str_bytes c.args.texts.now) k) (is_among (map rc_str_bytes (take i c.args.texts.now)) k) (not (is_among (map rc_str_bytes c.args.had.now) k)) (any-take rc_str_bytes (λ t. bytes_eq t k) c.args.texts.now i)),
    ))
