use Rattle.std.proofs.Common.{◌∙◌, ◌&&◌, not, ap, ap₂, sym, map, take}
use Rattle.std.specs.Rc.{rc_str_bytes}
use Rattle.std.specs.Str.{bytes_eq}
use Rattle.indexer.specs.Keys.{is_same}
use Rattle.indexer.specs.Objects.{is_among}
use Rattle.indexer.specs.Postings.{Postings, under}
use Rattle.indexer.proofs.Among.{any-more, same_text, not_kept, is_kept}
use Rattle.indexer.proofs.Flags.{takes_more, keeps_more}
use Rattle.indexer.proofs.postings.remove_each.Goals as goal
use Rattle.indexer.proofs.postings.remove_each.Goals.{then-not-contains, else-not-contains}

pub loop-text-preserved : goal.loop-text-preserved
loop-text-preserved c = λ k q.
    let i = c.loop-text.text-index in
    let text = rc_str_bytes c.text-item.result in
    let u = under c.args.postings.now k q in
    let m = is_among (map rc_str_bytes (take i c.args.texts.now)) k in
    let e = bytes_eq text k in
    let kept = is_among (map rc_str_bytes c.args.kept.now) k in
    let s = is_same c.args.key.now q in
    let more = ap (λ b. u && not ((b && not kept) && s)) (sym (any-more rc_str_bytes (λ t. bytes_eq t k) c.args.texts.now i c.text-item.result c.loop-text-test.true c.text-item.is)) in
    let same = same_text c.args.kept.now text k c.contains.result c.contains.ensures.value in
    elim c.if-not-contains.branch [
      | then-not-contains w ↦
          ap (λ (p : Postings). under p k q) w.postings-is ∙ w.remove.ensures k q
          ∙ ap₂ (λ a t. a && not (bytes_eq t k && s)) (c.loop-text.invariant k q) w.deref.ensures.value
          ∙ takes_more u m e (not kept) s (not_kept e kept c.contains.result same w.if-not-contains.true) ∙ more
      | else-not-contains w ↦
          ap (λ (p : Postings). under p k q) w.postings-is ∙ c.loop-text.invariant k q
          ∙ keeps_more u m e (not kept) s (is_kept e kept c.contains.result same w.if-not-contains.false) ∙ more
    ]
