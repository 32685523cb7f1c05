use Rattle.std.proofs.Common.{◌<◌, ◌≢◌, ◌∙◌, ◌&&◌, not, ap, ap₂, sym, inl, inr, arith, length, map, ℕ, List}
use Rattle.std.specs.Rc.{rc_str_bytes}
use Rattle.std.proofs.lemmas.Bool.{cases_lt}
use Rattle.std.proofs.lemmas.Bool.Decides.{eqb_tells}
use Rattle.std.proofs.lemmas.List.{length-set}
use Rattle.indexer.specs.Keys.{is_same}
use Rattle.indexer.specs.Objects.{is_among, texts_at, under_at}
use Rattle.indexer.specs.Postings.{Postings, under}
use Rattle.indexer.proofs.Rows.{under_at-is, under_at-past, under_at-set_same, under_at-set_other}
use Rattle.indexer.proofs.postings.remove_all.Goals as goal

pub loop-i-preserved : goal.loop-i-preserved
loop-i-preserved c =
    let old = c.args.postings.now.items in
    let ps = c.loop-i.postings.items in
    let i = c.loop-i.i in
    let before = c.index_mut.result.now in
    let after = c.remove_each.new.postings in
    let s = is_same c.args.key.now in
    let within : i < length ps = omega (arith, c.loop-i-test.true, c.loop-i.invariant.size, c.len-i-end.ensures) in
    record {
      size = rw length-set c.loop-i.invariant.size;
      done = λ j k q below. elim (eqb_tells j i) [
        | inl e ↦
            rw e.1 (
            under_at-set_same ps i after k q within ∙ c.remove_each.ensures k q
            ∙ ap (λ b. b && not ((is_among (map rc_str_bytes c.keys_at.result.now) k && not (is_among (map rc_str_bytes c.keys_at-in-loop-i.result.now) k)) && s q))
            (ap (λ (p : Postings). under p k q) c.index_mut.ensures.value ∙ sym (under_at-is ps i before k q within) ∙ c.loop-i.invariant.left i k q (omega arith))
            ∙ ap₂ (λ (a b : List (List ℕ)). under_at old i k q && not ((is_among a k && not (is_among b k)) && s q)) c.keys_at.ensures c.keys_at-in-loop-i.ensures
            )
        | inr e ↦ under_at-set_other ps i j after k q e.1 ∙ c.loop-i.invariant.done j k q (let ne : j ≢ i = e.1 in omega arith)
      ];
      left = λ j k q above. under_at-set_other ps i j after k q (λ e. omega arith) ∙ c.loop-i.invariant.left j k q (omega arith);
    }

pub returns : goal.returns
returns c = λ j k q.
    let old = c.args.postings.now.items in
    elim (cases_lt j (length old)) [
      | inl lt ↦ c.loop-i.invariant.done j k q (omega (arith, lt, c.loop-i-test.false, c.len-i-end.ensures))
      | inr le ↦
          c.loop-i.invariant.left j k q (omega (arith, le, c.loop-i.auto.i-end, c.len-i-end.ensures)) ∙ under_at-past old j k q le
          ∙ ap (λ b. b && not ((is_among (texts_at c.args.keys.now j) k && not (is_among (texts_at c.args.kept.now j) k)) && is_same c.args.key.now q)) (sym (under_at-past old j k q le))
    ]
