use Rattle.std.proofs.Common.{◌∙◌, ◌&&◌, ◌||◌, not, ap₂, map, take, List, ℕ, Global, arith}
use Rattle.std.specs.Rc.{rc_str_bytes}
use Rattle.std.specs.declared.rc.RcStr.{RcStr}
use Rattle.std.proofs.lemmas.List.{length-set}
use Rattle.std.proofs.lemmas.Result.{err_from_is_err_and}
use Rattle.indexer.specs.Keys.{is_same}
use Rattle.indexer.specs.Objects.{is_among, texts_at}
use Rattle.indexer.specs.Postings.{under}
use Rattle.indexer.proofs.Rows.{added, added_some, failed}
use Rattle.indexer.proofs.postings.add_all.Goals as goal

pub loop-i-preserved : goal.loop-i-preserved
loop-i-preserved c =
    let old = c.args.postings.now.items in
    let ps = c.make_room.new.postings.items in
    let i = c.loop-i.i in
    let before = c.index_mut.result.now in
    let n = λ (j : ℕ) (k : List ℕ). not (is_among (texts_at c.args.had.now j) k) in
    let s = is_same c.args.key.now in
    record {
      reach = rw length-set (omega (arith, c.in_ok-make_room.ensures.room));
      emitted = added old ps i before c.add_each.new.postings c.args.keys.now c.index-keys-i.result n s
          (λ j k q. c.in_ok-make_room.ensures.same j k q ∙ c.loop-i.invariant.emitted j k q)
          c.in_ok-make_room.ensures.room c.index_mut.ensures.value c.loop-i-test.true c.index-keys-i.is
          (λ k q. c.in_ok-add_each.ensures.ok k q
          ∙ ap₂ (λ (ts : List (RcStr Global)) (hs : List (List ℕ)). under before k q || ((is_among (map rc_str_bytes ts) k && not (is_among hs k)) && s q)) c.as_slice.ensures c.keys_at.ensures);
    }

pub returns-in_err-make_room-clause-err : goal.returns-in_err-make_room-clause-err
returns-in_err-make_room-clause-err c =
    let p = err_from_is_err_and c.from_residual.result c.from_residual.ensures.1 in
    let i = c.loop-i.i in
    let n = λ (j : ℕ) (k : List ℕ). not (is_among (texts_at c.args.had.now j) k) in
    let s = is_same c.args.key.now in
    rw p.1 (λ j k q. (
      is_among (texts_at (take i c.args.keys.now) j) k,
      c.in_err-make_room.ensures.same j k q
          ∙ added_some c.args.postings.now.items c.loop-i.postings.items i c.args.keys.now n s c.loop-i.invariant.emitted j k q,
    ))

pub returns-in_err-add_each-clause-err : goal.returns-in_err-add_each-clause-err
returns-in_err-add_each-clause-err c =
    let p = err_from_is_err_and c.from_residual-in_err-add_each.result c.from_residual-in_err-add_each.ensures.1 in
    let old = c.args.postings.now.items in
    let ps = c.make_room.new.postings.items in
    let i = c.loop-i.i in
    let before = c.index_mut.result.now in
    let n = λ (j : ℕ) (k : List ℕ). not (is_among (texts_at c.args.had.now j) k) in
    let s = is_same c.args.key.now in
    rw p.1
    (failed old ps i before c.add_each.new.postings c.args.keys.now c.index-keys-i.result n s
    (λ j k q. c.in_ok-make_room.ensures.same j k q ∙ c.loop-i.invariant.emitted j k q)
    c.in_ok-make_room.ensures.room c.index_mut.ensures.value c.loop-i-test.true c.index-keys-i.is
    (λ k q. (
      (c.in_err-add_each.ensures.err k q).0,
      (c.in_err-add_each.ensures.err k q).1
          ∙ ap₂ (λ (ts : List (RcStr Global)) (hs : List (List ℕ)). under before k q || (((is_among (map rc_str_bytes ts) k && not (is_among hs k)) && (c.in_err-add_each.ensures.err k q).0) && s q)) c.as_slice.ensures c.keys_at.ensures,
    )))
